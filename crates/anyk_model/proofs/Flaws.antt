-- The flaws of records: the first of a list's, and what records without one are like.
use Rattle.std.proofs.Common.{◌≡◌, ◌≤◌, ◌<◌, ◌+◌, ◌==◌, ℕ, zero, suc, Bool, true, false, cond, nat_lt, if◌then◌else◌, List, [], ◌∷◌, ◌++◌, length, take, drop, get_or, Option, Some, None, refl, sym, ap, ◌∙◌, arith, add-one, drop-cons}
use Rattle.std.specs.Option.{option_or}
use Rattle.std.specs.List.{list_any}
use Rattle.std.specs.Str.{bytes_eq}
use Rattle.std.proofs.lemmas.Bool.{eqb-true, ltb-false}
use Rattle.std.proofs.lemmas.List.{take_more}
use Rattle.anyk_model.specs.Table.{Fields, Flaw, most_rows, repeated_from, row_flaw, rows_flaw, too_many_rows, ragged}

-- one turn of the search for a repeated name
pub repeated_turn : (names : List (List ℕ)) (i : ℕ) (name : List ℕ) → i < length names → get_or names i [] ≡ name
    → repeated_from (i + 1) (take i names) (drop i names)
    ≡ (if list_any (λ o. bytes_eq o name) (take i names) then Some (i + 1) else repeated_from (i + 1 + 1) (take (i + 1) names) (drop (i + 1) names))
repeated_turn names i name inside is =
    ap (repeated_from (i + 1) (take i names)) (drop_step names i inside ∙ ap (λ (x : List ℕ). x ∷ drop (i + 1) names) is)
    ∙ ap (λ (t : List (List ℕ)). if list_any (λ o. bytes_eq o name) (take i names) then Some (i + 1) else repeated_from (i + 1 + 1) t (drop (i + 1) names))
    (ap (λ (x : List ℕ). take i names ++ x ∷ []) (sym is) ∙ sym (take_more names i [] inside))
  where
    drop_step : (xs : List (List ℕ)) (k : ℕ) → k < length xs → drop k xs ≡ get_or xs k [] ∷ drop (k + 1) xs
    drop_step xs k h = rw (add-one, drop-cons xs k []) refl

pub option_or_first : (a b : Option Flaw) → option_or a b ≡ None → a ≡ None
option_or_first None b e = refl
option_or_first (Some flaw) b e = e

pub option_or_second : (a b : Option Flaw) → a ≡ None → option_or a b ≡ b
option_or_second a b e = ap (λ (o : Option Flaw). option_or o b) e

-- after rows with no flaw the flaw is that of the rows behind them
pub rows_flaw_append : (width n : ℕ) (done more : List Fields) → rows_flaw width n done ≡ None
    → rows_flaw width n (done ++ more) ≡ rows_flaw width (n + length done) more
rows_flaw_append width n [] more e = ap (λ (k : ℕ). rows_flaw width k more) (omega arith)
rows_flaw_append width n (row ∷ done) more e =
    let here = option_or_first (row_flaw width n row) (rows_flaw width (n + 1) done) e in
    let later = sym (option_or_second (row_flaw width n row) (rows_flaw width (n + 1) done) here) ∙ e in
    option_or_second (row_flaw width n row) (rows_flaw width (n + 1) (done ++ more)) here
    ∙ rows_flaw_append width (n + 1) done more later
    ∙ ap (λ (k : ℕ). rows_flaw width k more) (omega arith)

-- a test whose first answer is a flaw was not met
pub unmet : (b : Bool) (flaw : Flaw) (more : Option Flaw) → cond b (Some flaw) more ≡ None → (b ≡ false) × (more ≡ None)
unmet true flaw more e = cc
unmet false flaw more e = (refl, e)

met : (b : Bool) (flaw : Flaw) → cond b None (Some flaw) ≡ None → b ≡ true
met true flaw e = refl
met false flaw e = cc

-- a row with no flaw: its number n is not too great, and it has the width
row_few : (width n : ℕ) (row : Fields) → row_flaw width n row ≡ None → n ≤ 1048576
row_few width n row e = ltb-false 1048576 n (unmet (nat_lt most_rows n) too_many_rows (cond (length row == width) None (Some (ragged n))) e).0

row_width : (width n : ℕ) (row : Fields) → row_flaw width n row ≡ None → length row ≡ width
row_width width n row e =
    eqb-true (length row) width (met (length row == width) (ragged n) (unmet (nat_lt most_rows n) too_many_rows (cond (length row == width) None (Some (ragged n))) e).1)

rows_first : (width n : ℕ) (row : Fields) (rows : List Fields) → rows_flaw width n (row ∷ rows) ≡ None → row_flaw width n row ≡ None
rows_first width n row rows e = option_or_first (row_flaw width n row) (rows_flaw width (n + 1) rows) e

rows_rest : (width n : ℕ) (row : Fields) (rows : List Fields) → rows_flaw width n (row ∷ rows) ≡ None → rows_flaw width (n + 1) rows ≡ None
rows_rest width n row rows e =
    sym (option_or_second (row_flaw width n row) (rows_flaw width (n + 1) rows) (rows_first width n row rows e)) ∙ e

pub rows_few : (width n : ℕ) (rows : List Fields) → rows_flaw width n rows ≡ None → n ≤ 1048577 → n + length rows ≤ 1048577
rows_few width n [] e low = omega arith
rows_few width n (row ∷ rows) e low =
    let here = row_few width n row (rows_first width n row rows e) in
    let later = rows_few width (n + 1) rows (rows_rest width n row rows e) (omega arith) in
    omega arith

pub rows_width : (width n : ℕ) (rows : List Fields) (i : ℕ) → rows_flaw width n rows ≡ None → i < length rows → length (get_or rows i []) ≡ width
rows_width width n [] i e inside = absurd (omega arith)
rows_width width n (row ∷ rows) zero e inside = row_width width n row (rows_first width n row rows e)
rows_width width n (row ∷ rows) (suc i) e inside = rows_width width (n + 1) rows i (rows_rest width n row rows e) (omega arith)
