-- Numbers in pieces of one width.
use Rattle.std.proofs.Common.{◌≡◌, ℕ, zero, suc, ◌+◌, ◌*◌, ◌<◌, ◌≤◌, List, [], ◌∷◌, ◌++◌, length, map, get_or, drop, take, refl, sym, ap, ◌∙◌, arith, add-one, length-drop, drop-drop, take_all, Vec, get_or-drop, get_or-take}
use Rattle.std.proofs.Math.Nat.{mul-le-mul_right}
use Rattle.std.proofs.lemmas.List.{length-take-le, take-append-le, drop-append-le, take-take, drop-take, take-set-le, drop-set-lt, drop-set-add}
use Rattle.std.proofs.Math.ListN.{set}
use Rattle.std.proofs.Math.Seq.{drop-cons, take-set-lt}
use Rattle.std.specs.List.{range_with_len}
use Rattle.std.specs.Global.{Global}
use Rattle.tdp_core.specs.NamedRows.{columns_in, pieces, row_across}

pub pieces_length : (w n : ℕ) (named : List ℕ) → length (pieces w n named) ≡ n
pieces_length w zero named = refl
pieces_length w (suc n) named = ap suc (pieces_length w n (drop w named))

pub piece_at : (w n : ℕ) (named : List ℕ) (i : ℕ) → i < n → get_or (pieces w n named) i [] ≡ take w (drop (i * w) named)
piece_at w zero named i h = absurd (omega (arith, h))
piece_at w (suc n) named zero h = let none : 0 ≡ 0 * w = omega arith in ap (λ k. take w (drop k named)) none
piece_at w (suc n) named (suc i) h =
    let on : w + i * w ≡ suc i * w = omega arith in
    piece_at w n (drop w named) i (omega (arith, h)) ∙ ap (take w) (drop-drop (i * w) w named ∙ ap (λ k. drop k named) on)

-- one piece more
appended : (w n : ℕ) (named more : List ℕ) → length named ≡ n * w → length more ≡ w → pieces w (suc n) (named ++ more) ≡ pieces w n named ++ more ∷ []
appended w zero [] more e l = ap (λ ks. ks ∷ []) (take_all w more (omega (arith, l)))
appended w zero (x ∷ named) more e l = absurd (omega (arith, e))
appended w (suc n) named more e l =
    let room : w ≤ length named = omega (arith, e) in
    let rest : length (drop w named) ≡ n * w = omega (arith, length-drop w named, e) in
    ap (λ ks. ks ∷ pieces w (suc n) (drop w (named ++ more))) (take-append-le w named more room)
    ∙ ap (λ ks. take w named ∷ pieces w (suc n) ks) (drop-append-le w named more room)
    ∙ ap (λ ps. take w named ∷ ps) (appended w n (drop w named) more rest l)

pub pieces_more : (w n : ℕ) (named more : List ℕ) → length named ≡ n * w → length more ≡ w → pieces w (n + 1) (named ++ more) ≡ pieces w n named ++ more ∷ []
pieces_more w n named more e l = ap (λ k. pieces w k (named ++ more)) (add-one n) ∙ appended w n named more e l

module _ (w n : ℕ) (named : List ℕ) (long : length named ≡ n * w) (i : ℕ) (inside : i < n) where
  pub piece_width : length (get_or (pieces w n named) i []) ≡ w
  piece_width =
      let more = mul-le-mul_right w (let h : i + 1 ≤ n = omega (arith, inside) in h) in
      ap length (piece_at w n named i inside) ∙ length-take-le w (drop (i * w) named) (omega (arith, more, long, length-drop (i * w) named))

module _ (w n : ℕ) (named : List ℕ) (long : length named ≡ n * w) (i : ℕ) (inside : i < n) (child : ℕ) (some : child < length (get_or (pieces w n named) i [])) where
  pub below_width : child < w
  below_width = omega (arith, some, piece_width w n named long i inside)

  pub piece_within : i * w + child < length named
  piece_within =
      let more = mul-le-mul_right w (let h : i + 1 ≤ n = omega (arith, inside) in h) in
      let c = below_width in
      omega (arith, more, long, c)

  pub piece_read : get_or named (i * w + child) 0 ≡ get_or (get_or (pieces w n named) i []) child 0
  piece_read = sym (ap (λ ks. get_or ks child 0) (piece_at w n named i inside) ∙ get_or-take w (drop (i * w) named) child 0 below_width ∙ get_or-drop (i * w) named child 0)

-- the first pieces
pub pieces_take : (w n m : ℕ) (named : List ℕ) → m ≤ n → pieces w m (take (m * w) named) ≡ take m (pieces w n named)
pieces_take w n zero named h = refl
pieces_take w zero (suc m) named h = absurd (omega (arith, h))
pieces_take w (suc n) (suc m) named h =
    let on : suc m * w ≡ w + m * w = omega arith in
    ap (λ k. pieces w (suc m) (take k named)) on
    ∙ ap (λ ks. ks ∷ pieces w m (drop w (take (w + m * w) named))) (take-take w (w + m * w) named (omega arith))
    ∙ ap (λ ks. take w named ∷ pieces w m ks) (drop-take w (m * w) named)
    ∙ ap (λ ps. take w named ∷ ps) (pieces_take w n m (drop w named) (omega (arith, h)))

-- another number in a piece
pub piece_set : (w n : ℕ) (named : List ℕ) (i child x : ℕ) → i < n → child < w
    → pieces w n (set named (i * w + child) x) ≡ set (pieces w n named) i (set (get_or (pieces w n named) i []) child x)
piece_set w zero named i child x h some = absurd (omega (arith, h))
piece_set w (suc n) named zero child x h some =
    let here : 0 * w + child ≡ child = omega arith in
    ap (λ k. pieces w (suc n) (set named k x)) here
    ∙ ap (λ ks. ks ∷ pieces w n (drop w (set named child x))) (take-set-lt w named child x some)
    ∙ ap (λ ks. set (take w named) child x ∷ pieces w n ks) (drop-set-lt w named child x some)
piece_set w (suc n) named (suc i) child x h some =
    let on : suc i * w + child ≡ w + (i * w + child) = omega arith in
    ap (λ k. pieces w (suc n) (set named k x)) on
    ∙ ap (λ ks. ks ∷ pieces w n (drop w (set named (w + (i * w + child)) x))) (take-set-le w named (w + (i * w + child)) x (omega arith))
    ∙ ap (λ ks. take w named ∷ pieces w n ks) (drop-set-add w named (i * w + child) x)
    ∙ ap (λ ps. take w named ∷ ps) (piece_set w n (drop w named) i child x (omega (arith, h)) some)

-- # Rows across columns

-- without a column
pub no_columns : (a n : ℕ) → map (row_across []) (range_with_len a n) ≡ pieces 0 n []
no_columns a zero = refl
no_columns a (suc n) = ap (λ ps. [] ∷ ps) (no_columns (a + 1) n)

-- with one, of which a numbers are passed
pub one_column : (column : List ℕ) (a n : ℕ) → a + n ≡ length column → map (row_across (column ∷ [])) (range_with_len a n) ≡ pieces 1 n (drop a column)
one_column column a zero e = refl
one_column column a (suc n) e =
    let here : drop a column ≡ get_or column a 0 ∷ drop (suc a) column = drop-cons column a 0 (omega (arith, e)) in
    let next : drop (a + 1) column ≡ drop (suc a) column = ap (λ k. drop k column) (add-one a) in
    ap (λ ps. (get_or column a 0 ∷ []) ∷ ps) (one_column column (a + 1) n (omega (arith, e)) ∙ ap (pieces 1 n) next)
    ∙ sym (ap (pieces 1 (suc n)) here)

pub columns_length : (vs : List (Vec ℕ Global)) → length (columns_in vs) ≡ length vs
columns_length [] = refl
columns_length (v ∷ vs) = ap suc (columns_length vs)

-- a column as it is read
pub column_at : (vs : List (Vec ℕ Global)) (i : ℕ) (v : Vec ℕ Global) → i < length vs → v ≡ get_or vs i v → get_or (columns_in vs) i [] ≡ v.items
column_at [] i v h e = absurd (omega (arith, h))
column_at (x ∷ vs) zero v h e = ap (λ (y : Vec ℕ Global). y.items) (sym e)
column_at (x ∷ vs) (suc i) v h e = column_at vs i v (omega (arith, h)) e

-- one column more
pub across_more : (vs : List (Vec ℕ Global)) (i : ℕ) (v : Vec ℕ Global) (place : ℕ) → i < length vs → v ≡ get_or vs i v
    → row_across (columns_in (take (i + 1) vs)) place ≡ row_across (columns_in (take i vs)) place ++ get_or v.items place 0 ∷ []
across_more [] i v place h e = absurd (omega (arith, h))
across_more (x ∷ vs) zero v place h e = ap (λ (y : Vec ℕ Global). get_or y.items place 0 ∷ []) (sym e)
across_more (x ∷ vs) (suc i) v place h e =
    let on : suc i + 1 ≡ suc (i + 1) = omega arith in
    ap (λ k. row_across (columns_in (take k (x ∷ vs))) place) on ∙ ap (λ l. get_or x.items place 0 ∷ l) (across_more vs i v place (omega (arith, h)) e)
