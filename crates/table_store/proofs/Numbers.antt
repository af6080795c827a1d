-- The texts are distinct, so the number of a field tells it.
use Rattle.std.proofs.Common.{◌≡◌, ◌≤◌, ◌<◌, ◌+◌, ◌⊎◌, inl, inr, ℕ, zero, suc, Bool, true, false, ◌||◌, if◌then◌else◌, List, [], ◌∷◌, ◌++◌, length, get_or, Option, Some, None, is_some, refl, sym, ap, subst, ◌∙◌, arith, length-append}
use Rattle.std.specs.List.{list_any, position_or_len}
use Rattle.std.specs.Str.{bytes_eq}
use Rattle.std.proofs.lemmas.Bool.{cases_lt, false≢true}
use Rattle.std.proofs.lemmas.List.{get_or_append_left, get_or_push}
use Rattle.std.proofs.lemmas.List.Sums.{passes_at_first, position_or_len_is}
use Rattle.std.proofs.lemmas.Slice.Eq.{bytes_eq-Decides}
use Rattle.anyk_model.specs.Table.{Fields, Table, field_at, table_at}
use Rattle.table_store.specs.Values.{Extends, HasNumber, IsNumber, first_text, number_in, number_of, own_number, text_at, with_field, with_fields, with_rows, with_tables, with_text}
use Rattle.table_store.proofs.Own.{number_own, number_text, own_is_lem, own_tell}
use Rattle.table_store.proofs.Stands.{extends_same, extends_trans, with_field_text, with_fields_extends, with_rows_extends}

-- no text stands at two places
pub record AreDistinct (texts : List (List ℕ)) : Type 0 where
  pub differ : (j k : ℕ) → j < k → k < length texts → text_at texts j ≡ text_at texts k → ⊥

or_first : (a b : Bool) → (a || b) ≡ false → a ≡ false
or_first true b e = e
or_first false b e = refl

or_second : (a b : Bool) → (a || b) ≡ false → b ≡ false
or_second true b e = absurd (false≢true (sym e))
or_second false b e = e

none_at : (p : List ℕ → Bool) (xs : List (List ℕ)) (k : ℕ) → list_any p xs ≡ false → k < length xs → p (get_or xs k []) ≡ false
none_at p [] k e inside = absurd (omega arith)
none_at p (x ∷ xs) zero e inside = or_first (p x) (list_any p xs) e
none_at p (x ∷ xs) (suc k) e inside = none_at p xs k (or_second (p x) (list_any p xs) e) (omega arith)

push_distinct : (texts : List (List ℕ)) (text : List ℕ) → AreDistinct texts → list_any (bytes_eq text) texts ≡ false → AreDistinct (texts ++ text ∷ [])
push_distinct texts text d none = record { differ = λ j k below inside same. by j k below inside same (cases_lt k (length texts)) }
  where
    by : (j k : ℕ) → j < k → k < length (texts ++ text ∷ []) → text_at (texts ++ text ∷ []) j ≡ text_at (texts ++ text ∷ []) k
        → (k < length texts) ⊎ (length texts ≤ k) → ⊥
    by j k below inside same (inl old) =
        d.differ j k below old (sym (get_or_append_left texts (text ∷ []) [] j (omega arith)) ∙ same ∙ get_or_append_left texts (text ∷ []) [] k old)
    by j k below inside same (inr new) =
        let last : length texts ≡ k = omega (arith, length-append texts (text ∷ [])) in
        let front : j < length texts = omega arith in
        let is : text ≡ text_at texts j = sym (get_or_push texts text [] k last) ∙ sym same ∙ get_or_append_left texts (text ∷ []) [] j front in
        false≢true (sym (none_at (bytes_eq text) texts j none front) ∙ (bytes_eq-Decides text (text_at texts j)).1 is)

with_text_distinct : (texts : List (List ℕ)) (text : List ℕ) → AreDistinct texts → AreDistinct (with_text texts text)
with_text_distinct texts text d = by (list_any (bytes_eq text) texts) refl
  where
    by : (b : Bool) → list_any (bytes_eq text) texts ≡ b → AreDistinct (if b then texts else texts ++ text ∷ [])
    by true e = d
    by false e = push_distinct texts text d e

with_field_distinct : (texts : List (List ℕ)) (field : List ℕ) → AreDistinct texts → AreDistinct (with_field texts field)
with_field_distinct texts field d = by (is_some (own_number field))
  where
    by : (b : Bool) → AreDistinct (if b then texts else with_text texts field)
    by true = d
    by false = with_text_distinct texts field d

with_fields_distinct : (texts : List (List ℕ)) (fields : Fields) → AreDistinct texts → AreDistinct (with_fields texts fields)
with_fields_distinct texts [] d = d
with_fields_distinct texts (f ∷ fields) d = with_fields_distinct (with_field texts f) fields (with_field_distinct texts f d)

with_rows_distinct : (texts : List (List ℕ)) (rows : List Fields) → AreDistinct texts → AreDistinct (with_rows texts rows)
with_rows_distinct texts [] d = d
with_rows_distinct texts (r ∷ rows) d = with_rows_distinct (with_fields texts r) rows (with_fields_distinct texts r d)

with_tables_distinct : (texts : List (List ℕ)) (tables : List Table) → AreDistinct texts → AreDistinct (with_tables texts tables)
with_tables_distinct texts [] d = d
with_tables_distinct texts (t ∷ tables) d = with_tables_distinct (with_rows texts t.rows) tables (with_rows_distinct texts t.rows d)

-- the texts of tables
pub known_distinct : (tables : List Table) → AreDistinct (with_tables [] tables)
known_distinct tables = with_tables_distinct [] tables (record { differ = λ j k below inside same. omega arith })

differ_eq : (a b : List ℕ) → (a ≡ b → ⊥) → bytes_eq a b ≡ false
differ_eq a b ne = by (bytes_eq a b) refl
  where
    by : (c : Bool) → bytes_eq a b ≡ c → c ≡ false
    by true e = absurd (ne ((bytes_eq-Decides a b).0 e))
    by false e = refl

-- a text's place is the first at which it stands
pub place-is : (texts : List (List ℕ)) (n : ℕ) → AreDistinct texts → n < length texts → position_or_len (bytes_eq (text_at texts n)) texts ≡ n
place-is texts n d inside =
    position_or_len_is (bytes_eq (text_at texts n)) texts n [] (omega arith)
    (λ k below. differ_eq (text_at texts n) (text_at texts k) (λ e. d.differ k n below inside (sym e)))
    (λ _. (bytes_eq-Decides (text_at texts n) (text_at texts n)).1 refl)

-- a number that stands for a field is the field's number
pub number_is : (texts : List (List ℕ)) (field : List ℕ) (n : ℕ) → AreDistinct texts → IsNumber texts field n → n ≡ number_in texts field
number_is texts field n d = by (own_number field) refl
  where
    by : (o : Option ℕ) → own_number field ≡ o → HasNumber texts o field n → n ≡ number_in texts field
    by (Some own) e has = has ∙ sym (number_own texts field own e)
    by None e has =
        let first : position_or_len (bytes_eq field) texts ≡ has.place =
        ap (λ (f : List ℕ). position_or_len (bytes_eq f) texts) (sym has.stands) ∙ place-is texts has.place d has.within in
        has.number ∙ ap (λ (k : ℕ). first_text + k) (sym first) ∙ sym (number_text texts field e)

-- ---- each field that is not its own number stands among the texts

abbrev Stands : List ℕ → List (List ℕ) → Type 0
Stands f texts = (n : ℕ) × (n < length texts) × (text_at texts n ≡ f)

stands_extends : (f : List ℕ) (old new : List (List ℕ)) → Extends old new → Stands f old → Stands f new
stands_extends f old new more s = (
  s.0,
  omega (arith, s.1, length-append old more.0, ap length more.1),
  ap (λ (t : List (List ℕ)). text_at t s.0) more.1 ∙ get_or_append_left old more.0 [] s.0 s.1 ∙ s.2,
)

any_index : (f : List ℕ) (xs : List (List ℕ)) → list_any (bytes_eq f) xs ≡ true → Stands f xs
any_index f [] e = absurd (false≢true e)
any_index f (x ∷ xs) e = by (bytes_eq f x) refl (λ h. any_index f xs (sym (ap (λ b. b || list_any (bytes_eq f) xs) h) ∙ e))
  where
    by : (b : Bool) → bytes_eq f x ≡ b → (bytes_eq f x ≡ false → Stands f xs) → Stands f (x ∷ xs)
    by true is rest = (0, omega arith, sym ((bytes_eq-Decides f x).0 is))
    by false is rest = let s = rest is in (suc s.0, omega (arith, s.1), s.2)

with_text_stands : (texts : List (List ℕ)) (f : List ℕ) → Stands f (with_text texts f)
with_text_stands texts f = by (list_any (bytes_eq f) texts) refl
  where
    by : (b : Bool) → list_any (bytes_eq f) texts ≡ b → Stands f (if b then texts else texts ++ f ∷ [])
    by true e = any_index f texts e
    by false e = (length texts, omega (arith, length-append texts (f ∷ [])), get_or_push texts f [] (length texts) refl)

with_field_stands : (texts : List (List ℕ)) (f : List ℕ) → own_number f ≡ None → Stands f (with_field texts f)
with_field_stands texts f none = subst (Stands f) (sym (with_field_text texts f none)) (with_text_stands texts f)

with_fields_stands : (texts : List (List ℕ)) (fields : Fields) (c : ℕ) → c < length fields → own_number (get_or fields c []) ≡ None
    → Stands (get_or fields c []) (with_fields texts fields)
with_fields_stands texts [] c inside none = absurd (omega arith)
with_fields_stands texts (f ∷ fields) zero inside none =
    stands_extends f (with_field texts f) (with_fields (with_field texts f) fields) (with_fields_extends (with_field texts f) fields) (with_field_stands texts f none)
with_fields_stands texts (f ∷ fields) (suc c) inside none = with_fields_stands (with_field texts f) fields c (omega arith) none

with_rows_stands : (texts : List (List ℕ)) (rows : List Fields) (r c : ℕ) → r < length rows → c < length (get_or rows r [])
    → own_number (get_or (get_or rows r []) c []) ≡ None → Stands (get_or (get_or rows r []) c []) (with_rows texts rows)
with_rows_stands texts [] r c inside there none = absurd (omega arith)
with_rows_stands texts (row ∷ rows) zero c inside there none =
    stands_extends (get_or row c []) (with_fields texts row) (with_rows (with_fields texts row) rows) (with_rows_extends (with_fields texts row) rows)
    (with_fields_stands texts row c there none)
with_rows_stands texts (row ∷ rows) (suc r) c inside there none = with_rows_stands (with_fields texts row) rows r c (omega arith) there none

with_tables_extends : (texts : List (List ℕ)) (tables : List Table) → Extends texts (with_tables texts tables)
with_tables_extends texts [] = extends_same texts
with_tables_extends texts (t ∷ tables) =
    extends_trans texts (with_rows texts t.rows) (with_tables (with_rows texts t.rows) tables) (with_rows_extends texts t.rows) (with_tables_extends (with_rows texts t.rows) tables)

with_tables_stands : (texts : List (List ℕ)) (tables : List Table) (t r c : ℕ) → t < length tables → r < length (table_at tables t).rows
    → c < length (get_or (table_at tables t).rows r []) → own_number (field_at (table_at tables t) r c) ≡ None
    → Stands (field_at (table_at tables t) r c) (with_tables texts tables)
with_tables_stands texts [] t r c inside row there none = absurd (omega arith)
with_tables_stands texts (x ∷ tables) zero r c inside row there none =
    stands_extends (field_at x r c) (with_rows texts x.rows) (with_tables (with_rows texts x.rows) tables) (with_tables_extends (with_rows texts x.rows) tables)
    (with_rows_stands texts x.rows r c row there none)
with_tables_stands texts (x ∷ tables) (suc t) r c inside row there none = with_tables_stands (with_rows texts x.rows) tables t r c (omega arith) row there none

-- a text that stands among texts has no other's place
places_tell : (texts : List (List ℕ)) (a b : List ℕ) → AreDistinct texts → Stands a texts
    → position_or_len (bytes_eq a) texts ≡ position_or_len (bytes_eq b) texts → a ≡ b
places_tell texts a b d s e =
    let own : position_or_len (bytes_eq a) texts ≡ s.0 = ap (λ (f : List ℕ). position_or_len (bytes_eq f) texts) (sym s.2) ∙ place-is texts s.0 d s.1 in
    let at : position_or_len (bytes_eq b) texts ≡ s.0 = sym e ∙ own in
    let hit = passes_at_first (bytes_eq b) texts [] (omega (arith, at, s.1)) in
    sym ((bytes_eq-Decides b (text_at texts s.0)).0 (sym (ap (λ (n : ℕ). bytes_eq b (text_at texts n)) at) ∙ hit) ∙ s.2)

-- the number of a field that is its own number, or stands among texts, is no other's
tells : (texts : List (List ℕ)) (a b : List ℕ) → AreDistinct texts → (own_number a ≡ None → Stands a texts)
    → number_in texts a ≡ number_in texts b → a ≡ b
tells texts a b d stands e = by (own_number a) (own_number b) refl refl
  where
    by : (o p : Option ℕ) → own_number a ≡ o → own_number b ≡ p → a ≡ b
    by (Some m) (Some n) own other = own_tell a b m n own other (sym (number_own texts a m own) ∙ e ∙ number_own texts b n other)
    by (Some m) None own other = absurd (omega (arith, (own_is_lem a m own).0, number_own texts a m own, e, number_text texts b other))
    by None (Some n) own other = absurd (omega (arith, (own_is_lem b n other).0, number_own texts b n other, e, number_text texts a own))
    by None None own other =
        places_tell texts a b d (stands own) (omega (arith, number_text texts a own, number_text texts b other, e))

-- the number of a field of the tables is no other text's
pub numbers_tell_lem : (tables : List Table) (t r c : ℕ) (b : List ℕ) → t < length tables → r < length (table_at tables t).rows
    → c < length (get_or (table_at tables t).rows r [])
    → number_of tables (field_at (table_at tables t) r c) ≡ number_of tables b → field_at (table_at tables t) r c ≡ b
numbers_tell_lem tables t r c b inside row there e =
    tells (with_tables [] tables) (field_at (table_at tables t) r c) b (known_distinct tables) (λ none. with_tables_stands [] tables t r c inside row there none) e
