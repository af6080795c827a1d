-- The fields of a record before the first empty one lie one after another in its text.
use Rattle.std.proofs.Common.{◌≡◌, ◌≤◌, ◌<◌, ◌+◌, ◌-◌, ℕ, zero, suc, List, [], ◌∷◌, ◌++◌, take, drop, length, get_or, Some, refl, sym, ap, ◌∙◌, arith, append_assoc, append-nil, length-append, length-drop, length-take}
use Rattle.std.proofs.Math.Seq.{take-add}
use Rattle.std.specs.List.{concat}
use Rattle.csv.specs.Records.{cut_from, field_at, prev}
use Rattle.csv.proofs.RecordFacts.{field-get}
use Rattle.anyk_model.specs.Table.{Fields}
use Rattle.csv_tables.specs.Fields.{ends_from}
use Rattle.table_store.proofs.Packed.{field_between}

-- ---- one more field

pub concat_push : (fields : Fields) (x : List ℕ) → concat (fields ++ x ∷ []) ≡ concat fields ++ x
concat_push [] x = append-nil x
concat_push (f ∷ fields) x = ap (λ (l : List ℕ). f ++ l) (concat_push fields x) ∙ sym (append_assoc f (concat fields) x)

pub ends_push : (start : ℕ) (fields : Fields) (x : List ℕ)
    → ends_from start (fields ++ x ∷ []) ≡ ends_from start fields ++ (start + length (concat fields) + length x) ∷ []
ends_push start [] x =
    let same : start + length x ≡ start + 0 + length x = omega arith in
    ap (λ (n : ℕ). n ∷ []) same
ends_push start (f ∷ fields) x =
    let same : (start + length f) + length (concat fields) + length x ≡ start + length (concat (f ∷ fields)) + length x =
    omega (arith, length-append f (concat fields)) in
    let rest = ends_push (start + length f) fields x in
    ap (λ (l : List ℕ). (start + length f) ∷ l) rest ∙ ap (λ (n : ℕ). (start + length f) ∷ (ends_from (start + length f) fields ++ n ∷ [])) same

-- ---- where the field at a place lies

start_next : (s : ℕ) (ends : List ℕ) (i : ℕ) → i < length ends → prev s ends (i + 1) ≡ get_or ends i 0
unfolding prev
start_next s [] i inside = absurd (omega arith)
start_next s (e ∷ []) zero inside = refl
start_next s (e ∷ f ∷ ends) zero inside = refl
start_next s (e ∷ ends) (suc i) inside =
    let step : suc i + 1 ≡ suc (i + 1) = omega arith in
    rw step (start_next e ends i (omega arith))

take_front : (n : ℕ) (l : List ℕ) → take (length (take n l)) l ≡ take n l
take_front zero l = refl
take_front (suc n) [] = refl
take_front (suc n) (x ∷ l) = ap (λ (m : List ℕ). x ∷ m) (take_front n l)

-- the first `size` bytes of a text are those before the field at a place, unless that starts behind the text
pub record Reaches (ends text : List ℕ) (i size : ℕ) : Type 0 where
  pub within : size ≤ length text
  pub start : prev 0 ends i < length text → size ≡ prev 0 ends i

pub reaches_none : (ends text : List ℕ) → Reaches ends text 0 0
unfolding prev
reaches_none [] text = record { within = omega arith; start = λ _. refl }
reaches_none (e ∷ ends) text = record { within = omega arith; start = λ _. refl }

module _ (ends text : List ℕ) (i size : ℕ) (x : List ℕ) (inside : i < length ends) (reaches : Reaches ends text i size)
    (is : x ≡ take (get_or ends i 0 - prev 0 ends i) (drop (prev 0 ends i) text)) (some : 0 < length x) where
  short : length x ≤ length text - prev 0 ends i
  short = omega (arith, ap length is, length-take (get_or ends i 0 - prev 0 ends i) (drop (prev 0 ends i) text), length-drop (prev 0 ends i) text)

  starts : size ≡ prev 0 ends i
  starts = reaches.start (omega (arith, some, short))

  -- a field that is not empty starts right behind those before it
  pub reaches_more : Reaches ends text (i + 1) (size + length x)
  reaches_more = record {
    within = omega (arith, some, short, starts);
    start = λ below. omega (
      arith,
      starts,
      some,
      start_next 0 ends i inside,
      below,
      ap length is,
      length-take (get_or ends i 0 - prev 0 ends i) (drop (prev 0 ends i) text),
      length-drop (prev 0 ends i) text,
    );
  }

  pub front_more : take (size + length x) text ≡ take size text ++ x
  front_more =
      let back : take (length x) (drop size text) ≡ x =
      ap (λ (n : ℕ). take (length x) (drop n text)) starts
      ∙ ap (λ (l : List ℕ). take (length l) (drop (prev 0 ends i) text)) is
      ∙ take_front (get_or ends i 0 - prev 0 ends i) (drop (prev 0 ends i) text) ∙ sym is in
      take-add size (length x) text ∙ ap (λ (l : List ℕ). take size text ++ l) back

-- a field that a record gives lies between its start and its end
pub field_lies : (ends text : List ℕ) (i : ℕ) (x : List ℕ) → i < length ends → field_at (cut_from 0 ends text) i ≡ Some x
    → x ≡ take (get_or ends i 0 - prev 0 ends i) (drop (prev 0 ends i) text)
field_lies ends text i x inside is = sym (field-get (cut_from 0 ends text) i x is) ∙ sym (field_between ends text i inside)
