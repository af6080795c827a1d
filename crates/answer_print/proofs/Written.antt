-- What a writer of records has written: the fields of a record one after another, and its end.
use Rattle.std.proofs.Common.{◌≡◌, ◌==◌, ◌&&◌, ◌||◌, ◌≤◌, ◌+◌, ◌-◌, ◌^◌, ℕ, zero, suc, Bool, true, false, not, if◌then◌else◌, min, List, [], ◌∷◌, ◌++◌, drop, length, Result, Ok, Err, OnOk, append-nil, refl, sym, ap, ◌∙◌, arith}
use Rattle.std.specs.Result.{is_err}
use Rattle.std.proofs.lemmas.List.{drop-append-le, drop_all, length-append}
use Rattle.csv.specs.Writing.{default_writer, escaped, field_text, fields_text, is_blank, next_sep, row_body, row_text, tail_text}
use Rattle.csv.proofs.WriteFacts.{blank-more, row-more}
use Rattle.answer_print.specs.WrittenRecords.{HasFields, any_length}
use Rattle.anyk_model.specs.Output.{record_text}

escaped_same : (field : List ℕ) → escaped any_length field ≡ escaped default_writer field
unfolding escaped
escaped_same [] = refl
escaped_same (b ∷ rest) = rw (escaped_same rest)

fields_same : (fields : List (List ℕ)) → fields_text any_length fields ≡ fields_text default_writer fields
unfolding fields_text
fields_same [] = refl
fields_same (field ∷ rest) = rw (escaped_same field, fields_same rest)

blank_same : (fields : List (List ℕ)) → is_blank any_length fields ≡ is_blank default_writer fields
unfolding is_blank
blank_same [] = refl
blank_same (field ∷ []) = rw (escaped_same field)
blank_same (field ∷ next ∷ rest) = refl

body_same : (fields : List (List ℕ)) → row_body any_length fields ≡ row_body default_writer fields
body_same [] = refl
body_same (field ∷ rest) = rw (escaped_same field, fields_same rest)

pub row_same : (fields : List (List ℕ)) → row_text any_length fields ≡ record_text fields
row_same fields = rw (body_same fields, blank_same fields)

-- a count that stops at a great number tells 0 and 1
tells_few : (n count : ℕ) → count ≡ min n (2 ^ 64 - 1) → ((count == 0) ≡ (n == 0)) × ((count == 1) ≡ (n == 1))
tells_few zero count is = rw is (refl, refl)
tells_few (suc zero) count is = rw is (refl, refl)
tells_few (suc (suc n)) count is = grind (arith, is)

blank_of : Bool → List ℕ
blank_of b = if b then 34 ∷ 34 ∷ [] else []

module _ (fields : List (List ℕ)) (start : ℕ) (old new : List ℕ) (count : ℕ) (shows : Bool) (within : start ≤ length old)
    (has : HasFields fields (record { bytes = drop start old; count = count; shows = shows })) where
  few : ((count == 0) ≡ (length fields == 0)) × ((count == 1) ≡ (length fields == 1))
  few = tells_few (length fields) count has.count

  grown : (more : List ℕ) → new ≡ old ++ more → drop start new ≡ row_body any_length fields ++ more
  grown more is = ap (drop start) is ∙ drop-append-le start old more within ∙ ap (λ (l : List ℕ). l ++ more) has.bytes

  -- one more field was written
  pub field_more : (field : List ℕ) (count2 : ℕ) (shows2 : Bool) → new ≡ old ++ (next_sep any_length count ++ field_text any_length field)
      → count2 ≡ min (count + 1) (2 ^ 64 - 1) → (shows ≡ false → shows2 ≡ not (length (field_text any_length field) == 0)) → (shows ≡ true → shows2 ≡ true)
      → HasFields (fields ++ field ∷ []) (record { bytes = drop start new; count = count2; shows = shows2 })
  field_more field count2 shows2 is counted first stays =
      let size : length (fields ++ field ∷ []) ≡ length fields + 1 = length-append fields (field ∷ []) in
      let sep : next_sep any_length count ≡ next_sep any_length (length fields) = ap (λ (b : Bool). if b then [] else 44 ∷ []) few.0 in
      record {
        bytes = grown _ is ∙ ap (λ (l : List ℕ). row_body any_length fields ++ (l ++ field_text any_length field)) sep ∙ sym (row-more any_length fields field);
        count = counted ∙ omega (arith, has.count, size);
        blank = rw size (blank-more any_length fields field shows shows2 has.blank first stays);
      }

  -- the end of the record was written
  pub record_ends : new ≡ old ++ tail_text any_length shows count → drop start new ≡ record_text fields
  unfolding blank_of
  record_ends is =
      let told : (not shows && ((count == 0) || (count == 1))) ≡ is_blank any_length fields = rw (few.0, few.1) (sym has.blank) in
      grown _ is ∙ ap (λ (b : Bool). row_body any_length fields ++ (blank_of b ++ 10 ∷ [])) told ∙ row_same fields

-- a record begins where a writer between two records is
pub begun_at : (under pending : List ℕ) (start count : ℕ) (shows : Bool) → pending ≡ [] → length under ≤ start → count ≡ 0 → shows ≡ false
    → HasFields [] (record { bytes = drop start (under ++ pending); count = count; shows = shows })
unfolding is_blank
begun_at under pending start count shows none all nothing hidden = record {
  bytes = ap (λ (l : List ℕ). drop start (under ++ l)) none ∙ ap (drop start) (append-nil under) ∙ drop_all start under all;
  count = nothing;
  blank = rw hidden refl;
}

-- what follows from four facts of a success
pub on_ok_four : {E A B C D F : Type 0} (r : Result (Unit {0}) E) → (A → B → C → D → F) → OnOk r A → OnOk r B → OnOk r C → OnOk r D → OnOk r F
on_ok_four (Ok _) f a b c d = f a b c d
on_ok_four (Err _) f a b c d = tt

pub on_ok_of_err : {T E : Type 0} (P : Type 0) (r : Result T E) → is_err r ≡ true → OnOk r P
on_ok_of_err P (Ok x) e = absurd cc
on_ok_of_err P (Err e) h = tt

pub ok_has : {T E : Type 0} (P : Type 0) (r : Result T E) → is_err r ≡ false → OnOk r P → P
ok_has P (Ok x) e h = h
ok_has P (Err e) h p = absurd cc

-- a place within what was written is within what is written then
pub start_grows : (start : ℕ) (old new more pending : List ℕ) → start ≤ length old → new ≡ old ++ more → start ≤ length (new ++ pending)
start_grows start old new more pending within is = omega (arith, ap length is, length-append old more, length-append new pending)

pub start_grows_open : (start : ℕ) (old new more : List ℕ) → start ≤ length old → new ≡ old ++ more → start ≤ length new
start_grows_open start old new more within is = omega (arith, ap length is, length-append old more)
