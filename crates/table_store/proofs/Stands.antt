-- Texts that grow, and numbers that stand for fields.
use Rattle.std.proofs.Common.{Result, Ok, Err, OnErr, arith, length-append, ◌≡◌, ◌<◌, ℕ, zero, suc, Bool, true, false, if◌then◌else◌, List, [], ◌∷◌, ◌++◌, length, get_or, Option, Some, None, is_some, refl, sym, ap, ◌∙◌, append_assoc}
use Rattle.std.specs.List.{AllByRecursion, AllZip, list_any}
use Rattle.std.specs.Str.{bytes_eq}
use Rattle.std.proofs.lemmas.List.{append-nil, get_or_append_left}
use Rattle.std.proofs.lemmas.Slice.Zip.{AllZip-long, all_zipped_more}
use Rattle.anyk_model.specs.Table.{Fields}
use Rattle.table_store.specs.Values.{Extends, HasNumber, IsNumber, StandsFor, own_number, text_at, with_field, with_fields, with_rows, with_text}

-- the old texts are the front of those with one more
pub with_text_extends : (texts : List (List ℕ)) (text : List ℕ) → Extends texts (with_text texts text)
with_text_extends texts text = by (list_any (bytes_eq text) texts)
  where
    by : (b : Bool) → Extends texts (if b then texts else texts ++ text ∷ [])
    by true = ([], sym (append-nil texts))
    by false = (text ∷ [], refl)

-- ---- texts with more after them

pub extends_same : (texts : List (List ℕ)) → Extends texts texts
extends_same texts = ([], sym (append-nil texts))

pub extends_trans : (a b c : List (List ℕ)) → Extends a b → Extends b c → Extends a c
extends_trans a b c p q = (p.0 ++ q.0, q.1 ∙ ap (λ l. l ++ q.0) p.1 ∙ append_assoc a p.0 q.0)

-- a field that is its own number adds no text, and another is added as a text
pub with_field_own : (texts : List (List ℕ)) (field : List ℕ) (n : ℕ) → own_number field ≡ Some n → with_field texts field ≡ texts
with_field_own texts field n e = ap (λ (o : Option ℕ). if is_some o then texts else with_text texts field) e

pub with_field_text : (texts : List (List ℕ)) (field : List ℕ) → own_number field ≡ None → with_field texts field ≡ with_text texts field
with_field_text texts field e = ap (λ (o : Option ℕ). if is_some o then texts else with_text texts field) e

pub with_field_extends : (texts : List (List ℕ)) (field : List ℕ) → Extends texts (with_field texts field)
with_field_extends texts field = by (is_some (own_number field))
  where
    by : (b : Bool) → Extends texts (if b then texts else with_text texts field)
    by true = extends_same texts
    by false = with_text_extends texts field

pub with_fields_extends : (texts : List (List ℕ)) (fields : Fields) → Extends texts (with_fields texts fields)
with_fields_extends texts [] = extends_same texts
with_fields_extends texts (f ∷ fields) =
    extends_trans texts (with_field texts f) (with_fields (with_field texts f) fields) (with_field_extends texts f) (with_fields_extends (with_field texts f) fields)

pub with_fields_push : (texts : List (List ℕ)) (fields : Fields) (f : List ℕ)
    → with_fields texts (fields ++ f ∷ []) ≡ with_field (with_fields texts fields) f
with_fields_push texts [] f = refl
with_fields_push texts (g ∷ fields) f = with_fields_push (with_field texts g) fields f

pub with_fields_append : (texts : List (List ℕ)) (fields more : Fields) → with_fields texts (fields ++ more) ≡ with_fields (with_fields texts fields) more
with_fields_append texts [] more = refl
with_fields_append texts (f ∷ fields) more = with_fields_append (with_field texts f) fields more

pub with_rows_extends : (texts : List (List ℕ)) (rows : List Fields) → Extends texts (with_rows texts rows)
with_rows_extends texts [] = extends_same texts
with_rows_extends texts (r ∷ rows) =
    extends_trans texts (with_fields texts r) (with_rows (with_fields texts r) rows) (with_fields_extends texts r) (with_rows_extends (with_fields texts r) rows)

-- ---- lists that agree place by place

pub all_push : {A : Type 0} (P : A → Type 0) (xs : List A) (x : A) → AllByRecursion P xs → P x → AllByRecursion P (xs ++ x ∷ [])
all_push P [] x all p = (p, tt)
all_push P (y ∷ xs) x all p = (all.0, all_push P xs x all.1 p)

zip_more : {A B : Type 0} (R S : A → B → Type 0) → ((a : A) (b : B) → R a b → S a b) → (xs : List A) (ys : List B) → AllZip R xs ys → AllZip S xs ys
zip_more R S f [] [] all = tt
zip_more R S f [] (y ∷ ys) all = absurd all
zip_more R S f (x ∷ xs) [] all = absurd all
zip_more R S f (x ∷ xs) (y ∷ ys) all = (f x y all.0, zip_more R S f xs ys all.1)

zip_at : {A B : Type 0} (R : A → B → Type 0) (xs : List A) (ys : List B) (i : ℕ) (a : A) (b : B) → AllZip R xs ys → i < length xs → R (get_or xs i a) (get_or ys i b)
zip_at R [] ys i a b all inside = absurd (omega arith)
zip_at R (x ∷ xs) [] i a b all inside = absurd all
zip_at R (x ∷ xs) (y ∷ ys) zero a b all inside = all.0
zip_at R (x ∷ xs) (y ∷ ys) (suc i) a b all inside = zip_at R xs ys i a b all.1 (omega arith)

-- ---- numbers that stand for fields

-- a number keeps its meaning when texts are added
number_more : (old new : List (List ℕ)) → Extends old new → (own : Option ℕ) (field : List ℕ) (n : ℕ) → HasNumber old own field n → HasNumber new own field n
number_more old new more (Some own) field n has = has
number_more old new more None field n has = record {
  place = has.place;
  number = has.number;
  within = omega (arith, has.within, length-append old more.0, ap length more.1);
  stands = ap (λ (t : List (List ℕ)). text_at t has.place) more.1 ∙ get_or_append_left old more.0 [] has.place has.within ∙ has.stands;
}

pub stands_more : (old new : List (List ℕ)) (numbers : List ℕ) (fields : Fields) → Extends old new → StandsFor old numbers fields → StandsFor new numbers fields
stands_more old new numbers fields more stands = record {
  each = zip_more (λ n f. IsNumber old f n) (λ n f. IsNumber new f n) (λ n f has. number_more old new more (own_number f) f n has) numbers fields stands.each;
}

pub stands_push : (texts : List (List ℕ)) (numbers : List ℕ) (fields : Fields) (n : ℕ) (f : List ℕ) → StandsFor texts numbers fields
    → IsNumber texts f n → StandsFor texts (numbers ++ n ∷ []) (fields ++ f ∷ [])
stands_push texts numbers fields n f stands is = record { each = all_zipped_more (λ m g. IsNumber texts g m) numbers fields n f stands.each is }

pub stands_length : (texts : List (List ℕ)) (numbers : List ℕ) (fields : Fields) → StandsFor texts numbers fields → length numbers ≡ length fields
stands_length texts numbers fields stands = sym (AllZip-long (λ n f. IsNumber texts f n) numbers fields stands.each)

pub stands_at : (texts : List (List ℕ)) (numbers : List ℕ) (fields : Fields) (i d : ℕ) → StandsFor texts numbers fields → i < length numbers
    → IsNumber texts (get_or fields i []) (get_or numbers i d)
stands_at texts numbers fields i d stands inside = zip_at (λ n f. IsNumber texts f n) numbers fields i d [] stands.each inside

-- what holds anyway holds on an error
pub on_err : {T E P : Type 0} (r : Result T E) → P → OnErr r P
on_err (Ok x) p = tt
on_err (Err e) p = p
