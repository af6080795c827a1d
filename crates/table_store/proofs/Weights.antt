-- A weight, in the words of std's `parse`.
use Rattle.std.proofs.Common.{◌≡◌, ◌≤◌, ◌<◌, ◌^◌, ◌==◌, ◌&&◌, ℕ, zero, suc, Bool, true, false, if◌then◌else◌, List, [], ◌∷◌, length, get_or, nat_lt, nat_le, Option, Some, None, option_and_then, Result, Ok, Err, ℤ, pos, negsuc, neg_ℤ, refl, sym, ap, subst, ◌∙◌, arith, rules}
use Rattle.std.specs.Str.{all_ascii_digits}
use Rattle.std.specs.Str.Parse.{digits_value, signed_digits_value, without_leading_sign}
use Rattle.std.specs.Int.{w128}
use Rattle.std.specs.Int.RustNames.{FitsSigned}
use Rattle.std.specs.Result.{result_ok}
use Rattle.std.specs.Str.{IsAscii, IsUtf8}
use Rattle.std.specs.Str.Parse.{AllDigits, IsNumeral, ParsesSigned}
use Rattle.std.specs.Prelude.{decimal}
use Rattle.std.proofs.lemmas.Bool.{eqb-true, false≢true, lt-ltb, ltb-true, ne_eqb, and_parts}
use Rattle.std.proofs.lemmas.Bool.Decides.{nat_tests}
use Rattle.std.proofs.lemmas.Fmt.{IsAscii-from_digits, decimal_is_IsNumeral, length-decimal-le}
use Rattle.std.proofs.lemmas.Str.{IsUtf8-from_ascii, IsUtf8-nil}
use Rattle.std.proofs.lemmas.Str.Parse.{IsNumeralModel, digit_from_value, numerals_by_value, tells_all_ascii_digits}
use Rattle.anyk_model.specs.Weight.{are_digits, fits_i128, fitting, weight_of}
use Rattle.table_store.specs.Values.{first_text, own_number}
use Rattle.table_store.proofs.Own.{own_is_lem}

-- a list that is told not to be empty has an element
pub some_bytes : {b : Bool} (n : ℕ) → b ≡ (n == 0) → b ≡ false → 0 < n
some_bytes zero told not = absurd (false≢true (sym not ∙ told))
some_bytes (suc n) told not = omega arith

then_fitting : (b : Bool) (n : ℤ) (f : ℤ → Option ℤ) → option_and_then f (if b then Some n else None) ≡ (if b then f n else None)
then_fitting true n f = refl
then_fitting false n f = refl

-- the weight of a field with a byte is the number after the sign, where that is 1 to 39 digits
pub weight_is : (bytes : List ℕ) → 0 < length bytes
    → weight_of bytes ≡ (if are_digits (without_leading_sign bytes) then fitting (signed_digits_value 10 bytes) else None)
weight_is [] some = absurd (omega arith)
weight_is (c ∷ rest) some = by (c == 43) (c == 45) refl refl
  where
    by : (plus minus : Bool) → (c == 43) ≡ plus → (c == 45) ≡ minus
        → weight_of (c ∷ rest) ≡ (if are_digits (without_leading_sign (c ∷ rest)) then fitting (signed_digits_value 10 (c ∷ rest)) else None)
    by true minus p m =
        subst (λ (k : ℕ). weight_of (k ∷ rest) ≡ (if are_digits (without_leading_sign (k ∷ rest)) then fitting (signed_digits_value 10 (k ∷ rest)) else None))
        (sym (eqb-true c 43 p)) (then_fitting (are_digits rest) (pos (digits_value 10 rest)) fitting)
    by false true p m =
        subst (λ (k : ℕ). weight_of (k ∷ rest) ≡ (if are_digits (without_leading_sign (k ∷ rest)) then fitting (signed_digits_value 10 (k ∷ rest)) else None))
        (sym (eqb-true c 45 m)) (then_fitting (are_digits rest) (pos (digits_value 10 rest)) (λ n. fitting (neg_ℤ n)))
    by false false p m = rw (p, m) (then_fitting (are_digits (c ∷ rest)) (pos (digits_value 10 (c ∷ rest))) fitting)

own : IsNumeralModel (λ ds. all_ascii_digits ds ≡ true) (digits_value 10)
own = numerals_by_value (λ ds. all_ascii_digits ds ≡ true) tells_all_ascii_digits

-- 1 to 39 digits are a numeral, and a numeral of at most 39 bytes is 1 to 39 digits
digits_numeral : (ds : List ℕ) → are_digits ds ≡ true → IsNumeral 10 ds
digits_numeral ds e =
    let some = and_parts (nat_lt 0 (length ds) && nat_le (length ds) 39) (all_ascii_digits ds) e in
    let low = and_parts (nat_lt 0 (length ds)) (nat_le (length ds) 39) some.0 in
    (ltb-true 0 (length ds) low.0, own.to ds some.1)

numeral_digits : (ds : List ℕ) → length ds ≤ 39 → IsNumeral 10 ds → are_digits ds ≡ true
numeral_digits ds few n =
    let some : nat_lt 0 (length ds) ≡ true = lt-ltb 0 (length ds) n.0 in
    let short : nat_le (length ds) 39 ≡ true = grind (arith, nat_tests) in
    let all : all_ascii_digits ds ≡ true = own.from ds n.1 in
    rw (some, short, all) refl

fits_signed : (z : ℤ) → fits_i128 z ≡ true → FitsSigned w128 z
fits_signed (pos n) e = record { sfits = ltb-true n (2 ^ 127) e }
fits_signed (negsuc n) e = record { sfits = ltb-true n (2 ^ 127) e }

signed_fits : (z : ℤ) → FitsSigned w128 z → fits_i128 z ≡ true
signed_fits (pos n) f = lt-ltb n (2 ^ 127) f.sfits
signed_fits (negsuc n) f = lt-ltb n (2 ^ 127) f.sfits

-- what `parse` returns is the weight, where there is a byte and the digits are few
pub weight_parsed : {E : Type 0} (bytes : List ℕ) (r : Result ℤ E) → 0 < length bytes → ParsesSigned w128 10 bytes r
    → length (without_leading_sign bytes) ≤ 39 → weight_of bytes ≡ result_ok r
weight_parsed bytes (Ok x) some h few =
    let digits = numeral_digits (without_leading_sign bytes) few h.0.0 in
    let fits = signed_fits (signed_digits_value 10 bytes) h.0.1 in
    weight_is bytes some ∙ ap (λ b. if b then fitting (signed_digits_value 10 bytes) else None) digits
    ∙ ap (λ b. if b then Some (signed_digits_value 10 bytes) else None) fits ∙ ap (λ (z : ℤ). Some z) (sym h.1)
weight_parsed bytes (Err e) some h few =
    weight_is bytes some ∙ none (are_digits (without_leading_sign bytes)) (fits_i128 (signed_digits_value 10 bytes)) refl refl
  where
    none : (d f : Bool) → are_digits (without_leading_sign bytes) ≡ d → fits_i128 (signed_digits_value 10 bytes) ≡ f
        → (if are_digits (without_leading_sign bytes) then fitting (signed_digits_value 10 bytes) else None) ≡ None
    none false f p q = ap (λ b. if b then fitting (signed_digits_value 10 bytes) else None) p
    none true false p q = ap (λ b. if b then fitting (signed_digits_value 10 bytes) else None) p ∙ ap (λ b. if b then Some (signed_digits_value 10 bytes) else None) q
    none true true p q = absurd (h (digits_numeral (without_leading_sign bytes) p, fits_signed (signed_digits_value 10 bytes) q))

ascii_back : (bytes : List ℕ) → IsAscii (without_leading_sign bytes) → IsAscii bytes
ascii_back [] h = h
ascii_back (c ∷ rest) h = by (c == 43) (c == 45) refl refl
  where
    behind : (k : ℕ) → k < 128 → IsAscii rest → IsAscii (k ∷ rest)
    behind k small h zero = small
    behind k small h (suc i) = h i

    by : (plus minus : Bool) → (c == 43) ≡ plus → (c == 45) ≡ minus → IsAscii (c ∷ rest)
    by true minus p m = behind c (omega (arith, eqb-true c 43 p))
        (subst (λ (k : ℕ). IsAscii (without_leading_sign (k ∷ rest)) → IsAscii rest) (sym (eqb-true c 43 p)) (λ g. g) h)
    by false true p m = behind c (omega (arith, eqb-true c 45 m))
        (subst (λ (k : ℕ). IsAscii (without_leading_sign (k ∷ rest)) → IsAscii rest) (sym (eqb-true c 45 m)) (λ g. g) h)
    by false false p m = rw (p, m) at h

-- bytes that are no text are no weight
pub weight_text : (bytes : List ℕ) → (IsUtf8 bytes → ⊥) → weight_of bytes ≡ None
weight_text [] not-text = absurd (not-text IsUtf8-nil)
weight_text (c ∷ rest) not-text =
    weight_is (c ∷ rest) (search rules) ∙ none (c ∷ rest) not-text (are_digits (without_leading_sign (c ∷ rest))) refl
  where
    none : (bytes : List ℕ) → (IsUtf8 bytes → ⊥) → (d : Bool) → are_digits (without_leading_sign bytes) ≡ d
        → (if are_digits (without_leading_sign bytes) then fitting (signed_digits_value 10 bytes) else None) ≡ None
    none bytes not-text false p = ap (λ b. if b then fitting (signed_digits_value 10 bytes) else None) p
    none bytes not-text true p =
        absurd (not-text (IsUtf8-from_ascii bytes (ascii_back bytes (IsAscii-from_digits (without_leading_sign bytes) (digits_numeral (without_leading_sign bytes) p).1))))

-- ---- the weight of a field that is its own number

first_digit : (ds : List ℕ) → 0 < length ds → AllDigits 10 ds → (48 ≤ get_or ds 0 0) × (get_or ds 0 0 ≤ 57)
first_digit [] some digits = absurd (omega arith)
first_digit (c ∷ rest) some digits = digit_from_value c digits.0

-- digits have no sign
no_sign : (ds : List ℕ) → 0 < length ds → AllDigits 10 ds
    → (without_leading_sign ds ≡ ds) × (signed_digits_value 10 ds ≡ pos (digits_value 10 ds))
no_sign ds some digits =
    let first = first_digit ds some digits in
    let plus : (get_or ds 0 0 == 43) ≡ false = ne_eqb (get_or ds 0 0) 43 (λ e. omega (arith, first.0, e)) in
    let minus : (get_or ds 0 0 == 45) ≡ false = ne_eqb (get_or ds 0 0) 45 (λ e. omega (arith, first.0, e)) in
    (rw (minus, plus) refl, rw (minus, plus) refl)

weight_decimal : (n : ℕ) → n < first_text → weight_of (decimal n) ≡ Some (pos n)
weight_decimal n small =
    let numeral = decimal_is_IsNumeral n (omega (arith, small)) in
    let few = length-decimal-le 10 n (omega arith) (omega (arith, small)) (omega (arith, small)) in
    let bare = no_sign (decimal n) numeral.0.0 numeral.0.1 in
    let digits : are_digits (without_leading_sign (decimal n)) ≡ true = ap are_digits bare.0 ∙ numeral_digits (decimal n) (omega (arith, few)) numeral.0 in
    weight_is (decimal n) numeral.0.0 ∙ ap (λ b. if b then fitting (signed_digits_value 10 (decimal n)) else None) digits
    ∙ ap fitting (bare.1 ∙ ap (λ (k : ℕ). pos k) numeral.1)
    ∙ ap (λ b. if b then Some (pos n) else None) (lt-ltb n (2 ^ 127) (omega (arith, small)))

-- a field that is its own number has that number as its weight
pub own_weight : (field : List ℕ) (n : ℕ) → own_number field ≡ Some n → (n < first_text) × (weight_of field ≡ Some (pos n))
own_weight field n e = let p = own_is_lem field n e in (p.0, ap weight_of p.1 ∙ weight_decimal n p.0)
