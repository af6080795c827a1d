-- Fields that are their own numbers.
use Rattle.std.proofs.Common.{◌≡◌, ◌≤◌, ◌<◌, ◌&&◌, ℕ, zero, suc, Bool, true, false, if◌then◌else◌, List, length, get_or, nat_lt, Option, Some, None, unwrap_or, ◌+◌, refl, sym, ap, subst, ◌∙◌, arith}
use Rattle.std.specs.Prelude.{decimal}
use Rattle.std.specs.List.{position_or_len}
use Rattle.std.specs.Str.{bytes_eq}
use Rattle.std.specs.Str.Parse.{AllDigits, digits_value}
use Rattle.std.proofs.lemmas.Bool.{lt-ltb, ltb-true}
use Rattle.std.proofs.lemmas.Fmt.{decimal-digits_value, decimal_digit, decimal_is_IsNumeral, first_decimal, length-decimal-le}
use Rattle.std.proofs.lemmas.Slice.Eq.{bytes_eq-Decides}
use Rattle.std.proofs.lemmas.Str.Parse.{numerals_by_value, tells_digits}
use Rattle.table_store.specs.Values.{first_text, number_in, own_number}

both_tests : (a b : Bool) (n m : ℕ) → (if a && b then Some n else None) ≡ Some m → (a ≡ true) × (b ≡ true) × (n ≡ m)
both_tests true true n m e = (refl, refl, cc)
both_tests true false n m e = cc
both_tests false b n m e = cc

-- a field that is its own number is the decimal of that number
pub own_is_lem : (field : List ℕ) (n : ℕ) → own_number field ≡ Some n → (n < first_text) × (field ≡ decimal n)
unfolding own_number
own_is_lem field n e =
    let value = digits_value 10 field in
    let parts = both_tests (nat_lt value first_text) (bytes_eq field (decimal value)) value n e in
    (omega (arith, ltb-true value first_text parts.0, parts.2), (bytes_eq-Decides field (decimal value)).0 parts.1 ∙ ap decimal parts.2)

-- digits with no leading zero are their own number
pub own_from : (field : List ℕ) → AllDigits 10 field → 0 < length field → (get_or field 0 0 ≡ 48 → length field ≡ 1) → digits_value 10 field < first_text
    → own_number field ≡ Some (digits_value 10 field)
unfolding own_number
own_from field digits some lead small =
    let value = digits_value 10 field in
    let is = decimal-digits_value (numerals_by_value _ tells_digits) field digits some lead (omega (arith, small)) in
    rw (lt-ltb value first_text small, (bytes_eq-Decides field (decimal value)).1 (sym is)) refl

-- a decimal below the first text is one to ten digits with no leading zero
abbrev IsPlain : List ℕ → Type 0
IsPlain field = AllDigits 10 field × (0 < length field) × (length field ≤ 10) × (get_or field 0 0 ≡ 48 → length field ≡ 1)

decimal_lead : (n : ℕ) → n < first_text → get_or (decimal n) 0 0 ≡ 48 → length (decimal n) ≡ 1
decimal_lead zero small e = ap length (decimal_digit 0 (omega arith))
decimal_lead (suc n) small e = absurd (omega (arith, e, first_decimal (suc n) (omega arith) (omega (arith, small))))

decimal_plain : (n : ℕ) → n < first_text → IsPlain (decimal n)
decimal_plain n small =
    let numeral = (decimal_is_IsNumeral n (omega (arith, small))).0 in
    (numeral.1, numeral.0, length-decimal-le 10 n (omega arith) (omega (arith, small)) (omega (arith, small)), decimal_lead n small)

pub own_plain : (field : List ℕ) (n : ℕ) → own_number field ≡ Some n → IsPlain field
own_plain field n e = let is = own_is_lem field n e in subst IsPlain (sym is.1) (decimal_plain n is.0)

pub own_value : (field : List ℕ) (n : ℕ) → own_number field ≡ Some n → digits_value 10 field < first_text
own_value field n e =
    let is = own_is_lem field n e in
    omega (arith, is.0, ap (digits_value 10) is.1, (decimal_is_IsNumeral n (omega (arith, is.0))).1)

-- what no number fits is not its own number
pub own_none : (field : List ℕ) → ((n : ℕ) → own_number field ≡ Some n → ⊥) → own_number field ≡ None
own_none field never = by (own_number field) refl
  where
    by : (o : Option ℕ) → own_number field ≡ o → o ≡ None
    by None e = refl
    by (Some n) e = absurd (never n e)

-- ---- the number of a field, by whether it is its own

pub number_own : (texts : List (List ℕ)) (field : List ℕ) (n : ℕ) → own_number field ≡ Some n → number_in texts field ≡ n
number_own texts field n e = ap (λ (o : Option ℕ). unwrap_or o (first_text + position_or_len (bytes_eq field) texts)) e

pub number_text : (texts : List (List ℕ)) (field : List ℕ) → own_number field ≡ None
    → number_in texts field ≡ first_text + position_or_len (bytes_eq field) texts
number_text texts field e = ap (λ (o : Option ℕ). unwrap_or o (first_text + position_or_len (bytes_eq field) texts)) e

-- a field is its own number if its number is below the first text, and else it is a text
pub own_below : (texts : List (List ℕ)) (field : List ℕ) (n : ℕ) → n ≡ number_in texts field → n < first_text → own_number field ≡ Some n
own_below texts field n is small = by (own_number field) refl
  where
    by : (o : Option ℕ) → own_number field ≡ o → own_number field ≡ Some n
    by (Some own) e = e ∙ ap (λ (k : ℕ). Some k) (sym (is ∙ number_own texts field own e))
    by None e = absurd (omega (arith, small, is, number_text texts field e))

pub own_above : (texts : List (List ℕ)) (field : List ℕ) (n : ℕ) → n ≡ number_in texts field → first_text ≤ n → own_number field ≡ None
own_above texts field n is great = own_none field (λ own e. omega (arith, great, is, number_own texts field own e, (own_is_lem field own e).0))

-- fields with one number of their own are one
pub own_tell : (a b : List ℕ) (m n : ℕ) → own_number a ≡ Some m → own_number b ≡ Some n → m ≡ n → a ≡ b
own_tell a b m n p q e = (own_is_lem a m p).1 ∙ ap decimal e ∙ sym (own_is_lem b n q).1
