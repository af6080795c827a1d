-- The weights of made rows: each is a number below 1000.
use Rattle.std.proofs.Common.{◌≡◌, ◌<◌, ◌≤◌, ◌+◌, ◌/◌, ◌%◌, ◌^◌, if◌then◌else◌, ℕ, Bool, true, List, [], ◌∷◌, map, length, get_or, nat_lt, nat_le, Option, Some, None, option_and_then, is_none, ℤ, pos, refl, ap, ◌∙◌, arith}
use Rattle.std.specs.Prelude.{decimal}
use Rattle.std.specs.List.{AllByRecursion, position_from}
use Rattle.std.specs.Str.{all_ascii_digits}
use Rattle.std.specs.Str.Parse.{AllDigits, digits_value}
use Rattle.std.proofs.lemmas.Bool.{lt-ltb, ne_eqb}
use Rattle.std.proofs.lemmas.Bool.Decides.{nat_tests}
use Rattle.std.proofs.lemmas.Fmt.{decimal_is_IsNumeral, length-decimal-le}
use Rattle.std.proofs.lemmas.Str.Parse.{IsNumeralModel, digit_from_value, numerals_by_value, tells_all_ascii_digits}
use Rattle.make_input.specs.Input.{draw}
use Rattle.anyk_model.specs.Table.{Fields}
use Rattle.anyk_model.specs.Weight.{are_digits, fitting, magnitude, weight_of}
use Rattle.bound_query.specs.Weights.{greatest, size_of}
use Rattle.load_law.proofs.Records.{each_made, made_rows}

-- ---- the weight of a decimal

own : IsNumeralModel (λ ds. all_ascii_digits ds ≡ true) (digits_value 10)
own = numerals_by_value (λ ds. all_ascii_digits ds ≡ true) tells_all_ascii_digits

few_digits : (bytes : List ℕ) → 0 < length bytes → length bytes ≤ 39 → AllDigits 10 bytes → are_digits bytes ≡ true
few_digits bytes more few digits =
    let some : nat_lt 0 (length bytes) ≡ true = lt-ltb 0 (length bytes) more in
    let short : nat_le (length bytes) 39 ≡ true = grind (arith, nat_tests) in
    let all : all_ascii_digits bytes ≡ true = own.from bytes digits in
    rw (some, short, all) refl

-- digits have no sign
unsigned : (bytes : List ℕ) → 0 < length bytes → AllDigits 10 bytes → weight_of bytes ≡ option_and_then fitting (magnitude bytes)
unsigned [] some digits = absurd (omega arith)
unsigned (c ∷ rest) some digits =
    let bounds = digit_from_value c digits.0 in
    rw (ne_eqb c 43 (omega (arith, bounds)), ne_eqb c 45 (omega (arith, bounds))) refl

weight_decimal : (n : ℕ) → n < 1000 → weight_of (decimal n) ≡ Some (pos n)
weight_decimal n small =
    let numeral = decimal_is_IsNumeral n (omega (arith, small)) in
    let short = length-decimal-le 3 n (omega arith) (omega (arith, small)) (omega (arith, small)) in
    unsigned (decimal n) numeral.0.0 numeral.0.1
    ∙ ap (λ (b : Bool). option_and_then fitting (if b then Some (pos (digits_value 10 (decimal n))) else None)) (few_digits (decimal n) numeral.0.0 (omega (arith, short)) numeral.0.1)
    ∙ ap (λ (k : ℕ). fitting (pos k)) numeral.1 ∙ ap (λ (b : Bool). if b then Some (pos n) else None) (lt-ltb n (2 ^ 127) (omega (arith, small)))

-- ---- the weights of rows

-- the last of three fields is a weight below 1000
pub record IsWeighed (row : Fields) : Type 0 where
  pub weight : ℕ
  pub is : weight_of (get_or row 2 []) ≡ Some (pos weight)
  pub small : weight < 1000

abbrev pub last_weights : List Fields → List (Option ℤ)
last_weights rows = map (λ row. weight_of (get_or row 2 [])) rows

pub rows_weighed : (modulus n x : ℕ) → AllByRecursion IsWeighed (made_rows modulus n x)
rows_weighed modulus n x =
    each_made IsWeighed modulus n x (λ y. record { weight = (draw y 2 / 65536) % 1000; is = weight_decimal ((draw y 2 / 65536) % 1000) (omega arith); small = omega arith })

-- no row is without a weight
pub none_missing : (n : ℕ) (rows : List Fields) → AllByRecursion IsWeighed rows → position_from is_none n (last_weights rows) ≡ None
none_missing n [] h = refl
none_missing n (row ∷ rows) h = rw h.0.is (none_missing (n + 1) rows h.1)

pub weights_small : (rows : List Fields) → AllByRecursion IsWeighed rows → greatest (map size_of (last_weights rows)) ≤ 999
weights_small [] h = omega arith
weights_small (row ∷ rows) h =
    let later = weights_small rows h.1 in
    let small = h.0.small in
    rw h.0.is (omega (arith, later, small))
