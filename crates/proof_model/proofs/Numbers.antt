-- Numbers and their digits.
use Rattle.std.proofs.Common.{◌≡◌, ℕ, ◌+◌, ◌-◌, ◌*◌, ◌<◌, ◌≤◌, ◌^◌, Bool, true, cond, not, ◌||◌, eqb, List, [], ◌∷◌}
use Rattle.std.proofs.Common.{map, length, get_or, take, refl, sym, ap, ◌∙◌, subst, inl, inr, arith, rules, false}
use Rattle.std.specs.Prelude.{Option, None, Some, option_map, option_and_then, decimal, slice_index}
use Rattle.std.specs.List.{list_all, All, AllByRecursion}
use Rattle.std.specs.Char.{is_ascii_digit}
use Rattle.std.specs.Str.Parse.{digits_value}
use Rattle.std.proofs.lemmas.Bool.{and_from, and_parts, or_left, or_right, or_cases, not_from_false, not-true, le-leb}
use Rattle.std.proofs.lemmas.Bool.{leb-true, eq-eqb, ne_eqb, eqb-true, eqb-false, cond-true, cases_eq}
use Rattle.std.proofs.lemmas.Str.{digit_value_digit}
use Rattle.std.proofs.lemmas.Str.Parse.{IsNumeralModel, numerals_by_value, digits_value_short, digits_value-take-le}
use Rattle.std.proofs.lemmas.Str.Parse.{digit_at}
use Rattle.std.proofs.lemmas.Int.Digits.{digits_value_more}
use Rattle.std.proofs.lemmas.Fmt.{decimal_nonempty, length-decimal-le, digits_decimal, decimal_digit, first_decimal}
use Rattle.std.proofs.lemmas.Fmt.{digits_value-decimal, decimal-digits_value}
use Rattle.std.proofs.lemmas.List.Elements.{All-from_get_or}
use Rattle.proof_model.specs.Forms.{is_number, number_of, numbers_of}
use Rattle.proof_model.specs.NumberedProofs.{IsShort}

own : IsNumeralModel (λ ds. list_all is_ascii_digit ds ≡ true) (digits_value 10)
own = numerals_by_value _ (search rules)

-- one digit more
pub next_digit : (ds : List ℕ) (i : ℕ) → list_all is_ascii_digit ds ≡ true → i < length ds
    → (digits_value 10 (take (i + 1) ds) ≡ digits_value 10 (take i ds) * 10 + (get_or ds i 0 - 48))
    × (get_or ds i 0 - 48 < 10)
next_digit ds i all l =
    let range = digit_at ds i (own.to ds all) l in
    let more = digits_value_more 10 ds i l in
    (omega (arith, digit_value_digit (get_or ds i 0) range, more), omega (arith, range.0, range.1))

-- at most 7 digits, of which some are read
pub value_small : (ds : List ℕ) (i : ℕ) → list_all is_ascii_digit ds ≡ true → length ds ≤ 7
    → digits_value 10 (take i ds) < 10000000
value_small ds i all few =
    omega (arith, digits_value-take-le 10 ds i (omega arith), digits_value_short own ds 7 all few)

-- ---- a number that is written

first_digit : (n : ℕ) → n < 2 ^ 64 → (eqb (length (decimal n)) 1 || not (eqb (slice_index (decimal n) 0) 48)) ≡ true
first_digit n small = elim (cases_eq n 0) [
  | inl z ↦ or_left (eqb (length (decimal n)) 1) _
      (eq-eqb (length (decimal n)) 1 (ap length (decimal_digit n (omega (arith, z)))))
  | inr some ↦
      let first = first_decimal n (omega (arith, some)) small in
      or_right (eqb (length (decimal n)) 1) _
      (not_from_false _ (ne_eqb (slice_index (decimal n) 0) 48 (λ e. omega (arith, e, first))))
]

pub number_written : (n : ℕ) → IsShort n → number_of (decimal n) ≡ Some n
number_written n h =
    let small : n < 2 ^ 64 = omega (arith, h) in
    let is : is_number (decimal n) ≡ true =
    and_from _ _ (le-leb 1 (length (decimal n)) (decimal_nonempty n small))
    (and_from _ _ (le-leb (length (decimal n)) 7 (length-decimal-le 7 n (omega arith) (omega (arith, h)) small))
    (and_from _ _ (digits_decimal own n small) (first_digit n small))) in
    cond-true (is_number (decimal n)) (Some (digits_value 10 (decimal n))) None is
    ∙ ap (λ (m : ℕ). Some m) (digits_value-decimal own n small)

pub numbers_written : (ns : List ℕ) → AllByRecursion IsShort ns → numbers_of (map decimal ns) ≡ Some ns
numbers_written [] h = refl
numbers_written (n ∷ ns) h =
    ap (λ (o : Option ℕ). option_and_then (λ m. option_map (λ ms. m ∷ ms) (numbers_of (map decimal ns))) o)
    (number_written n h.0)
    ∙ ap (λ (o : Option (List ℕ)). option_map (λ ms. n ∷ ms) o) (numbers_written ns h.1)

-- the digits of a number are after the space
pub ink_decimal : (n : ℕ) → IsShort n → All (λ b. 32 < b) (decimal n)
ink_decimal n h =
    All-from_get_or (λ b. 32 < b) (decimal n) 0
    (λ i l. let range = digit_at (decimal n) i (own.to (decimal n) (digits_decimal own n (omega (arith, h)))) l in
    omega (arith, range.0))

-- ---- a number that is read

chosen : (b : Bool) (v n : ℕ) → cond b (Some v) None ≡ Some n → (b ≡ true) × (v ≡ n)
chosen true v n h = (refl, cc)
chosen false v n h = absurd cc

pub number_read : (text : List ℕ) (n : ℕ) → number_of text ≡ Some n → (text ≡ decimal n) × IsShort n
number_read text n h =
    let is = chosen (is_number text) (digits_value 10 text) n h in
    let a = and_parts _ _ is.0 in
    let b = and_parts _ _ a.1 in
    let d = and_parts _ _ b.1 in
    let some : 0 < length text = leb-true 1 (length text) a.0 in
    let short : digits_value 10 text < 10 ^ 7 = digits_value_short own text 7 d.0 (leb-true (length text) 7 b.0) in
    let alone : get_or text 0 0 ≡ 48 → length text ≡ 1 = λ e. elim (or_cases _ _ d.1) [
      | inl one ↦ eqb-true (length text) 1 one
      | inr other ↦ absurd (eqb-false (get_or text 0 0) 48 (not-true _ other) e)
    ] in (
      sym (decimal-digits_value own text d.0 some alone (omega (arith, short))) ∙ ap decimal is.1,
      omega
          (arith, short, is.1),
    )

record More (o : Option ℕ) (more : Option (List ℕ)) (ns : List ℕ) : Type 0 where
  first : ℕ
  others : List ℕ
  is_first : o ≡ Some first
  are_others : more ≡ Some others
  whole : ns ≡ first ∷ others

more_by : (o : Option ℕ) (more : Option (List ℕ)) (ns : List ℕ)
    → option_and_then (λ n. option_map (λ ms. n ∷ ms) more) o ≡ Some ns → More o more ns
more_by None more ns h = absurd cc
more_by (Some n) None ns h = absurd cc
more_by (Some n) (Some ms) ns h = record { first = n; others = ms; is_first = refl; are_others = refl; whole = cc }

pub numbers_read : (ts : List (List ℕ)) (ns : List ℕ) → numbers_of ts ≡ Some ns
    → (ts ≡ map decimal ns) × AllByRecursion IsShort ns
numbers_read [] ns h =
    let e : [] ≡ ns = cc in subst (λ ms. ([] ≡ map decimal ms) × AllByRecursion IsShort ms) e (refl, tt)
numbers_read (t ∷ ts) ns h =
    let m = more_by (number_of t) (numbers_of ts) ns h in
    let one = number_read t m.first m.is_first in
    let all = numbers_read ts m.others m.are_others in
    subst (λ ms. (t ∷ ts ≡ map decimal ms) × AllByRecursion IsShort ms) (sym m.whole)
    ((λ i. one.0 i ∷ all.0 i), (one.1, all.1))
