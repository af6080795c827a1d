-- A field that is the first of eight bytes, which are read as one word.
use Rattle.std.proofs.Common.{◌≡◌, ◌≤◌, ◌<◌, ◌+◌, ◌-◌, ◌*◌, ◌%◌, ◌^◌, ℕ, zero, suc, Bool, true, false, cond, List, [], ◌∷◌, ◌++◌, replicate, take, map, length, get_or, refl, sym, ap, subst, ◌∙◌, eqb, eqb→eq, leb, leb-false, leb-true, bit_and, bit_or, bit_xor, w64, arith}
use Rattle.std.proofs.lemmas.Int.Digits.{digits_value-lt}
use Rattle.std.proofs.lemmas.List.{length-append, length-map, length-take-le, take_all}
use Rattle.std.proofs.lemmas.Str.{digit_value_digit}
use Rattle.std.proofs.lemmas.Str.Parse.{digit_from_value}
use Rattle.std.proofs.Math.Nat.{pow-le-pow_right}
use Rattle.std.specs.Bool.{MatchBool}
use Rattle.std.specs.Int.{from_le_bytes}
use Rattle.std.specs.Str.Parse.{AllDigits, digits_value}
use Rattle.core.specs.Char.{is_ascii_digit}
use Rattle.core.specs.Dec2flt.Digits.{IsEightBytes, IsEightDigits, less_zero}
use Rattle.core.specs.Float.Numeral.{digits_len}
use Rattle.core.specs.Int.Digits.{AllBelowBase, number_from_digits}
use Rattle.core.specs.Slice.Scan.{digits_from, flag_word}
use Rattle.core.proofs.dec2flt.DigitsLemmas.{digit_range, every_below, is_digit}
use Rattle.core.proofs.dec2flt.Eight.{bytes_of, lanes_are, shifted_is, word_at}
use Rattle.core.proofs.dec2flt.LimbsLemmas.{power_pos}
use Rattle.core.proofs.slice.Flagged.{Bytes, flags, flags_from_ten, read}
use Rattle.core.proofs.slice.Prefixes.{take-map}
use native.Mathlib.Nat.{mul-div_cancel, add-zero, mul-mod_left, pow-suc, zero-mod}
use lib.Arith.{digits_div, digits_mod, mod-mul}
use lib.Bits.{xor_lt}
use lib.Dec.{T, eqb-suc-zero}
use lib.Lanes.{number_l}
use lib.ListN.{length-replicate}
use lib.Pow.{pow-add}

-- eight bytes as a word
pub word_is : (bytes : List ℕ) → length bytes ≡ 8 → from_le_bytes w64 bytes ≡ number_l 256 bytes
word_is bytes long = word_at bytes 0 (omega arith) ∙ ap (number_l 256) (take_all 8 bytes (omega arith))

-- the bytes of a word are past 9 if they get a high bit
abbrev past_nine : ℕ → ℕ
past_nine word = bit_and (bit_or (bit_and word 0x7f7f_7f7f_7f7f_7f7f + 0x7676_7676_7676_7676) word) 0x8080_8080_8080_8080

byte_of : (bytes : List ℕ) → AllBelowBase 256 bytes → Bytes (λ k. get_or bytes k 0)
byte_of [] fit k = omega arith
byte_of (x ∷ bytes) fit zero = fit.0
byte_of (x ∷ bytes) fit (suc k) = byte_of bytes fit.1 k

below_of : (bytes : List ℕ) → ((k : ℕ) → k < length bytes → leb 10 (get_or bytes k 0) ≡ false) → AllBelowBase 10 bytes
below_of [] none = tt
below_of (x ∷ bytes) none = (leb-false 10 x (none 0 (omega arith)), below_of bytes (λ k inside. none (suc k) (omega arith)))

below_at : (bytes : List ℕ) (k : ℕ) → AllBelowBase 10 bytes → k < length bytes → leb 10 (get_or bytes k 0) ≡ true → ⊥
below_at [] k all inside past = omega arith
below_at (x ∷ bytes) zero all inside past = omega (arith, all.0, leb-true 10 x past)
below_at (x ∷ bytes) (suc k) all inside past = below_at bytes k all.1 (omega arith) past

pub digits_are : (bytes : List ℕ) (word : ℕ) → IsEightBytes bytes → word ≡ number_l 256 bytes
    → MatchBool (eqb (past_nine word) 0) (AllBelowBase 10 bytes) (AllBelowBase 10 bytes → ⊥)
digits_are bytes word eight is = by (past_nine word) (flags_from_ten word (λ k. get_or bytes k 0) (byte_of bytes eight.1) spelt)
  where
    spelt : word ≡ digits_from (λ k. get_or bytes k 0) 0 8
    spelt = is ∙ ap (number_l 256) (sym (take_all 8 bytes (omega (arith, eight.0)))) ∙ sym (word_at bytes 0 (omega (arith, eight.0))) ∙ read bytes 0

    by : (m : ℕ) → m ≡ flag_word (λ k. leb 10 (get_or bytes k 0)) → MatchBool (eqb m 0) (AllBelowBase 10 bytes) (AllBelowBase 10 bytes → ⊥)
    by zero flagged = below_of bytes (λ k inside. (flags (λ j. leb 10 (get_or bytes j 0)) 0 0 flagged).none refl k (omega arith) (omega (arith, eight.0)))
    by (suc m) flagged =
        let first = (flags (λ j. leb 10 (get_or bytes j 0)) 0 (suc m) flagged).lowest (omega arith) in
        subst (λ (b : Bool). MatchBool b (AllBelowBase 10 bytes) (AllBelowBase 10 bytes → ⊥)) (sym (eqb-suc-zero m))
        (λ all. below_at bytes _ all (omega (arith, first.0, eight.0)) (first.1.hit (omega (arith, first.0))))

-- ---- what is behind the first n bytes is shifted out

abbrev lanes : ℕ → ℕ
lanes word = bit_xor word 0x3030_3030_3030_3030

abbrev lifted : ℕ → ℕ → ℕ
lifted word n = lanes word * 2 ^ (64 - 8 * n) % 2 ^ 64

up : (n : ℕ) → n ≤ 8 → 2 ^ (64 - 8 * n) ≡ 256 ^ (8 - n)
up n few = eqb→eq _ _ (every_below (λ k. eqb (2 ^ (64 - 8 * k)) (256 ^ (8 - k))) 9 tt n (omega arith))

-- zeros, and then the first n lanes
abbrev padded : List ℕ → ℕ → List ℕ
padded bytes n = replicate (8 - n) 0 ++ map less_zero (take n bytes)

zeros_before : (k : ℕ) (ds : List ℕ) → AllBelowBase 256 ds → AllBelowBase 256 (replicate k 0 ++ ds) × (number_l 256 (replicate k 0 ++ ds) ≡ number_l 256 ds * 256 ^ k)
zeros_before zero ds h = (h, omega arith)
zeros_before (suc k) ds h = let r = zeros_before k ds h in ((omega arith, r.0), omega (arith, ap (λ x. number_l 256 ds * x) (pow-suc 256 k)))

front : (xs : List ℕ) (n : ℕ) → AllBelowBase 256 xs → number_l 256 xs % 256 ^ n ≡ number_l 256 (take n xs)
front xs zero h = omega arith
front [] (suc n) h = zero-mod _
front (x ∷ xs) (suc n) h =
    let e : x + 256 * number_l 256 xs ≡ number_l 256 xs * 256 + x = omega arith in
    let byte : 0 < 256 = omega arith in
    rw (pow-suc, e, mod-mul _ (power_pos 256 n byte) byte, digits_div _ h.0, digits_mod _ h.0, front xs n h.1) (omega arith)

lanes_fit : (xs : List ℕ) → AllBelowBase 256 xs → AllBelowBase 256 (map less_zero xs)
lanes_fit [] h = tt
lanes_fit (x ∷ xs) h = (xor_lt 8 x 48 h.0 (omega arith), lanes_fit xs h.1)

fit_take : (n : ℕ) (xs : List ℕ) → AllBelowBase 256 xs → AllBelowBase 256 (take n xs)
fit_take zero xs h = tt
fit_take (suc n) [] h = tt
fit_take (suc n) (x ∷ xs) h = (h.0, fit_take n xs h.1)

lifted_is : (bytes : List ℕ) (n word : ℕ) → IsEightBytes bytes → word ≡ number_l 256 bytes → n ≤ 8 → IsEightBytes (padded bytes n) × (lifted word n ≡ number_l 256 (padded bytes n))
lifted_is bytes n word eight is few =
    let all : 256 ^ n * 256 ^ (8 - n) ≡ 2 ^ 64 = sym (pow-add 256 n (8 - n)) ∙ ap (λ k. 256 ^ k) {y = 8} (omega arith) in
    let fit = fit_take n bytes eight.1 in
    let zeros = zeros_before (8 - n) (map less_zero (take n bytes)) (lanes_fit (take n bytes) fit) in
    let byte : 0 < 256 = omega arith in
    let long : length (take n bytes) ≡ n = length-take-le n bytes (omega (arith, eight.0)) in (
      (omega (arith, length-append (replicate (8 - n) 0) (map less_zero (take n bytes)), length-replicate {A = ℕ} (8 - n) 0, length-map (take n bytes) less_zero, long), zeros.0),
      (λ i. lanes_are bytes word eight is i * up n few i % 2 ^ 64)
          ∙ rw (← all, mod-mul _ (power_pos 256 n byte) (power_pos 256 (8 - n) byte), mul-div_cancel _ (power_pos 256 (8 - n) byte), mul-mod_left, add-zero, front _ n (lanes_fit bytes eight.1), take-map) (sym zeros.1),
    )

-- ---- lanes below ten are digits

fits_below : (ds : List ℕ) → AllBelowBase 10 ds → AllBelowBase 256 ds
fits_below [] all = tt
fits_below (d ∷ ds) all = (omega (arith, all.0), fits_below ds all.1)

lane : (x : ℕ) → x < 256 → less_zero x < 10 → is_ascii_digit x ≡ true
lane x fits small = by (is_ascii_digit x) (leb 10 (less_zero x)) refl refl (every_below (λ y. cond (is_ascii_digit y) true (leb 10 (less_zero y))) 256 tt x fits)
  where
    by : (b past : Bool) → is_ascii_digit x ≡ b → leb 10 (less_zero x) ≡ past → T (cond b true past) → is_ascii_digit x ≡ true
    by true past e f t = e
    by false true e f t = absurd (omega (arith, leb-true 10 (less_zero x) f))
    by false false e f t = absurd t

digits_of : (k : ℕ) (xs : List ℕ) → AllBelowBase 256 xs → AllBelowBase 10 (replicate k 0 ++ map less_zero xs) → AllDigits 10 xs
digits_of (suc k) xs fit all = digits_of k xs fit all.1
digits_of zero [] fit all = tt
digits_of zero (x ∷ xs) fit all =
    let range = digit_range x (lane x fit.0 all.0) in
    (omega (arith, digit_value_digit x range), digits_of zero xs fit.1 all.1)

-- the first n bytes are digits if as many digits come first
digits_within : (bytes : List ℕ) (n : ℕ) → n ≤ length bytes → AllDigits 10 (take n bytes) → n ≤ digits_len bytes
digits_within bytes zero few digits = omega arith
digits_within [] (suc n) few digits = absurd (omega arith)
digits_within (x ∷ bytes) (suc n) few digits =
    let range = digit_from_value x digits.0 in
    let rest = digits_within bytes n (omega arith) digits.1 in
    subst (λ (b : Bool). suc n ≤ cond b (1 + digits_len bytes) 0) (sym (is_digit x range.0 range.1).0) (omega arith)

-- up to eight digits write a small number
small_value : (bytes : List ℕ) (n : ℕ) → n ≤ 8 → n ≤ length bytes → AllDigits 10 (take n bytes) → digits_value 10 (take n bytes) ≤ 100000000
small_value bytes n few within digits =
    let below = digits_value-lt 10 (take n bytes) digits in
    let short : length (take n bytes) ≤ 8 = omega (arith, length-take-le n bytes within) in
    let most : 10 ^ length (take n bytes) ≤ 10 ^ 8 = pow-le-pow_right {n = 10} (omega arith) short in
    omega (arith, below, most)

-- the first n bytes are digits, and this is the number that they write
pub record IsRead (bytes : List ℕ) (n value : ℕ) : Type 0 where
  pub digits : AllDigits 10 (take n bytes)
  pub small : digits_value 10 (take n bytes) ≤ 100000000
  pub is : value ≡ digits_value 10 (take n bytes)

module _ (bytes : List ℕ) (n word : ℕ) (long : length bytes ≡ 8) (fits : (k : ℕ) → get_or bytes k 0 < 256) (is : word ≡ from_le_bytes w64 bytes) (few : n ≤ 8) where
  eight : IsEightBytes bytes
  eight = (long, bytes_of bytes fits)

  same : word ≡ number_l 256 bytes
  same = is ∙ word_is bytes long

  module _ (all : Bool) (tells : (ds : List ℕ) → IsEightBytes ds → lifted word n ≡ number_l 256 ds → MatchBool all (AllBelowBase 10 ds) (AllBelowBase 10 ds → ⊥)) where
    -- what `shifted_is` gives of digits
    abbrev Shifted : Type 0
    Shifted = (ds : List ℕ) × IsEightDigits ds × (lifted word n ≡ number_l 256 ds) × (number_from_digits 10 ds ≡ digits_value 10 (take n bytes))

    shifted : AllDigits 10 (take n bytes) → Shifted
    shifted digits = shifted_is bytes n (lifted word n) eight (digits_within bytes n (omega (arith, long)) digits) few (λ i. lanes_are bytes word eight same i * up n few i % 2 ^ 64)

    pub no_digits : all ≡ false → AllDigits 10 (take n bytes) → ⊥
    no_digits told digits =
        let s = shifted digits in
        subst (λ (b : Bool). MatchBool b (AllBelowBase 10 s.0) (AllBelowBase 10 s.0 → ⊥)) told (tells s.0 (s.1.0, fits_below s.0 s.1.1) s.2) s.1.1

    pub is_read : all ≡ true → (value : ℕ) → ((ds : List ℕ) → IsEightDigits ds → lifted word n ≡ number_l 256 ds → value ≡ number_from_digits 10 ds) → IsRead bytes n value
    is_read told value worth =
        let l = lifted_is bytes n word eight same few in
        let below = subst (λ (b : Bool). MatchBool b (AllBelowBase 10 (padded bytes n)) (AllBelowBase 10 (padded bytes n) → ⊥)) told (tells (padded bytes n) l.0 l.1) in
        let digits = digits_of (8 - n) (take n bytes) (fit_take n bytes eight.1) below in
        let s = shifted digits in
        record { digits = digits; small = small_value bytes n few (omega (arith, long)) digits; is = worth s.0 s.1 s.2 ∙ s.3 }
