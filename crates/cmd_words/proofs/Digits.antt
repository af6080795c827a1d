-- The number that a text is, by what `parse` reads of it.
use Rattle.std.proofs.Common.{◌≡◌, ℕ, ◌≤◌, ◌∙◌, ◌==◌, ◌&&◌, Bool, true, false, List, [], ◌∷◌, Some, None, refl, sym, ap, subst, arith}
use Rattle.std.proofs.lemmas.Bool.{lt-ltb, ltb-true, leb-true, le-leb, and_from, not-true}
use Rattle.std.specs.Prelude.{if◌then◌else◌, cond, drop, nat_lt, length, slice_index}
use Rattle.std.specs.List.{list_all}
use Rattle.std.specs.Char.{digit_value}
use Rattle.std.specs.Str.Parse.{digits_value, without_leading_plus, AllDigits, IsNumeral}
use Rattle.clap.specs.ValueTests.{is_numeral}
use Rattle.clap.proofs.WalkLemmas.{both}
use Rattle.cmd_words.specs.Numbers.{begins_plainly, number_in}

taken : (b : Bool) (n : ℕ) → b ≡ true → Some n ≡ (if b then Some n else None)
taken b n e = ap (λ (t : Bool). if t then Some n else None) (sym e)

refused : (b : Bool) (n : ℕ) → (b ≡ true → ⊥) → None ≡ (if b then Some n else None)
refused true n fails = absurd (fails refl)
refused false n fails = refl

-- a text that begins plainly has no plus to leave out
whole : (text : List ℕ) → begins_plainly text ≡ true → without_leading_plus text ≡ text
whole text plain =
    ap (λ (b : Bool). drop (cond b 1 0) text) (not-true (slice_index text 0 == 43) (both _ _ plain).0)

digits_back : (ds : List ℕ) → AllDigits 10 ds → list_all (λ d. nat_lt (digit_value d) 10) ds ≡ true
digits_back [] h = refl
digits_back (d ∷ ds) h = rw (lt-ltb (digit_value d) 10 h.0) (digits_back ds h.1)

digits_from : (ds : List ℕ) → list_all (λ d. nat_lt (digit_value d) 10) ds ≡ true → AllDigits 10 ds
digits_from [] e = tt
digits_from (d ∷ ds) e = let parts = both _ _ e in (ltb-true _ _ parts.0, digits_from ds parts.1)

numeral_is : (text : List ℕ) → IsNumeral 10 text → is_numeral text ≡ true
numeral_is text h = and_from _ _ (lt-ltb 0 (length text) h.0) (digits_back text h.1)

is_numeral_lem : (text : List ℕ) → is_numeral text ≡ true → IsNumeral 10 text
is_numeral_lem text e = let parts = both _ _ e in (ltb-true _ _ parts.0, digits_from text parts.1)

-- a numeral in the bounds
pub number_taken : (low high n : ℕ) (text : List ℕ) → begins_plainly text ≡ true → IsNumeral 10 (without_leading_plus text)
    → n ≡ digits_value 10 (without_leading_plus text) → low ≤ n → n ≤ high → Some n ≡ number_in low high text
number_taken low high n text plain numeral e above below =
    let same = whole text plain in
    let value : n ≡ digits_value 10 text = e ∙ ap (digits_value 10) same in
    let digits : IsNumeral 10 text = subst (IsNumeral 10) same numeral in
    ap Some value ∙ taken _ (digits_value 10 text)
    (and_from _ _ (numeral_is text digits) (and_from _ _ plain
    (and_from _ _ (le-leb low _ (omega (arith, value, above))) (le-leb _ high (omega (arith, value, below))))))

-- any other text
pub number_refused : (low high : ℕ) (text : List ℕ)
    → (begins_plainly text ≡ true → IsNumeral 10 (without_leading_plus text) → low ≤ digits_value 10 (without_leading_plus text)
    → digits_value 10 (without_leading_plus text) ≤ high → ⊥)
    → None ≡ number_in low high text
number_refused low high text fails = refused _ (digits_value 10 text) (λ e.
    let first = both _ _ e in
    let second = both _ _ first.1 in
    let third = both _ _ second.1 in
    let same : text ≡ without_leading_plus text = sym (whole text second.0) in
    fails second.0 (subst (IsNumeral 10) same (is_numeral_lem text first.0))
    (subst (λ (t : List ℕ). low ≤ digits_value 10 t) same (leb-true _ _ third.0))
    (subst (λ (t : List ℕ). digits_value 10 t ≤ high) same (leb-true _ _ third.1)))
