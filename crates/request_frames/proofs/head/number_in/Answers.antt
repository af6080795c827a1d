use Rattle.std.proofs.Common.{◌≡◌, ◌<◌, ◌≤◌, ◌+◌, ◌-◌, ◌*◌, ◌^◌, ◌∙◌, ℕ, List, length, get_or, take, true, sym, arith}
use Rattle.std.specs.Char.{is_ascii_digit}
use Rattle.std.proofs.lemmas.Bool.Decides.{nat_tests}
use Rattle.std.proofs.lemmas.List.Sums.{fold_more}
use Rattle.std.proofs.lemmas.Nat.{pow-add}
use Rattle.request_frames.specs.Frames.{value_of}
use Rattle.rankings.proofs.Searching.{all_hit}
use Rattle.request_frames.proofs.head.number_in.Goals as goal

digit_small : (x : ℕ) → is_ascii_digit x ≡ true → x ≤ 57
digit_small x h = grind (arith, nat_tests)

times_ten : (n p q d : ℕ) → n < p → q ≡ p * 10 → d ≤ 9 → n * 10 + d < q
times_ten n p q d below is small = omega arith

module _ (text : List ℕ) (i count d : ℕ) (inside : i < length text) (is : d ≡ get_or text i 0 - 48) where
  value_more : count ≡ value_of (take i text) → count * 10 + d ≡ value_of (take (i + 1) text)
  value_more value = (λ j. value j * 10 + is j) ∙ sym (fold_more (λ n x. n * 10 + (x - 48)) 0 text i 0 inside)

  below_more : is_ascii_digit (get_or text i 0) ≡ true → count < 10 ^ i → count * 10 + d < 10 ^ (i + 1)
  below_more digit below = let high = digit_small (get_or text i 0) digit in times_ten count (10 ^ i) (10 ^ (i + 1)) d below (pow-add 10 i 1) (omega (arith, is, high))

pub loop-digit-preserved : goal.loop-digit-preserved
loop-digit-preserved c =
    let digit = c.from.ensures ∙ c.saturating_sub.ensures in
    let is_digit = sym c.is_ascii_digit.ensures.value ∙ c.if-not-is_ascii_digit.false in
    record {
      value = value_more c.args.digits.now c.loop-digit.digit-index c.loop-digit.number c.from.result c.loop-digit-test.true digit c.loop-digit.invariant.value;
      digits = all_hit is_ascii_digit c.args.digits.now c.loop-digit.digit-index c.loop-digit.invariant.digits 0 c.loop-digit-test.true is_digit;
      below = below_more c.args.digits.now c.loop-digit.digit-index c.loop-digit.number c.from.result c.loop-digit-test.true digit is_digit c.loop-digit.invariant.below;
    }
