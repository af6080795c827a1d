use Rattle.std.proofs.Common.{◌≡◌, ◌+◌, ◌-◌, ◌/◌, ◌<◌, ◌≤◌, ℕ, sym, subst, inl, inr, arith}
use Rattle.std.proofs.lemmas.Bool.{cases_lt}
use Rattle.tdp_core.specs.RawView.{raw_len, raw_number}
use Rattle.proof_check.proofs.Counts.{last_one, up_to}
use Rattle.proof_check.proofs.Subtrees.{rows_ascend}
use Rattle.proof_check.proofs.searching.row_place.Goals as goal

-- the middle of two places
module _ (low high : ℕ) (less : low < high) where
  middle_below : low + (high - low) / 2 < high
  middle_below = omega (arith, less)

  middle_within : (most : ℕ) → high ≤ most → low + (high - low) / 2 < most
  middle_within most h = omega (arith, less, h)

then_less : (a b d : ℕ) → a < b → b < d → a < d
then_less a b d h k = omega (arith, h, k)

low_up_to : (low high : ℕ) → low ≤ low + (high - low) / 2
low_up_to low high = omega arith

at_both : (a b : ℕ) → a ≤ b → b ≤ a → a ≡ b
at_both a b h k = omega (arith, h, k)

next_up_to : (k n : ℕ) → k < n → k + 1 ≤ n
next_up_to k n l = omega (arith, l)

above_other : (number read row : ℕ) → number ≡ read → (number ≡ row → ⊥) → row ≤ number → row < read
above_other number read row e n l = omega (arith, e, n, l)

pub loop-low-preserved-then-number-row-2 : goal.loop-low-preserved-then-number-row-2
loop-low-preserved-then-number-row-2 g c =
    let raw = c.args.raw.now in
    let node : ℕ = c.args.node in
    let low : ℕ = c.loop-low.low in
    let high : ℕ = c.loop-low.high in
    let middle : ℕ = low + (high - low) / 2 in
    let less : raw_number raw node middle < c.args.row = subst (λ k. k < c.args.row) c.row-number.ensures.number c.if-number-row-2.true in
    let inside = middle_within low high c.loop-low-test.true (raw_len raw node) c.loop-low.invariant.most in
    record {
      order = next_up_to middle high (middle_below low high c.loop-low-test.true);
      most = c.loop-low.invariant.most;
      before = λ up i l. elim (cases_lt i middle) [
        | inl h ↦ then_less _ _ _ (rows_ascend raw node i middle up h inside) less
        | inr h ↦ subst (λ k. raw_number raw node k < c.args.row) (sym (last_one i middle l h)) less
      ];
      after = c.loop-low.invariant.after;
    }

pub loop-low-preserved : goal.loop-low-preserved
loop-low-preserved g c =
    let raw = c.args.raw.now in
    let node : ℕ = c.args.node in
    let low : ℕ = c.loop-low.low in
    let high : ℕ = c.loop-low.high in
    let middle : ℕ = low + (high - low) / 2 in
    let more : c.args.row < raw_number raw node middle =
    above_other _ _ _ c.row-number.ensures.number c.if-number-row.false c.if-number-row-2.false in
    record {
      order = low_up_to low high;
      most = up_to middle (raw_len raw node) (middle_within low high c.loop-low-test.true (raw_len raw node) c.loop-low.invariant.most);
      before = c.loop-low.invariant.before;
      after = λ up i l h. elim (cases_lt middle i) [
        | inl b ↦ then_less _ _ _ more (rows_ascend raw node middle i up b h)
        | inr b ↦ subst (λ k. c.args.row < raw_number raw node k) (at_both middle i l b) more
      ];
    }
