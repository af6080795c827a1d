use Rattle.std.proofs.Common.{arith}
use Rattle.proof_model.proofs.Numbers.{next_digit, value_small}
use Rattle.proof_model.proofs.number.value.Goals as goal

pub overflow_mul-value : goal.overflow_mul-value
overflow_mul-value c =
    let small = value_small c.args.digits.now c.loop-digit.digit-index c.requires.digits c.requires.few in
    omega (arith, c.loop-digit.invariant, small)

pub overflow_add-value : goal.overflow_add-value
overflow_add-value c =
    let small = value_small c.args.digits.now c.loop-digit.digit-index c.requires.digits c.requires.few in
    let more = next_digit c.args.digits.now c.loop-digit.digit-index c.requires.digits c.loop-digit-test.true in
    omega (arith, c.loop-digit.invariant, small, more.1, c.from.ensures, c.saturating_sub.ensures)

pub loop-digit-preserved : goal.loop-digit-preserved
loop-digit-preserved c =
    let more = next_digit c.args.digits.now c.loop-digit.digit-index c.requires.digits c.loop-digit-test.true in
    omega (arith, c.loop-digit.invariant, more.0, c.from.ensures, c.saturating_sub.ensures)
