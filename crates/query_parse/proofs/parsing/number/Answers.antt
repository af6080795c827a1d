use Rattle.std.proofs.Common.{◌≡◌, arith, ap, sym, ◌∙◌, refl}
use Rattle.std.proofs.lemmas.List.{drop_all}
use Rattle.query_parse.specs.Parse.{decimal_from, decimal}
use Rattle.query_parse.proofs.Decimal.{digit_more, one_digit_on}
use Rattle.query_parse.proofs.parsing.number.Goals as goal

pub returns-in_err-checked_mul : goal.returns-in_err-checked_mul
returns-in_err-checked_mul c =
    let m = digit_more c.args.digits.now c.loop-digit.digit-index c.loop-digit.value (decimal c.args.digits.now) c.loop-digit-test.true c.loop-digit.invariant.value in
    rw c.from_residual.ensures (λ lt. omega (arith, m, c.in_err-checked_mul.ensures))

pub returns-in_err-value : goal.returns-in_err-value
returns-in_err-value c =
    let m = digit_more c.args.digits.now c.loop-digit.digit-index c.loop-digit.value (decimal c.args.digits.now) c.loop-digit-test.true c.loop-digit.invariant.value in
    rw c.from_residual-in_err-value.ensures (λ lt. omega (arith, m, c.in_ok-checked_mul.ensures, c.in_err-value.ensures, c.saturating_sub.ensures, c.from-digit.ensures))

pub returns : goal.returns
unfolding decimal_from
returns c =
    let e : c.loop-digit.value ≡ decimal c.args.digits.now = ap (decimal_from c.loop-digit.value) (sym (drop_all c.loop-digit.digit-index c.args.digits.now c.loop-digit-test.false)) ∙ c.loop-digit.invariant.value in
    (omega (arith, c.loop-digit.invariant.within), e)

pub loop-digit-preserved : goal.loop-digit-preserved
loop-digit-preserved c =
    let added = c.in_ok-value.ensures in
    let next = added.1 ∙ rw (c.in_ok-checked_mul.ensures.1, c.from-digit.ensures, c.saturating_sub.ensures) refl in
    record {
      within = rw added.1 added.0;
      value = one_digit_on c.args.digits.now c.loop-digit.digit-index c.loop-digit.value (decimal c.args.digits.now) c.in_ok-value.value c.loop-digit-test.true c.loop-digit.invariant.value next;
    }
