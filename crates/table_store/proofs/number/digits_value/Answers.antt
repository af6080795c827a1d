use Rattle.std.proofs.Common.{◌≤◌, ◌∙◌, get_or, ap, subst, arith}
use Rattle.std.specs.Str.Parse.{AllDigits, digits_value}
use Rattle.std.proofs.lemmas.List.{take_all}
use Rattle.table_store.proofs.Digits.{digits_at, digits_bound, digits_more, value_more}
use Rattle.table_store.proofs.number.digits_value.Goals as goal

pub returns-then-digit-gt9 : goal.returns-then-digit-gt9
returns-then-digit-gt9 c = λ digits.
    let at = digits_at c.args.bytes.now c.loop-byte.byte-index c.loop-byte-test.true digits in
    omega (arith, at.0, at.1, c.if-digit-gt9.true)

pub overflow_mul-number : goal.overflow_mul-number
overflow_mul-number c =
    let bound = digits_bound c.args.bytes.now c.loop-byte.byte-index c.loop-byte-test.true c.requires c.loop-byte.invariant.0 in
    omega (arith, bound, c.loop-byte.invariant.1)

pub overflow_add-number : goal.overflow_add-number
overflow_add-number c =
    let bound = digits_bound c.args.bytes.now c.loop-byte.byte-index c.loop-byte-test.true c.requires c.loop-byte.invariant.0 in
    omega (arith, bound, c.loop-byte.invariant.1, c.if-digit-gt9.false)

pub loop-byte-preserved : goal.loop-byte-preserved
loop-byte-preserved c =
    let byte = get_or c.args.bytes.now c.loop-byte.byte-index 0 in
    let fits = c.type_inv.bytes c.loop-byte.byte-index in
    let low : 48 ≤ byte = omega (arith, fits, c.if-digit-gt9.false) in
    let high : byte ≤ 57 = omega (arith, fits, c.if-digit-gt9.false) in
    let more = value_more c.args.bytes.now c.loop-byte.byte-index c.loop-byte-test.true low high in (
      digits_more c.args.bytes.now c.loop-byte.byte-index c.loop-byte-test.true low high c.loop-byte.invariant.0,
      omega (arith, more, c.loop-byte.invariant.1, low, high),
    )

pub returns : goal.returns
returns c =
    let all = take_all c.loop-byte.byte-index c.args.bytes.now c.loop-byte-test.false in
    (subst (AllDigits 10) all c.loop-byte.invariant.0, c.loop-byte.invariant.1 ∙ ap (digits_value 10) all)
