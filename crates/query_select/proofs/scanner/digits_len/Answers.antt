use Rattle.std.proofs.Common.{◌∙◌, sym}
use Rattle.std.specs.Char.{is_ascii_digit}
use Rattle.query_select.proofs.Prefixes.{prefix_ends, prefix_is_all, prefix_more}
use Rattle.query_select.proofs.scanner.digits_len.Goals as goal

pub loop-i-preserved : goal.loop-i-preserved
loop-i-preserved c = prefix_more is_ascii_digit c.args.bytes.now c.loop-i.i c.loop-i.invariant c.loop-i-test.true (sym c.is_ascii_digit.ensures.value ∙ c.if-not-is_ascii_digit.false)

pub returns-then-not-is_ascii_digit : goal.returns-then-not-is_ascii_digit
returns-then-not-is_ascii_digit c = prefix_ends is_ascii_digit c.args.bytes.now c.loop-i.i c.loop-i.invariant c.loop-i-test.true (sym c.is_ascii_digit.ensures.value ∙ c.if-not-is_ascii_digit.true)

pub returns : goal.returns
returns c = prefix_is_all is_ascii_digit c.args.bytes.now c.loop-i.i c.loop-i.invariant c.loop-i-test.false
