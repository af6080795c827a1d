use Rattle.std.proofs.Common.{◌∙◌, sym}
use Rattle.query_select.specs.Tokens.{is_word_byte}
use Rattle.query_select.proofs.Prefixes.{prefix_ends, prefix_is_all, prefix_more}
use Rattle.query_select.proofs.scanner.word_len.Goals as goal

pub loop-i-preserved : goal.loop-i-preserved
loop-i-preserved c = prefix_more is_word_byte c.args.bytes.now c.loop-i.i c.loop-i.invariant c.loop-i-test.true (sym c.goes_on_word.ensures ∙ c.if-not-goes_on_word.false)

pub returns-then-not-goes_on_word : goal.returns-then-not-goes_on_word
returns-then-not-goes_on_word c = prefix_ends is_word_byte c.args.bytes.now c.loop-i.i c.loop-i.invariant c.loop-i-test.true (sym c.goes_on_word.ensures ∙ c.if-not-goes_on_word.true)

pub returns : goal.returns
returns c = prefix_is_all is_word_byte c.args.bytes.now c.loop-i.i c.loop-i.invariant c.loop-i-test.false
