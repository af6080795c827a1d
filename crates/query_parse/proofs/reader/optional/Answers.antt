use borrow.Author.Tests.{ltb-true}
use Rattle.std.proofs.Common.{◌∙◌, arith, sym}
use Rattle.query_parse.proofs.SameKinds.{same_by_tag}
use Rattle.query_parse.proofs.Fronts.{another_there, none_there, there}
use Rattle.query_parse.proofs.reader.optional.Goals.{in_default-via-in-len1-up+else-eq, in_default-via-then-tokens-lt1}
use Rattle.query_parse.proofs.reader.optional.Goals as goal

pub returns-in-len1-up : goal.returns-in-len1-up
returns-in-len1-up c = there c.args.kind c.args.tokens.now _ c.in-len1-up.len_at_least (sym (c.eq.ensures ∙ same_by_tag _ c.args.kind) ∙ c.if-eq.true)

pub returns-in_default : goal.returns-in_default
returns-in_default c = elim c.in_default.branch [
  | in_default-via-then-tokens-lt1 w ↦ none_there c.args.kind c.args.tokens.now (omega (arith, ltb-true))
  | in_default-via-in-len1-up+else-eq w ↦ another_there c.args.kind c.args.tokens.now _ w.in-len1-up.len_at_least (sym (w.eq.ensures ∙ same_by_tag _ c.args.kind) ∙ w.if-eq.false)
]
