use Rattle.std.proofs.Common.{sym, ap, ◌∙◌}
use Rattle.proof_check.specs.Lines.{row_link}
use Rattle.proof_check.proofs.names.row_link.Goals as goal

pub link-requires-clause-child : goal.link-requires-clause-child
link-requires-clause-child g c = c.requires.child c.in-Some.child c.in-Some.is

pub returns-in-None : goal.returns-in-None
returns-in-None g c = c.group_link.ensures ∙ ap (row_link c.args.raw.now c.args.node c.args.row) (sym c.in-None.is)

pub returns-in-Some : goal.returns-in-Some
returns-in-Some g c = c.link.ensures ∙ ap (row_link c.args.raw.now c.args.node c.args.row) (sym c.in-Some.is)
