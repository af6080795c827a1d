use Rattle.std.proofs.Common.{◌∙◌, sym}
use Rattle.bound_query.specs.StoredParts.{column_view}
use Rattle.query_bind.specs.Labels.{least_in}
use Rattle.query_bind.specs.Variables.{is_other}
use Rattle.query_bind.specs.declared.classes.Member.{Member}
use Rattle.rankings.proofs.Searching.{any_end, any_hit, any_miss}
use Rattle.query_bind.proofs.variables.has_other.Goals as goal

pub returns-then-is_in_other : goal.returns-then-is_in_other
returns-then-is_in_other c =
    any_hit (λ (m : Member). is_other (least_in c.args.classes.now) (column_view c.args.least) (column_view m.column)) c.args.classes.now
    c.loop-member.member-index c.loop-member.invariant (record { column = (0, 0); least = (0, 0) }) c.loop-member-test.true
    (sym c.is_in_other.ensures ∙ c.if-is_in_other.true)

pub loop-member-preserved : goal.loop-member-preserved
loop-member-preserved c =
    any_miss (λ (m : Member). is_other (least_in c.args.classes.now) (column_view c.args.least) (column_view m.column)) c.args.classes.now
    c.loop-member.member-index c.loop-member.invariant (record { column = (0, 0); least = (0, 0) }) c.loop-member-test.true
    (sym c.is_in_other.ensures ∙ c.if-is_in_other.false)

pub returns : goal.returns
returns c =
    any_end (λ (m : Member). is_other (least_in c.args.classes.now) (column_view c.args.least) (column_view m.column)) c.args.classes.now
    c.loop-member.member-index c.loop-member.invariant c.loop-member-test.false
