use Rattle.std.proofs.Common.{◌∙◌, sym}
use Rattle.bound_query.specs.StoredParts.{column_view}
use Rattle.query_bind.proofs.Labels.{listed_end, listed_turn}
use Rattle.query_bind.proofs.classes.least_of.Goals as goal
use Rattle.std.proofs.Common.{true, false}

pub returns-then-eq : goal.returns-then-eq
returns-then-eq c =
    sym (listed_turn c.args.classes.now c.loop-member.member-index (record { column = (0, 0); least = (0, 0) }) (column_view c.args.column) true c.loop-member-test.true
    (sym c.eq.ensures ∙ c.if-eq.true)) ∙ c.loop-member.invariant

pub loop-member-preserved : goal.loop-member-preserved
loop-member-preserved c =
    sym (listed_turn c.args.classes.now c.loop-member.member-index (record { column = (0, 0); least = (0, 0) }) (column_view c.args.column) false c.loop-member-test.true
    (sym c.eq.ensures ∙ c.if-eq.false)) ∙ c.loop-member.invariant

pub returns : goal.returns
returns c = sym (listed_end c.args.classes.now c.loop-member.member-index (column_view c.args.column) c.loop-member-test.false) ∙ c.loop-member.invariant
