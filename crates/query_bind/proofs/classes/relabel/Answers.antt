use Rattle.query_bind.specs.Relabelling.{with_least}
use Rattle.query_bind.proofs.Labels.{mapped_all, mapped_more}
use Rattle.query_bind.proofs.classes.relabel.Goals as goal

pub loop-member-preserved : goal.loop-member-preserved
loop-member-preserved c =
    mapped_more (with_least c.args.new c.args.old) c.args.classes.now c.loop-member.classes c.loop-member.member-index (record { column = (0, 0); least = (0, 0) })
    c.relabelled.result c.loop-member-test.true c.loop-member.invariant c.relabelled.ensures

pub returns : goal.returns
returns c = mapped_all (with_least c.args.new c.args.old) c.args.classes.now c.loop-member.classes c.loop-member.member-index c.loop-member-test.false c.loop-member.invariant
