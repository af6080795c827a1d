use Rattle.std.proofs.Common.{refl}
use Rattle.query_bind.proofs.Labels.{mapped_more}
use Rattle.command_input.specs.Limits.{limited}
use Rattle.command_input.proofs.query.set_limits.Goals as goal

pub loop-select-preserved : goal.loop-select-preserved
loop-select-preserved c =
    mapped_more (limited c.args.limit) c.args.selects.now c.loop-select.selects c.loop-select.select-index c.select-item.result _ c.loop-select-test.true c.loop-select.invariant refl
