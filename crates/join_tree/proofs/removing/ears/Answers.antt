use Rattle.std.proofs.Common.{◌<◌, arith, ◌∙◌}
use Rattle.std.proofs.lemmas.List.{length-set}
use Rattle.join_tree.proofs.AnyOrder.{any_order}
use Rattle.join_tree.proofs.FromRemoval.{removal_stuck, removal_done}
use Rattle.join_tree.proofs.Hanging.{one_iff_tree}
use Rattle.join_tree.proofs.Runs.{run_more}
use Rattle.join_tree.proofs.removing.ears.Goals as goal

pub returns-in_default-clause-removal : goal.returns-in_default-clause-removal
returns-in_default-clause-removal c =
    removal_stuck c.args.graph.now c.loop.ears.parent c.loop.ears.order c.loop.ears.removed c.loop.ears.core (omega arith) (omega arith) c.loop.invariant.run c.in_default.ensures

pub returns-in_default-clause-one : goal.returns-in_default-clause-one
returns-in_default-clause-one c =
    one_iff_tree c.args.graph.now c.loop.ears.parent c.loop.ears.order c.loop.ears.removed c.loop.ears.core (returns-in_default-clause-removal c)

pub returns-in_default-clause-any_order : goal.returns-in_default-clause-any_order
returns-in_default-clause-any_order c =
    any_order c.args.graph.now c.loop.ears.parent c.loop.ears.order c.loop.ears.removed c.loop.ears.core (returns-in_default-clause-removal c)

pub loop-preserved : goal.loop-preserved
loop-preserved c =
    let within : c.in-Some.ear < c.args.graph.now.atoms = c.in-Some.ensures.live.0 in
    record {
      count = omega arith;
      parents = length-set c.loop.ears.parent c.in-Some.ear c.in-Some.parent ∙ c.loop.invariant.parents;
      orders = length-set c.loop.ears.order c.loop.ears.removed c.in-Some.ear ∙ c.loop.invariant.orders;
      run = run_more c.args.graph.now c.loop.ears.parent c.loop.ears.order c.loop.ears.removed c.loop.ears.core c.loop.invariant.run
          c.in-Some.ear c.in-Some.parent c.without.result c.in-Some.ensures c.without.ensures (omega arith) (omega arith);
    }

pub returns-clause-removal : goal.returns-clause-removal
returns-clause-removal c =
    removal_done c.args.graph.now c.loop.ears.parent c.loop.ears.order c.loop.ears.removed c.loop.ears.core (omega arith) (omega arith) c.loop.invariant.run

pub returns-clause-one : goal.returns-clause-one
returns-clause-one c =
    one_iff_tree c.args.graph.now c.loop.ears.parent c.loop.ears.order c.loop.ears.removed c.loop.ears.core (returns-clause-removal c)

pub returns-clause-any_order : goal.returns-clause-any_order
returns-clause-any_order c =
    any_order c.args.graph.now c.loop.ears.parent c.loop.ears.order c.loop.ears.removed c.loop.ears.core (returns-clause-removal c)
