use Rattle.std.proofs.Common.{ℕ, arith}
use Rattle.std.proofs.lemmas.List.{length-set}
use Rattle.plan_build.proofs.Filled.{one_more}
use Rattle.plan_build.proofs.node_rows.rows_of_atoms.Goals as goal

pub loop-node-preserved : goal.loop-node-preserved
loop-node-preserved c =
    let l = c.loop-node in
    let tree = c.args.tree.now in
    let inside = c.loop-node-test.true in
    let low = c.requires.atoms l.node inside in
    record {
      long = grind (arith, length-set {A = ℕ}, l.invariant.long);
      each = one_more tree.count tree.atom l.rows_of c.args.node_rows.now l.node c.requires.tree.distinct inside (omega (arith, low, l.invariant.long)) l.invariant.each;
    }
