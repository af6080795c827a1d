use Rattle.std.proofs.Common.{rules, ◌≡◌, ◌<◌, length, ◌∙◌, arith}
use Rattle.std.proofs.Math.ListN.{length-set}
use Rattle.tdp_core.specs.TreeView.{parent, child_count, child_place}
use Rattle.anyk_part.proofs.Placed.{placed_next}
use Rattle.anyk_part.proofs.paths.child_places.Goals as goal

pub loop-node-init : goal.loop-node-init
loop-node-init g c = record { long = search rules; placed = λ v some below inside. absurd (omega (arith, some, below)) }

pub loop-node-preserved : goal.loop-node-preserved
loop-node-preserved g c =
    let t = c.args.tree.now in let l = c.loop-node.invariant in
    record {
      long = length-set c.loop-node.places c.loop-node.node c.child_place.result ∙ l.long;
      placed = placed_next (λ v p. (p ≡ child_place t v) × (p < child_count t (parent t v))) c.loop-node.places c.loop-node.node c.child_place.result (length t)
          (search rules) (c.child_place.ensures.place, c.child_place.ensures.within) l.placed;
    }

pub returns : goal.returns
returns g c = λ v some inside. c.loop-node.invariant.placed v some (search rules) inside
