use Rattle.std.proofs.Common.{◌≡◌, ℕ, ◌<◌, length, get_or}
use Rattle.tdp_core.specs.TreeView.{parent, child_count, child_place}
use Rattle.anyk_part.proofs.paths.child_places.Given as goal

abbrev pub invariant-loop-node : goal.invariant-loop-node
invariant-loop-node g l = record {
  long : length l.places ≡ 16;
  placed : (v : ℕ) → 0 < v → v < l.node → v < length l.fn.tree → (get_or l.places v 0 ≡ child_place l.fn.tree v) × (get_or l.places v 0 < child_count l.fn.tree (parent l.fn.tree v));
}
