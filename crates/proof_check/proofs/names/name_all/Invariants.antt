use Rattle.std.proofs.Common.{◌≡◌, ◌<◌, ℕ, [], length, map, slice_index_or}
use Rattle.proof_check.specs.Lines.{AreNamed}
use Rattle.proof_check.proofs.names.name_all.Given as goal

abbrev pub invariant-loop-node : goal.invariant-loop-node
invariant-loop-node g l = record {
  each_node : length l.bounds ≡ length l.raw.shapes;
  named : (v : ℕ) → v < l.node → AreNamed l.raw (slice_index_or l.groups v []) v
      (slice_index_or (map (λ b. b.own.items) l.bounds) v []) (slice_index_or (map (λ b. b.named.items) l.bounds) v []);
  ranks : map (λ b. b.ranks.items) l.bounds ≡ map (λ b. b.ranks.items) l.initial.bounds;
}
