use Rattle.std.proofs.Common.{◌≡◌, ℕ, [], length, map, slice_index_or}
use Rattle.proof_check.proofs.lines.no_bounds.Given as goal

abbrev pub invariant-loop-node : goal.invariant-loop-node
invariant-loop-node g l = record {
  count : length l.bounds.items ≡ l._node;
  empty : (v : ℕ) → slice_index_or (map (λ b. b.ranks.items) l.bounds.items) v [] ≡ [];
}
