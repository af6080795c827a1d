use Rattle.std.proofs.Common.{◌≡◌, [], replicate}
use Rattle.proof_check.proofs.groups.no_groups.Given as goal

abbrev pub invariant-loop-node : goal.invariant-loop-node
invariant-loop-node l = l.groups.items ≡ replicate l._node []
