use Rattle.std.proofs.Common.{◌≡◌, ℕ, None, length, slice_index_or}
use Rattle.proof_check.proofs.deviations.nothing_known.Given as goal

abbrev pub invariant-loop-group : goal.invariant-loop-group
invariant-loop-group g l = record {
  count : length l.least.items ≡ l._group;
  none : (k : ℕ) → slice_index_or l.least.items k None ≡ None;
}
