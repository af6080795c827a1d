use Rattle.std.proofs.Common.{◌≡◌, ℕ, ◌<◌, length, slice_index, slice_index_or, unwrap_or, None}
use Rattle.proof_check.proofs.deviations.rows_by_bound.Given as goal

abbrev pub invariant-loop-i : goal.invariant-loop-i
invariant-loop-i l = record {
  count : length l.numbers.items ≡ l.i;
  each : (k : ℕ) → k < l.i → slice_index l.numbers.items k ≡ unwrap_or (slice_index_or l.own k None) l.count;
}
