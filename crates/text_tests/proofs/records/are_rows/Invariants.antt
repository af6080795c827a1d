use Rattle.std.proofs.Common.{ℕ, ◌<◌, ◌≤◌, get_or, length}
use Rattle.bound_query.specs.Weights.{table_in}
use Rattle.text_tests.proofs.records.are_rows.Given as goal

abbrev pub invariant-loop-item : goal.invariant-loop-item
invariant-loop-item l = (i : ℕ) → i < l.item → (1 ≤ get_or l.rows i 0) × (get_or l.rows i 0 ≤ length (table_in l.tables l.query.query.items i).rows)
