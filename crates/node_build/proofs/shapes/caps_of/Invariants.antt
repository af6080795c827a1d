use Rattle.std.proofs.Common.{◌≡◌, ◌<◌, ◌≤◌, ℕ, List, length, slice_index}
use Rattle.anyk_model.specs.Table.{Table}
use Rattle.bound_query.specs.WeighedQuery.{Fits}
use Rattle.bound_query.specs.Weights.{cap_of, key_at}
use Rattle.node_build.proofs.shapes.caps_of.Given as goal

abbrev pub invariant-loop-key : goal.invariant-loop-key
invariant-loop-key l = record {
  width : length l.caps ≡ 8;
  done : (tables : List Table) → Fits l.query tables → (i : ℕ) → i < l.key → slice_index l.caps i ≡ cap_of tables l.query.query.items l.item (key_at l.query.query.order i);
  rest : (i : ℕ) → l.key ≤ i → slice_index l.caps i ≡ 0;
}
