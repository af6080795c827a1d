-- The streams of a tree at their start, as callers see them, and the steps of making them.
use Rattle.std.proofs.Common.{◌≡◌, ℕ, zero, suc, ◌+◌, ◌-◌, ◌*◌, ◌≤◌, List, length, ap, arith}
use Rattle.stream_store.specs.declared.linked.Linked.{Linked}
use Rattle.tdp_model.specs.KeyTuple.{KeyOf}
use Rattle.tdp_model.specs.TreeProblem.{sum_from}
use Rattle.tdp_core.specs.TreeView.{NodeView, rows, row_count}
use Rattle.tdp_core.specs.WellFormed.{IsFormed, IsTieFreeTree}
use Rattle.suffix_streams.specs.declared.stream.Found.{Found}
use Rattle.suffix_streams.specs.NodeStreamsView.{NodeStreamsView}
use Rattle.suffix_streams.specs.StreamsView.{IsStreamsView}
use Rattle.suffix_streams.specs.Beginnings.{IsBegunFrom}
use Rattle.suffix_streams.proofs.BeginBegun.{streams_begun, few_begun}
use Rattle.suffix_streams.proofs.BeginNodes.{rows_from, rows_more}

module _ {R : Type 0} (d : ℕ) (key : R → KeyOf d 16) (t : List (NodeView R)) where
  pub start_view : IsFormed d key t → IsTieFreeTree t → (es : List (Linked (Found R))) (nodes : List (NodeStreamsView R)) (v : ℕ) → v ≡ 0 → IsBegunFrom d key t es nodes v
      → IsStreamsView d key (record { tree = t; entries = es; nodes = nodes; calls = 0 })
  start_view formed free es nodes v e b = record {
    formed = formed;
    tie_free = free;
    streams = streams_begun d key t formed free es nodes b.streams (λ q l. b.behind q (omega arith) l);
    few = few_begun d key t formed free es nodes b.streams;
  }

  rows_falls : (v : ℕ) → v ≤ length t → rows_from d key t v ≤ rows_from d key t 0
  rows_falls zero l = omega arith
  rows_falls (suc v) l = omega (arith, rows_more d key t v (suc v) (omega arith) (omega arith), rows_falls v (omega arith))

  pub rows_whole : rows_from d key t 0 ≡ row_count t
  rows_whole = let all : length t - 0 ≡ length t = omega arith in ap (λ n. sum_from ◌+◌ 0 (rows t) n 0) all

  pub rows_within : (v : ℕ) → v ≤ length t → rows_from d key t v ≤ row_count t
  rows_within v l = omega (arith, rows_falls v l, rows_whole)

  share : (m a n : ℕ) → 1 ≤ m → a ≤ n → 5 * a ≤ 16 * m * (1 + n)
  share m a n some l = let x : 16 * (1 + n) ≤ 16 * m * (1 + n) = grind arith in omega (arith, x)

  -- the steps for the nodes from v
  pub start_steps : IsFormed d key t → (v : ℕ) → v ≤ length t → 5 * rows_from d key t v ≤ 16 * length t * (1 + row_count t)
  start_steps formed v l = share (length t) (rows_from d key t v) (row_count t) formed.shaped.some_node (rows_within v l)
