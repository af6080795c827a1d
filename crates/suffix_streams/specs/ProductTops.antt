-- The top of a product, before a step from it.
use Rattle.std.specs.Prelude.{◌≡◌, ℕ, ◌+◌, ◌<◌, ◌↔◌, Option, Bool, IsTrue, List, length, slice_index_or}
use Rattle.take2_heap.specs.declared.entry.Entry.{Entry}
use Rattle.suffix_streams.specs.declared.cell.Cell.{Cell}
use Rattle.suffix_streams.specs.ProductView.{ProductView}
use Rattle.stream_store.specs.declared.linked.Linked.{Linked}
use Rattle.tdp_model.specs.KeyTuple.{KeyOf}
use Rattle.tdp_core.specs.TreeView.{NodeView, group_named}
use Rattle.suffix_streams.specs.declared.stream.Found.{Found}
use Rattle.suffix_streams.specs.NodeStreamsView.{NodeStreamsView}
use Rattle.suffix_streams.specs.Rankings.{child}
use Rattle.suffix_streams.specs.TreeStreams.{product_of, stream_of}
use Rattle.suffix_streams.specs.Growing.{IsReached, IsAnswered}

-- This is the top of a row's product number c, from 0. There is room for one more solution, and for
-- two sums in place of the top, unless the product is the row's first.
pub record IsProductTop {R : Type 0} (p : ProductView R) (c : ℕ) (top : Entry R Cell) : Type 0 where
  pub some : 0 < length p.frontier
  pub first : (d : Entry R Cell) → slice_index_or p.frontier 0 d ≡ top
  pub room : 0 < p.room
  pub frontier_room : 0 < c → 0 < p.frontier_room

-- A step from this top of product number c of row r of node v can be made: o is the entry after its
-- right part, if there is one, and b says whether its right part is the first entry of its stream.
-- If it is, the next left part is known, or there is none.
pub record IsStepReady {R : Type 0} (d : ℕ) (key : R → KeyOf d 16) (t : List (NodeView R))
    (es : List (Linked (Found R))) (nodes : List (NodeStreamsView R)) (v r c : ℕ)
    (e : Entry R Cell) (o : Option ℕ) (b : Bool) : Type 0 where
  pub top : IsProductTop (product_of nodes v r c) c e
  pub beside : 0 < c
      → (IsTrue b
      ↔ (e.tag.right ≡ (stream_of nodes (child t v c) (group_named t v r c)).head))
  pub below : IsAnswered d key t es e.tag.right o
  pub across : 0 < c → IsTrue b → IsReached d key t nodes v r c (e.tag.left + 1)
