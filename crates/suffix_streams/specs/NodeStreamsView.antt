-- The data of a node, as its callers see it.
use Rattle.std.specs.Prelude.{◌≡◌, ◌<◌, ℕ, zero, suc, List, [], length, slice_set, slice_index_or}
use Rattle.take2_heap.specs.declared.entry.Entry.{Entry}
use Rattle.suffix_streams.specs.declared.source.Source.{Source}
use Rattle.suffix_streams.specs.ProductView.{ProductView}
use Rattle.suffix_streams.specs.StreamView.{StreamView}

-- A node: its children in ascending order, the streams of its groups, and the products of each row.
-- A row has no products until a second solution of it is asked for.
pub record NodeStreamsView (R : Type 0) : Type 0 where
  pub children : List ℕ
  pub streams : List (StreamView R)
  pub products : List (List (ProductView R))

module _ {R : Type 0} (n : NodeStreamsView R) where
  abbrev pub product_at : ℕ → ℕ → ProductView R
  product_at r c = slice_index_or (slice_index_or n.products r []) c
      (record { found = []; ranks = []; frontier = []; room = 0; frontier_room = 0 })

  abbrev pub stream_at : ℕ → StreamView R
  stream_at g = slice_index_or n.streams g (record { head = 0; queue = []; room = 0 })

  -- entry i is the first one of a group
  abbrev pub HasHead : ℕ → Type 0
  HasHead i = (g : ℕ) × (g < length n.streams) × (i ≡ (stream_at g).head)

  -- the number of known solutions of row r with its first c children
  abbrev pub known_of : ℕ → ℕ → ℕ
  known_of r zero = 1
  known_of r (suc c) = length (product_at r c).found

  -- the node with another product number c of row r
  abbrev pub with_product : ℕ → ℕ → ProductView R → NodeStreamsView R
  with_product r c p = record n
      { products = slice_set n.products r (slice_set (slice_index_or n.products r []) c p) }

  -- the node with another queue of group g, which has room for k more entries
  abbrev pub with_queue : ℕ → List (Entry R Source) → ℕ → NodeStreamsView R
  with_queue g q k = record n
      { streams = slice_set n.streams g (record (stream_at g) { queue = q; room = k }) }
