-- The last entry of a stream, and what follows it in its row.
use Rattle.std.specs.Prelude.{◌≡◌, ◌≢◌, ℕ, suc, ◌+◌, ◌<◌, ◌≤◌, Option, None, IfNone, IfSome, List, length, slice_index, slice_index_or}
use Rattle.take2_heap.specs.declared.entry.Entry.{Entry}
use Rattle.stream_store.specs.declared.linked.Linked.{Linked}
use Rattle.tdp_model.specs.KeyTuple.{KeyOf, key_none}
use Rattle.tdp_core.specs.TreeView.{NodeView, members, rows, child_count, number as row_number}
use Rattle.suffix_streams.specs.declared.source.Source.{Source}
use Rattle.suffix_streams.specs.declared.stream.Found.{Found}
use Rattle.suffix_streams.specs.Rankings.{part_list}
use Rattle.suffix_streams.specs.TreeStreams.{HasOwnParts, IsSumOf, node_of, group_of, place_of, next_of, products_of, row_known}
use Rattle.suffix_streams.specs.NodeStreamsView.{NodeStreamsView}

-- entry i is of group g of node v, and no entry is known to follow it
pub record IsLast {R : Type 0} (es : List (Linked (Found R))) (i v g : ℕ) : Type 0 where
  pub within : i < length es
  pub node : node_of es i ≡ v
  pub group : group_of es i ≡ g
  pub none : next_of es i ≡ None

-- the last solution of group g of node v: one of a row of the group, which is open if the node has
-- several children
pub record IsRowTop {R : Type 0} (d : ℕ) (key : R → KeyOf d 16) (t : List (NodeView R))
    (es : List (Linked (Found R))) (nodes : List (NodeStreamsView R)) (v g : ℕ)
    (top : Entry R Source) : Type 0 where
  pub node : v < length t
  pub row : top.tag.row < rows t v
  pub member : top.tag.row ≡ slice_index (members t v g) top.tag.member
  pub number : top.tag.number ≡ row_number t v top.tag.row
  pub parts : HasOwnParts d key t es nodes v g top.tag
  pub within : top.tag.place < length (part_list d key t v top.tag.row (child_count t v))
  pub rank : key top.rank
      ≡ slice_index_or (part_list d key t v top.tag.row (child_count t v)) top.tag.place
      (key_none d 16)
  pub known : child_count t v ≢ 1 → top.tag.place < row_known nodes v top.tag.row
  pub opened : child_count t v ≢ 1 → length (products_of nodes v top.tag.row) ≡ child_count t v

-- the solution of a row of node v after the one of this source, or none if that is the row's last
pub record IsRowNext {R : Type 0} (d : ℕ) (key : R → KeyOf d 16) (t : List (NodeView R))
    (es : List (Linked (Found R))) (nodes : List (NodeStreamsView R)) (v : ℕ) (s : Source)
    (next : Option (Entry R Source)) : Type 0 where
  pub none : IfNone next (length (part_list d key t v s.row (child_count t v)) ≤ s.place + 1)
  pub source : IfSome next (λ e. (e.tag.member ≡ s.member) × (e.tag.place ≡ s.place + 1)
      × (e.tag.row ≡ s.row) × (e.tag.number ≡ s.number))
  pub within : IfSome next
      (λ e. s.place + 1 < length (part_list d key t v s.row (child_count t v)))
  pub known : IfSome next (λ e. child_count t v ≢ 1 → s.place + 1 < row_known nodes v s.row)
  pub parts : IfSome next (λ e. (c : ℕ) → child_count t v ≡ suc c
      → IsSumOf d key t es nodes v s.row c (s.place + 1) e.tag.cell)
  pub alone : IfSome next
      (λ e. child_count t v ≡ 1 → place_of es e.tag.cell.right ≡ s.place + 1)
  pub key_is : IfSome next (λ e. key e.rank
      ≡ slice_index_or (part_list d key t v s.row (child_count t v)) (s.place + 1)
      (key_none d 16))
