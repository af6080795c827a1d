-- The first solutions of the members of a group, and when they enter its queue.
use Rattle.std.specs.Prelude.{◌≡◌, ◌≢◌, ℕ, suc, ◌+◌, ◌-◌, ◌*◌, ◌<◌, ◌≤◌, ◌⊎◌, Option, Some, None, min, List, [], ◌∷◌, length, slice_index}
use Rattle.std.specs.List.Sorted.{IsPermutation}
use Rattle.take2_heap.specs.Order.{IsLeast}
use Rattle.take2_heap.specs.declared.entry.Entry.{Entry}
use Rattle.stream_store.specs.declared.linked.Linked.{Linked}
use Rattle.tdp_core.specs.TreeView.{NodeView, members, best, number, child_count, group_named}
use Rattle.tdp_model.specs.KeyTuple.{KeyOf}
use Rattle.suffix_streams.specs.Offers.{offers}
use Rattle.suffix_streams.specs.declared.cell.Cell.{Cell}
use Rattle.suffix_streams.specs.declared.source.Source.{Source}
use Rattle.suffix_streams.specs.declared.stream.Found.{Found}
use Rattle.suffix_streams.specs.Rankings.{child}
use Rattle.suffix_streams.specs.TreeStreams.{node_of, group_of, place_of, run_of}

-- the most first solutions that enter the queue of a group of n members at once
abbrev pub can_enter : ℕ → ℕ
can_enter n = min 2 (n - 1)

-- of the queue and what was offered, the least is given, and the others stay; none if there is nothing
abbrev pub IsGiven : {R : Type 0} (d : ℕ) → (R → KeyOf d 16) → Option (Entry R Source)
    → Option (Entry R Source) → Option (Entry R Source) → List (Entry R Source)
    → List (Entry R Source) → Option (Entry R Source) → Type 0
IsGiven d key next left right old new (Some e) =
    IsPermutation (offers next None (offers right None (offers left None old))) (e ∷ new)
    × IsLeast d key e new
IsGiven d key next left right old new None =
    (next ≡ None) × (left ≡ None) × (right ≡ None) × (old ≡ [])

-- the cell has the parts of the first solution of row r of node q with its first c + 1 children,
-- which are first solutions too
pub record IsFirstCell {R : Type 0} (t : List (NodeView R)) (es : List (Linked (Found R)))
    (q r c : ℕ) (cell : Cell) : Type 0 where
  pub left : cell.left ≡ 0
  pub right : cell.right < length es
  pub node : node_of es cell.right ≡ child t q c
  pub group : group_of es cell.right ≡ group_named t q r c
  pub place : place_of es cell.right ≡ 0

-- the cell has the parts of the first solution of row r of node q, if the node has children
abbrev pub HasFirstParts : {R : Type 0} → List (NodeView R) → List (Linked (Found R)) → ℕ → ℕ → Cell
    → Type 0
HasFirstParts t es q r cell = (c : ℕ) → child_count t q ≡ suc c → IsFirstCell t es q r c cell

module _ {R : Type 0} (d : ℕ) (key : R → KeyOf d 16) (t : List (NodeView R))
    (es : List (Linked (Found R))) (q g : ℕ) where
  -- e is the first solution of member j of group g of node q
  abbrev pub IsFirstOf : ℕ → Entry R Source → Type 0
  IsFirstOf j e = (run_of e.tag ≡ record { left = j; right = 0 })
      × (key e.rank ≡ best t d key q (slice_index (members t q g) j))
      × HasFirstParts t es q (slice_index (members t q g) j) e.tag.cell
      × (e.tag.row ≡ slice_index (members t q g) j)
      × (e.tag.number ≡ number t q (slice_index (members t q g) j))

  -- the first solution of member j, if there is one, and if the place passed, before this one, is 0
  abbrev pub IsFirstBelow : ℕ → ℕ → Option (Entry R Source) → Type 0
  IsFirstBelow place j (Some e) = (place ≡ 1) × (j < length (members t q g)) × IsFirstOf j e
  IsFirstBelow place j None = (place ≢ 1) ⊎ (length (members t q g) ≤ j)

  -- Member j's solution before `place` was the last one. The solution `next` was offered, if there is
  -- one, and the first solutions of the members below, if that one was j's first.
  abbrev pub AreFirstsGiven : ℕ → ℕ → Option (Entry R Source) → List (Entry R Source)
      → List (Entry R Source) → Option (Entry R Source) → Type 0
  AreFirstsGiven j place next old new given =
      (left : Option (Entry R Source)) × (right : Option (Entry R Source))
      × IsFirstBelow place (2 * j + 1) left × IsFirstBelow place (2 * j + 2) right
      × IsGiven d key next left right old new given
