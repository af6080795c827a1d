-- The streams of a tree as contracts see them: one store of entries, and the data of each node.
use Rattle.std.specs.Prelude.{◌≡◌, ◌≢◌, ℕ, zero, suc, ◌+◌, ◌-◌, ◌^◌, ◌<◌, ◌≤◌, Option, Some, None, cond, nat_eq, List, [], ◌∷◌, map, length, slice_index, slice_index_or}
use Rattle.std.specs.List.{All}
use Rattle.take2_heap.specs.Order.{IsLeast}
use Rattle.take2_heap.specs.declared.entry.Entry.{Entry}
use Rattle.stream_store.specs.declared.linked.Linked.{Linked}
use Rattle.tdp_core.specs.TreeView.{NodeView, members, group_named, child_count, group_count, rows, number}
use Rattle.tdp_core.specs.WellFormed.{IsFormed}
use Rattle.rank_key.specs.Keys.{KeyFits}
use Rattle.tdp_model.specs.KeyTuple.{KeyOf, key_add, key_none}
use Rattle.tdp_model.specs.Product.{Pair, pair_key}
use Rattle.suffix_streams.specs.Links.{place_in, IsLinked}
use Rattle.suffix_streams.specs.declared.cell.Cell.{Cell}
use Rattle.suffix_streams.specs.declared.source.Source.{Source}
use Rattle.suffix_streams.specs.declared.stream.Found.{Found}
use Rattle.suffix_streams.specs.ProductView.{ProductView}
use Rattle.suffix_streams.specs.StreamView.{StreamView}
use Rattle.suffix_streams.specs.NodeStreamsView.{NodeStreamsView, product_at, stream_at, known_of}
use Rattle.suffix_streams.specs.Rankings.{child, part_list, group_list}
use Rattle.suffix_streams.specs.Frontiers.{AreFirstBy, IsFrontier, IsMerge}

-- # The store

module _ {R : Type 0} (es : List (Linked (Found R))) where
  -- the owner of each entry
  abbrev pub node_list : List ℕ
  node_list = map (λ e. e.value.node) es

  abbrev pub group_list_of : List ℕ
  group_list_of = map (λ e. e.value.group) es

  abbrev pub next_list : List (Option ℕ)
  next_list = map (λ e. e.next) es

  abbrev pub node_of : ℕ → ℕ
  node_of i = slice_index node_list i

  abbrev pub group_of : ℕ → ℕ
  group_of i = slice_index group_list_of i

  -- the place of entry i in its stream
  abbrev pub place_of : ℕ → ℕ
  place_of i = place_in node_list group_list_of i

  -- the entry after entry i, if one was linked
  abbrev pub next_of : ℕ → Option ℕ
  next_of i = slice_index_or next_list i None

-- the stream of group g of node q: its solutions, in the order in which they were found
unfoldable pub stream : {R : Type 0} → List (Linked (Found R)) → ℕ → ℕ → List (Entry R Source)
stream [] q g = []
stream (e ∷ es) q g = cond (nat_eq e.value.node q)
    (cond (nat_eq e.value.group g) (e.value.solution ∷ stream es q g) (stream es q g))
    (stream es q g)

-- the last of a list, if there is one, before the others
abbrev pub with_last : {A : Type 0} → List A → List A → List A
with_last [] others = others
with_last (x ∷ []) others = x ∷ others
with_last (x ∷ (y ∷ xs)) others = with_last (y ∷ xs) others

-- the number of entries in the streams of node q
unfoldable pub node_size : {R : Type 0} → List (Linked (Found R)) → ℕ → ℕ
node_size [] q = 0
node_size (e ∷ es) q = cond (nat_eq e.value.node q) 1 0 + node_size es q

-- # The data of each node

-- the number of rows, of n, whose products can be kept, if a row has k children: none, unless it has
-- several
abbrev pub open_rows : ℕ → ℕ → ℕ
open_rows zero n = 0
open_rows (suc zero) n = 0
open_rows (suc (suc k)) n = n

module _ {R : Type 0} (nodes : List (NodeStreamsView R)) where
  abbrev pub lists_of : ℕ → NodeStreamsView R
  lists_of v = slice_index_or nodes v (record { children = []; streams = []; products = [] })

  abbrev pub products_of : ℕ → ℕ → List (ProductView R)
  products_of v r = slice_index_or (lists_of v).products r []

  abbrev pub product_of : ℕ → ℕ → ℕ → ProductView R
  product_of v r c = product_at (lists_of v) r c

  abbrev pub stream_of : ℕ → ℕ → StreamView R
  stream_of q g = stream_at (lists_of q) g

  -- the number of known solutions of row r of node v with its first c children
  abbrev pub part_known : ℕ → ℕ → ℕ → ℕ
  part_known v r c = known_of (lists_of v) r c

  -- the number of known solutions of row r of node v: those of its last product, or only the first
  abbrev pub row_known : ℕ → ℕ → ℕ
  row_known v r = part_known v r (length (products_of v r))

-- the places that entries of queues stand for
abbrev pub pair_of : {R : Type 0} → List (Linked (Found R)) → Cell → Pair
pair_of es c = record { left = c.left; right = place_of es c.right }

abbrev pub run_of : Source → Pair
run_of s = record { left = s.member; right = s.place }

-- the product keeps the rank of each of its solutions, which are the first of the ranking ks
abbrev pub KeepsRanks : {R : Type 0} (d : ℕ) → (R → KeyOf d 16) → List (KeyOf d 16) → ProductView R
    → Type 0
KeepsRanks d key ks p = (length p.ranks ≡ length p.found) × AreFirstBy d key p.ranks ks

-- the ranks of the known solutions of row r of node v with its first c children are in their
-- product; with no child there is one solution, whose rank is the row's
abbrev pub AreLefts : {R : Type 0} (d : ℕ) (key : R → KeyOf d 16) → List (NodeView R)
    → List (NodeStreamsView R) → ℕ → ℕ → ℕ → Type 0
AreLefts d key t nodes v r zero = Unit {0}
AreLefts d key t nodes v r (suc c) = KeepsRanks d key (part_list d key t v r (suc c))
    (product_of nodes v r c)

-- the solution that entry i stands for has this key
abbrev pub HasKey : {R : Type 0} (d : ℕ) → (R → KeyOf d 16) → List (Linked (Found R)) → ℕ
    → KeyOf d 16 → Type 0
HasKey {R} d key es i k = (x : Linked (Found R))
    → key (slice_index_or es i x).value.solution.rank ≡ k

-- # The parts of a solution

-- The solution at this place, of row r of node v with its first c children, is known. Of a row
-- without products it is the first one.
pub record IsKnownPart {R : Type 0} (nodes : List (NodeStreamsView R))
    (v r c place : ℕ) : Type 0 where
  pub found : 0 < length (products_of nodes v r) → place < part_known nodes v r c
  pub first : length (products_of nodes v r) ≡ 0 → place ≡ 0

-- the solution at this place, of row r of node v with its first c + 1 children, is the sum of the
-- cell's parts
pub record IsSumOf {R : Type 0} (d : ℕ) (key : R → KeyOf d 16) (t : List (NodeView R))
    (es : List (Linked (Found R))) (nodes : List (NodeStreamsView R)) (v r c place : ℕ)
    (cell : Cell) : Type 0 where
  pub left : IsKnownPart nodes v r c cell.left
  pub right : cell.right < length es
  pub node : node_of es cell.right ≡ child t v c
  pub group : group_of es cell.right ≡ group_named t v r c
  pub sum : slice_index_or (part_list d key t v r (c + 1)) place (key_none d 16)
      ≡ key_add d 16 (slice_index_or (part_list d key t v r c) cell.left (key_none d 16))
      (slice_index_or (group_list d key t (child t v c) (group_named t v r c))
      (place_of es cell.right) (key_none d 16))

-- the source, of a solution of group g of node q, has its member's row and that row's number, and
-- its cell has the parts of the solution, if the node has children; if it has one, the solution's
-- place is that of the child's entry
abbrev pub HasOwnParts : {R : Type 0} (d : ℕ) → (R → KeyOf d 16) → List (NodeView R)
    → List (Linked (Found R)) → List (NodeStreamsView R) → ℕ → ℕ → Source → Type 0
HasOwnParts d key t es nodes q g s = (s.row ≡ slice_index (members t q g) s.member)
    × (s.number ≡ number t q (slice_index (members t q g) s.member))
    × ((c : ℕ) → child_count t q ≡ suc c
    → IsSumOf d key t es nodes q (slice_index (members t q g) s.member) c s.place s.cell)
    × (child_count t q ≡ 1 → place_of es s.cell.right ≡ s.place)

-- # The invariants

module _ {R : Type 0} (d : ℕ) (key : R → KeyOf d 16) (t : List (NodeView R))
    (es : List (Linked (Found R))) (nodes : List (NodeStreamsView R)) where
  -- The stream of group g of node q is a prefix of the group's ranking. Its queue, with the last
  -- solution of the stream, has the rest, and nothing in it is before that one.
  pub record IsStreamOf (q g : ℕ) : Type 0 where
    pub head_in : (stream_of nodes q g).head < length es
    pub head_node : node_of es (stream_of nodes q g).head ≡ q
    pub head_group : group_of es (stream_of nodes q g).head ≡ g
    pub head_place : place_of es (stream_of nodes q g).head ≡ 0
    pub few : length (stream_of nodes q g).queue < length (members t q g)
    pub least : (e : Entry R Source)
        → e ≡ slice_index_or (stream es q g) (length (stream es q g) - 1) e
        → IsLeast d key e (stream_of nodes q g).queue
    pub known : child_count t q ≢ 1 → All (λ e. e.tag.place
        < row_known nodes q (slice_index (members t q g) e.tag.member)) (stream_of nodes q g).queue
    pub found_known : child_count t q ≢ 1 → All (λ e. e.tag.place
        < row_known nodes q (slice_index (members t q g) e.tag.member)) (stream es q g)
    pub parts : All (λ e. HasOwnParts d key t es nodes q g e.tag) (stream_of nodes q g).queue
    pub found_parts : All (λ e. HasOwnParts d key t es nodes q g e.tag) (stream es q g)
    pub merge : IsMerge d key run_of (length (members t q g))
        (λ i. part_list d key t q (slice_index (members t q g) i) (child_count t q))
        (group_list d key t q g) (stream es q g)
        (with_last (stream es q g) (stream_of nodes q g).queue)

  -- product number c of row r of node v: the sums of the row's solutions with its first c children
  -- and of the next child's solutions
  pub record IsProductOf (v r c : ℕ) : Type 0 where
    pub few : length (product_of nodes v r c).frontier ≤ 2 ^ 64
    pub known : All (λ e. (e.tag.left < part_known nodes v r c) × (e.tag.right < length es)
        × (node_of es e.tag.right ≡ child t v c) × (group_of es e.tag.right ≡ group_named t v r c))
        (product_of nodes v r c).frontier
    pub found_known : All (λ x. (x.left < part_known nodes v r c) × (x.right < length es)
        × (node_of es x.right ≡ child t v c) × (group_of es x.right ≡ group_named t v r c))
        (product_of nodes v r c).found
    pub sums : IsFrontier d key (pair_of es) (part_list d key t v r c)
        (group_list d key t (child t v c) (group_named t v r c)) (part_list d key t v r (suc c))
        (product_of nodes v r c).found (product_of nodes v r c).frontier
    pub ranked : suc c < child_count t v
        → KeepsRanks d key (part_list d key t v r (suc c)) (product_of nodes v r c)

  pub record IsStreams : Type 0 where
    pub tree : IsFormed d key t
    pub all_nodes : length nodes ≡ length t
    pub all_children : (v : ℕ) → v < length t → length (lists_of nodes v).children ≡ child_count t v
    pub children : (v c : ℕ) → v < length t → c < child_count t v
        → slice_index (lists_of nodes v).children c ≡ child t v c
    pub all_streams : (v : ℕ) → v < length t → length (lists_of nodes v).streams ≡ group_count t v
    pub all_rows : (v : ℕ) → v < length t
        → length (lists_of nodes v).products ≡ open_rows (child_count t v) (rows t v)
    pub whole_rows : (v r : ℕ) → v < length t → r < rows t v → 0 < length (products_of nodes v r)
        → length (products_of nodes v r) ≡ child_count t v
    pub owners : (i : ℕ) → i < length es
        → (node_of es i < length t) × (group_of es i < group_count t (node_of es i))
    pub linked : IsLinked (node_list es) (group_list_of es) (next_list es)
    pub streams : (q g : ℕ) → q < length t → g < group_count t q → IsStreamOf q g
    pub products : (v r c : ℕ) → v < length t → r < rows t v → c < length (products_of nodes v r)
        → IsProductOf v r c

  -- # What is read while an object changes

  -- the groups that row r of node v names have heads
  pub record IsHeaded (v r : ℕ) : Type 0 where
    pub all_nodes : length nodes ≡ length t
    pub all_children : length (lists_of nodes v).children ≡ child_count t v
    pub children : (c : ℕ) → c < child_count t v
        → slice_index (lists_of nodes v).children c ≡ child t v c
    pub streams : (c : ℕ) → c < child_count t v
        → group_named t v r c < length (lists_of nodes (child t v c)).streams
    pub heads : (c : ℕ) → c < child_count t v
        → (stream_of nodes (child t v c) (group_named t v r c)).head < length es
    pub owners : (c : ℕ) → c < child_count t v
        → (node_of es (stream_of nodes (child t v c) (group_named t v r c)).head ≡ child t v c)
        × (group_of es (stream_of nodes (child t v c) (group_named t v r c)).head
        ≡ group_named t v r c)
    pub places : (c : ℕ) → c < child_count t v
        → place_of es (stream_of nodes (child t v c) (group_named t v r c)).head ≡ 0
    pub keys : (c : ℕ) → c < child_count t v
        → HasKey d key es (stream_of nodes (child t v c) (group_named t v r c)).head
        (slice_index_or (group_list d key t (child t v c) (group_named t v r c)) 0 (key_none d 16))

  -- the parts of the sums of product number c of row r of node v
  pub record HasParts (v r c : ℕ) : Type 0 where
    pub node : v < length nodes
    pub count : c ≤ length (products_of nodes v r)
    pub lefts : AreLefts d key t nodes v r c
    pub rights : (i : ℕ) → i < length es → node_of es i ≡ child t v c
        → group_of es i ≡ group_named t v r c
        → (place_of es i < length (group_list d key t (child t v c) (group_named t v r c)))
        × HasKey d key es i
        (slice_index_or (group_list d key t (child t v c) (group_named t v r c)) (place_of es i)
        (key_none d 16))
    pub fits : (i j : ℕ) → i < length (part_list d key t v r c)
        → j < length (group_list d key t (child t v c) (group_named t v r c))
        → KeyFits d key (key_add d 16 (slice_index_or (part_list d key t v r c) i (key_none d 16))
        (slice_index_or (group_list d key t (child t v c) (group_named t v r c)) j (key_none d 16)))

  -- the cell has a known solution and an entry of the child's stream
  pub record IsCell (v r c : ℕ) (cell : Cell) : Type 0 where
    pub left : cell.left < part_known nodes v r c
    pub right : cell.right < length es
    pub node : node_of es cell.right ≡ child t v c
    pub group : group_of es cell.right ≡ group_named t v r c

-- the cell, if there is one, with the key of its sum
abbrev pub IsOffer : {R : Type 0} (d : ℕ) (key : R → KeyOf d 16) → List (NodeView R)
    → List (Linked (Found R)) → ℕ → ℕ → ℕ → Option Cell → Option (Entry R Cell) → Type 0
IsOffer d key t es v r c None None = Unit {0}
IsOffer d key t es v r c None (Some e) = ⊥
IsOffer d key t es v r c (Some x) None = ⊥
IsOffer d key t es v r c (Some x) (Some e) =
    (e.tag ≡ x) × (key e.rank
    ≡ pair_key (key_add d 16) (key_none d 16) (part_list d key t v r c)
    (group_list d key t (child t v c) (group_named t v r c)) (pair_of es x))

-- The product begins with the first solution of row r of node v with its first c + 1 children. It
-- keeps its rank if it is not the last product of the row.
abbrev pub IsFreshAt : {R : Type 0} (d : ℕ) (key : R → KeyOf d 16) → List (NodeView R)
    → List (NodeStreamsView R) → ℕ → ℕ → ℕ → ProductView R → Type 0
IsFreshAt {R} d key t nodes v r c p =
    (e : Entry R Cell) × (p.found ≡ e.tag ∷ []) × (p.frontier ≡ e ∷ [])
    × (e.tag ≡ record {
      left = 0;
      right = (stream_of nodes (child t v c) (group_named t v r c)).head;
    })
    × (key e.rank ≡ slice_index_or (part_list d key t v r (suc c)) 0 (key_none d 16))
    × (suc c < child_count t v → p.ranks ≡ e.rank ∷ [])

-- n products that begin with the first solutions of row r of node v
pub record AreFreshTo {R : Type 0} (d : ℕ) (key : R → KeyOf d 16) (t : List (NodeView R))
    (nodes : List (NodeStreamsView R)) (v r n : ℕ) (products : List (ProductView R)) : Type 0 where
  pub count : length products ≡ n
  pub first : (c : ℕ) (p : ProductView R) → c < n
      → IsFreshAt d key t nodes v r c (slice_index_or products c p)
