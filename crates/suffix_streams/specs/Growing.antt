-- What calls do to the streams.
use Rattle.std.specs.Prelude.{◌≡◌, ℕ, zero, suc, ◌+◌, ◌<◌, ◌≤◌, ◌⊎◌, Option, Some, None, max, List, length, slice_set, slice_index_or}
use Rattle.stream_store.specs.declared.linked.Linked.{Linked}
use Rattle.rank_key.specs.Bits.{bit_length}
use Rattle.tdp_core.specs.TreeView.{NodeView, parent, members}
use Rattle.tdp_model.specs.KeyTuple.{KeyOf}
use Rattle.tdp_model.specs.Below.{is_below}
use Rattle.tdp_model.specs.TreeProblem.{sum_from}
use Rattle.suffix_streams.specs.declared.stream.Found.{Found}
use Rattle.suffix_streams.specs.NodeStreamsView.{NodeStreamsView, with_product}
use Rattle.suffix_streams.specs.Rankings.{child, part_list, group_list}
use Rattle.suffix_streams.specs.TreeStreams.{node_of, group_of, place_of, next_of, node_size, lists_of, products_of, product_of, part_known}

-- All entries stay, with their values, places and links. Entries of nodes before q get no new
-- links.
pub record IsStoreGrown {R : Type 0} (q : ℕ) (es es' : List (Linked (Found R))) : Type 0 where
  pub longer : length es ≤ length es'
  pub values : (i : ℕ) (x : Linked (Found R)) → i < length es
      → (slice_index_or es' i x).value ≡ (slice_index_or es i x).value
  pub nodes : (i : ℕ) → i < length es → node_of es' i ≡ node_of es i
  pub groups : (i : ℕ) → i < length es → group_of es' i ≡ group_of es i
  pub places : (i : ℕ) → i < length es → place_of es' i ≡ place_of es i
  pub links : (i n : ℕ) → next_of es i ≡ Some n → next_of es' i ≡ Some n
  pub above : (i : ℕ) → i < length es → node_of es i < q → next_of es' i ≡ next_of es i

-- The effect of a call at node q. The nodes before q are as they were, and the streams of each node
-- from q down are longer by at most one entry.
pub record IsGrown {R : Type 0} (parent : ℕ → ℕ) (q : ℕ) (es : List (Linked (Found R)))
    (nodes : List (NodeStreamsView R)) (es' : List (Linked (Found R)))
    (nodes' : List (NodeStreamsView R)) : Type 0 where
  pub store : IsStoreGrown q es es'
  pub above : (v : ℕ) → v < q → lists_of nodes' v ≡ lists_of nodes v
  pub growth : (v : ℕ) → node_size es' v ≤ node_size es v + is_below parent q v

-- A queue of a product gets at most `more v` more entries at node v. A queue that is made has one
-- entry.
abbrev pub AreQueuesGrown : {R : Type 0} → (ℕ → ℕ) → List (NodeStreamsView R)
    → List (NodeStreamsView R)
    → Type 0
AreQueuesGrown more nodes nodes' =
    (v r c : ℕ) → length (product_of nodes' v r c).frontier
    ≤ max 1 (length (product_of nodes v r c).frontier) + more v

-- the entry after entry i is known, or the stream that ends with i is the whole ranking
abbrev pub IsAnswered : {R : Type 0} (d : ℕ) (key : R → KeyOf d 16) → List (NodeView R)
    → List (Linked (Found R)) → ℕ → Option ℕ → Type 0
IsAnswered d key t es i (Some n) = next_of es i ≡ Some n
IsAnswered d key t es i None = length (group_list d key t (node_of es i) (group_of es i))
    ≡ place_of es i + 1

-- the number of the first c children of node v that have node w below them
abbrev pub below_kids : {R : Type 0} → List (NodeView R) → ℕ → ℕ → ℕ → ℕ
below_kids t v zero w = 0
below_kids t v (suc c) w = below_kids t v c w + is_below (parent t) (child t v c) w

-- the solution at this place, of row r of node v with its first c children, is known, or there is
-- none
abbrev pub IsReached : {R : Type 0} (d : ℕ) (key : R → KeyOf d 16) → List (NodeView R)
    → List (NodeStreamsView R) → ℕ → ℕ → ℕ → ℕ → Type 0
IsReached d key t nodes v r c place = (place < part_known nodes v r c)
    ⊎ (length (part_list d key t v r c) ≤ place)

-- The effect of a search in row r of node v with its first c children. Other rows of node v, later
-- products and streams are as they were.
pub record IsExtended {R : Type 0} (t : List (NodeView R)) (v r c : ℕ)
    (es : List (Linked (Found R))) (nodes : List (NodeStreamsView R))
    (es' : List (Linked (Found R)))
    (nodes' : List (NodeStreamsView R)) : Type 0 where
  pub store : IsStoreGrown (suc v) es es'
  pub above : (w : ℕ) → w < v → lists_of nodes' w ≡ lists_of nodes w
  pub streams : (lists_of nodes' v).streams ≡ (lists_of nodes v).streams
  pub count : length (products_of nodes' v r) ≡ length (products_of nodes v r)
  pub later : (k : ℕ) → c ≤ k → product_of nodes' v r k ≡ product_of nodes v r k
  pub growth : (w : ℕ) → node_size es' w ≤ node_size es w + below_kids t v c w

-- the number of nodes from node q down
abbrev pub subtree_size : {R : Type 0} → List (NodeView R) → ℕ → ℕ
subtree_size t q = sum_from ◌+◌ 0 (is_below (parent t) q) (length t) 0

-- the number of nodes from the first c children of node v down
abbrev pub kids_size : {R : Type 0} → List (NodeView R) → ℕ → ℕ → ℕ
kids_size t v c = sum_from ◌+◌ 0 (below_kids t v c) (length t) 0

-- The step bound of a call. The queues of products of the nodes in question have at most k entries,
-- and k + 1 and one more than the members of a group have at most b binary digits.
abbrev pub IsWithinSteps : {R : Type 0} → List (NodeView R) → List (NodeStreamsView R) → (ℕ → ℕ)
    → (ℕ → ℕ)
    → ℕ → ℕ → Type 0
IsWithinSteps t nodes visited share old new =
    (k b : ℕ) → 1 ≤ k → bit_length (k + 1) ≤ b
    → ((v g : ℕ) → bit_length (length (members t v g) + 1) ≤ b)
    → ((v r c : ℕ) → 0 < visited v → length (product_of nodes v r c).frontier ≤ k)
    → new ≤ old + share b

-- the nodes are as they were, except for product number c of row r of node v
abbrev pub HasOtherProduct : {R : Type 0} → List (NodeStreamsView R) → ℕ → ℕ → ℕ
    → List (NodeStreamsView R)
    → Type 0
HasOtherProduct nodes v r c nodes' = nodes'
    ≡ slice_set nodes v (with_product (lists_of nodes v) r c (product_of nodes' v r c))
