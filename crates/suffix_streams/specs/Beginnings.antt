-- The streams of a tree while they are made.
use Rattle.std.specs.Prelude.{◌≡◌, ℕ, ◌<◌, ◌≤◌, None, cond, nat_lt, List, [], length, slice_index, slice_index_or}
use Rattle.stream_store.specs.declared.linked.Linked.{Linked}
use Rattle.tdp_core.specs.TreeView.{NodeView, group_count, child_count, rows}
use Rattle.tdp_model.specs.KeyTuple.{KeyOf, key_none}
use Rattle.suffix_streams.specs.Links.{owned}
use Rattle.suffix_streams.specs.declared.stream.Found.{Found}
use Rattle.suffix_streams.specs.NodeStreamsView.{NodeStreamsView}
use Rattle.suffix_streams.specs.Firsts.{IsFirstOf}
use Rattle.suffix_streams.specs.Rankings.{child, group_list}
use Rattle.suffix_streams.specs.TreeStreams.{open_rows, node_list, group_list_of, node_of, group_of, next_of, lists_of, stream_of, products_of, HasKey}

-- entry i has the first solution of the first member of group g of node q, which stands for all
abbrev pub HasFirst : {R : Type 0} (d : ℕ) → (R → KeyOf d 16) → List (NodeView R)
    → List (Linked (Found R)) → ℕ → ℕ → ℕ → Type 0
HasFirst {R} d key t es q g i = (x : Linked (Found R))
    → IsFirstOf d key t es q g 0 (slice_index_or es i x).value.solution

module _ {R : Type 0} (t : List (NodeView R)) where
  -- the children of node v in ascending order
  pub record AreChildren (v : ℕ) (children : List ℕ) : Type 0 where
    pub count : length children ≡ child_count t v
    pub each : (c : ℕ) → c < child_count t v → slice_index children c ≡ child t v c

  -- node v without streams and without products
  pub record IsEmptyNode (v : ℕ) (n : NodeStreamsView R) : Type 0 where
    pub children : AreChildren v n.children
    pub no_streams : n.streams ≡ []
    pub all_rows : length n.products ≡ open_rows (child_count t v) (rows t v)
    pub no_products : (r : ℕ) → slice_index_or n.products r [] ≡ []

module _ {R : Type 0} (d : ℕ) (key : R → KeyOf d 16) (t : List (NodeView R))
    (es : List (Linked (Found R))) (nodes : List (NodeStreamsView R)) where
  -- the stream of group g of node q has only its head
  pub record IsBegunAt (q g : ℕ) : Type 0 where
    pub head_in : (stream_of nodes q g).head < length es
    pub node : node_of es (stream_of nodes q g).head ≡ q
    pub group : group_of es (stream_of nodes q g).head ≡ g
    pub first : HasKey d key es (stream_of nodes q g).head
        (slice_index_or (group_list d key t q g) 0 (key_none d 16))
    pub only : HasFirst d key t es q g (stream_of nodes q g).head
    pub empty : (stream_of nodes q g).queue ≡ []

  -- the streams that are there have only their heads, and no row has products
  pub record IsBegun : Type 0 where
    pub all_nodes : length nodes ≡ length t
    pub children : (v : ℕ) → v < length t → AreChildren t v (lists_of nodes v).children
    pub all_rows : (v : ℕ) → v < length t
        → length (lists_of nodes v).products ≡ open_rows (child_count t v) (rows t v)
    pub no_products : (v r : ℕ) → products_of nodes v r ≡ []
    pub few_streams : (v : ℕ) → v < length t → length (lists_of nodes v).streams ≤ group_count t v
    pub no_links : (i : ℕ) → next_of es i ≡ None
    pub owners : (i : ℕ) → i < length es
        → (node_of es i < length t)
        × (group_of es i < length (lists_of nodes (node_of es i)).streams)
    pub counted : (q g : ℕ)
        → owned (node_list es) (group_list_of es) q g
        ≡ cond (nat_lt g (length (lists_of nodes q).streams)) 1 0
    pub begun : (q g : ℕ) → q < length t → g < length (lists_of nodes q).streams → IsBegunAt q g

  -- all streams of node v and of later nodes are there, and none of earlier nodes
  pub record IsBegunFrom (v : ℕ) : Type 0 where
    pub streams : IsBegun
    pub behind : (q : ℕ) → v ≤ q → q < length t
        → length (lists_of nodes q).streams ≡ group_count t q
    pub before : (q : ℕ) → q < v → (lists_of nodes q).streams ≡ []

  -- the first g streams of node v are there, all streams of later nodes, and none of earlier nodes
  pub record IsBegunIn (v g : ℕ) : Type 0 where
    pub streams : IsBegun
    pub behind : (q : ℕ) → v < q → q < length t
        → length (lists_of nodes q).streams ≡ group_count t q
    pub own : length (lists_of nodes v).streams ≡ g
    pub before : (q : ℕ) → q < v → (lists_of nodes q).streams ≡ []
