-- The rows of a query's nodes, with the bounds of their groups.
use Rattle.std.specs.Prelude.{◌≡◌, ◌↔◌, ℕ, ◌<◌, suc, List, [], Option, None, Some, Ok, length, map, slice_index_or}
use Rattle.rankings.specs.Order.{IsAscending}
use Rattle.anyk_model.specs.Table.{Table}
use Rattle.anyk_model.specs.Query.{Query}
use Rattle.join_tree.specs.declared.tree.JoinTree.{JoinTree}
use Rattle.bound_query.specs.Shape.{IsShape, Shape}
use Rattle.tdp_model.specs.KeyTuple.{KeyOf, key_none}
use Rattle.tdp_core.specs.RawView.{RawView, child_link, own_link, raw_len, raw_number, raw_rank, rows_at}
use Rattle.tdp_core.specs.RawView.{shape_child_place, shape_item, shape_parent}
use Rattle.proof_model.specs.Certificate.{Certificate}
use Rattle.proof_model.specs.Problem.{IsSolutionAt}
use Rattle.proof_model.specs.QueryProblem.{problem_in}
use Rattle.proof_model.specs.Valid.{IsBoundOf, Serves, StandsFor, bound_at, bound_key, bound_row}
use Rattle.proof_model.specs.Wide.{wide}
use Rattle.proof_check.specs.declared.bounded.NodeBounds.{NodeBounds}

-- rows in nodes, and for each node its bounds
pub record BoundedView (R : Type 0) : Type 0 where
  pub raw : RawView R
  pub bounds : List (NodeBounds R)

module _ {R : Type 0} (tree : BoundedView R) where
  -- the number of the bound of the group of row i of node v, if it has one
  abbrev pub own_bound : ℕ → ℕ → Option ℕ
  own_bound v i = slice_index_or (slice_index_or (map (λ b. b.own.items) tree.bounds) v []) i None

  -- the number of the bound of the group of node q that row r of its parent names, if it has one
  abbrev pub named_bound : ℕ → ℕ → Option ℕ
  named_bound q r = slice_index_or
      (slice_index_or (map (λ b. b.named.items) tree.bounds) q []) r None

  -- the ranks of the bounds of node v
  abbrev pub bound_ranks : ℕ → List R
  bound_ranks v = slice_index_or (map (λ b. b.ranks.items) tree.bounds) v []

  module _ (d : ℕ) (key : R → KeyOf d 16) where
    -- the key of bound b of node v
    abbrev pub rank_of_bound : ℕ → ℕ → KeyOf d 16
    rank_of_bound v b = slice_index_or (map key (bound_ranks v)) b (key_none d 16)

-- a key of a query, with room for `d` sums
abbrev pub query_key : (query : Query) (d : ℕ) → KeyOf (length query.order) 16 → KeyOf d 16
query_key query d k = wide (length query.order) d 16 k

module _ (query : Query) (tables : List Table) (join : JoinTree) (d : ℕ) where
  -- a raw tree has exactly the rows of the query's problem, those of a node in ascending order, and
  -- its links are the groups of the problem
  pub record HasProblemRows {R : Type 0} (key : R → KeyOf d 16) (raw : RawView R) : Type 0 where
    pub nodes : length raw.shapes ≡ (problem_in query tables join).nodes
    pub parents : (v : ℕ) → v < (problem_in query tables join).nodes
        → shape_parent raw.shapes v ≡ (problem_in query tables join).parent v
    pub items : (v : ℕ) → v < (problem_in query tables join).nodes
        → shape_item raw.shapes v ≡ (problem_in query tables join).item v
    pub ascending : (v : ℕ) → v < (problem_in query tables join).nodes
        → IsAscending (λ a b. a < b) (map (λ x. x.row.row) (rows_at raw v))
    pub is_row : (v i : ℕ) → v < (problem_in query tables join).nodes → i < raw_len raw v
        → (problem_in query tables join).IsRow v (raw_number raw v i)
    pub every_row : (v row : ℕ) → v < (problem_in query tables join).nodes
        → (problem_in query tables join).IsRow v row
        → (i : ℕ) × (i < raw_len raw v) × (raw_number raw v i ≡ row)
    pub keys : (v i : ℕ) → v < (problem_in query tables join).nodes → i < raw_len raw v
        → raw_rank raw d key v i
        ≡ query_key query d ((problem_in query tables join).key v (raw_number raw v i))
    -- a row has the link that a row of its parent names exactly if it fits below that row
    pub fits : (q r i : ℕ) → 0 < q → q < (problem_in query tables join).nodes
        → r < raw_len raw ((problem_in query tables join).parent q) → i < raw_len raw q
        → (own_link raw q i
        ≡ child_link raw ((problem_in query tables join).parent q) r
        (shape_child_place raw.shapes q))
        ↔ (problem_in query tables join).Fits q
        (raw_number raw ((problem_in query tables join).parent q) r)
        (raw_number raw q i)
    -- two rows of a node have one link exactly if they are in one group
    pub grouped : (q i j : ℕ) → 0 < q → q < (problem_in query tables join).nodes → i < raw_len raw q
        → j < raw_len raw q
        → (own_link raw q i ≡ own_link raw q j)
        ↔ (problem_in query tables join).IsGrouped q (raw_number raw q i) (raw_number raw q j)

  -- Each bound line has a number at its node, and each row has the numbers of the bounds of its own
  -- group and of those that it names. The lines are solutions of their subtrees, and no group has
  -- two.
  pub record IsBounded {R : Type 0} (key : R → KeyOf d 16) (c : Certificate)
      (tree : BoundedView R) : Type 0 where
    pub rows : HasProblemRows key tree.raw
    pub shape : Shape
    pub is_shape : IsShape query tables (Ok shape)
    pub each_node : length tree.bounds ≡ (problem_in query tables join).nodes
    -- the line of bound b of node v, by its place
    pub line : ℕ → ℕ → ℕ
    pub is_bound : (v b : ℕ) → v < (problem_in query tables join).nodes
        → b < length (bound_ranks tree v)
        → IsBoundOf (problem_in query tables join) c v (line v b)
    pub ranks : (v b : ℕ) → v < (problem_in query tables join).nodes
        → b < length (bound_ranks tree v)
        → rank_of_bound tree d key v b
        ≡ query_key query d (bound_key (problem_in query tables join) c v (line v b))
    -- no line has two numbers
    pub one_number : (v a b : ℕ) → v < (problem_in query tables join).nodes
        → a < length (bound_ranks tree v)
        → b < length (bound_ranks tree v) → line v a ≡ line v b → a ≡ b
    pub own_length : (v : ℕ) → v < (problem_in query tables join).nodes
        → length (slice_index_or (map (λ b. b.own.items) tree.bounds) v []) ≡ raw_len tree.raw v
    pub own_is : (v i b : ℕ) → v < (problem_in query tables join).nodes → i < raw_len tree.raw v
        → own_bound tree v i ≡ Some b
        → (b < length (bound_ranks tree v))
        × StandsFor (problem_in query tables join) c v (raw_number tree.raw v i) (line v b)
    pub own_every : (v i j : ℕ) → v < (problem_in query tables join).nodes → i < raw_len tree.raw v
        → StandsFor (problem_in query tables join) c v (raw_number tree.raw v i) j
        → (b : ℕ) × (own_bound tree v i ≡ Some b) × (line v b ≡ j)
    pub named_length : (q : ℕ) → 0 < q → q < (problem_in query tables join).nodes
        → length (slice_index_or (map (λ b. b.named.items) tree.bounds) q [])
        ≡ raw_len tree.raw ((problem_in query tables join).parent q)
    pub named_is : (q r b : ℕ) → 0 < q → q < (problem_in query tables join).nodes
        → r < raw_len tree.raw ((problem_in query tables join).parent q)
        → named_bound tree q r ≡ Some b
        → (b < length (bound_ranks tree q))
        × Serves (problem_in query tables join) c q
        (raw_number tree.raw ((problem_in query tables join).parent q) r) (line q b)
    pub named_every : (q r j : ℕ) → 0 < q → q < (problem_in query tables join).nodes
        → r < raw_len tree.raw ((problem_in query tables join).parent q)
        → Serves (problem_in query tables join) c q
        (raw_number tree.raw ((problem_in query tables join).parent q) r) j
        → (b : ℕ) × (named_bound tree q r ≡ Some b) × (line q b ≡ j)
    -- as in a valid certificate
    pub solutions : (i : ℕ) → i < length c.bounds
        → (v : ℕ) × ((bound_at (problem_in query tables join) c i).node ≡ suc v)
        × IsSolutionAt (problem_in query tables join) v
        (bound_at (problem_in query tables join) c i).rows
    pub apart : (v i j : ℕ) → i < j → IsBoundOf (problem_in query tables join) c v i
        → IsBoundOf (problem_in query tables join) c v j
        → (problem_in query tables join).IsGrouped v
        (bound_row (problem_in query tables join) c v i)
        (bound_row (problem_in query tables join) c v j) → ⊥
