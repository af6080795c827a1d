-- The bound lines of a certificate, node by node, as rows of a raw tree.
use Rattle.std.specs.Prelude.{◌≡◌, ◌≢◌, ℕ, ◌<◌, cond, nat_eq, suc, List, [], length, map, position, slice_index, slice_index_or, Option, None, Some}
use Rattle.std.specs.List.{filter, range_with_len}
use Rattle.anyk_model.specs.Table.{Table}
use Rattle.anyk_model.specs.Query.{Query}
use Rattle.join_tree.specs.declared.tree.JoinTree.{JoinTree}
use Rattle.tdp_model.specs.KeyTuple.{KeyOf}
use Rattle.tdp_core.specs.RawView.{RawView, child_link, own_link, raw_len, raw_number, shape_child_place, shape_parent}
use Rattle.proof_model.specs.Certificate.{Certificate}
use Rattle.proof_model.specs.Problem.{IsSolutionAt}
use Rattle.proof_model.specs.QueryProblem.{problem_in}
use Rattle.proof_model.specs.Valid.{bound_at, bound_key, bound_row}
use Rattle.proof_check.specs.BoundedRows.{HasProblemRows, query_key}

module _ (c : Certificate) where
  -- the node of line i, from 1; 0 past the last line
  abbrev pub line_node : ℕ → ℕ
  line_node i = (slice_index_or c.bounds i (record { line = 0; node = 0; rows = [] })).node

  -- those of the first n lines that are bounds of node v, by their places
  abbrev pub lines_of : ℕ → ℕ → List ℕ
  lines_of v n = filter (λ i. nat_eq (line_node i) (suc v)) (range_with_len 0 n)

-- the raw tree has the rows of a query
pub record HasProblem {R : Type 0} (d : ℕ) (key : R → KeyOf d 16) (raw : RawView R) : Type 0 where
  pub query : Query
  pub tables : List Table
  pub join : JoinTree
  pub tree : HasProblemRows query tables join d key raw

-- The first n lines are subtree solutions. The row of each at its node has this place, and the
-- ranks of a node's lines are these, in the order of the lines.
pub record ArePlacedLines {R : Type 0} (query : Query) (tables : List Table) (join : JoinTree)
    (d : ℕ)
    (key : R → KeyOf d 16) (raw : RawView R) (c : Certificate) (n : ℕ) (tops : List ℕ)
    (ranks : List (List R)) : Type 0 where
  pub count : length tops ≡ n
  pub each_node : length ranks ≡ length raw.shapes
  pub solutions : (i : ℕ) → i < n → (v : ℕ) × (line_node c i ≡ suc v)
      × IsSolutionAt (problem_in query tables join) v
      (bound_at (problem_in query tables join) c i).rows
  pub within : (v i : ℕ) → i < n → line_node c i ≡ suc v → slice_index tops i < raw_len raw v
  pub numbers : (v i : ℕ) → i < n → line_node c i ≡ suc v
      → raw_number raw v (slice_index tops i) ≡ bound_row (problem_in query tables join) c v i
  pub keys : (v : ℕ) → v < length raw.shapes
      → map key (slice_index_or ranks v [])
      ≡ map (λ i. query_key query d (bound_key (problem_in query tables join) c v i))
      (lines_of c v n)

module _ {R : Type 0} (raw : RawView R) where
  -- the link by which the group of row i of node v is found; all rows of the root are in one group
  abbrev pub group_link : ℕ → ℕ → ℕ
  group_link v i = cond (nat_eq v 0) 0 (own_link raw v i)

  -- the link of the group of node q that row r of its parent names
  abbrev pub named_link : ℕ → ℕ → ℕ
  named_link q r = child_link raw (shape_parent raw.shapes q) r (shape_child_place raw.shapes q)

  -- the link of the group of row i of node v, or of the group that it names for its child at place q
  abbrev pub row_link : ℕ → ℕ → Option ℕ → ℕ
  row_link v i None = group_link v i
  row_link v i (Some q) = child_link raw v i q

  -- the first n rows of node v have the numbers of the groups with these links
  pub record AreNumbers (groups : List ℕ) (v : ℕ) (child : Option ℕ) (n : ℕ)
      (numbers : List (Option ℕ)) : Type 0 where
    pub count : length numbers ≡ n
    pub each : (i : ℕ) → i < n
        → slice_index_or numbers i None ≡ position (nat_eq (row_link v i child)) groups

  -- the links of the groups of a node's lines, in the order of the lines; no two lines have one
  -- group
  pub record AreLineGroups (c : Certificate) (tops : List ℕ) (n : ℕ)
      (groups : List (List ℕ)) : Type 0 where
    pub each_node : length groups ≡ length raw.shapes
    pub links : (v : ℕ) → v < length raw.shapes
        → slice_index_or groups v [] ≡ map (λ i. group_link v (slice_index tops i)) (lines_of c v n)
    pub apart : (v i j : ℕ) → i < j → j < n → line_node c i ≡ suc v → line_node c j ≡ suc v
        → group_link v (slice_index tops i) ≢ group_link v (slice_index tops j)

  -- each row of node v has the number of its group among these, and each row of its parent that of
  -- the group it names
  pub record AreNamed (groups : List ℕ) (v : ℕ) (own named : List (Option ℕ)) : Type 0 where
    pub own_length : length own ≡ raw_len raw v
    pub own_numbers : (i : ℕ) → i < raw_len raw v
        → slice_index_or own i None ≡ position (nat_eq (group_link v i)) groups
    pub named_length : 0 < v → length named ≡ raw_len raw (shape_parent raw.shapes v)
    pub named_numbers : 0 < v → (r : ℕ) → r < raw_len raw (shape_parent raw.shapes v)
        → slice_index_or named r None ≡ position (nat_eq (named_link v r)) groups

-- the tree has the rows of a query, and the lines are placed
pub record HasPlacedLines {R : Type 0} (d : ℕ) (key : R → KeyOf d 16) (raw : RawView R)
    (c : Certificate) (n : ℕ)
    (tops : List ℕ) : Type 0 where
  pub query : Query
  pub tables : List Table
  pub join : JoinTree
  pub ranks : List (List R)
  pub tree : HasProblemRows query tables join d key raw
  pub placed : ArePlacedLines query tables join d key raw c n tops ranks
