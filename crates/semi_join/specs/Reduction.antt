-- What the bottom-up reduction of a raw tree computes, node by node.
use Rattle.std.specs.Prelude.{◌≡◌, ℕ, suc, ◌+◌, ◌-◌, ◌<◌, ◌≤◌, Bool, cond, nat_eq, List, [], ◌∷◌, ◌++◌, map, length, slice_index, slice_index_or, slice_set, Some, IsPermutation, All}
use Rattle.tdp_model.specs.NodeRows.{most_node_rows}
use Rattle.std.specs.List.{Contains, filter, list_any, list_all, position_or_len, range_with_len, concat}
use Rattle.indexmap.specs.IndexSet.{insert_all}
use Rattle.tdp_core.specs.declared.parts.NodeRow.{NodeRow}
use Rattle.tdp_core.specs.RawRows.{AreRawRows, raw_rows}
use Rattle.tdp_core.specs.RawView.{AreShapes, RawView, shape_at, shape_parent, raw_len, raw_row_at, row_total, rows_at, own_link}
use Rattle.tdp_core.specs.TreeView.{NodeView}
use Rattle.semi_join.specs.declared.group_links.GroupLinks.{GroupLinks}
use Rattle.semi_join.specs.declared.group_links.GroupLinks.TheVariants.{Direct, Hashed}

-- # Groups of one node

-- the links, by their numbers
abbrev pub links_of : GroupLinks → List ℕ
links_of (Hashed links) = links
links_of (Direct links) = links

-- no node has more groups than a tree has rows
abbrev pub AreFew : List (List ℕ) → Type 0
AreFew = All (λ links. length links ≤ most_node_rows)

-- the nodes after node v are done, and have groups with these links
pub record AreLater {R : Type 0} (raw : RawView R) (v : ℕ) (later : List GroupLinks) : Type 0 where
  pub shaped : AreShapes raw.shapes
  pub few_rows : row_total raw ≤ most_node_rows
  pub count : v + 1 + length later ≡ length raw.shapes
  pub few : AreFew (map links_of later)

-- The rows with one own link make one group, and each row is in its group once. `owns` has the own
-- link of each row, and `links` that of each group.
pub record IsGrouping (owns links : List ℕ) (groups : List (List ℕ)) : Type 0 where
  pub size : length groups ≡ length links
  pub distinct : (i j : ℕ) → i < length links → j < length links
      → slice_index links i ≡ slice_index links j → i ≡ j
  pub spread : IsPermutation (range_with_len 0 (length owns)) (concat groups)
  pub inhabited : (g : ℕ) → g < length groups → 0 < length (slice_index_or groups g [])
  pub members : (g j : ℕ) → g < length groups → j < length (slice_index_or groups g [])
      → slice_index (slice_index_or groups g []) j < length owns
  pub same : (g j : ℕ) → g < length groups → j < length (slice_index_or groups g [])
      → slice_index owns (slice_index (slice_index_or groups g []) j) ≡ slice_index links g
  pub few : length links ≤ length owns

-- Each row has the place of its own link among the links, and each link is that of a row. `owns`
-- has the own link of each row.
pub record IsNumbering (owns links numbers : List ℕ) : Type 0 where
  pub size : length numbers ≡ length owns
  pub distinct : (i j : ℕ) → i < length links → j < length links
      → slice_index links i ≡ slice_index links j → i ≡ j
  pub below : All (λ n. n < length links) numbers
  pub named : (i : ℕ) → i < length numbers
      → slice_index links (slice_index numbers i) ≡ slice_index owns i
  pub used : (n : ℕ) → n < length links → Contains numbers n
  pub few : length links ≤ length owns

-- the numbers of some rows, and after them the place of this link among the links
abbrev pub EndsInPlaceOf : ℕ → List ℕ → List ℕ → List ℕ → Type 0
EndsInPlaceOf own links numbers more = (n : ℕ) × (n < length links) × (slice_index links n ≡ own)
    × (more ≡ numbers ++ n ∷ [])

-- the numbers, but at one place that of this link among the links
abbrev pub HasPlaceOf : ℕ → List ℕ → ℕ → List ℕ → List ℕ → Type 0
HasPlaceOf own links at old new = (n : ℕ) × (n < length links) × (slice_index links n ≡ own)
    × (new ≡ slice_set old at n)

-- # The links that one row names

-- `links` has the link that the row names for each child of node v, and `later`, for each node
-- after v, the link of each of its groups
module _ (children : List ℕ) (v : ℕ) (later : List (List ℕ)) (links : List ℕ) where
  -- the links of the groups of child number c
  abbrev pub links_below : ℕ → List ℕ
  links_below c = slice_index_or later (slice_index children c - v - 1) []

  -- for each of the first n children there is a group that the row names
  abbrev pub are_met : ℕ → Bool
  are_met n = list_all (λ c. list_any (nat_eq (slice_index links c)) (links_below c))
      (range_with_len 0 n)

  -- the numbers of these groups
  abbrev pub groups_met : ℕ → List ℕ
  groups_met n = map (λ c. position_or_len (nat_eq (slice_index links c)) (links_below c))
      (range_with_len 0 n)

-- each of the children comes after node v, and its links are among those of the later nodes
abbrev pub ComeAfter : List ℕ → ℕ → ℕ → Type 0
ComeAfter children v later = (c : ℕ) → c < length children
    → (v < slice_index children c) × (slice_index children c - v - 1 < later)

-- # The rows of one node

module _ {R : Type 0} (raw : RawView R) (v : ℕ) where
  -- the children of v
  abbrev pub child_nodes : List ℕ
  child_nodes = filter (λ u. nat_eq (shape_parent raw.shapes u) v)
      (range_with_len (suc v) (length raw.shapes - suc v))

  -- the link by which a row is put into its group: its own link, and at the root 0
  abbrev pub group_link : ℕ → ℕ
  group_link i = cond (nat_eq v 0) 0 (own_link raw v i)

  -- the links that row i names for the children
  abbrev pub links_named : ℕ → List ℕ
  links_named i = slice_index_or (map (λ x. x.children) (rows_at raw v)) i []

-- `later` has, for each node after v, the link of each of its groups
module _ {R : Type 0} (raw : RawView R) (v : ℕ) (later : List (List ℕ)) where
  -- the links of the groups of child number c
  abbrev pub child_links : ℕ → List ℕ
  child_links c = slice_index_or later (slice_index (child_nodes raw v) c - v - 1) []

  -- for each child there is a group that row i names
  abbrev pub has_partners : ℕ → Bool
  has_partners i = are_met (child_nodes raw v) v later (links_named raw v i)
      (length (child_nodes raw v))

  -- the numbers of these groups
  abbrev pub groups_named : ℕ → List ℕ
  groups_named i = groups_met (child_nodes raw v) v later (links_named raw v i)
      (length (child_nodes raw v))

  -- the rows that are kept
  abbrev pub kept_rows : List ℕ
  kept_rows = filter has_partners (range_with_len 0 (raw_len raw v))

  -- the links of the groups of v
  abbrev pub group_links : List ℕ
  group_links = insert_all nat_eq [] (map (group_link raw v) kept_rows)

  -- the parts of v
  pub record IsReducedNode (part : NodeView R) : Type 0 where
    pub shape : part.shape ≡ shape_at raw.shapes v
    pub rows : map Some part.rows ≡ map (raw_row_at raw v) kept_rows
    pub to_child : part.to_child ≡ map groups_named kept_rows
    pub grouping : IsGrouping (map (group_link raw v) kept_rows) group_links part.groups
    pub best : part.best ≡ []

  -- The rows of v that are kept, before they are put into groups: the groups of the children that
  -- they name, the links of their own groups, and for each row the number of its group.
  pub record AreKept (rows : List (NodeRow R)) (named : List (List ℕ))
      (links numbers : List ℕ) : Type 0 where
    pub rows_are : map Some rows ≡ map (raw_row_at raw v) kept_rows
    pub to_child : named ≡ map groups_named kept_rows
    pub links_are : links ≡ group_links
    pub numbering : IsNumbering (map (group_link raw v) kept_rows) links numbers
    pub few_numbers : length numbers ≤ most_node_rows

-- The rows of node v of a raw tree, taken out of it as columns, and what is asked of them where
-- they are reduced: the nodes after v are done, and the children are those of v.
pub record IsSource {R : Type 0} (raw : RawView R) (v : ℕ) (later : List GroupLinks)
    (children : List ℕ) (rows : List (NodeRow R)) (owns : List ℕ)
    (named : List (List ℕ)) : Type 0 where
  pub node : v < length raw.shapes
  pub done : AreLater raw v later
  pub of_node : children ≡ child_nodes raw v
  pub whole : AreRawRows rows owns named
  pub taken : raw_rows rows owns named ≡ rows_at raw v
  pub wide : All (λ ks. length ks ≡ length children) named
