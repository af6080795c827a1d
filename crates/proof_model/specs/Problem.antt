-- A tree problem whose rows are told by their numbers.
use Rattle.std.specs.Prelude.{◌≡◌, ℕ, ◌+◌, ◌*◌, ◌<◌, cond, nat_eq, nat_lt}
use Rattle.std.specs.Prelude.{List, length, slice_index}
use Rattle.tdp_model.specs.Below.{is_below}
use Rattle.tdp_model.specs.TreeProblem.{sum_from}

-- nodes with parents first, each with an item, and rows with keys
pub record Problem (K : Type 0) : Type 1 where
  pub nodes : ℕ
  pub parent : ℕ → ℕ
  pub item : ℕ → ℕ
  -- node v has the row
  pub IsRow : (v row : ℕ) → Type 0
  -- the row of node v is in the group that row `above` of its parent names
  pub Fits : (v above row : ℕ) → Type 0
  -- two rows of node v are in one group
  pub IsGrouped : (v row other : ℕ) → Type 0
  pub key : (v row : ℕ) → K
  pub Below : K → K → Type 0
  pub add : K → K → K
  pub none : K

module _ {K : Type 0} (t : Problem K) where
  -- how many nodes the subtree of node v has
  abbrev pub size : ℕ → ℕ
  size v = sum_from ◌+◌ 0 (is_below t.parent v) t.nodes 0

  -- the place of node q's item among the items of that subtree, in the order of the items
  abbrev pub place_in : ℕ → ℕ → ℕ
  place_in v q = sum_from ◌+◌ 0
      (λ u. is_below t.parent v u * cond (nat_lt (t.item u) (t.item q)) 1 0) t.nodes 0

  -- the row of node q, if a list has a row for each item of the subtree of node v, in the order of
  -- the items
  abbrev pub row_in : ℕ → List ℕ → ℕ → ℕ
  row_in v rows q = slice_index rows (place_in v q)

  -- the list is a subtree solution of node v
  pub record IsSolutionAt (v : ℕ) (rows : List ℕ) : Type 0 where
    pub node : v < t.nodes
    pub count : length rows ≡ size v
    pub first : t.IsRow v (row_in v rows v)
    pub others : (q : ℕ) → v < q → q < t.nodes → 0 < is_below t.parent v q
        → t.Fits q (row_in v rows (t.parent q)) (row_in v rows q)

  -- the sum of its rows' keys
  abbrev pub key_at : ℕ → List ℕ → K
  key_at v rows =
      sum_from t.add t.none
      (λ q. cond (nat_eq (is_below t.parent v q) 1) (t.key q (row_in v rows q)) t.none)
      t.nodes 0
