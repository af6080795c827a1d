-- The subtrees of a raw tree's nodes, and rows for the nodes of one, told by their places.
use Rattle.std.specs.Prelude.{◌≡◌, ℕ, ◌+◌, ◌*◌, ◌<◌, cond, nat_lt, List, length, map, slice_index}
use Rattle.rankings.specs.Order.{IsAscending}
use Rattle.tdp_model.specs.Below.{is_below}
use Rattle.tdp_model.specs.TreeProblem.{sum_from}
use Rattle.tdp_core.specs.RawView.{RawView, child_link, own_link, raw_len, raw_number, rows_at}
use Rattle.tdp_core.specs.RawView.{shape_child_place, shape_item, shape_parent}

module _ {R : Type 0} (raw : RawView R) where
  -- the rows of node v have ascending numbers
  abbrev pub AreAscending : ℕ → Type 0
  AreAscending v = IsAscending (λ a b. a < b) (map (λ x. x.row.row) (rows_at raw v))

  -- 1 if node q is in the subtree of node v, else 0
  abbrev pub raw_below : ℕ → ℕ → ℕ
  raw_below v q = is_below (shape_parent raw.shapes) v q

  -- how many nodes the subtree of node v has
  abbrev pub raw_size : ℕ → ℕ
  raw_size v = sum_from ◌+◌ 0 (raw_below v) (length raw.shapes) 0

  -- the place of node q's item among the items of that subtree, in the order of the items
  abbrev pub raw_place : ℕ → ℕ → ℕ
  raw_place v q =
      sum_from ◌+◌ 0 (λ u. raw_below v u
      * cond (nat_lt (shape_item raw.shapes u) (shape_item raw.shapes q)) 1 0)
      (length raw.shapes) 0

  -- for each node whether it is in the subtree of node v
  abbrev pub AreBelow : ℕ → List ℕ → Type 0
  AreBelow v below = (q : ℕ) → q < length raw.shapes → slice_index below q ≡ raw_below v q

  -- the row at place i of node q has the link that the row at place r of q's parent names
  abbrev pub HasLinkOf : ℕ → ℕ → ℕ → Type 0
  HasLinkOf q r i =
      own_link raw q i ≡ child_link raw (shape_parent raw.shapes q) r
      (shape_child_place raw.shapes q)

  -- the rows of the first n nodes, as far as these are in the subtree of node v, have these places
  pub record ArePlacedBefore (v : ℕ) (rows places : List ℕ) (n : ℕ) : Type 0 where
    pub within : (q : ℕ) → q < n → 0 < raw_below v q → slice_index places q < raw_len raw q
    pub numbers : (q : ℕ) → q < n → 0 < raw_below v q
        → raw_number raw q (slice_index places q) ≡ slice_index rows (raw_place v q)
    pub linked : (q : ℕ) → v < q → q < n → 0 < raw_below v q
        → HasLinkOf q (slice_index places (shape_parent raw.shapes q)) (slice_index places q)
    pub outside : (q : ℕ) → (q < n → raw_below v q ≡ 0) → slice_index places q ≡ 0
