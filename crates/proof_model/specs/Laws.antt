-- The laws of keys and groups in a tree problem, and its solutions as functions of the nodes.
use Rattle.std.specs.Prelude.{ℕ, ◌<◌, cond, nat_eq}
use Rattle.tdp_model.specs.Below.{is_below}
use Rattle.tdp_model.specs.KeyLaws.{IsKeys}
use Rattle.tdp_model.specs.TreeProblem.{sum_from}
use Rattle.proof_model.specs.Problem.{Problem}

-- keys add up and are ordered, parents come first, and the rows that fit below one row are one
-- group
pub record IsProblem {K : Type 0} (t : Problem K) : Type 0 where
  pub keys : IsKeys K t.Below t.add t.none
  pub some : 0 < t.nodes
  pub parents_first : (q : ℕ) → 0 < q → q < t.nodes → t.parent q < q
  pub fits_row : (q above row : ℕ) → t.Fits q above row → t.IsRow q row
  pub grouped_itself : (q row : ℕ) → t.IsGrouped q row row
  pub grouped_back : (q row other : ℕ) → t.IsGrouped q row other → t.IsGrouped q other row
  pub fits_grouped : (q above row other : ℕ) → 0 < q → t.Fits q above row → t.IsGrouped q row other
      → t.IsRow q other
      → t.Fits q above other
  pub fits_together : (q above row other : ℕ) → t.Fits q above row → t.Fits q above other
      → t.IsGrouped q row other

module _ {K : Type 0} (t : Problem K) where
  -- a row for node v and for each node below it
  pub record IsSubtree (v : ℕ) (rows : ℕ → ℕ) : Type 0 where
    pub node : v < t.nodes
    pub first : t.IsRow v (rows v)
    pub others : (q : ℕ) → v < q → q < t.nodes → 0 < is_below t.parent v q
        → t.Fits q (rows (t.parent q)) (rows q)

  -- the sum of their keys
  abbrev pub subtree_key : ℕ → (ℕ → ℕ) → K
  subtree_key v rows =
      sum_from t.add t.none
      (λ q. cond (nat_eq (is_below t.parent v q) 1) (t.key q (rows q)) t.none) t.nodes 0
