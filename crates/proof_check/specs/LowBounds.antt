-- The rank of a row together with the bounds of the groups that it names.
use Rattle.std.specs.Prelude.{◌≡◌, ℕ, ◌-◌, ◌<◌, ◌≤◌, suc, List, length, Option, None, Some}
use Rattle.anyk_model.specs.Table.{Table}
use Rattle.anyk_model.specs.Query.{Query}
use Rattle.join_tree.specs.declared.tree.JoinTree.{JoinTree}
use Rattle.tdp_model.specs.KeyTuple.{KeyOf}
use Rattle.tdp_model.specs.TreeProblem.{sum_from, kid_key}
use Rattle.proof_model.specs.Certificate.{Certificate}
use Rattle.proof_model.specs.Problem.{Problem}
use Rattle.proof_model.specs.QueryProblem.{problem_in}
use Rattle.proof_model.specs.Valid.{Serves, bound_key}
use Rattle.proof_check.specs.BoundedRows.{BoundedView, IsBounded, query_key}

module _ {K : Type 0} (t : Problem K) (c : Certificate) (v row : ℕ) where
  -- the group that the row names at each child has this bound
  abbrev pub AreServed : (ℕ → ℕ) → Type 0
  AreServed below = (q : ℕ) → v < q → q < t.nodes → t.parent q ≡ v → Serves t c q row (below q)

  -- the sum of the row's key and of those of these bounds
  abbrev pub low_key : (ℕ → ℕ) → K
  low_key below =
      t.add (t.key v row)
      (sum_from t.add t.none (kid_key t.none t.parent v (λ q. bound_key t c q (below q)))
      (t.nodes - suc v) (suc v))

module _ (query : Query) (tables : List Table) (join : JoinTree) (d : ℕ) (c : Certificate)
    (v row : ℕ) where
  -- Without a key, some group that the row names has no bound; else each has one, and whichever
  -- these are, the key is the sum of the row's key and theirs.
  abbrev pub IsLow : Option (KeyOf d 16) → Type 0
  IsLow None = (below : ℕ → ℕ) → AreServed (problem_in query tables join) c v row below → ⊥
  IsLow (Some k) =
      ((below : ℕ → ℕ) × AreServed (problem_in query tables join) c v row below)
      × ((below : ℕ → ℕ) → AreServed (problem_in query tables join) c v row below
      → k ≡ query_key query d (low_key (problem_in query tables join) c v row below))

-- the tree is that of some query, with the bounds of some certificate, and ranks have room for the
-- query's order keys
pub record IsBoundedTree (join : JoinTree) (d : ℕ) {R : Type 0} (key : R → KeyOf d 16)
    (tree : BoundedView R) : Type 0 where
  pub query : Query
  pub tables : List Table
  pub c : Certificate
  pub few : length query.order ≤ d
  pub bounded : IsBounded query tables join d key c tree

-- this holds of whichever query and certificate the tree is of
abbrev pub OfEach : (join : JoinTree) (d : ℕ) {R : Type 0} (key : R → KeyOf d 16)
    (tree : BoundedView R)
    → (Query → List Table → Certificate → Type 0) → Type 0
OfEach join d key tree P =
    (query : Query) (tables : List Table) (c : Certificate) → length query.order ≤ d
    → IsBounded query tables join d key c tree → P query tables c
