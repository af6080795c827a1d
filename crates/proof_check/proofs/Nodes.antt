-- The nodes of a stored join tree.
use Rattle.std.proofs.Common.{◌≡◌, ℕ, ◌<◌, ◌≤◌, Option, None, Some, option_map, List, length, slice_index}
use Rattle.std.proofs.Common.{refl, arith}
use Rattle.std.proofs.lemmas.List.{length-take, length-take-le, get_or-take}
use Rattle.anyk_model.specs.Table.{Table}
use Rattle.anyk_model.specs.Query.{Query}
use Rattle.join_tree.specs.Rerooting.{IsTree}
use Rattle.join_tree.specs.declared.tree.JoinTree.{JoinTree}
use Rattle.tdp_model.specs.KeyTuple.{KeyOf}
use Rattle.proof_model.specs.Problem.{Problem}
use Rattle.proof_model.specs.QueryProblem.{problem_in}

module _ (query : Query) (tables : List Table) (join : JoinTree) where
  abbrev t : Problem (KeyOf (length query.order) 16)
  t = problem_in query tables join

  -- the problem has no more nodes than the tree says
  pub nodes_few : t.nodes ≤ join.count
  nodes_few = omega (arith, length-take join.count join.atom)

  pub stored_parent : (q : ℕ) → q < t.nodes → t.parent q ≡ slice_index join.parent q
  stored_parent q l = get_or-take join.count join.parent q 0 (omega (arith, l, nodes_few))

  module _ (ordered : IsTree join.count join.atom join.parent) where
    pub parents_earlier : (q : ℕ) → 0 < q → q < t.nodes → t.parent q < q
    parents_earlier q p l = omega (arith, stored_parent q l, ordered.earlier q p (omega (arith, l, nodes_few)))

    module _ (long : length join.atom ≡ 16) where
      pub all_nodes : t.nodes ≡ join.count
      all_nodes = length-take-le join.count join.atom (omega (arith, ordered.few, long))

-- # What an option holds

pub option_none : {A B : Type 0} (f : A → B) (o : Option A) → None ≡ option_map f o → o ≡ None
option_none f None e = refl
option_none f (Some x) e = absurd (let no : None ≡ Some (f x) → ⊥ = λ w. cc in no e)

pub option_some : {A B : Type 0} (f : A → B) (o : Option A) (y : B) → Some y ≡ option_map f o
    → (x : A) × (o ≡ Some x) × (y ≡ f x)
option_some f None y e = absurd (let no : Some y ≡ None → ⊥ = λ w. cc in no e)
option_some f (Some x) y e = (x, refl, let is : y ≡ f x = cc in is)
