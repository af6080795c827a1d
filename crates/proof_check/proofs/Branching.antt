-- A beginning is left in one way at most, and what is known there can be added to the rank of each row of the group.
use Rattle.std.proofs.Common.{◌≡◌, ℕ, ◌<◌, None, Some, List, length, slice_index, sym, ap}
use Rattle.std.proofs.Common.{subst, ◌∙◌, inl, inr, arith}
use Rattle.join_tree.specs.Rerooting.{IsTree}
use Rattle.join_tree.specs.declared.tree.JoinTree.{JoinTree}
use Rattle.tdp_model.specs.KeyTuple.{KeyOf, key_add, key_below, key_none}
use Rattle.tdp_model.specs.TreeProblem.{sum_from}
use Rattle.tdp_model.proofs.KeyTuples.{tuple_keys}
use Rattle.tdp_model.proofs.Sums.{sum_same}
use Rattle.rank_key.specs.Keys.{KeyFits}
use Rattle.tdp_core.specs.RawView.{IsRawFormed, raw_len}
use Rattle.proof_model.specs.QueryProblem.{problem_in}
use Rattle.proof_check.specs.BoundedRows.{BoundedView, bound_ranks}
use Rattle.proof_check.specs.LowBounds.{IsBoundedTree}
use Rattle.proof_check.proofs.Nodes.{all_nodes}
use Rattle.proof_check.specs.declared.open_places.OpenPlace.{OpenPlace}
use Rattle.proof_check.specs.Levels.{FitsGroup, IsBase, IsOpenPlace, IsGroupOf, IsNoOpenPlace, base_part}
use Rattle.proof_check.proofs.Known.{choice_fits, choice_is}
use Rattle.std.proofs.lemmas.Option.{same_Some}

module _ {R : Type 0} (join : JoinTree) (tree : BoundedView R) (d : ℕ) (key : R → KeyOf d 16) (p : ℕ) (start : List ℕ) where
  pub one_group : (g h : ℕ) → IsGroupOf join tree d key p start g → IsGroupOf join tree d key p start h → g ≡ h
  one_group g h (inl a) (inl b) = a.1 ∙ sym b.1
  one_group g h (inl a) (inr b) = absurd (let z = a.0 in let s = b.0 in omega (arith, z, s))
  one_group g h (inr a) (inl b) = absurd (let z = b.0 in let s = a.0 in omega (arith, z, s))
  one_group g h (inr a) (inr b) = same_Some g h (sym a.1 ∙ b.1)

  pub one_base : (a b : KeyOf d 16) → IsBase join tree d key p start (Some a) → IsBase join tree d key p start (Some b)
      → a ≡ b
  one_base a b x y =
      x.2
      ∙ sum_same (key_below d 16) (key_add d 16) (key_none d 16) (tuple_keys d 16) x.0 y.0 join.count 0
      (λ q _ l. let h : q < join.count = omega (arith, l) in same_Some (x.0 q) (y.0 q) (sym (x.1 q h) ∙ y.1 q h))
      ∙ sym y.2

  pub no_base : (b : KeyOf d 16) → IsBase join tree d key p start None → IsBase join tree d key p start (Some b) → ⊥
  no_base b x y =
      let no : None ≡ Some (y.0 x.0) → ⊥ = λ w. cc in
      no (sym x.2 ∙ y.1 x.0 x.1)

  -- a beginning that may not be left is left in no way
  pub not_left : (g : ℕ) (b : KeyOf d 16) → IsNoOpenPlace join tree d key p start → g < length (bound_ranks tree p)
      → IsGroupOf join tree d key p start g → IsBase join tree d key p start (Some b) → ⊥
  not_left g b (inl none) l group base = none g l group
  not_left g b (inr none) l group base = no_base b none base

  -- the ranks that are added fit
  pub branch_fits : IsBoundedTree join d key tree → IsTree join.count join.atom join.parent → length join.atom ≡ 16
      → IsRawFormed d key tree.raw → p < join.count
      → ((q : ℕ) → q < p → slice_index start q < raw_len tree.raw q) → (b : OpenPlace R)
      → IsOpenPlace join tree d key p start b → FitsGroup join tree d key p b.group (key b.base)
  branch_fits known ordered long formed node within b is i low inside has =
      let nodes = all_nodes known.query known.tables join ordered long in
      let node' : p < (problem_in known.query known.tables join).nodes = omega (arith, nodes, node) in
      let l = has known.query known.tables known.c known.few known.bounded in
      let parts : (q : ℕ) → q < (problem_in known.query known.tables join).nodes
      → base_part join tree d key p start q ≡ Some (is.base.0 q) = λ q h. is.base.1 q (omega (arith, nodes, h)) in
      let whole = choice_is known.query known.tables join d key known.c tree known.few known.bounded ordered long p node'
      start within i inside.0 l.0.0 l.0.1 is.base.0 parts in
      let fits = choice_fits known.query known.tables join d key known.c tree known.few known.bounded ordered long p node'
      start within i inside.0 l.0.0 l.0.1 is.base.0 parts formed in
      let same : key_add d 16 (key b.base) low ≡ _ =
      ap (λ z. key_add d 16 z low) (is.base.2 ∙ ap (λ n. sum_from (key_add d 16) (key_none d 16) is.base.0 n 0) (sym nodes))
      ∙ ap (λ z. key_add d 16 (sum_from (key_add d 16) (key_none d 16) is.base.0 (problem_in known.query known.tables join).nodes 0) z)
      (l.1 l.0.0 l.0.1)
      ∙ whole in
      subst (KeyFits d key) (sym same) fits
