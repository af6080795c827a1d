-- Whether a row is covered, by its rank with the bounds that it names and the bound of its own group.
use Rattle.std.proofs.Common.{◌≡◌, ◌↔◌, ℕ, ◌<◌, ◌≤◌, Bool, true, false, not, IsTrue, None, Some, option_map, List}
use Rattle.std.proofs.Common.{length}
use Rattle.std.proofs.Common.{refl, sym, ap, subst, ◌∙◌, inl, inr}
use Rattle.anyk_model.specs.Table.{Table}
use Rattle.anyk_model.specs.Query.{Query}
use Rattle.join_tree.specs.declared.tree.JoinTree.{JoinTree}
use Rattle.tdp_model.specs.KeyNumbers.{key_less}
use Rattle.tdp_model.specs.KeyTuple.{KeyOf, key_below}
use Rattle.tdp_model.specs.Remains.{AtMost}
use Rattle.tdp_model.proofs.KeyNumbers.{not_less_at_most, at_most_not_less}
use Rattle.tdp_model.proofs.KeyTuples.{tuple_keys}
use Rattle.tdp_core.specs.RawView.{raw_len, raw_number}
use Rattle.proof_model.specs.Certificate.{Certificate}
use Rattle.proof_model.specs.Problem.{Problem}
use Rattle.proof_model.specs.QueryProblem.{problem_in}
use Rattle.proof_model.specs.Valid.{IsCovered, bound_key}
use Rattle.proof_model.specs.Wide.{wide}
use Rattle.proof_model.proofs.Wider.{wide_below}
use Rattle.proof_check.specs.BoundedRows.{BoundedView, IsBounded, own_bound, query_key, rank_of_bound}
use Rattle.proof_check.specs.LowBounds.{IsLow, low_key}
use Rattle.proof_check.proofs.Nodes.{option_none, option_some}

-- wide keys are in the order of the keys that they stand for
module _ (few d : ℕ) (h : few ≤ d) (a b : KeyOf few 16) where
  pub at_most_wide : AtMost (key_below few 16) a b → AtMost (key_below d 16) (wide few d 16 a) (wide few d 16 b)
  at_most_wide (inl p) = inl ((wide_below few d 16 h a b).1 p)
  at_most_wide (inr e) = inr (ap (wide few d 16) e)

  pub at_most_narrow : AtMost (key_below d 16) (wide few d 16 a) (wide few d 16 b) → AtMost (key_below few 16) a b
  at_most_narrow p = elim ((tuple_keys few 16).order.compare a b) [
    | inl less ↦ inl less
    | inr (inl same) ↦ inr same
    | inr (inr more) ↦
        let order = (tuple_keys d 16).order in
        let back = (wide_below few d 16 h b a).1 more in
        absurd (elim p [
          | inl q ↦ order.irreflexive _ (order.transitive _ _ _ q back)
          | inr e ↦ order.irreflexive _ (subst (λ k. key_below d 16 (wide few d 16 b) k) e back)
        ])
  ]

pub not-true : false ≡ true → ⊥
not-true e = cc

test_false : (b : Bool) (P : Type 0) → (b ≡ false → P) → (b ≡ true → P → ⊥) → IsTrue (not b) ↔ P
test_false false P holds fails = (λ h. holds refl, λ p. refl)
test_false true P holds fails = (λ h. absurd (not-true h), λ p. absurd (fails refl p))

module _ {R : Type 0} (query : Query) (tables : List Table) (join : JoinTree) (d : ℕ) (key : R → KeyOf d 16)
    (c : Certificate) (tree : BoundedView R) (few : length query.order ≤ d)
    (bounded : IsBounded query tables join d key c tree) (v i : ℕ) (node : v < (problem_in query tables join).nodes)
    (row : i < raw_len tree.raw v) where
  abbrev t : Problem (KeyOf (length query.order) 16)
  t = problem_in query tables join

  abbrev number : ℕ
  number = raw_number tree.raw v i

  abbrev IsRowCovered : Type 0
  IsRowCovered = IsCovered t c v number

  -- a row that names a group without a bound is covered
  pub covered_free : IsLow query tables join d c v number None → IsTrue true ↔ IsRowCovered
  covered_free low = (λ h below served. absurd (low below served), λ p. refl)

  -- one whose own group has no bound is not
  pub covered_none : (low : R) → IsLow query tables join d c v number (Some (key low))
      → None ≡ option_map (rank_of_bound tree d key v) (own_bound tree v i) → IsTrue false ↔ IsRowCovered
  covered_none low is gone = (
    λ h. absurd (not-true h),
    λ p. absurd (
        let found = p is.0.0 is.0.1 in
        let at = bounded.own_every v i found.0 node row found.1 in
        let none : (b : ℕ) → own_bound tree v i ≡ Some b → ⊥ =
        λ b e. let w : None ≡ Some b =
        sym (option_none (rank_of_bound tree d key v) (own_bound tree v i) gone) ∙ e in cc in
        none at.0 at.1),
  )

  -- else the two ranks are compared
  pub covered_some : (low own : R) → IsLow query tables join d c v number (Some (key low))
      → Some (key own) ≡ option_map (rank_of_bound tree d key v) (own_bound tree v i)
      → (less : Bool) → less ≡ key_less d 16 (key low) (key own) → IsTrue (not less) ↔ IsRowCovered
  covered_some low own is some less order =
      let at = option_some (rank_of_bound tree d key v) (own_bound tree v i) (key own) some in
      let stands = bounded.own_is v i at.0 node row at.1 in
      let line = bounded.line v at.0 in
      let own-key : key own ≡ query_key query d (bound_key t c v line) = at.2 ∙ bounded.ranks v at.0 node stands.0 in
      test_false less IsRowCovered
      (λ no below served.
      let near = not_less_at_most d 16 (key low) (key own) (sym order ∙ no) in (
        line,
        stands.1,
        at_most_narrow (length query.order) d few (bound_key t c v line) (low_key t c v number below)
            (subst (λ k. AtMost (key_below d 16) k (query_key query d (low_key t c v number below))) own-key
            (subst (λ k. AtMost (key_below d 16) (key own) k) (is.1 below served) near)),
      ))
      (λ yes p.
      let found = p is.0.0 is.0.1 in
      let every = bounded.own_every v i found.0 node row found.1 in
      let same : at.0 ≡ every.0 = let e : Some at.0 ≡ Some every.0 = sym at.1 ∙ every.1 in cc in
      let near : AtMost (key_below d 16) (key own) (key low) =
      subst (λ k. AtMost (key_below d 16) k (key low)) (sym own-key)
      (subst (λ k. AtMost (key_below d 16) (query_key query d (bound_key t c v line)) k) (sym (is.1 is.0.0 is.0.1))
      (at_most_wide (length query.order) d few (bound_key t c v line) (low_key t c v number is.0.0)
      (subst (λ j. AtMost (key_below (length query.order) 16) (bound_key t c v j) (low_key t c v number is.0.0))
      (sym (ap (bounded.line v) same ∙ every.2))
      found.2))) in
      not-true (sym (at_most_not_less d 16 (key low) (key own) near) ∙ sym order ∙ yes))
