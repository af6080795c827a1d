-- Whether each group that a row names has a bound, and the key of the row with these bounds.
use Rattle.std.proofs.Common.{◌≡◌, ℕ, suc, ◌-◌, ◌<◌, ◌≤◌, None, Some, option_map, unwrap_or, List, length}
use Rattle.std.proofs.Common.{sym, ap, subst, ◌∙◌, inl, inr, arith}
use Rattle.std.proofs.lemmas.Bool.{cases_eq}
use Rattle.anyk_model.specs.Table.{Table}
use Rattle.anyk_model.specs.Query.{Query}
use Rattle.join_tree.specs.declared.tree.JoinTree.{JoinTree}
use Rattle.tdp_model.specs.KeyTuple.{KeyOf, key_below, key_add, key_none}
use Rattle.tdp_model.specs.TreeProblem.{sum_from, kid_key}
use Rattle.tdp_model.proofs.KeyTuples.{tuple_keys}
use Rattle.tdp_model.proofs.SubtreeTies.{kid_yes, kid_no}
use Rattle.tdp_model.proofs.Sums.{sum_same}
use Rattle.tdp_core.specs.RawView.{raw_len, raw_number, raw_rank}
use Rattle.proof_model.specs.Certificate.{Certificate}
use Rattle.proof_model.specs.Problem.{Problem}
use Rattle.proof_model.specs.QueryProblem.{problem_in}
use Rattle.proof_model.specs.Valid.{Serves, bound_key}
use Rattle.proof_model.proofs.Wider.{wide_add, wide_none, wide_sum}
use Rattle.proof_check.specs.BoundedRows.{BoundedView, IsBounded, named_bound, query_key, rank_of_bound}
use Rattle.proof_check.specs.LowBounds.{AreServed, IsLow, low_key}
use Rattle.proof_check.proofs.LowParts.{AreNamed, low_part, named_key}

module _ {R : Type 0} (query : Query) (tables : List Table) (join : JoinTree) (d : ℕ) (key : R → KeyOf d 16)
    (c : Certificate) (tree : BoundedView R) (few : length query.order ≤ d)
    (bounded : IsBounded query tables join d key c tree) (v i : ℕ) (node : v < (problem_in query tables join).nodes)
    (row : i < raw_len tree.raw v) where
  abbrev t : Problem (KeyOf (length query.order) 16)
  t = problem_in query tables join

  abbrev number : ℕ
  number = raw_number tree.raw v i

  row_above : (q : ℕ) → t.parent q ≡ v → i < raw_len tree.raw (t.parent q)
  row_above q e = subst (λ w. i < raw_len tree.raw w) (sym e) row

  -- a bound that serves is named
  served_named : (below : ℕ → ℕ) → AreServed t c v number below → (q : ℕ) → v < q → q < t.nodes → t.parent q ≡ v
      → (b : ℕ) × (named_bound tree q i ≡ Some b) × (bounded.line q b ≡ below q)
  served_named below served q a l e =
      bounded.named_every q i (below q) (omega (arith, a)) l (row_above q e)
      (subst (λ w. Serves t c q (raw_number tree.raw w i) (below q)) (sym e) (served q a l e))

  -- without one of the bounds
  pub low_none : (q : ℕ) → v < q → q < t.nodes → t.parent q ≡ v → named_bound tree q i ≡ None
      → IsLow query tables join d c v number None
  low_none q a l e gone below served =
      let named = served_named below served q a l e in
      let apart : (b : ℕ) → None ≡ Some b → ⊥ = λ b x. cc in
      apart named.0 (sym gone ∙ named.1)

  low-is : (below : ℕ → ℕ) → AreServed t c v number below
      → low_part d key tree t.parent v i (t.nodes - suc v) ≡ query_key query d (low_key t c v number below)
  unfolding kid_key
  low-is below served =
      let n = t.nodes - suc v in
      let W = query_key query d in
      let f = kid_key t.none t.parent v (λ q. bound_key t c q (below q)) in
      sym (wide_add (length query.order) d 16 few (t.key v number) (sum_from t.add t.none f n (suc v))
      ∙ ap (λ z. key_add d 16 z (W (sum_from t.add t.none f n (suc v)))) (sym (bounded.rows.keys v i node row))
      ∙ ap (λ z. key_add d 16 (raw_rank tree.raw d key v i) z)
      (wide_sum (length query.order) d few f n (suc v)
      ∙ sum_same (key_below d 16) (key_add d 16) (key_none d 16) (tuple_keys d 16) (λ q. W (f q))
      (kid_key (key_none d 16) t.parent v (named_key d key tree t.parent v i)) n (suc v)
      (λ q a b. elim (cases_eq (t.parent q) v) [
        | inl e ↦
            let l : q < t.nodes = omega (arith, b, node) in
            let named = served_named below served q a l e in
            ap W (kid_yes t.none t.parent v (λ p. bound_key t c p (below p)) q e)
            ∙ ap (λ j. W (bound_key t c q j)) (sym named.2)
            ∙ sym (bounded.ranks q named.0 l (bounded.named_is q i named.0 (omega (arith, a)) l (row_above q e) named.1).0)
            ∙ sym (ap (λ o. unwrap_or (option_map (rank_of_bound tree d key q) o) (key_none d 16)) named.1)
            ∙ sym (kid_yes (key_none d 16) t.parent v (named_key d key tree t.parent v i) q e)
        | inr x ↦
            ap W (kid_no t.none t.parent v (λ p. bound_key t c p (below p)) q x)
            ∙ wide_none (length query.order) d 16 few
            ∙ sym (kid_no (key_none d 16) t.parent v (named_key d key tree t.parent v i) q x)
      ])))

  -- with all of them
  pub low_some : (k : KeyOf d 16) → AreNamed d key tree t.parent v i (t.nodes - suc v)
      → k ≡ low_part d key tree t.parent v i (t.nodes - suc v) → IsLow query tables join d c v number (Some k)
  low_some k all e = (
    (
      λ q. unwrap_or (option_map (bounded.line q) (named_bound tree q i)) 0,
      λ q a l up.
          let named = all q a (omega (arith, l)) up in
          let is = bounded.named_is q i named.0 (omega (arith, a)) l (row_above q up) named.1 in
          subst (λ o. Serves t c q number (unwrap_or (option_map (bounded.line q) o) 0)) (sym named.1)
          (subst (λ w. Serves t c q (raw_number tree.raw w i) (bounded.line q named.0)) up is.1),
    ),
    λ below served. e ∙ low-is below served,
  )
