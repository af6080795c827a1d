-- The rank of the answer before another one, and the order of the answers so far.
use Rattle.std.proofs.Common.{◌≡◌, ℕ, ◌+◌, ◌-◌, ◌<◌, ◌≤◌, Bool, true, false, Option, None, Some, option_map, List}
use Rattle.std.proofs.Common.{length}
use Rattle.std.proofs.Common.{refl, sym, ap, subst, ◌∙◌, inl, inr, arith}
use Rattle.std.proofs.lemmas.Bool.{cases_eq}
use Rattle.anyk_model.specs.Table.{Table}
use Rattle.anyk_model.specs.Query.{Query}
use Rattle.join_tree.specs.declared.tree.JoinTree.{JoinTree}
use Rattle.tdp_model.specs.KeyNumbers.{key_less}
use Rattle.tdp_model.specs.KeyTuple.{KeyOf}
use Rattle.tdp_model.proofs.KeyNumbers.{key_less_below, below_key_less}
use Rattle.proof_model.specs.Certificate.{Certificate}
use Rattle.proof_model.specs.Problem.{Problem}
use Rattle.proof_model.specs.QueryProblem.{problem_in}
use Rattle.proof_model.specs.Valid.{answer_key}
use Rattle.proof_model.proofs.Wider.{wide_below}
use Rattle.proof_check.specs.BoundedRows.{query_key}
use Rattle.proof_check.specs.RowPlaces.{IsLastKey}
use Rattle.proof_check.specs.Solutions.{AreOrdered}
use Rattle.proof_check.proofs.Coverings.{not-true}
use Rattle.proof_check.proofs.Nodes.{option_none, option_some}

module _ (query : Query) (tables : List Table) (join : JoinTree) (d : ℕ) (c : Certificate) where
  abbrev t : Problem (KeyOf (length query.order) 16)
  t = problem_in query tables join

  -- the rank of the last one of n answers
  abbrev pub IsRankBefore : ℕ → Option (KeyOf d 16) → Type 0
  IsRankBefore n None = n ≡ 0
  IsRankBefore n (Some k) = (0 < n) × (k ≡ query_key query d (answer_key t c (n - 1)))

  pub last_key : (n : ℕ) (o : Option (KeyOf d 16)) → n ≡ length c.answers → IsRankBefore n o
      → IsLastKey query tables join d c o
  last_key n None e before = sym e ∙ before
  last_key n (Some k) e before = subst (λ m. (0 < m) × (k ≡ query_key query d (answer_key t c (m - 1)))) e before

  -- what the test of a rank and the one before it says
  abbrev pub IsTest : Option (KeyOf d 16) → KeyOf d 16 → Bool → Type 0
  IsTest o k after = (o ≡ None → after ≡ true) × ((old : KeyOf d 16) → o ≡ Some old → after ≡ key_less d 16 old k)

  -- it is made of ranks
  pub test_of : {R : Type 0} (key : R → KeyOf d 16) (o : Option R) (rank : R) (after : Bool) → (o ≡ None → after ≡ true)
      → ((old : R) → o ≡ Some old → after ≡ key_less d 16 (key old) (key rank))
      → IsTest (option_map key o) (key rank) after
  test_of key o rank after first next = (
    λ e. first (option_none key o (sym e)),
    λ old e. let at = option_some key o old (sym e) in
        next at.0 at.1 ∙ ap (λ k. key_less d 16 k (key rank)) (sym at.2),
  )

  module _ (few : length query.order ≤ d) (n : ℕ) (o : Option (KeyOf d 16)) (k : KeyOf d 16)
      (here : k ≡ query_key query d (answer_key t c n)) where
    pub rank_next : IsRankBefore (n + 1) (Some k)
    rank_next =
        let e : n ≡ n + 1 - 1 = omega arith in
        (omega arith, here ∙ ap (λ m. query_key query d (answer_key t c m)) e)

    -- the answer is after the one before it, if there is one
    after_next : IsRankBefore n o → (after : Bool) → IsTest o k after → after ≡ true → (i : ℕ) → i + 1 ≡ n
        → t.Below (answer_key t c i) (answer_key t c n)
    after_next before after test yes' i e = by o before test
      where
        by : (o : Option (KeyOf d 16)) → IsRankBefore n o → IsTest o k after
            → t.Below (answer_key t c i) (answer_key t c n)
        by None none test = absurd (omega (arith, e, none))
        by (Some old) some test =
            let wide : key_less d 16 (query_key query d (answer_key t c i)) (query_key query d (answer_key t c n))
            ≡ true =
            subst (λ z. key_less d 16 z (query_key query d (answer_key t c n)) ≡ true)
            (some.1 ∙ ap (λ m. query_key query d (answer_key t c m)) (let w : n - 1 ≡ i = omega (arith, e) in w))
            (subst (λ z. key_less d 16 old z ≡ true) here (sym (test.1 old refl) ∙ yes')) in
            (wide_below (length query.order) d 16 few (answer_key t c i) (answer_key t c n)).0
            (key_less_below d 16 _ _ wide)

    pub ordered_next : IsRankBefore n o → (after : Bool) → IsTest o k after → after ≡ true → AreOrdered t c n
        → AreOrdered t c (n + 1)
    ordered_next before after test is all i l = elim (cases_eq (i + 1) n) [
      | inl e ↦
          subst (λ m. t.Below (answer_key t c i) (answer_key t c m)) (sym e) (after_next before after test is i e)
      | inr other ↦ all i (omega (arith, l, other))
    ]

    -- the answer is not after the one before it, and there is one
    pub behind : IsRankBefore n o → (after : Bool) → IsTest o k after → after ≡ false
        → (0 < n) × (t.Below (answer_key t c (n - 1)) (answer_key t c n) → ⊥)
    behind before after test is = by o before test
      where
        by : (o : Option (KeyOf d 16)) → IsRankBefore n o → IsTest o k after
            → (0 < n) × (t.Below (answer_key t c (n - 1)) (answer_key t c n) → ⊥)
        by None none test = absurd (not-true (sym is ∙ test.0 refl))
        by (Some old) some test = (
          some.0,
          λ below.
              let wide = below_key_less d 16 _ _
              ((wide_below (length query.order) d 16 few (answer_key t c (n - 1)) (answer_key t c n)).1 below) in
              let less : key_less d 16 old k ≡ true =
              subst (λ z. key_less d 16 z k ≡ true) (sym some.1)
              (subst (λ z. key_less d 16 (query_key query d (answer_key t c (n - 1))) z ≡ true) (sym here) wide) in
              not-true (sym is ∙ test.1 old refl ∙ less),
        )
