-- The key of an open choice in two parts: what is known before its last row, and that row with the bounds that it names.
use Rattle.std.proofs.Common.{◌≡◌, ℕ, suc, ◌+◌, ◌-◌, ◌<◌, ◌≤◌, cond, nat_eq, nat_le, sym}
use Rattle.std.proofs.Common.{ap, ◌∙◌, inl, inr, arith}
use Rattle.std.proofs.lemmas.Bool.{cases_lt, cases_eq}
use Rattle.tdp_model.specs.Below.{is_below}
use Rattle.tdp_model.specs.TreeProblem.{sum_from, kid_key}
use Rattle.tdp_model.proofs.Descent.{below_less}
use Rattle.tdp_model.proofs.Sums.{none_add, sum_same, sum_add}
use Rattle.proof_model.specs.Certificate.{Certificate}
use Rattle.proof_model.specs.Problem.{Problem, IsSolutionAt}
use Rattle.proof_model.specs.Laws.{IsProblem}
use Rattle.proof_model.specs.Valid.{IsBoundOf, bound_at, bound_key}
use Rattle.proof_model.proofs.Sums.{pick_eq, pick_ne, sum_none, sum_one, sum_parts}
use Rattle.proof_model.proofs.Choices.{pick_le, pick_gt}
use Rattle.proof_model.proofs.Completing.{top_of, top_unique}
use Rattle.proof_check.proofs.Keys.{base_term, base_key, choice_term}
use Rattle.proof_check.proofs.Supported.{IsSumOver, over_none, over_row, over_solution, over_more, over_same, over_sum}

module _ {K : Type 0} (t : Problem K) (laws : IsProblem t) (c : Certificate) (p : ℕ) (rows below : ℕ → ℕ) where
  abbrev kid : ℕ → K
  kid q = cond (nat_le (suc p) q) (cond (nat_eq (t.parent q) p) (bound_key t c q (below q)) t.none) t.none

  abbrev one : ℕ → K
  one q = cond (nat_eq q p) (t.key p (rows p)) t.none

  kids_total : p < t.nodes
      → sum_from t.add t.none kid t.nodes 0
      ≡ sum_from t.add t.none (kid_key t.none t.parent p (λ q. bound_key t c q (below q))) (t.nodes - suc p) (suc p)
  unfolding kid_key
  kids_total l =
      let size : suc p + (t.nodes - suc p) ≡ t.nodes = omega (arith, l) in
      ap (λ n. sum_from t.add t.none kid n 0) (sym size)
      ∙ sum_parts t.Below t.add t.none laws.keys kid (suc p) (t.nodes - suc p) 0 (suc p) (omega arith)
      ∙ ap (λ z. t.add z (sum_from t.add t.none kid (t.nodes - suc p) (suc p)))
      (sum_none t.Below t.add t.none laws.keys kid (suc p) 0
      (λ i a b. pick_gt (suc p) i (cond (nat_eq (t.parent i) p) (bound_key t c i (below i)) t.none) t.none (omega arith)))
      ∙ none_add t.Below t.add t.none laws.keys _
      ∙ sum_same t.Below t.add t.none laws.keys kid
      (kid_key t.none t.parent p (λ q. bound_key t c q (below q))) (t.nodes - suc p) (suc p)
      (λ i a b. pick_le (suc p) i (cond (nat_eq (t.parent i) p) (bound_key t c i (below i)) t.none) t.none a)

  -- what a node gives to the key of the choice
  term : (q : ℕ) → t.add (base_term t c p rows below q) (t.add (one q) (kid q)) ≡ choice_term t c p rows below q
  term q = elim (cases_eq q p) [
    | inl e ↦
        ap (λ z. t.add z (t.add (one q) (kid q)))
        (pick_gt (suc q) p (t.key q (rows q)) _ (omega (arith, e)) ∙ pick_le q p t.none _ (omega (arith, e)))
        ∙ none_add t.Below t.add t.none laws.keys _
        ∙ ap (λ z. t.add z (kid q)) (pick_eq q p (t.key p (rows p)) t.none e ∙ ap (λ z. t.key z (rows z)) (sym e))
        ∙ ap (λ z. t.add (t.key q (rows q)) z)
        (pick_gt (suc p) q (cond (nat_eq (t.parent q) p) (bound_key t c q (below q)) t.none) t.none (omega (arith, e)))
        ∙ laws.keys.add_none _
        ∙ sym (pick_le q p (t.key q (rows q)) _ (omega (arith, e)))
    | inr n ↦
        ap (λ z. t.add (base_term t c p rows below q) (t.add z (kid q)))
        (pick_ne q p (t.key p (rows p)) t.none n)
        ∙ ap (λ z. t.add (base_term t c p rows below q) z) (none_add t.Below t.add t.none laws.keys (kid q))
        ∙ elim (cases_lt q p) [
          | inl less ↦
              ap (λ z. t.add z (kid q)) (pick_le (suc q) p (t.key q (rows q)) _ less)
              ∙ ap (λ z. t.add (t.key q (rows q)) z)
              (pick_gt (suc p) q (cond (nat_eq (t.parent q) p) (bound_key t c q (below q)) t.none) t.none
              (omega (arith, less)))
              ∙ laws.keys.add_none _
              ∙ sym (pick_le q p (t.key q (rows q)) _ (omega (arith, less)))
          | inr more ↦
              ap (λ z. t.add z (kid q))
              (pick_gt (suc q) p (t.key q (rows q)) _ (omega (arith, more))
              ∙ pick_gt q p t.none _ (omega (arith, more, n)))
              ∙ ap (λ z. t.add (cond (nat_le (suc (t.parent q)) p) (bound_key t c q (below q)) t.none) z)
              (pick_le (suc p) q (cond (nat_eq (t.parent q) p) (bound_key t c q (below q)) t.none) t.none
              (omega (arith, more, n)))
              ∙ under (t.parent q) (bound_key t c q (below q))
              ∙ sym (pick_gt q p (t.key q (rows q)) _ (omega (arith, more, n)))
        ]
  ]
    where
      under : (u : ℕ) (k : K)
          → t.add (cond (nat_le (suc u) p) k t.none) (cond (nat_eq u p) k t.none) ≡ cond (nat_le u p) k t.none
      under u k = elim (cases_eq u p) [
        | inl e ↦
            ap (λ z. t.add z (cond (nat_eq u p) k t.none)) (pick_gt (suc u) p k t.none (omega (arith, e)))
            ∙ none_add t.Below t.add t.none laws.keys _
            ∙ pick_eq u p k t.none e ∙ sym (pick_le u p k t.none (omega (arith, e)))
        | inr n ↦
            ap (λ z. t.add (cond (nat_le (suc u) p) k t.none) z) (pick_ne u p k t.none n)
            ∙ laws.keys.add_none _
            ∙ elim (cases_lt u p) [
              | inl less ↦ pick_le (suc u) p k t.none less ∙ sym (pick_le u p k t.none (omega (arith, less)))
              | inr more ↦ pick_gt (suc u) p k t.none (omega (arith, more))
                  ∙ sym (pick_gt u p k t.none (omega (arith, more, n)))
            ]
      ]

  -- the two parts are the key of the choice
  pub base_and_low : p < t.nodes
      → t.add (base_key t c p rows below)
      (t.add (t.key p (rows p)) (sum_from t.add t.none
      (kid_key t.none t.parent p (λ q. bound_key t c q (below q))) (t.nodes - suc p) (suc p)))
      ≡ sum_from t.add t.none (choice_term t c p rows below) t.nodes 0
  base_and_low l =
      ap (λ z. t.add (base_key t c p rows below) z)
      (ap (λ z. t.add (t.key p (rows p)) z) (sym (kids_total l))
      ∙ ap (λ z. t.add z (sum_from t.add t.none kid t.nodes 0))
      (sym (sum_one t.Below t.add t.none laws.keys (t.key p (rows p)) t.nodes 0 p (omega arith) (omega (arith, l))))
      ∙ sym (sum_add t.Below t.add t.none laws.keys one kid t.nodes 0))
      ∙ sym (sum_add t.Below t.add t.none laws.keys (base_term t c p rows below) (λ q. t.add (one q) (kid q)) t.nodes 0)
      ∙ sum_same t.Below t.add t.none laws.keys _ (choice_term t c p rows below) t.nodes 0 (λ q a b. term q)

  -- the node that is chosen for node w, or the open node above it
  abbrev pub holder : ℕ → ℕ
  holder w = cond (nat_le w p) w (top_of t laws p w)

  module _ (solved : (q i : ℕ) → IsBoundOf t c q i → IsSolutionAt t q (bound_at t c i).rows) where
    held_row : (q row : ℕ) → q < t.nodes → q ≤ p → t.IsRow q row → IsSumOver t laws (λ w. holder w ≡ q) (t.key q row)
    held_row q row l h is =
        over_more t laws (λ w. w ≡ q) (λ w. holder w ≡ q) (t.key q row)
        (λ w _ e. pick_le w p w (top_of t laws p w) (omega (arith, e, h)) ∙ e) (over_row t laws q row l is)

    held_bound : (q i : ℕ) → q < t.nodes → p < q → t.parent q ≤ p → IsBoundOf t c q i
        → IsSumOver t laws (λ w. holder w ≡ q) (bound_key t c q i)
    held_bound q i l past low is =
        over_more t laws (λ w. is_below t.parent q w ≡ 1) (λ w. holder w ≡ q) (bound_key t c q i)
        (λ w lw e. pick_gt w p w (top_of t laws p w) (far w lw e)
        ∙ top_unique t laws p w q w (omega arith) past low l lw (omega (arith, e)))
        (over_solution t laws q (bound_at t c i).rows (solved q i is))
      where
        far : (w : ℕ) → w < t.nodes → is_below t.parent q w ≡ 1 → p < w
        far w lw e = elim (cases_lt w q) [
          | inl x ↦ let z = below_less t.nodes t.parent laws.parents_first q w lw x in absurd (omega (arith, z, e))
          | inr x ↦ omega (arith, x, past)
        ]

    -- a beginning of what is known before the last row is a sum of rows' keys
    pub base_over : (n : ℕ) → n ≤ t.nodes → ((q : ℕ) → q < p → q < t.nodes → t.IsRow q (rows q))
        → ((q : ℕ) → p < q → q < n → t.parent q < p → IsBoundOf t c q (below q))
        → IsSumOver t laws (λ w. holder w < n) (sum_from t.add t.none (base_term t c p rows below) n 0)
    base_over n l is bound = over_sum t laws holder (base_term t c p rows below) n (λ q h. elim (cases_lt q p) [
      | inl less ↦ over_same t laws (λ w. holder w ≡ q) _ _ (sym (pick_le (suc q) p (t.key q (rows q)) _ less))
          (held_row q (rows q) (omega arith) (omega (arith, less)) (is q less (omega arith)))
      | inr more ↦ over_same t laws (λ w. holder w ≡ q) _ _
          (sym (pick_gt (suc q) p (t.key q (rows q)) _ (omega (arith, more))))
          (elim (cases_lt p q) [
            | inr at ↦ over_same t laws (λ w. holder w ≡ q) _ _ (sym (pick_le q p t.none _ at))
                (over_none t laws (λ w. holder w ≡ q))
            | inl past ↦ over_same t laws (λ w. holder w ≡ q) _ _ (sym (pick_gt q p t.none _ past))
                (elim (cases_lt (t.parent q) p) [
                  | inl low ↦ over_same t laws (λ w. holder w ≡ q) _ _
                      (sym (pick_le (suc (t.parent q)) p (bound_key t c q (below q)) t.none low))
                      (held_bound q (below q) (omega arith) past (omega (arith, low)) (bound q past h low))
                  | inr high ↦ over_same t laws (λ w. holder w ≡ q) _ _
                      (sym (pick_gt (suc (t.parent q)) p (bound_key t c q (below q)) t.none (omega (arith, high))))
                      (over_none t laws (λ w. holder w ≡ q))
                ])
          ])
    ])

    -- so is the key of a choice
    pub choice_over : p < t.nodes → ((q : ℕ) → q ≤ p → t.IsRow q (rows q))
        → ((q : ℕ) → p < q → q < t.nodes → t.parent q ≤ p → IsBoundOf t c q (below q))
        → IsSumOver t laws (λ w. holder w < t.nodes) (sum_from t.add t.none (choice_term t c p rows below) t.nodes 0)
    choice_over l is bound =
        over_sum t laws holder (choice_term t c p rows below) t.nodes (λ q h. elim (cases_lt p q) [
          | inr early ↦ over_same t laws (λ w. holder w ≡ q) _ _ (sym (pick_le q p (t.key q (rows q)) _ early))
              (held_row q (rows q) h early (is q early))
          | inl past ↦ over_same t laws (λ w. holder w ≡ q) _ _ (sym (pick_gt q p (t.key q (rows q)) _ past))
              (elim (cases_lt p (t.parent q)) [
                | inr low ↦ over_same t laws (λ w. holder w ≡ q) _ _
                    (sym (pick_le (t.parent q) p (bound_key t c q (below q)) t.none low))
                    (held_bound q (below q) h past low (bound q past h low))
                | inl high ↦ over_same t laws (λ w. holder w ≡ q) _ _
                    (sym (pick_gt (t.parent q) p (bound_key t c q (below q)) t.none high))
                    (over_none t laws (λ w. holder w ≡ q))
              ])
        ])
