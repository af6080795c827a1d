-- Sums to which each node of some set gives a row's key or nothing.
use Rattle.std.proofs.Common.{◌≡◌, ◌⊎◌, ℕ, zero, suc, ◌<◌, cond, nat_eq, refl, sym, ap, ◌∙◌}
use Rattle.std.proofs.Common.{List, subst, inl, inr, arith}
use Rattle.std.proofs.lemmas.Bool.{cases_lt, cases_eq}
use Rattle.tdp_model.specs.Below.{is_below}
use Rattle.tdp_model.specs.TreeProblem.{sum_from}
use Rattle.tdp_model.proofs.Descent.{below_less}
use Rattle.tdp_model.proofs.Sums.{none_add, sum_add, sum_last}
use Rattle.proof_model.specs.Problem.{Problem, IsSolutionAt, key_at, row_in}
use Rattle.proof_model.specs.Laws.{IsProblem}
use Rattle.proof_model.proofs.Sums.{pick_eq, pick_ne, sum_none, sum_one}

module _ {K : Type 0} (t : Problem K) (laws : IsProblem t) where
  -- nothing, or the key of a row of a node of the set
  abbrev pub IsPartOf : (ℕ → Type 0) → ℕ → K → Type 0
  IsPartOf Has q k = (k ≡ t.none) ⊎ (Has q × ((row : ℕ) × t.IsRow q row × (k ≡ t.key q row)))

  pub record IsSumOver (Has : ℕ → Type 0) (k : K) : Type 0 where
    pub part : ℕ → K
    pub each : (q : ℕ) → q < t.nodes → IsPartOf Has q (part q)
    pub whole : sum_from t.add t.none part t.nodes 0 ≡ k

  pub over_none : (Has : ℕ → Type 0) → IsSumOver Has t.none
  over_none Has = record {
    part = λ q. t.none;
    each = λ q l. inl refl;
    whole = sum_none t.Below t.add t.none laws.keys (λ q. t.none) t.nodes 0 (λ i a b. refl);
  }

  pub over_row : (v row : ℕ) → v < t.nodes → t.IsRow v row → IsSumOver (λ w. w ≡ v) (t.key v row)
  over_row v row l is = record {
    part = λ q. cond (nat_eq q v) (t.key v row) t.none;
    each = λ q h. elim (cases_eq q v) [
      | inl e ↦ inr (
        e,
        (
          row,
          subst (λ w. t.IsRow w row) (sym e) is,
          pick_eq q v (t.key v row) t.none e ∙ ap (λ w. t.key w row) (sym e),
        ),
      )
      | inr n ↦ inl (pick_ne q v (t.key v row) t.none n)
    ];
    whole = sum_one t.Below t.add t.none laws.keys (t.key v row) t.nodes 0 v (omega arith) (omega (arith, l));
  }

  pub over_solution : (v : ℕ) (rows : List ℕ) → IsSolutionAt t v rows
      → IsSumOver (λ w. is_below t.parent v w ≡ 1) (key_at t v rows)
  over_solution v rows s = record {
    part = λ q. cond (nat_eq (is_below t.parent v q) 1) (t.key q (row_in t v rows q)) t.none;
    each = λ q h. elim (cases_eq (is_below t.parent v q) 1) [
      | inl e ↦ inr (e, (row_in t v rows q, row q h e, pick_eq (is_below t.parent v q) 1 _ t.none e))
      | inr n ↦ inl (pick_ne (is_below t.parent v q) 1 (t.key q (row_in t v rows q)) t.none n)
    ];
    whole = refl;
  }
    where
      row : (q : ℕ) → q < t.nodes → is_below t.parent v q ≡ 1 → t.IsRow q (row_in t v rows q)
      row q h e = elim (cases_eq q v) [
        | inl z ↦ subst (λ w. t.IsRow w (row_in t v rows w)) (sym z) s.first
        | inr n ↦ elim (cases_lt q v) [
          | inl less ↦ let z = below_less t.nodes t.parent laws.parents_first v q h less in absurd (omega (arith, z, e))
          | inr more ↦ laws.fits_row q (row_in t v rows (t.parent q)) (row_in t v rows q)
              (s.others q (omega (arith, more, n)) h (omega (arith, e)))
        ]
      ]

  pub over_more : (A B : ℕ → Type 0) (k : K) → ((q : ℕ) → q < t.nodes → A q → B q) → IsSumOver A k → IsSumOver B k
  over_more A B k f s = record {
    part = s.part;
    each = λ q l. elim (s.each q l) [ inl z ↦ inl z | inr h ↦ inr (f q l h.0, h.1) ];
    whole = s.whole;
  }

  pub over_same : (A : ℕ → Type 0) (k l : K) → k ≡ l → IsSumOver A k → IsSumOver A l
  over_same A k l e s = record { part = s.part; each = s.each; whole = s.whole ∙ e }

  -- sums over sets that have no node in common
  pub over_both : (A B : ℕ → Type 0) (k l : K) → ((q : ℕ) → q < t.nodes → A q → B q → ⊥)
      → IsSumOver A k → IsSumOver B l → IsSumOver (λ q. A q ⊎ B q) (t.add k l)
  over_both A B k l apart a b = record {
    part = λ q. t.add (a.part q) (b.part q);
    each = λ q h. elim (a.each q h) [
      | inl z ↦ elim (b.each q h) [
        | inl y ↦ inl (ap (λ x. t.add x (b.part q)) z ∙ none_add t.Below t.add t.none laws.keys (b.part q) ∙ y)
        | inr y ↦ inr (
          inr y.0,
          (
            y.1.0,
            y.1.1,
            ap (λ x. t.add x (b.part q)) z ∙ none_add t.Below t.add t.none laws.keys (b.part q) ∙ y.1.2,
          ),
        )
      ]
      | inr z ↦ elim (b.each q h) [
        | inl y ↦ inr (
          inl z.0,
          (
            z.1.0,
            z.1.1,
            ap (λ x. t.add (a.part q) x) y ∙ laws.keys.add_none (a.part q) ∙ z.1.2,
          ),
        )
        | inr y ↦ absurd (apart q h z.0 y.0)
      ]
    ];
    whole = sum_add t.Below t.add t.none laws.keys a.part b.part t.nodes 0
        ∙ ap (λ x. t.add x (sum_from t.add t.none b.part t.nodes 0)) a.whole ∙ ap (λ x. t.add k x) b.whole;
  }

  -- Each node has one holder, and f gives for each holder a sum over its nodes: these add up.
  pub over_sum : (holder : ℕ → ℕ) (f : ℕ → K) (n : ℕ)
      → ((u : ℕ) → u < n → IsSumOver (λ w. holder w ≡ u) (f u))
      → IsSumOver (λ w. holder w < n) (sum_from t.add t.none f n 0)
  unfolding sum_from
  over_sum holder f zero each = over_none (λ w. holder w < 0)
  over_sum holder f (suc n) each =
      let one = over_sum holder f n (λ u l. each u (omega arith)) in
      let both = over_both (λ w. holder w < n) (λ w. holder w ≡ n) (sum_from t.add t.none f n 0) (f n)
      (λ q l a b. omega (arith, a, b)) one (each n (omega arith)) in
      over_same (λ w. holder w < suc n) _ (sum_from t.add t.none f (suc n) 0)
      (sym (sum_last t.Below t.add t.none laws.keys f n 0 n (omega arith)))
      (over_more (λ q. (holder q < n) ⊎ (holder q ≡ n)) (λ w. holder w < suc n) _
      (λ q l h. elim h [ inl x ↦ omega (arith, x) | inr x ↦ omega (arith, x) ]) both)
