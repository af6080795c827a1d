-- The group of each row that extends has a bound, whose key is at most that of every subtree solution of the group.
use Rattle.std.proofs.Common.{◌≡◌, ℕ, zero, suc, ◌+◌, ◌-◌, ◌<◌, ◌≤◌, cond, nat_eq, refl, sym, ◌∙◌, subst, inl, inr}
use Rattle.std.proofs.Common.{arith, Option}
use Rattle.std.proofs.lemmas.Bool.{cases_lt, cases_eq}
use Rattle.tdp_model.specs.Below.{is_below}
use Rattle.tdp_model.specs.Remains.{AtMost}
use Rattle.tdp_model.specs.TreeProblem.{sum_from, kid_key}
use Rattle.tdp_model.proofs.Descent.{below_itself, child_below}
use Rattle.tdp_model.proofs.Keys.{add_at_most, at_most_trans}
use Rattle.tdp_model.proofs.LeastKeys.{sum_at_most}
use Rattle.proof_model.specs.Certificate.{Certificate}
use Rattle.proof_model.specs.Problem.{Problem}
use Rattle.proof_model.specs.Laws.{IsProblem, IsSubtree, subtree_key}
use Rattle.proof_model.specs.Valid.{IsValid, IsBoundOf, StandsFor, Serves, bound_key, bound_row}
use Rattle.proof_model.proofs.Sums.{pick_eq, pick_ne}
use Rattle.proof_model.proofs.Splitting.{within_split}

module _ {K : Type 0} (t : Problem K) (laws : IsProblem t) where
  itself : (q : ℕ) → 0 < is_below t.parent q q
  itself q = let b = below_itself t.nodes t.parent laws.parents_first q q refl in omega (arith, b)

  -- a part of a subtree solution
  pub part : (v q : ℕ) (s : ℕ → ℕ) → IsSubtree t v s → v < q → q < t.nodes → t.parent q ≡ v → IsSubtree t q s
  part v q s sub less l up =
      let at : (is_below t.parent v q ≡ 1) × (v < q) = child_below t.nodes t.parent laws.parents_first q v q q
      (omega arith) l less l up (itself q) in
      record {
        node = l;
        first = laws.fits_row q (s (t.parent q)) (s q) (sub.others q less l (omega (arith, at.0)));
        others = λ u more lu below.
            let b : (is_below t.parent v u ≡ 1) × (v < u) = child_below t.nodes t.parent laws.parents_first u v q u
            (omega arith) lu less l up below in
            sub.others u b.1 lu (omega (arith, b.0));
      }

  -- the rows of a child's part fit
  pub fits_child : (v q : ℕ) (s : ℕ → ℕ) → IsSubtree t v s → v < q → q < t.nodes → t.parent q ≡ v
      → t.Fits q (s v) (s q)
  fits_child v q s sub less l up =
      let at : (is_below t.parent v q ≡ 1) × (v < q) = child_below t.nodes t.parent laws.parents_first q v q q
      (omega arith) l less l up (itself q) in
      subst (λ p. t.Fits q (s p) (s q)) up (sub.others q less l (omega (arith, at.0)))

  pub key_splits : (v : ℕ) (s : ℕ → ℕ) → v < t.nodes
      → subtree_key t v s ≡ t.add (t.key v (s v))
      (sum_from t.add t.none (kid_key t.none t.parent v (λ q. subtree_key t q s)) (t.nodes - suc v) (suc v))
  key_splits v s l =
      within_split t.Below t.add t.none laws.keys t.nodes t.parent laws.parents_first (λ q. t.key q (s q)) v l

  -- sums over children, where each child of one is at most that of the other
  pub kids_at_most : (v n s : ℕ) (f g : ℕ → K)
      → ((q : ℕ) → s ≤ q → q < s + n → t.parent q ≡ v → AtMost t.Below (f q) (g q))
      → AtMost t.Below (sum_from t.add t.none (kid_key t.none t.parent v f) n s)
      (sum_from t.add t.none (kid_key t.none t.parent v g) n s)
  unfolding kid_key
  kids_at_most v n s f g each =
      sum_at_most t.Below t.add t.none laws.keys (kid_key t.none t.parent v f) (kid_key t.none t.parent v g) n s
      (λ q a b. elim (cases_eq (t.parent q) v) [
        | inl e ↦
            subst (λ z. AtMost t.Below z (cond (nat_eq (t.parent q) v) (g q) t.none))
            (sym (pick_eq (t.parent q) v (f q) t.none e))
            (subst (λ z. AtMost t.Below (f q) z) (sym (pick_eq (t.parent q) v (g q) t.none e)) (each q a b e))
        | inr n ↦ inr (pick_ne (t.parent q) v (f q) t.none n ∙ sym (pick_ne (t.parent q) v (g q) t.none n))
      ])

  module _ (c : Certificate) (limit : Option ℕ) (valid : IsValid t c limit) where
    -- a bound of the group of the row of node v, at most the key of its subtree solution
    abbrev pub IsLow : ℕ → (ℕ → ℕ) → ℕ → Type 0
    IsLow v s i = StandsFor t c v (s v) i × AtMost t.Below (bound_key t c v i) (subtree_key t v s)

    -- the row of a bound is a row of its node
    pub bound_is_row : (v i : ℕ) → IsBoundOf t c v i → t.IsRow v (bound_row t c v i)
    bound_is_row v i b =
        let h = valid.bounds i b.0 in
        let same : h.0 ≡ v = let e : suc h.0 ≡ suc v = sym h.1 ∙ b.1 in omega (arith, e) in
        subst (λ w. t.IsRow w (bound_row t c w i)) same h.2.first

    -- so it fits where a row of its group does
    pub serves : (q above row i : ℕ) → 0 < q → t.Fits q above row → StandsFor t c q row i → Serves t c q above i
    serves q above row i p fits stands =
        (stands.0, laws.fits_grouped q above row (bound_row t c q i) p fits stands.1 (bound_is_row q i stands.0))

    -- of one number for each child one function
    module _ (v : ℕ) (s : ℕ → ℕ) (each : (q : ℕ) → v < q → q < t.nodes → t.parent q ≡ v → (i : ℕ) × IsLow q s i) where
      pick : (q : ℕ) → (i : ℕ) × (v < q → q < t.nodes → t.parent q ≡ v → IsLow q s i)
      pick q = elim (cases_lt v q) [
        | inr far ↦ (0, λ less l up. absurd (omega arith))
        | inl less ↦ elim (cases_lt q t.nodes) [
          | inr out ↦ (0, λ _ l up. absurd (omega arith))
          | inl l ↦ elim (cases_eq (t.parent q) v) [
            | inr other ↦ (0, λ _ _ up. absurd (other up))
            | inl up ↦ let r = each q less l up in (r.0, λ _ _ _. r.1)
          ]
        ]
      ]

      below : ℕ → ℕ
      below q = (pick q).0

      chosen : (q : ℕ) → v < q → q < t.nodes → t.parent q ≡ v → IsLow q s (below q)
      unfolding below pick
      chosen q less l up = (pick q).1 less l up

      over : IsSubtree t v s → (i : ℕ) × IsLow v s i
      over sub =
          let found = valid.covered v (s v) sub.node sub.first below
          (λ q less l up. serves q (s v) (s q) (below q) (omega arith) (fits_child v q s sub less l up)
          (chosen q less l up).0) in
          let near : AtMost t.Below (bound_key t c v found.0) (subtree_key t v s) =
          subst (λ k. AtMost t.Below (bound_key t c v found.0) k) (sym (key_splits v s sub.node))
          (at_most_trans t.Below laws.keys.order _ _ _ found.2
          (add_at_most t.Below t.add t.none laws.keys _ _ _ _ (inr refl)
          (kids_at_most v (t.nodes - suc v) (suc v) (λ q. bound_key t c q (below q)) (λ q. subtree_key t q s)
          (λ q a b up. (chosen q (omega arith) (let l = sub.node in omega (arith, b, l)) up).1)))) in
          (found.0, (found.1, near))

    pub cover : (n v : ℕ) (s : ℕ → ℕ) → t.nodes ≤ v + n → IsSubtree t v s → (i : ℕ) × IsLow v s i
    cover zero v s e sub = let l = sub.node in absurd (omega (arith, l))
    cover (suc n) v s e sub = over v s (λ q less l up. cover n q s (omega arith) (part v q s sub less l up)) sub
