-- The keys that open nodes add, with the rows that were chosen before them.
use Rattle.std.proofs.Common.{◌≡◌, ℕ, suc, ◌+◌, ◌<◌, cond, nat_eq, nat_lt, List, [], ◌∷◌, ◌++◌, length, get_or, refl, sym, ap, ◌∙◌, subst, inl, inr, arith}
use Rattle.std.proofs.lemmas.Bool.{cases_lt}
use Rattle.tdp_model.specs.KeyLaws.{IsKeys}
use Rattle.tdp_model.specs.TreeProblem.{sum_from, rows_key, kid_key}
use Rattle.tdp_model.proofs.Subtrees.{cases_eq}
use Rattle.tdp_model.proofs.Picks.{pick_eq, pick_ge, pick_lt, pick_ne}
use Rattle.tdp_model.proofs.Sums.{get_front, get_end, length_end, none_add, sum_last, sum_same}

module _ {K : Type 0} (none : K) (parent : ℕ → ℕ) where
  -- the key that node q adds, where it is open after p rows
  unfoldable pub open_key : ℕ → (ℕ → K) → ℕ → K
  open_key p f q = cond (nat_eq q 0) (f q) (cond (nat_lt (parent q) p) (f q) none)

  -- the node that is next is open
  pub open_first : (p : ℕ) (f : ℕ → K) → (0 < p → parent p < p) → open_key p f p ≡ f p
  unfolding open_key
  open_first p f earlier = elim (cases_lt 0 p) [
    | inl h ↦ pick_ne p 0 (f p) _ (λ e. omega arith) ∙ pick_lt (parent p) p (f p) none (earlier h)
    | inr z ↦ pick_eq p 0 (f p) _ (omega arith)
  ]

module _ {K : Type 0} (Below : K → K → Type 0) (add : K → K → K) (none : K) (keys : IsKeys K Below add none) where
  -- after one more row a node is open that was open before, or is a child of the node that was chosen
  pub open_join : (parent : ℕ → ℕ) (p q : ℕ) (f g h : ℕ → K) → p < q → (parent q < p → h q ≡ f q) → (parent q ≡ p → h q ≡ g q)
      → open_key none parent (suc p) h q ≡ add (open_key none parent p f q) (kid_key none parent p g q)
  unfolding open_key kid_key
  open_join parent p q f g h l a b =
      pick_ne q 0 (h q) (cond (nat_lt (parent q) (suc p)) (h q) none) (λ e. omega arith)
      ∙ elim (cases_lt (parent q) p) [
        | inl c ↦ pick_lt (parent q) (suc p) (h q) none (omega arith) ∙ a c ∙ sym (keys.add_none (f q))
            ∙ ap (λ z. add z none) (sym (pick_lt (parent q) p (f q) none c))
            ∙ ap (λ z. add (cond (nat_lt (parent q) p) (f q) none) z) (sym (pick_ne (parent q) p (g q) none (λ e. omega arith)))
        | inr c ↦ elim (cases_eq (parent q) p) [
          | inl e ↦ pick_lt (parent q) (suc p) (h q) none (omega arith) ∙ b e ∙ sym (none_add Below add none keys (g q))
              ∙ ap (λ z. add z (g q)) (sym (pick_ge (parent q) p (f q) none c))
              ∙ ap (λ z. add (cond (nat_lt (parent q) p) (f q) none) z) (sym (pick_eq (parent q) p (g q) none e))
          | inr n ↦ pick_ge (parent q) (suc p) (h q) none (omega arith) ∙ sym (keys.add_none none)
              ∙ ap (λ z. add z none) (sym (pick_ge (parent q) p (f q) none c))
              ∙ ap (λ z. add (cond (nat_lt (parent q) p) (f q) none) z) (sym (pick_ne (parent q) p (g q) none n))
        ]
      ]
      ∙ ap (λ z. add z (cond (nat_eq (parent q) p) (g q) none)) (sym (pick_ne q 0 (f q) (cond (nat_lt (parent q) p) (f q) none) (λ e. omega arith)))

  pub key_end : (rank : ℕ → ℕ → K) (pre : List ℕ) (r : ℕ) → rows_key add none rank (pre ++ (r ∷ [])) ≡ add (rows_key add none rank pre) (rank (length pre) r)
  key_end rank pre r =
      subst (λ n. sum_from add none (λ q. rank q (get_or (pre ++ (r ∷ [])) q 0)) n 0 ≡ add (rows_key add none rank pre) (rank (length pre) r)) (sym (length_end pre r))
      (sum_last Below add none keys (λ q. rank q (get_or (pre ++ (r ∷ [])) q 0)) (length pre) 0 (length pre) (omega arith)
      ∙ ap (λ z. add z (rank (length pre) (get_or (pre ++ (r ∷ [])) (length pre) 0)))
      (sum_same Below add none keys (λ q. rank q (get_or (pre ++ (r ∷ [])) q 0)) (λ q. rank q (get_or pre q 0)) (length pre) 0
      (λ i l h. ap (λ z. rank i z) (get_front pre (r ∷ []) i (omega arith))))
      ∙ ap (λ z. add (rows_key add none rank pre) (rank (length pre) z)) (get_end pre r (length pre) refl))
