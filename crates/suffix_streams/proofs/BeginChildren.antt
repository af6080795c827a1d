-- The children of a node, by their places.
use Rattle.std.proofs.Common.{◌≡◌, ◌≢◌, ℕ, zero, suc, ◌+◌, ◌<◌, ◌≤◌, cond, nat_eq, nat_lt, List, [], ◌∷◌, ◌++◌, length, get_or, refl, sym, ap, ◌∙◌, inl, inr, arith}
use Rattle.std.proofs.lemmas.Bool.{cases_lt, cases_eq}
use Rattle.std.proofs.lemmas.Bool.Decides.{nat_tests}
use Rattle.tdp_core.specs.TreeView.{NodeView, parent, kids_below}
use Rattle.tdp_core.proofs.Children.{kids_below_first, kids_below_child, kids_below_other}
use Rattle.suffix_streams.specs.Rankings.{child_among}
use Rattle.suffix_streams.proofs.ListEnds.{at_more, get_behind, length_behind}

kids_past : (parent : ℕ → ℕ) (v n : ℕ) → parent n ≢ v → kids_below parent v (suc n) ≡ kids_below parent v n
kids_past parent v n e = let next : suc n ≡ n + 1 = omega arith in ap (kids_below parent v) next ∙ kids_below_other parent v n e

kids_of_one : (parent : ℕ → ℕ) (v n : ℕ) → n ≡ 0 → kids_below parent v (suc n) ≡ 0
kids_of_one parent v n z = ap (λ k. kids_below parent v (suc k)) z ∙ kids_below_first parent v

-- a node has no children among the nodes up to itself
pub no_kids_before : (parent : ℕ → ℕ) (m v n : ℕ) → ((q : ℕ) → 0 < q → q < m → parent q < q) → n ≤ suc v → n ≤ m → kids_below parent v n ≡ 0
unfolding kids_below
no_kids_before parent m v zero first a b = refl
no_kids_before parent m v (suc n) first a b = elim (cases_eq n 0) [
  | inl z ↦ kids_of_one parent v n z
  | inr some ↦ kids_past parent v n (λ e. omega (arith, first n (omega arith) (omega arith), e)) ∙ no_kids_before parent m v n first (omega arith) (omega arith)
]

-- # The child at a place

among_here : (parent : ℕ → ℕ) (v c n : ℕ) → 0 < n → parent n ≡ v → kids_below parent v n ≡ c → child_among parent v c (suc n) ≡ n
unfolding child_among
among_here parent v c n some e k = at n (parent n) v (kids_below parent v n) c (child_among parent v c n) some e k
  where
    at : (n p v k c x : ℕ) → 0 < n → p ≡ v → k ≡ c → cond {A = ℕ} (nat_lt 0 n) (cond (nat_eq p v) (cond (nat_eq k c) n x) x) x ≡ n
    at n p v k c x some e s = grind (arith, nat_tests)

among_before : (parent : ℕ → ℕ) (v c n : ℕ) → c < kids_below parent v n → child_among parent v c (suc n) ≡ child_among parent v c n
unfolding child_among
among_before parent v c n l = at n (parent n) v (kids_below parent v n) c (child_among parent v c n) l
  where
    at : (n p v k c x : ℕ) → c < k → cond {A = ℕ} (nat_lt 0 n) (cond (nat_eq p v) (cond (nat_eq k c) n x) x) x ≡ x
    at n p v k c x l = grind (arith, nat_tests)

module _ {R : Type 0} (t : List (NodeView R)) where
  -- the first n nodes with one more child among them
  pub each_more : (v n : ℕ) (children : List ℕ) → length children ≡ kids_below (parent t) v n → 0 < n → parent t n ≡ v
      → ((c : ℕ) → c < kids_below (parent t) v n → get_or children c 0 ≡ child_among (parent t) v c n)
      → (length (children ++ (n ∷ [])) ≡ kids_below (parent t) v (n + 1)) × ((c : ℕ) → c < kids_below (parent t) v (n + 1) → get_or (children ++ (n ∷ [])) c 0 ≡ child_among (parent t) v c (n + 1))
  each_more v n children count some e each =
      let next : n + 1 ≡ suc n = omega arith in (
        length_behind children n ∙ ap (λ z. z + 1) count ∙ sym (kids_below_child (parent t) v n some e),
        (λ c l. elim (cases_lt c (kids_below (parent t) v n)) [
          | inl before ↦ at_more children n 0 c (omega (arith, count, before)) ∙ each c before ∙ sym (ap (child_among (parent t) v c) next ∙ among_before (parent t) v c n before)
          | inr g ↦
              let here : kids_below (parent t) v n ≡ c = omega (arith, g, l, kids_below_child (parent t) v n some e) in
              get_behind children n c 0 (sym (count ∙ here)) ∙ sym (ap (child_among (parent t) v c) next ∙ among_here (parent t) v c n some e here)
        ]),
      )

  pub each_other : (v n : ℕ) (children : List ℕ) → length children ≡ kids_below (parent t) v n → parent t n ≢ v
      → ((c : ℕ) → c < kids_below (parent t) v n → get_or children c 0 ≡ child_among (parent t) v c n)
      → (length children ≡ kids_below (parent t) v (n + 1)) × ((c : ℕ) → c < kids_below (parent t) v (n + 1) → get_or children c 0 ≡ child_among (parent t) v c (n + 1))
  each_other v n children count other each =
      let next : n + 1 ≡ suc n = omega arith in (
        count ∙ sym (kids_below_other (parent t) v n other),
        (λ c l.
            let before : c < kids_below (parent t) v n = omega (arith, l, kids_below_other (parent t) v n other) in
            each c before ∙ sym (ap (child_among (parent t) v c) next ∙ among_before (parent t) v c n before)),
      )
