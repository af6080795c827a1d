-- The row numbers of a solution are the slots of its key.
use Rattle.std.proofs.Common.{◌≡◌, ◌≢◌, ℕ, zero, suc, ◌+◌, ◌<◌, ◌⊎◌, nat_eq, List, length, take, get_or, sym, ap, ◌∙◌, subst, inl, inr, arith}
use Rattle.std.proofs.lemmas.Bool.{cases_eq, ne_eqb, cond-false}
use Rattle.std.proofs.Math.ListN.{set}
use Rattle.std.proofs.lemmas.List.{get_or-take, length-take, get_or-set_same, get_or-set_other, ext_get_or}
use Rattle.tdp_model.specs.KeyTuple.{KeyOf, key_add, key_none, slot_of}
use Rattle.tdp_model.specs.TreeProblem.{rows_key}
use Rattle.tdp_model.proofs.Ties.{slot_key, slot_zero}
use Rattle.tdp_core.specs.AnswerView.{rows_of_key}
use Rattle.tdp_core.specs.TreeView.{NodeView, parent, item, rows, number, group, rank}
use Rattle.tdp_core.specs.WellFormed.{IsFormed, IsTieFreeTree}
use Rattle.tdp_core.proofs.AnswerFacts.{rows_of_key_length, rows_of_key_at}
use Rattle.tdp_core.proofs.TreeFacts.{tie_free_of}

owner : (item : ℕ → ℕ) (i n : ℕ) → ((u : ℕ) × (u < n) × (i ≡ item u)) ⊎ ((u : ℕ) → u < n → i ≢ item u)
owner item i zero = inr (λ u l. absurd (omega arith))
owner item i (suc n) = elim (owner item i n) [
  | inl f ↦ inl (f.0, omega (arith, f.1), f.2)
  | inr no_one ↦ elim (cases_eq i (item n)) [
    | inl e ↦ inl (n, omega arith, e)
    | inr d ↦ inr (λ u l. elim (cases_eq u n) [ inl e ↦ subst (λ z. i ≢ item z) (sym e) d | inr f ↦ no_one u (omega arith) ])
  ]
]

-- the numbers of the first nodes' rows, each at its item, with those of one more node
module _ (m : ℕ) (item : ℕ → ℕ) (number : ℕ → ℕ) (below : (v : ℕ) → v < m → item v < 16) (apart : (u v : ℕ) → u < m → v < m → item u ≡ item v → u ≡ v)
    (numbers : List ℕ) (n : ℕ) (l : n < m) (long : length numbers ≡ 16) where
  pub own_next : ((u : ℕ) → u < n → get_or numbers (item u) 0 ≡ number u) → (u : ℕ) → u < n + 1 → get_or (set numbers (item n) (number n)) (item u) 0 ≡ number u
  own_next own u h = elim (cases_eq u n) [
    | inl e ↦ ap (λ z. get_or (set numbers (item n) (number n)) (item z) 0) e ∙ get_or-set_same numbers (item n) (number n) 0 (omega (arith, below n l, long)) ∙ ap number (sym e)
    | inr d ↦ get_or-set_other numbers (item n) (item u) (number n) 0 (λ e. d (apart u n (omega arith) l e)) ∙ own u (omega arith)
  ]

  pub others_next : ((i : ℕ) → ((u : ℕ) → u < n → i ≢ item u) → get_or numbers i 0 ≡ 0) → (i : ℕ) → ((u : ℕ) → u < n + 1 → i ≢ item u) → get_or (set numbers (item n) (number n)) i 0 ≡ 0
  others_next others i no_one = get_or-set_other numbers (item n) i (number n) 0 (no_one n (omega arith)) ∙ others i (λ u h. no_one u (omega arith))

module _ {R : Type 0} (d : ℕ) (key : R → KeyOf d 16) (t : List (NodeView R)) (formed : IsFormed d key t) (apart : IsTieFreeTree t) where
  pub numbers_are : (numbers chosen : List ℕ) → length numbers ≡ 16 → length chosen ≡ 16 → ((q : ℕ) → q < length t → get_or chosen q 0 < rows t q)
      → ((u : ℕ) → u < length t → get_or numbers (item t u) 0 ≡ number t u (get_or chosen u 0)) → ((i : ℕ) → ((u : ℕ) → u < length t → i ≢ item t u) → get_or numbers i 0 ≡ 0)
      → numbers ≡ rows_of_key d 16 (rows_key (key_add d 16) (key_none d 16) (rank t d key) (take (length t) chosen))
  numbers_are numbers chosen long wide in_rows own others =
      let s : List ℕ = take (length t) chosen in
      let size : length s ≡ length t = length-take (length t) chosen ∙ omega (arith, formed.shaped.few_nodes, wide) in
      let k : KeyOf d 16 = rows_key (key_add d 16) (key_none d 16) (rank t d key) s in
      ext_get_or 0 numbers (rows_of_key d 16 k) (long ∙ sym (rows_of_key_length d 16 k))
      (λ i l. elim (owner (item t) i (length t)) [
        | inl f ↦
            ap (λ z. get_or numbers z 0) f.2
            ∙ own f.0 f.1
            ∙ ap (λ z. number t f.0 z) (sym (get_or-take (length t) chosen f.0 0 f.1))
            ∙ sym (slot_key (key_add d 16) (key_none d 16) (length t) (parent t) (rank t d key) (group t) (item t) (number t) (slot_of d 16) (tie_free_of d key t formed apart) f.0 s (omega (arith, size, f.1)) (omega (arith, size)))
            ∙ ap (λ z. slot_of d 16 z k) (sym f.2)
            ∙ sym (rows_of_key_at d 16 i k)
        | inr no_one ↦
            others i no_one
            ∙ sym (slot_zero (key_add d 16) (key_none d 16) (length t) (parent t) (rank t d key) (group t) (item t) (number t) (slot_of d 16) (tie_free_of d key t formed apart) i (λ q. rank t d key q (get_or s q 0)) (length s) 0
            (λ j a b.
            let below : j < length t = omega (arith, size, b) in
            (formed.rows_fit j (get_or s j 0) below (subst (λ z. z < rows t j) (sym (get_or-take (length t) chosen j 0 below)) (in_rows j below))).slots i (omega (arith, l, long))
            ∙ cond-false (nat_eq i (item t j)) (number t j (get_or s j 0)) 0 (ne_eqb i (item t j) (no_one j below))))
            ∙ sym (rows_of_key_at d 16 i k)
      ])
