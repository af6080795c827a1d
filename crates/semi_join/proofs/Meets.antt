-- The rows that stay are those with partners.
use Rattle.std.proofs.Common.{◌≡◌, ℕ, zero, suc, ◌<◌, ◌⊎◌, inl, inr, Bool, true, false, cond, nat_eq, ◌&&◌, ◌||◌, List, [], ◌∷◌, ◌++◌, length, get_or, refl, sym, ap, subst, ◌∙◌, arith, eq-eqb, eqb-true, length-append}
use Rattle.std.proofs.lemmas.Bool.{eqb-false, cases_eq, and_parts}
use Rattle.std.proofs.lemmas.List.{get_or_append_left}
use Rattle.std.specs.List.{list_any}
use Rattle.tdp_core.specs.RawView.{RawView, child_link}
use Rattle.semi_join.specs.Reduction.{child_links, has_partners}
use Rattle.semi_join.proofs.FirstOnes.{has_first, has_more, kept_first, kept_more}
use Rattle.link_index.proofs.Lists.{get_or_snoc}
use Rattle.semi_join.proofs.Numbering.{get_or_last}

-- x stands in the list
abbrev pub Stands : ℕ → List ℕ → Type 0
Stands x xs = (i : ℕ) × (i < length xs) × (get_or xs i 0 ≡ x)

-- a test that finds a number, and one that stands there
pub any_stands : (x : ℕ) (xs : List ℕ) → list_any (nat_eq x) xs ≡ true → Stands x xs
any_stands x [] h = cc
any_stands x (y ∷ ys) h = by (nat_eq x y) refl h (any_stands x ys)
  where
    by : (b : Bool) → nat_eq x y ≡ b → (b || list_any (nat_eq x) ys) ≡ true → (list_any (nat_eq x) ys ≡ true → Stands x ys) → Stands x (y ∷ ys)
    by true e h rest = (0, omega arith, sym (eqb-true x y e))
    by false e h rest = let r = rest h in (suc r.0, omega (arith, r.1), r.2)

pub stands_any : (x : ℕ) (xs : List ℕ) → Stands x xs → list_any (nat_eq x) xs ≡ true
stands_any x [] s = absurd (omega (arith, s.1))
stands_any x (y ∷ ys) s = by s.0 s.1 s.2 (stands_any x ys)
  where
    or_right : (a b : Bool) → b ≡ true → (a || b) ≡ true
    or_right true b h = refl
    or_right false b h = h

    by : (i : ℕ) → i < suc (length ys) → get_or (y ∷ ys) i 0 ≡ x → (Stands x ys → list_any (nat_eq x) ys ≡ true) → (nat_eq x y || list_any (nat_eq x) ys) ≡ true
    by zero h e rest = ap (λ b. b || list_any (nat_eq x) ys) (eq-eqb x y (sym e))
    by (suc i) h e rest = let less : i < length ys = omega arith in or_right (nat_eq x y) _ (rest (i, less, e))

pub stands_cond : (b : Bool) (ks : List ℕ) (n r : ℕ) → Stands r ks → Stands r (cond b (ks ++ (n ∷ [])) ks)
stands_cond true ks n r s = (s.0, omega (arith, s.1, length-append ks (n ∷ [])), get_or_append_left ks (n ∷ []) 0 s.0 s.1 ∙ s.2)
stands_cond false ks n r s = s

pub last_cond : (b : Bool) (ks : List ℕ) (n : ℕ) → b ≡ true → Stands n (cond b (ks ++ (n ∷ [])) ks)
last_cond true ks n e = (length ks, omega (arith, length-append ks (n ∷ [])), get_or_last ks n 0)
last_cond false ks n e = cc

pub out_cond : (b : Bool) (ks : List ℕ) (n r : ℕ) → Stands r (cond b (ks ++ (n ∷ [])) ks) → Stands r ks ⊎ ((b ≡ true) × (r ≡ n))
out_cond false ks n r s = inl s
out_cond true ks n r s = elim (get_or_snoc ks n s.0 0 s.1) [ inl p ↦ inl (s.0, p.0, sym p.1 ∙ s.2) | inr p ↦ inr (refl, sym s.2 ∙ p.1) ]

module _ {R : Type 0} (raw : RawView R) (v : ℕ) (later : List (List ℕ)) where
  -- a row has partners where each link that it names is the link of a group of that child
  pub met_each : (n i : ℕ) → has_first raw v later n i ≡ true → (c : ℕ) → c < n → Stands (child_link raw v i c) (child_links raw v later c)
  met_each zero i h c l = absurd (omega arith)
  met_each (suc n) i h c l =
      let parts = and_parts (has_first raw v later n i) (list_any (nat_eq (child_link raw v i n)) (child_links raw v later n)) (sym (has_more raw v later n i) ∙ h) in
      by (nat_eq c n) refl (met_each n i parts.0 c) (any_stands (child_link raw v i n) (child_links raw v later n) parts.1)
    where
      by : (b : Bool) → nat_eq c n ≡ b → (c < n → Stands (child_link raw v i c) (child_links raw v later c)) → Stands (child_link raw v i n) (child_links raw v later n) → Stands (child_link raw v i c) (child_links raw v later c)
      by true e old new = subst (λ k. Stands (child_link raw v i k) (child_links raw v later k)) (sym (eqb-true c n e)) new
      by false e old new = let not = eqb-false c n e in old (omega arith)

  pub each_met : (n i : ℕ) → ((c : ℕ) → c < n → Stands (child_link raw v i c) (child_links raw v later c)) → has_first raw v later n i ≡ true
  each_met zero i h = refl
  each_met (suc n) i h =
      has_more raw v later n i ∙ ap (λ b. b && list_any (nat_eq (child_link raw v i n)) (child_links raw v later n)) (each_met n i (λ c l. h c (omega arith))) ∙ stands_any _ _ (h n (omega arith))

  -- the kept rows are those that meet
  pub kept_stands : (n r : ℕ) → r < n → has_partners raw v later r ≡ true → Stands r (kept_first raw v later n)
  kept_stands zero r l h = absurd (omega arith)
  kept_stands (suc n) r l h = subst (Stands r) (sym (kept_more raw v later n)) (elim (cases_eq r n) [
    | inl e ↦
        subst (λ k. Stands k (cond (has_partners raw v later n) (kept_first raw v later n ++ (n ∷ [])) (kept_first raw v later n))) (sym e)
        (last_cond (has_partners raw v later n) (kept_first raw v later n) n (subst (λ k. has_partners raw v later k ≡ true) e h))
    | inr not ↦ let less : r < n = omega arith in stands_cond (has_partners raw v later n) (kept_first raw v later n) n r (kept_stands n r less h)
  ])

  pub stands_kept : (n r : ℕ) → Stands r (kept_first raw v later n) → (r < n) × (has_partners raw v later r ≡ true)
  stands_kept zero r s = absurd (omega (arith, s.1))
  stands_kept (suc n) r s = elim (out_cond (has_partners raw v later n) (kept_first raw v later n) n r (subst (Stands r) (kept_more raw v later n) s)) [
    | inl old ↦ let p = stands_kept n r old in (omega (arith, p.0), p.1)
    | inr new ↦ (omega (arith, new.1), subst (λ k. has_partners raw v later k ≡ true) (sym new.1) new.0)
  ]
