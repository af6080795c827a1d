-- The places of children.
use Rattle.std.proofs.Common.{◌≡◌, ℕ, zero, suc, ◌+◌, ◌-◌, ◌<◌, inl, inr, Bool, true, false, cond, nat_eq, List, [], ◌∷◌, ◌++◌, length, get_or, refl, sym, ap, subst, ◌∙◌, arith, eq-eqb}
use Rattle.std.proofs.lemmas.Bool.{cases_eq}
use Rattle.tdp_core.specs.RawView.{RawView, AreShapes, shape_parent, shape_child_place, child_link}
use Rattle.tdp_core.specs.TreeView.{kids_below}
use Rattle.semi_join.specs.Reduction.{child_nodes}
use Rattle.semi_join.proofs.FirstOnes.{children_among, children_more}
use Rattle.link_index.proofs.Lists.{get_or_snoc}
use Rattle.semi_join.proofs.Kids.{kids_after, kids_count}
use Rattle.semi_join.proofs.Meets.{Stands, stands_cond, last_cond}

place_cond : (parent : ℕ → ℕ) (v n : ℕ) (b : Bool) (ks : List ℕ) (c : ℕ) → ks ≡ children_among parent v n → (c < length ks → length (children_among parent v (get_or ks c 0 - suc v)) ≡ c)
    → c < length (cond b (ks ++ ((suc v + n) ∷ [])) ks) → length (children_among parent v (get_or (cond b (ks ++ ((suc v + n) ∷ [])) ks) c 0 - suc v)) ≡ c
place_cond parent v n false ks c is old h = old h
place_cond parent v n true ks c is old h = elim (get_or_snoc ks (suc v + n) c 0 h) [
  | inl p ↦ subst (λ u. length (children_among parent v (u - suc v)) ≡ c) (sym p.1) (old p.0)
  | inr p ↦
      let here : n ≡ suc v + n - suc v = omega arith in
      subst (λ u. length (children_among parent v (u - suc v)) ≡ c) (sym p.1) (subst (λ j. length (children_among parent v j) ≡ c) here (ap length (sym is) ∙ sym p.0))
]

-- the c-th child of v has the place c
pub place_of_kid : (parent : ℕ → ℕ) (v n c : ℕ) → c < length (children_among parent v n) → length (children_among parent v (get_or (children_among parent v n) c 0 - suc v)) ≡ c
place_of_kid parent v zero c h = absurd (omega arith)
place_of_kid parent v (suc n) c h =
    subst (λ l. length (children_among parent v (get_or l c 0 - suc v)) ≡ c) (sym (children_more parent v n))
    (place_cond parent v n (nat_eq (parent (suc v + n)) v) (children_among parent v n) c refl (place_of_kid parent v n c) (subst (λ l. c < length l) (children_more parent v n) h))

-- each node with the parent v is one of its children
pub kid_stands : (parent : ℕ → ℕ) (v n q : ℕ) → v < q → q < suc v + n → parent q ≡ v → Stands q (children_among parent v n)
kid_stands parent v zero q h l e = absurd (omega arith)
kid_stands parent v (suc n) q h l e = subst (Stands q) (sym (children_more parent v n)) (elim (cases_eq q (suc v + n)) [
  | inl is ↦
      subst (λ u. Stands u (cond (nat_eq (parent (suc v + n)) v) (children_among parent v n ++ ((suc v + n) ∷ [])) (children_among parent v n))) (sym is)
      (last_cond (nat_eq (parent (suc v + n)) v) (children_among parent v n) (suc v + n) (eq-eqb (parent (suc v + n)) v (ap parent (sym is) ∙ e)))
  | inr not ↦ let less : q < suc v + n = omega arith in stands_cond (nat_eq (parent (suc v + n)) v) (children_among parent v n) (suc v + n) q (kid_stands parent v n q h less e)
])

module _ {R : Type 0} (raw : RawView R) (shaped : AreShapes raw.shapes) (v c : ℕ) (inside : v < length raw.shapes) (h : c < length (child_nodes raw v)) where
  pub place-is : shape_child_place raw.shapes (get_or (child_nodes raw v) c 0) ≡ c
  place-is =
      let after = kids_after (shape_parent raw.shapes) v (length raw.shapes - suc v) c h in
      let here : suc v + (get_or (child_nodes raw v) c 0 - suc v) ≡ get_or (child_nodes raw v) c 0 = omega (arith, after.0) in
      ap (λ w. kids_below (shape_parent raw.shapes) w (get_or (child_nodes raw v) c 0)) after.2 ∙ sym (ap (kids_below (shape_parent raw.shapes) v) here)
      ∙ sym (kids_count (length raw.shapes) (shape_parent raw.shapes) shaped.parents_first v (get_or (child_nodes raw v) c 0 - suc v) inside)
      ∙ place_of_kid (shape_parent raw.shapes) v (length raw.shapes - suc v) c h

  -- the link that row r of v names for its child number c
  pub link_is : (r : ℕ) → child_link raw (shape_parent raw.shapes (get_or (child_nodes raw v) c 0)) r (shape_child_place raw.shapes (get_or (child_nodes raw v) c 0)) ≡ child_link raw v r c
  link_is r =
      let after = kids_after (shape_parent raw.shapes) v (length raw.shapes - suc v) c h in
      ap (λ w. child_link raw w r (shape_child_place raw.shapes (get_or (child_nodes raw v) c 0))) after.2 ∙ ap (child_link raw v r) place-is
