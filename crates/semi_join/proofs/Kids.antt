-- The children of a node.
use Rattle.std.proofs.Common.{◌≡◌, ℕ, zero, suc, ◌+◌, ◌-◌, ◌<◌, ◌≤◌, inl, inr, Bool, true, false, cond, nat_eq, List, [], ◌∷◌, ◌++◌, length, get_or, refl, sym, ap, subst, ◌∙◌, arith, length-append, eqb-true, eq-eqb}
use Rattle.std.proofs.lemmas.Bool.{eqb-false}
use Rattle.tdp_core.specs.RawView.{RawView, AreShapes, shape_parent, shape_children}
use Rattle.tdp_core.specs.TreeView.{kids_below}
use Rattle.tdp_core.proofs.Children.{kids_below_first, kids_below_child, kids_below_other}
use Rattle.link_index.proofs.Lists.{eqb_false, get_or_snoc}
use Rattle.semi_join.specs.Reduction.{child_nodes}
use Rattle.semi_join.proofs.FirstOnes.{children_among, children_more}

-- one node more
pub kids_more : (parent : ℕ → ℕ) (v q : ℕ) → v < q
    → children_among parent v (q + 1 - suc v) ≡ cond (nat_eq (parent q) v) (children_among parent v (q - suc v) ++ (q ∷ [])) (children_among parent v (q - suc v))
kids_more parent v q h =
    let more : q + 1 - suc v ≡ suc (q - suc v) = omega arith in
    let here : suc v + (q - suc v) ≡ q = omega arith in
    ap (children_among parent v) more ∙ children_more parent v (q - suc v) ∙ ap (λ u. cond (nat_eq (parent u) v) (children_among parent v (q - suc v) ++ (u ∷ [])) (children_among parent v (q - suc v))) here

-- at most one more
pub few_cond : (b : Bool) (ks : List ℕ) (u n : ℕ) → length ks ≤ n → length (cond b (ks ++ (u ∷ [])) ks) ≤ suc n
few_cond true ks u n h = omega (arith, length-append ks (u ∷ []))
few_cond false ks u n h = omega arith

pub kids_few : (parent : ℕ → ℕ) (v n : ℕ) → length (children_among parent v n) ≤ n
kids_few parent v zero = omega arith
kids_few parent v (suc n) =
    subst (λ l. length l ≤ suc n) (sym (children_more parent v n)) (few_cond (nat_eq (parent (suc v + n)) v) (children_among parent v n) (suc v + n) n (kids_few parent v n))

abbrev pub IsAfter : (ℕ → ℕ) → ℕ → ℕ → ℕ → Type 0
IsAfter parent v end u = (v < u) × (u < end) × (parent u ≡ v)

after_cond : (parent : ℕ → ℕ) (v n : ℕ) (b : Bool) (ks : List ℕ) (c : ℕ) → nat_eq (parent (suc v + n)) v ≡ b → (c < length ks → IsAfter parent v (suc v + n) (get_or ks c 0))
    → c < length (cond b (ks ++ ((suc v + n) ∷ [])) ks) → IsAfter parent v (suc v + suc n) (get_or (cond b (ks ++ ((suc v + n) ∷ [])) ks) c 0)
after_cond parent v n false ks c e old h = let r = old h in (r.0, omega (arith, r.1), r.2)
after_cond parent v n true ks c e old h =
    elim (get_or_snoc ks (suc v + n) c 0 h) [
      | inl p ↦ let r = old p.0 in subst (IsAfter parent v (suc v + suc n)) (sym p.1) (r.0, omega (arith, r.1), r.2)
      | inr p ↦ subst (IsAfter parent v (suc v + suc n)) (sym p.1) (omega arith, omega arith, eqb-true _ _ e)
    ]

-- each child comes after its parent
pub kids_after : (parent : ℕ → ℕ) (v n c : ℕ) → c < length (children_among parent v n) → IsAfter parent v (suc v + n) (get_or (children_among parent v n) c 0)
kids_after parent v zero c h = absurd (omega arith)
kids_after parent v (suc n) c h =
    subst (λ l. IsAfter parent v (suc v + suc n) (get_or l c 0)) (sym (children_more parent v n))
    (after_cond parent v n (nat_eq (parent (suc v + n)) v) (children_among parent v n) c refl (kids_after parent v n c) (subst (λ l. c < length l) (children_more parent v n) h))

pub kid_added : (parent : ℕ → ℕ) (v q : ℕ) (items : List ℕ) → v < q → items ≡ children_among parent v (q - suc v) → parent q ≡ v → items ++ (q ∷ []) ≡ children_among parent v (q + 1 - suc v)
kid_added parent v q items h e is =
    ap (λ ks. ks ++ (q ∷ [])) e ∙ ap (λ b. cond b (children_among parent v (q - suc v) ++ (q ∷ [])) (children_among parent v (q - suc v))) (sym (eq-eqb (parent q) v is)) ∙ sym (kids_more parent v q h)

pub kid_passed : (parent : ℕ → ℕ) (v q : ℕ) (items : List ℕ) → v < q → items ≡ children_among parent v (q - suc v) → (parent q ≡ v → ⊥) → items ≡ children_among parent v (q + 1 - suc v)
kid_passed parent v q items h e not =
    e ∙ ap (λ b. cond b (children_among parent v (q - suc v) ++ (q ∷ [])) (children_among parent v (q - suc v))) (sym (eqb_false (parent q) v not)) ∙ sym (kids_more parent v q h)

module _ {R : Type 0} (raw : RawView R) (v : ℕ) (children : List ℕ) (all : children ≡ child_nodes raw v) (c : ℕ) (within : c < length children) where
  pub child_after : IsAfter (shape_parent raw.shapes) v (suc v + (length raw.shapes - suc v)) (get_or children c 0)
  child_after =
      subst (λ ks. c < length ks → IsAfter (shape_parent raw.shapes) v (suc v + (length raw.shapes - suc v)) (get_or ks c 0)) (sym all) (kids_after (shape_parent raw.shapes) v (length raw.shapes - suc v) c) within

  pub child_index : (later : ℕ) → v + 1 + later ≡ length raw.shapes → get_or children c 0 - v - 1 < later
  child_index later s = let after = child_after in omega (arith, after.0, after.1)

-- # How many children there are

module _ (m : ℕ) (parent : ℕ → ℕ) (first : (q : ℕ) → 0 < q → q < m → parent q < q) where
  -- no node up to v has the parent v
  none_before : (v n : ℕ) → v < m → n ≤ v → kids_below parent v (n + 1) ≡ 0
  none_before v zero inside h = kids_below_first parent v
  none_before v (suc n) inside h =
      let below = first (suc n) (omega arith) (omega arith) in
      let not : parent (suc n) ≡ v → ⊥ = λ e. omega (arith, e, below) in
      let before : suc n ≡ n + 1 = omega arith in
      kids_below_other parent v (suc n) not ∙ ap (kids_below parent v) before ∙ none_before v n inside (omega arith)

  count_cond : (v n : ℕ) (b : Bool) (ks : List ℕ) → nat_eq (parent (suc v + n)) v ≡ b → length ks ≡ kids_below parent v (suc v + n)
      → length (cond b (ks ++ ((suc v + n) ∷ [])) ks) ≡ kids_below parent v ((suc v + n) + 1)
  count_cond v n true ks e old =
      omega (arith, length-append ks ((suc v + n) ∷ []), old, kids_below_child parent v (suc v + n) (omega arith) (eqb-true (parent (suc v + n)) v e))
  count_cond v n false ks e old = old ∙ sym (kids_below_other parent v (suc v + n) (eqb-false (parent (suc v + n)) v e))

  pub kids_count : (v n : ℕ) → v < m → length (children_among parent v n) ≡ kids_below parent v (suc v + n)
  kids_count v zero inside = let here : suc v + 0 ≡ v + 1 = omega arith in sym (ap (kids_below parent v) here ∙ none_before v v inside (omega arith))
  kids_count v (suc n) inside =
      let next : (suc v + n) + 1 ≡ suc v + suc n = omega arith in
      ap length (children_more parent v n) ∙ count_cond v n (nat_eq (parent (suc v + n)) v) (children_among parent v n) refl (kids_count v n inside) ∙ ap (kids_below parent v) next

-- the list of the children has as many as the tree counts
pub children_count : {R : Type 0} (raw : RawView R) → AreShapes raw.shapes → (v : ℕ) → v < length raw.shapes → length (child_nodes raw v) ≡ shape_children raw.shapes v
children_count raw shaped v inside =
    let all : suc v + (length raw.shapes - suc v) ≡ length raw.shapes = omega arith in
    kids_count (length raw.shapes) (shape_parent raw.shapes) shaped.parents_first v (length raw.shapes - suc v) inside ∙ ap (kids_below (shape_parent raw.shapes) v) all
