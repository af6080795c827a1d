-- A row that stays has a subtree solution.
use Rattle.std.proofs.Common.{◌≡◌, ℕ, zero, suc, ◌+◌, ◌-◌, ◌<◌, ◌≤◌, inl, inr, cond, nat_eq, length, get_or, refl, sym, ap, subst, ◌∙◌, arith, eq-eqb}
use Rattle.std.proofs.lemmas.Bool.{ne_eqb, cases_eq, cases_lt}
use Rattle.tdp_model.specs.Below.{is_below}
use Rattle.tdp_model.proofs.Descent.{below_itself, below_less, below_parent}
use Rattle.tdp_core.specs.Solutions.{IsSubtreeSolution, Extends, RawLinked}
use Rattle.tdp_core.specs.RawView.{RawView, AreShapes, raw_len, shape_parent, own_link, child_link}
use Rattle.semi_join.specs.Reduction.{child_nodes, group_link}
use Rattle.semi_join.proofs.Kids.{kids_after}
use Rattle.semi_join.proofs.ChildPlaces.{link_is, kid_stands}
use Rattle.semi_join.proofs.Descends.{Stays, stays_down}

pick_zero : (k a b : ℕ) → k ≡ 0 → cond (nat_eq k 0) a b ≡ a
pick_zero k a b e = ap (λ x. cond x a b) (eq-eqb k 0 e)

pick_more : (k a b : ℕ) → 0 < k → cond (nat_eq k 0) a b ≡ b
pick_more k a b h = let not : k ≡ 0 → ⊥ = λ e. omega (arith, e) in ap (λ x. cond x a b) (ne_eqb k 0 not)

module _ {R : Type 0} (raw : RawView R) (shaped : AreShapes raw.shapes) where
  abbrev below : ℕ → ℕ → ℕ
  below u q = is_below (shape_parent raw.shapes) u q

  linked_of : (v r c i : ℕ) → v < length raw.shapes → c < length (child_nodes raw v) → i < raw_len raw (get_or (child_nodes raw v) c 0) → group_link raw (get_or (child_nodes raw v) c 0) i ≡ child_link raw v r c
      → RawLinked raw (get_or (child_nodes raw v) c 0) r i
  linked_of v r c i inside h row e =
      let after = kids_after (shape_parent raw.shapes) v (length raw.shapes - suc v) c h in
      let not_root : get_or (child_nodes raw v) c 0 ≡ 0 → ⊥ = λ z. omega (arith, z, after.0) in (
        row,
        inr (sym (ap (λ b. cond b 0 (own_link raw (get_or (child_nodes raw v) c 0) i)) (ne_eqb (get_or (child_nodes raw v) c 0) 0 not_root)) ∙ e
            ∙ sym (link_is raw shaped v c inside h r)),
      )

  -- a node below v is below one of its children, or is one
  under_child : (f v q : ℕ) → q ≤ f → v < length raw.shapes → v < q → q < length raw.shapes → 0 < below v q → (c : ℕ) × (c < length (child_nodes raw v)) × (0 < below (get_or (child_nodes raw v) c 0) q)
  under_child zero v q e inside past within under = absurd (omega arith)
  under_child (suc f) v q e inside past within under = elim (cases_eq (shape_parent raw.shapes q) v) [
    | inl is ↦
        let s = kid_stands (shape_parent raw.shapes) v (length raw.shapes - suc v) q past (omega arith) is in
        (s.0, s.1, omega (arith, below_itself (length raw.shapes) (shape_parent raw.shapes) shaped.parents_first (get_or (child_nodes raw v) s.0 0) q (sym s.2)))
    | inr not ↦
        let first = shaped.parents_first q (omega arith) within in
        let up = below_parent (length raw.shapes) (shape_parent raw.shapes) shaped.parents_first v q (omega arith) within (λ z. omega (arith, z)) in
        let above : v < shape_parent raw.shapes q = elim (cases_lt (shape_parent raw.shapes q) v) [
          | inl l ↦ absurd (omega (arith, up, below_less (length raw.shapes) (shape_parent raw.shapes) shaped.parents_first v (shape_parent raw.shapes q) (omega arith) l))
          | inr g ↦ omega (arith, g, not)
        ] in
        let s = under_child f v (shape_parent raw.shapes q) (omega arith) inside above (omega arith) (omega (arith, up)) in
        let after = kids_after (shape_parent raw.shapes) v (length raw.shapes - suc v) s.0 s.1 in
        let other : q ≡ get_or (child_nodes raw v) s.0 0 → ⊥ = λ z. not (ap (shape_parent raw.shapes) z ∙ after.2) in
        let same = below_parent (length raw.shapes) (shape_parent raw.shapes) shaped.parents_first (get_or (child_nodes raw v) s.0 0) q (omega arith) within other in
        (s.0, s.1, omega (arith, same, s.2))
  ]

  -- one row for v and for each node below its first n children
  abbrev First : ℕ → ℕ → ℕ → (ℕ → ℕ) → Type 0
  First v r n t = (t v ≡ r)
      × ((q : ℕ) → v < q → q < length raw.shapes → (c : ℕ) → c < n → 0 < below (get_or (child_nodes raw v) c 0) q → RawLinked raw q (t (shape_parent raw.shapes q)) (t q))

  -- one more child, with rows `s` of its own
  abbrev joined : ℕ → (ℕ → ℕ) → (ℕ → ℕ) → ℕ → ℕ
  joined u t s q = cond (nat_eq (below u q) 0) (t q) (s q)

  join_child : (v r n : ℕ) (t s : ℕ → ℕ) → v < length raw.shapes → n < length (child_nodes raw v) → First v r n t → RawLinked raw (get_or (child_nodes raw v) n 0) r (s (get_or (child_nodes raw v) n 0))
      → IsSubtreeSolution (length raw.shapes) (shape_parent raw.shapes) (RawLinked raw) (get_or (child_nodes raw v) n 0) s → First v r (suc n) (joined (get_or (child_nodes raw v) n 0) t s)
  join_child v r n t s inside h first linked solution =
      let after = kids_after (shape_parent raw.shapes) v (length raw.shapes - suc v) n h in
      let u = get_or (child_nodes raw v) n 0 in
      let u_in : get_or (child_nodes raw v) n 0 < length raw.shapes = omega (arith, after.1) in
      let at_v = pick_zero (below u v) (t v) (s v) (below_less (length raw.shapes) (shape_parent raw.shapes) shaped.parents_first u v inside after.0) in (
        at_v ∙ first.0,
        λ q past within c less under. elim (cases_lt 0 (below u q)) [
          | inl some ↦ elim (cases_eq q u) [
            | inl is ↦
                let one : joined u t s (shape_parent raw.shapes q) ≡ r = ap (λ w. joined u t s (shape_parent raw.shapes w)) is ∙ ap (joined u t s) after.2 ∙ at_v ∙ first.0 in
                let two : joined u t s q ≡ s q = pick_more (below u q) (t q) (s q) some in
                subst (λ x. RawLinked raw q x (joined u t s q)) (sym one) (subst (RawLinked raw q r) (sym two) (subst (λ w. RawLinked raw w r (s w)) (sym is) linked))
            | inr not ↦
                let up = below_parent (length raw.shapes) (shape_parent raw.shapes) shaped.parents_first u q (omega arith) within not in
                let beyond : u < q = elim (cases_lt q u) [
                  | inl l ↦ absurd (omega (arith, some, below_less (length raw.shapes) (shape_parent raw.shapes) shaped.parents_first u q within l))
                  | inr g ↦ omega (arith, g, not)
                ] in
                let one : joined u t s (shape_parent raw.shapes q) ≡ s (shape_parent raw.shapes q) = pick_more (below u (shape_parent raw.shapes q)) (t (shape_parent raw.shapes q)) (s (shape_parent raw.shapes q)) (omega (arith, up, some)) in
                let two : joined u t s q ≡ s q = pick_more (below u q) (t q) (s q) some in
                subst (λ x. RawLinked raw q x (joined u t s q)) (sym one) (subst (RawLinked raw q (s (shape_parent raw.shapes q))) (sym two) (solution q beyond within some))
          ]
          | inr none ↦
              let zero_q : below u q ≡ 0 = omega arith in
              let not : q ≡ u → ⊥ = λ e. omega (arith, none, below_itself (length raw.shapes) (shape_parent raw.shapes) shaped.parents_first u q e) in
              let up = below_parent (length raw.shapes) (shape_parent raw.shapes) shaped.parents_first u q (omega arith) within not in
              let earlier : c < n = elim (cases_eq c n) [
                | inl e ↦ absurd (omega (arith, zero_q, subst (λ k. 0 < below (get_or (child_nodes raw v) k 0) q) e under))
                | inr other ↦ omega (arith, less, other)
              ] in
              let one : joined u t s (shape_parent raw.shapes q) ≡ t (shape_parent raw.shapes q) = pick_zero (below u (shape_parent raw.shapes q)) (t (shape_parent raw.shapes q)) (s (shape_parent raw.shapes q)) (sym up ∙ zero_q) in
              let two : joined u t s q ≡ t q = pick_zero (below u q) (t q) (s q) zero_q in
              subst (λ x. RawLinked raw q x (joined u t s q)) (sym one) (subst (RawLinked raw q (t (shape_parent raw.shapes q))) (sym two) (first.1 q past within c earlier under))
        ],
      )

  first_children : (v r n : ℕ) → v < length raw.shapes → n ≤ length (child_nodes raw v)
      → ((c : ℕ) → c < length (child_nodes raw v) → (s : ℕ → ℕ) × RawLinked raw (get_or (child_nodes raw v) c 0) r (s (get_or (child_nodes raw v) c 0)) × IsSubtreeSolution (length raw.shapes) (shape_parent raw.shapes) (RawLinked raw) (get_or (child_nodes raw v) c 0) s)
      → (t : ℕ → ℕ) × First v r n t
  first_children v r zero inside h each = (λ _. r, (refl, λ q past within c less under. absurd (omega arith)))
  first_children v r (suc n) inside h each =
      let before = first_children v r n inside (omega arith) each in
      let one = each n (omega arith) in
      (joined (get_or (child_nodes raw v) n 0) before.0 one.0, join_child v r n before.0 one.0 inside (omega arith) before.1 one.1 one.2)

  pub stays_extends : (f v r : ℕ) → length raw.shapes ≤ v + f → v < length raw.shapes → Stays raw v r → Extends (length raw.shapes) (shape_parent raw.shapes) (RawLinked raw) v r
  stays_extends zero v r enough inside s = absurd (omega arith)
  stays_extends (suc f) v r enough inside s =
      let all = first_children v r (length (child_nodes raw v)) inside (omega arith) (λ c h.
      let after = kids_after (shape_parent raw.shapes) v (length raw.shapes - suc v) c h in
      let down = stays_down raw v inside r s c h in
      let sub = stays_extends f (get_or (child_nodes raw v) c 0) down.0 (omega (arith, after.0)) (omega (arith, after.1)) down.1 in
      (sub.0, subst (RawLinked raw (get_or (child_nodes raw v) c 0) r) (sym sub.1) (linked_of v r c down.0 inside h down.1.row down.2), sub.2)) in
      (all.0, all.1.0, λ q past within under. let w = under_child q v q (omega arith) inside past within under in all.1.1 q past within w.0 w.1 w.2)
