-- A row with a subtree solution stays.
use Rattle.std.proofs.Common.{◌≡◌, ℕ, zero, suc, ◌+◌, ◌-◌, ◌<◌, ◌≤◌, inl, inr, cond, length, get_or, refl, ap, subst, ◌∙◌, arith}
use Rattle.std.proofs.lemmas.Bool.{ne_eqb}
use Rattle.tdp_model.proofs.Descent.{below_itself, child_below}
use Rattle.tdp_core.specs.Solutions.{IsSubtreeSolution, RawLinked}
use Rattle.tdp_core.specs.RawView.{RawView, AreShapes, raw_len, shape_parent, own_link, child_link}
use Rattle.semi_join.specs.Reduction.{child_nodes, group_link}
use Rattle.semi_join.proofs.Kids.{kids_after}
use Rattle.semi_join.proofs.ChildPlaces.{link_is}
use Rattle.semi_join.proofs.Descends.{Stays, stays_up}

module _ {R : Type 0} (raw : RawView R) (shaped : AreShapes raw.shapes) where
  -- a row of a child that may stand below row r of v has the link that r names
  pub link_of : (v r c i : ℕ) → v < length raw.shapes → c < length (child_nodes raw v) → RawLinked raw (get_or (child_nodes raw v) c 0) r i → group_link raw (get_or (child_nodes raw v) c 0) i ≡ child_link raw v r c
  link_of v r c i inside h linked =
      let after = kids_after (shape_parent raw.shapes) v (length raw.shapes - suc v) c h in
      let u = get_or (child_nodes raw v) c 0 in
      let not_root : get_or (child_nodes raw v) c 0 ≡ 0 → ⊥ = λ e. omega (arith, e, after.0) in
      elim linked.1 [
        | inl e ↦ absurd (not_root e)
        | inr e ↦
            ap (λ b. cond b 0 (own_link raw (get_or (child_nodes raw v) c 0) i)) (ne_eqb (get_or (child_nodes raw v) c 0) 0 not_root) ∙ e
            ∙ link_is raw shaped v c inside h r
      ]

  pub extends_stays : (f v : ℕ) → length raw.shapes ≤ v + f → v < length raw.shapes → (t : ℕ → ℕ) → t v < raw_len raw v → IsSubtreeSolution (length raw.shapes) (shape_parent raw.shapes) (RawLinked raw) v t → Stays raw v (t v)
  extends_stays zero v enough inside t row solution = absurd (omega arith)
  extends_stays (suc f) v enough inside t row solution = stays_up raw v inside (t v) row (λ c h.
      let after = kids_after (shape_parent raw.shapes) v (length raw.shapes - suc v) c h in
      let u = get_or (child_nodes raw v) c 0 in
      let below : get_or (child_nodes raw v) c 0 < length raw.shapes = omega (arith, after.1) in
      let here = child_below (length raw.shapes) (shape_parent raw.shapes) shaped.parents_first (get_or (child_nodes raw v) c 0) v (get_or (child_nodes raw v) c 0) (get_or (child_nodes raw v) c 0) (omega arith) below after.0 below after.2
      (omega (arith, below_itself (length raw.shapes) (shape_parent raw.shapes) shaped.parents_first (get_or (child_nodes raw v) c 0) (get_or (child_nodes raw v) c 0) refl)) in
      let linked = solution (get_or (child_nodes raw v) c 0) after.0 below (omega (arith, here.0)) in
      let linked_v = subst (λ w. RawLinked raw (get_or (child_nodes raw v) c 0) (t w) (t (get_or (child_nodes raw v) c 0))) after.2 linked in (
        t (get_or (child_nodes raw v) c 0),
        extends_stays f (get_or (child_nodes raw v) c 0) (omega (arith, after.0)) below t linked.0
            (λ q past within under. solution q (omega (arith, after.0)) within
            (omega (arith, (child_below (length raw.shapes) (shape_parent raw.shapes) shaped.parents_first q v (get_or (child_nodes raw v) c 0) q (omega arith) within after.0 below after.2 under).0))),
        link_of v (t v) c (t (get_or (child_nodes raw v) c 0)) inside h linked_v,
      ))
