-- Parts with the shapes of a raw tree.
use Rattle.std.proofs.Common.{◌≡◌, ℕ, zero, suc, List, [], ◌∷◌, map, length, refl, sym, ap, subst, ◌∙◌}
use Rattle.std.proofs.lemmas.List.{length-map}
use Rattle.tdp_model.specs.KeyTuple.{KeyOf}
use Rattle.tdp_core.specs.declared.parts.NodeShape.{NodeShape}
use Rattle.tdp_core.specs.RawView.{AreShapes, AreShapesHeld, shape_at, shape_parent, shape_item, shape_cap, shape_children, shape_child_place}
use Rattle.tdp_core.specs.TreeView.{NodeView, kids_below, cap_of, node_at, parent, item, cap, child_count, child_place}
use Rattle.tdp_core.specs.WellFormed.{AreHeld, IsShaped}

module _ {R : Type 0} (shapes : List NodeShape) (t : List (NodeView R)) (same : map (λ n. n.shape) t ≡ shapes) where
  shape_read : (ns : List (NodeView R)) (v : ℕ) → shape_at (map (λ n. n.shape) ns) v ≡ (node_at ns v).shape
  shape_read [] v = refl
  shape_read (n ∷ ns) zero = refl
  shape_read (n ∷ ns) (suc v) = shape_read ns v

  pub shape_same : (v : ℕ) → (node_at t v).shape ≡ shape_at shapes v
  shape_same v = sym (shape_read t v) ∙ ap (λ s. shape_at s v) same

  pub parent_same : parent t ≡ shape_parent shapes
  parent_same = λ i q. (shape_same q i).parent

  pub count_same : length t ≡ length shapes
  count_same = sym (length-map t (λ n. n.shape)) ∙ ap length same

  pub place_same : (q : ℕ) → child_place t q ≡ shape_child_place shapes q
  place_same q = ap (λ p. kids_below p (p q) q) parent_same

  pub children_same : (v : ℕ) → child_count t v ≡ shape_children shapes v
  children_same v = ap (λ n. kids_below (parent t) v n) count_same ∙ ap (λ p. kids_below p v (length shapes)) parent_same

  pub shaped_same : AreShapes shapes → IsShaped (length t) (parent t) (item t) (cap t)
  shaped_same s =
      let each : shape_at shapes ≡ (λ v. (node_at t v).shape) = λ i v. sym (shape_same v) i in
      let F : (ℕ → NodeShape) → Type 0 = λ f. IsShaped (length t) (λ q. (f q).parent) (λ v. (f v).item) (λ v i. cap_of (f v) i) in
      subst F each (subst (λ n. IsShaped n (shape_parent shapes) (shape_item shapes) (shape_cap shapes)) (sym count_same) s)

  pub held_same : (d : ℕ) (key : R → KeyOf d 16) → AreShapesHeld d key shapes → AreHeld d key (length t) (item t) (cap t)
  held_same d key s =
      let each : shape_at shapes ≡ (λ v. (node_at t v).shape) = λ i v. sym (shape_same v) i in
      let F : (ℕ → NodeShape) → Type 0 = λ f. AreHeld d key (length t) (λ v. (f v).item) (λ v i. cap_of (f v) i) in
      subst F each (subst (λ n. AreHeld d key n (shape_item shapes) (shape_cap shapes)) (sym count_same) s)
