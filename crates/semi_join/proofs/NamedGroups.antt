-- The groups that a row names.
use Rattle.std.proofs.Common.{◌≡◌, ℕ, suc, ◌+◌, ◌-◌, ◌<◌, ◌↔◌, cond, nat_eq, List, [], length, get_or, Contains, refl, sym, ap, subst, ◌∙◌, arith}
use Rattle.std.specs.List.{position_or_len}
use Rattle.std.proofs.lemmas.Bool.{ne_eqb}
use Rattle.std.proofs.lemmas.List.{get_or-map}
use Rattle.std.proofs.lemmas.List.FromFn.{length-map-range_with_len, get_or-map-range_with_len}
use Rattle.tdp_core.specs.RawView.{RawView, AreShapes, shape_parent, shape_child_place, own_link, child_link}
use Rattle.tdp_core.specs.TreeView.{NodeView, parent, child_place, group, group_named, group_number, members}
use Rattle.semi_join.specs.ReducedTrees.{ShareGroup}
use Rattle.semi_join.specs.Reduction.{child_nodes, child_links, groups_named}
use Rattle.semi_join.proofs.FromLast.{AreReducedLast}
use Rattle.semi_join.proofs.FirstOnes.{named_first}
use Rattle.semi_join.proofs.Meets.{Stands, met_each}
use Rattle.semi_join.proofs.Descends.{later_of, links_of_child}
use Rattle.semi_join.proofs.ChildPlaces.{kid_stands, place-is}
use Rattle.semi_join.proofs.Found.{found_at}
use Rattle.semi_join.proofs.SameShapes.{parent_same, place_same}
use Rattle.semi_join.proofs.KeptParts.{kept_at, links_at, kept_stays, own_at, node_of, all_shapes, member_kept, member_own, own_member, group_for}

module _ {R : Type 0} (raw : RawView R) (v : ℕ) (later : List (List ℕ)) where
  pub named_count : (n r : ℕ) → length (named_first raw v later n r) ≡ n
  named_count n r = length-map-range_with_len (λ c. position_or_len (nat_eq (child_link raw v r c)) (child_links raw v later c)) 0 n

  named_at : (n r c : ℕ) → c < n → get_or (named_first raw v later n r) c 0 ≡ position_or_len (nat_eq (child_link raw v r c)) (child_links raw v later c)
  named_at n r c h =
      let here : 0 + c ≡ c = omega arith in
      get_or-map-range_with_len (λ k. position_or_len (nat_eq (child_link raw v r k)) (child_links raw v later k)) 0 n c c 0 h here

module _ {R : Type 0} (raw : RawView R) (shaped : AreShapes raw.shapes) (parts : List (NodeView R)) (last : AreReducedLast raw (length raw.shapes) parts) where
  -- for its child number c a row names the group with the link that it names there
  at_child : (p c i : ℕ) → p < length raw.shapes → c < length (child_nodes raw p) → i < length (kept_at raw p)
      → (group_named parts p i c < length (links_at raw (get_or (child_nodes raw p) c 0)))
      × (get_or (links_at raw (get_or (child_nodes raw p) c 0)) (group_named parts p i c) 0 ≡ child_link raw p (get_or (kept_at raw p) i 0) c)
  at_child p c i inside hc hi =
      let r = get_or (kept_at raw p) i 0 in
      let links = links_at raw (get_or (child_nodes raw p) c 0) in
      let x = child_link raw p (get_or (kept_at raw p) i 0) c in
      let names = links_of_child raw p inside c hc in
      let stands = subst (Stands (child_link raw p (get_or (kept_at raw p) i 0) c)) names
      (met_each raw p (later_of raw p) (length (child_nodes raw p)) (get_or (kept_at raw p) i 0) (kept_stays raw p i hi).met c hc) in
      let found = found_at (child_link raw p (get_or (kept_at raw p) i 0) c) (links_at raw (get_or (child_nodes raw p) c 0)) stands in
      let e : group_named parts p i c ≡ position_or_len (nat_eq x) links =
      ap (λ l. get_or (get_or l i []) c 0) (node_of raw parts last p inside).to_child
      ∙ ap (λ l. get_or l c 0) (get_or-map (groups_named raw p (later_of raw p)) (kept_at raw p) i 0 [] hi)
      ∙ named_at raw p (later_of raw p) (length (child_nodes raw p)) (get_or (kept_at raw p) i 0) c hc
      ∙ ap (position_or_len (nat_eq x)) names in
      (subst (λ k. k < length links) (sym e) found.0, ap (λ k. get_or links k 0) e ∙ found.1)

  -- for node q
  pub named_group : (q i : ℕ) → 0 < q → q < length raw.shapes → i < length (kept_at raw (shape_parent raw.shapes q))
      → (group_named parts (parent parts q) i (child_place parts q) < length (links_at raw q))
      × (get_or (links_at raw q) (group_named parts (parent parts q) i (child_place parts q)) 0
      ≡ child_link raw (shape_parent raw.shapes q) (get_or (kept_at raw (shape_parent raw.shapes q)) i 0) (shape_child_place raw.shapes q))
  named_group q i some within hi =
      let p = shape_parent raw.shapes q in
      let first = shaped.parents_first q some within in
      let inside : shape_parent raw.shapes q < length raw.shapes = omega (arith, first, within) in
      let s = kid_stands (shape_parent raw.shapes) (shape_parent raw.shapes q) (length raw.shapes - suc (shape_parent raw.shapes q)) q first (omega (arith, first, within)) refl in
      let place : shape_child_place raw.shapes q ≡ s.0 = ap (shape_child_place raw.shapes) (sym s.2) ∙ place-is raw shaped (shape_parent raw.shapes q) s.0 inside s.1 in
      let at = at_child (shape_parent raw.shapes q) s.0 i inside s.1 hi in
      let e : group_named parts (parent parts q) i (child_place parts q) ≡ group_named parts p i s.0 =
      ap (λ f. group_named parts (f q) i (child_place parts q)) (parent_same raw.shapes parts (all_shapes raw parts last))
      ∙ ap (group_named parts p i) (place_same raw.shapes parts (all_shapes raw parts last) q ∙ place) in (
        subst (λ k. k < length (links_at raw q)) (sym e) (subst (λ w. group_named parts p i s.0 < length (links_at raw w)) s.2 at.0),
        ap (λ k. get_or (links_at raw q) k 0) e ∙ subst (λ w. get_or (links_at raw w) (group_named parts p i s.0) 0 ≡ child_link raw p (get_or (kept_at raw p) i 0) s.0) s.2 at.1
            ∙ ap (child_link raw p (get_or (kept_at raw p) i 0)) (sym place),
      )

  number_is : (q i : ℕ) → 0 < q → group_number parts q i ≡ group_named parts (parent parts q) i (child_place parts q)
  number_is q i some =
      let not : q ≡ 0 → ⊥ = λ e. omega (arith, e, some) in
      ap (λ b. cond b 0 (group_named parts (parent parts q) i (child_place parts q))) (ne_eqb q 0 not)

  pub named_members : (q i j : ℕ) → 0 < q → q < length raw.shapes → i < length (kept_at raw (shape_parent raw.shapes q))
      → (Contains (group parts q i) j)
      ↔ ((j < length (kept_at raw q))
      × (own_link raw q (get_or (kept_at raw q) j 0) ≡ child_link raw (shape_parent raw.shapes q) (get_or (kept_at raw (shape_parent raw.shapes q)) i 0) (shape_child_place raw.shapes q)))
  named_members q i j some within hi =
      let n = named_group q i some within hi in
      let e = number_is q i some in (
        λ c.
            let c' : Contains (members parts q (group_named parts (parent parts q) i (child_place parts q))) j = subst (λ g. Contains (members parts q g) j) e c in
            let row = member_kept raw parts last q (group_named parts (parent parts q) i (child_place parts q)) j within c' in
            (row, sym (own_at raw q j some row) ∙ member_own raw parts last q (group_named parts (parent parts q) i (child_place parts q)) j within c' ∙ n.1),
        λ h. subst (λ g. Contains (members parts q g) j) (sym e)
            (own_member raw parts last q (group_named parts (parent parts q) i (child_place parts q)) j within n.0 h.0 (own_at raw q j some h.0 ∙ h.1 ∙ sym n.1)),
      )

  pub shared_group : (v i j : ℕ) → 0 < v → v < length raw.shapes → i < length (kept_at raw v) → j < length (kept_at raw v)
      → (ShareGroup parts v i j) ↔ (own_link raw v (get_or (kept_at raw v) i 0) ≡ own_link raw v (get_or (kept_at raw v) j 0))
  shared_group v i j some within hi hj = (
    λ s. sym (own_at raw v i some hi) ∙ member_own raw parts last v s.0 i within s.1 ∙ sym (member_own raw parts last v s.0 j within s.2) ∙ own_at raw v j some hj,
    λ e.
        let at = group_for raw parts last v i within hi in
        (at.0, at.2, own_member raw parts last v at.0 j within at.1 hj (own_at raw v j some hj ∙ sym e ∙ sym (own_at raw v i some hi) ∙ member_own raw parts last v at.0 i within at.2)),
  )
