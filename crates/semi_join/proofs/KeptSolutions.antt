-- The solutions of the parts are those of the raw tree.
use Rattle.std.proofs.Common.{◌≡◌, ℕ, ◌<◌, ◌⊎◌, inl, inr, nat_eq, List, length, get_or, Contains, refl, sym, ap, subst, ◌∙◌, arith}
use Rattle.std.specs.List.{position_or_len}
use Rattle.std.proofs.lemmas.Bool.{cases_eq}
use Rattle.std.proofs.lemmas.List.Elements.{Contains-get_or}
use Rattle.tdp_model.specs.KeyTuple.{KeyOf, key_add, key_none}
use Rattle.tdp_model.specs.TreeProblem.{sum_from}
use Rattle.tdp_core.specs.RawView.{RawView, AreShapes, raw_number, raw_rank, shape_parent, shape_child_place, own_link, child_link}
use Rattle.tdp_core.specs.TreeView.{NodeView, node_at, parent, members, group, group_number, number, rank}
use Rattle.tdp_core.specs.WellFormed.{IsTieFreeTree}
use Rattle.tdp_core.specs.Solutions.{TreeLinked, IsTreeSolution, IsRawSolution, IsTieFreeRaw, solution_key, raw_solution_key}
use Rattle.semi_join.proofs.FromLast.{AreReducedLast}
use Rattle.semi_join.proofs.Meets.{Stands}
use Rattle.semi_join.proofs.Descends.{later_of}
use Rattle.semi_join.proofs.Members.{contains_stands}
use Rattle.semi_join.proofs.Found.{found_at}
use Rattle.semi_join.proofs.Ascending.{kept_ascends, places_apart}
use Rattle.semi_join.proofs.NodeRows.{row_field}
use Rattle.semi_join.proofs.SameShapes.{parent_same}
use Rattle.tdp_model.proofs.Sums.{same_sums}
use Rattle.semi_join.proofs.KeptParts.{kept_at, kept_stays, exact, own_at, node_of, all_shapes, member_kept, member_own, root_group}
use Rattle.semi_join.proofs.NamedGroups.{named_members}

module _ {R : Type 0} (raw : RawView R) (shaped : AreShapes raw.shapes) (parts : List (NodeView R)) (last : AreReducedLast raw (length raw.shapes) parts) where
  -- the rows of the raw tree that these rows of the parts are
  abbrev raw_rows : (ℕ → ℕ) → ℕ → ℕ
  raw_rows t q = get_or (kept_at raw q) (t q) 0

  pub parent_is : (q : ℕ) → parent parts q ≡ shape_parent raw.shapes q
  parent_is q = ap (λ f. f q) (parent_same raw.shapes parts (all_shapes raw parts last))

  pub parent_inside : (q : ℕ) → q < length raw.shapes → shape_parent raw.shapes q < length raw.shapes
  parent_inside q h = elim (cases_eq q 0) [
    | inl e ↦ omega (arith, h, e, ap (shape_parent raw.shapes) e, shaped.root)
    | inr not ↦ omega (arith, h, shaped.parents_first q (omega (arith, not)) h)
  ]

  tree_row : (t : ℕ → ℕ) → IsTreeSolution parts t → (q : ℕ) → q < length raw.shapes → t q < length (kept_at raw q)
  tree_row t s q h = member_kept raw parts last q (group_number parts q (t (parent parts q))) (t q) h (s q (omega (arith, h, last.size)))

  pub solution_kept : (t : ℕ → ℕ) → IsTreeSolution parts t → IsRawSolution raw (raw_rows t)
  solution_kept t s q h = (
    (kept_stays raw q (t q) (tree_row t s q h)).row,
    elim (cases_eq q 0) [
      | inl e ↦ inl e
      | inr not ↦
          let linked : Contains (group parts q (t (shape_parent raw.shapes q))) (t q) = subst (λ w. Contains (group parts q (t w)) (t q)) (parent_is q) (s q (omega (arith, h, last.size))) in
          inr ((named_members raw shaped parts last q (t (shape_parent raw.shapes q)) (t q) (omega (arith, not)) h (tree_row t s (shape_parent raw.shapes q) (parent_inside q h))).0 linked).1
    ],
  )

  solution_stands : (s : ℕ → ℕ) → IsRawSolution raw s → (q : ℕ) → q < length raw.shapes → Stands (s q) (kept_at raw q)
  solution_stands s solution q h = contains_stands (kept_at raw q) (s q) ((exact raw shaped q (s q) h).1 ((solution q h).0, (s, refl, λ u past within under. solution u within)))

  -- the places where the rows are kept
  abbrev places : (ℕ → ℕ) → ℕ → ℕ
  places s q = position_or_len (nat_eq (s q)) (kept_at raw q)

  place_found : (s : ℕ → ℕ) → IsRawSolution raw s → (q : ℕ) → q < length raw.shapes → (places s q < length (kept_at raw q)) × (get_or (kept_at raw q) (places s q) 0 ≡ s q)
  place_found s solution q h = found_at (s q) (kept_at raw q) (solution_stands s solution q h)

  places_linked : (s : ℕ → ℕ) → IsRawSolution raw s → (q : ℕ) → q < length raw.shapes → TreeLinked parts q (places s (parent parts q)) (places s q)
  places_linked s solution q h = elim (cases_eq q 0) [
    | inl e ↦
        let root : 0 < length raw.shapes = omega (arith, h) in
        subst (λ w. TreeLinked parts w (places s (parent parts w)) (places s w)) (sym e) (root_group raw parts last (places s 0) root (place_found s solution 0 root).0)
    | inr not ↦
        let p = shape_parent raw.shapes q in
        let here = place_found s solution q h in
        let there = place_found s solution (shape_parent raw.shapes q) (parent_inside q h) in
        let link : own_link raw q (s q) ≡ child_link raw p (s p) (shape_child_place raw.shapes q) = elim (solution q h).1 [ inl e ↦ absurd (not e) | inr e ↦ e ] in
        subst (λ w. Contains (group parts q (places s w)) (places s q)) (sym (parent_is q))
        ((named_members raw shaped parts last q (places s (shape_parent raw.shapes q)) (places s q) (omega (arith, not)) h there.0).1
        (here.0, ap (own_link raw q) here.1 ∙ link ∙ ap (λ r. child_link raw p r (shape_child_place raw.shapes q)) (sym there.1)))
  ]

  pub solution_from : (s : ℕ → ℕ) → IsRawSolution raw s → (t : ℕ → ℕ) × IsTreeSolution parts t × ((q : ℕ) → q < length raw.shapes → get_or (kept_at raw q) (t q) 0 ≡ s q)
  solution_from s solution = (places s, λ q h. places_linked s solution q (omega (arith, h, last.size)), λ q h. (place_found s solution q h).1)

  pub rows_apart : (v i j : ℕ) → i < length (kept_at raw v) → j < length (kept_at raw v) → get_or (kept_at raw v) i 0 ≡ get_or (kept_at raw v) j 0 → i ≡ j
  rows_apart v i j hi hj e = places_apart (kept_at raw v) (kept_ascends raw v (later_of raw v)) i j hi hj e

  pub solutions_apart : (t u : ℕ → ℕ) → IsTreeSolution parts t → IsTreeSolution parts u → ((q : ℕ) → q < length raw.shapes → get_or (kept_at raw q) (t q) 0 ≡ get_or (kept_at raw q) (u q) 0)
      → (q : ℕ) → q < length raw.shapes → t q ≡ u q
  solutions_apart t u s s' same q h = rows_apart q (t q) (u q) (tree_row t s q h) (tree_row u s' q h) (same q h)

  number_kept : (v i : ℕ) → v < length raw.shapes → i < length (kept_at raw v) → number parts v i ≡ raw_number raw v (get_or (kept_at raw v) i 0)
  number_kept v i h l = row_field raw v (kept_at raw v) (node_at parts v).rows (node_of raw parts last v h).rows (λ x. x.row) 0 i l

  pub tie_free_kept_lem : IsTieFreeRaw raw → IsTieFreeTree parts
  tie_free_kept_lem free v g i j h hi hj e =
      let within : v < length raw.shapes = omega (arith, h, last.size) in
      let mi = get_or (members parts v g) i 0 in
      let mj = get_or (members parts v g) j 0 in
      let ci = Contains-get_or (members parts v g) i 0 hi in
      let cj = Contains-get_or (members parts v g) j 0 hj in
      let ki = member_kept raw parts last v g (get_or (members parts v g) i 0) within ci in
      let kj = member_kept raw parts last v g (get_or (members parts v g) j 0) within cj in
      let linked : (v ≡ 0) ⊎ (own_link raw v (get_or (kept_at raw v) mi 0) ≡ own_link raw v (get_or (kept_at raw v) mj 0)) = elim (cases_eq v 0) [
        | inl z ↦ inl z
        | inr not ↦ inr (sym (own_at raw v mi (omega (arith, not)) ki) ∙ member_own raw parts last v g mi within ci ∙ sym (member_own raw parts last v g mj within cj) ∙ own_at raw v mj (omega (arith, not)) kj)
      ] in
      let same = free v (get_or (kept_at raw v) mi 0) (get_or (kept_at raw v) mj 0) within (kept_stays raw v mi ki).row (kept_stays raw v mj kj).row linked
      (sym (number_kept v mi within ki) ∙ e ∙ number_kept v mj within kj) in
      rows_apart v mi mj ki kj same

  module _ (d : ℕ) (key : R → KeyOf d 16) where
    rank_kept : (v i : ℕ) → v < length raw.shapes → i < length (kept_at raw v) → rank parts d key v i ≡ raw_rank raw d key v (get_or (kept_at raw v) i 0)
    rank_kept v i h l = row_field raw v (kept_at raw v) (node_at parts v).rows (node_of raw parts last v h).rows (λ x. key x.rank) (key_none d 16) i l

    pub key_kept : (t : ℕ → ℕ) → IsTreeSolution parts t → solution_key parts d key t ≡ raw_solution_key raw d key (raw_rows t)
    key_kept t s =
        ap (λ n. sum_from (key_add d 16) (key_none d 16) (λ q. rank parts d key q (t q)) n 0) last.size
        ∙ same_sums (key_add d 16) (key_none d 16) (λ q. rank parts d key q (t q)) (λ q. raw_rank raw d key q (raw_rows t q)) (length raw.shapes) 0
        (λ v a b. let h : v < length raw.shapes = omega (arith, b) in rank_kept v (t v) h (tree_row t s v h))
