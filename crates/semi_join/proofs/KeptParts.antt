-- The parts of a tree, each with the rows that its node keeps.
use Rattle.std.proofs.Common.{◌≡◌, ℕ, ◌+◌, ◌-◌, ◌<◌, ◌≤◌, ◌↔◌, inl, inr, cond, List, [], map, length, get_or, Contains, refl, sym, ap, subst, ◌∙◌, arith}
use Rattle.std.proofs.lemmas.Bool.{ne_eqb, cases_lt}
use Rattle.std.proofs.lemmas.List.{length-map, get_or-map, get_or_default, same_lists}
use Rattle.tdp_core.specs.RawView.{RawView, AreShapes, raw_len, own_link}
use Rattle.tdp_core.specs.TreeView.{NodeView, node_at, rows, group_count, members}
use Rattle.tdp_core.specs.Solutions.{RawExtends}
use Rattle.semi_join.specs.Reduction.{kept_rows, group_link, group_links, IsReducedNode}
use Rattle.semi_join.proofs.FromLast.{AreReducedLast}
use Rattle.semi_join.proofs.Meets.{kept_stands, stands_kept}
use Rattle.semi_join.proofs.Descends.{Stays, later_of, map_read, map_within, all_out}
use Rattle.semi_join.proofs.Extending.{extends_stays}
use Rattle.semi_join.proofs.Chosen.{stays_extends}
use Rattle.semi_join.proofs.Members.{contains_stands, stands_contains, group_of, member-row, member_link, row_member}
use Rattle.semi_join.proofs.NodeRows.{rows_count}

module _ {R : Type 0} (raw : RawView R) where
  -- the rows that node v keeps
  abbrev pub kept_at : ℕ → List ℕ
  kept_at v = kept_rows raw v (later_of raw v)

  -- the links of its groups
  abbrev pub links_at : ℕ → List ℕ
  links_at v = group_links raw v (later_of raw v)

  -- the link of each of its rows
  abbrev pub owns_at : ℕ → List ℕ
  owns_at v = map (group_link raw v) (kept_at v)

  pub kept_stays : (v i : ℕ) → i < length (kept_at v) → Stays raw v (get_or (kept_at v) i 0)
  kept_stays v i h = let s = stands_kept raw v (later_of raw v) (raw_len raw v) (get_or (kept_at v) i 0) (i, h, refl) in record { row = s.0; met = s.1 }

  pub owns_count : (v : ℕ) → length (owns_at v) ≡ length (kept_at v)
  owns_count v = length-map (kept_at v) (group_link raw v)

  pub own_at : (v j : ℕ) → 0 < v → j < length (kept_at v) → get_or (owns_at v) j 0 ≡ own_link raw v (get_or (kept_at v) j 0)
  own_at v j some h =
      let not : v ≡ 0 → ⊥ = λ e. omega (arith, e, some) in
      (map_read (group_link raw v) (kept_at v) j h).1 ∙ ap (λ b. cond b 0 (own_link raw v (get_or (kept_at v) j 0))) (ne_eqb v 0 not)

  pub exact : AreShapes raw.shapes → (v r : ℕ) → v < length raw.shapes → (Contains (kept_at v) r) ↔ ((r < raw_len raw v) × RawExtends raw v r)
  exact shaped v r inside = (
    λ s.
        let stands = stands_kept raw v (later_of raw v) (raw_len raw v) r (contains_stands (kept_at v) r s) in
        (stands.0, stays_extends raw shaped (length raw.shapes) v r (omega arith) inside (record { row = stands.0; met = stands.1 })),
    λ e.
        let stays = subst (Stays raw v) e.1.1 (extends_stays raw shaped (length raw.shapes) v (omega arith) inside e.1.0 (subst (λ k. k < raw_len raw v) (sym e.1.1) e.0) e.1.2) in
        stands_contains (kept_at v) r (kept_stands raw v (later_of raw v) (raw_len raw v) r stays.row stays.met),
  )

  -- the root has one link
  root_link : (k : ℕ) → k < length (links_at 0) → get_or (links_at 0) k 0 ≡ 0
  root_link k h = elim (all_out (owns_at 0) [] (get_or (links_at 0) k 0) (k, h, refl)) [
    | inl p ↦ absurd (omega (arith, p.1))
    | inr p ↦ sym p.2 ∙ (map_read (group_link raw 0) (kept_at 0) p.0 (map_within (group_link raw 0) (kept_at 0) p.0 p.1)).1
  ]

  module _ (parts : List (NodeView R)) (last : AreReducedLast raw (length raw.shapes) parts) where
    part_read : (v : ℕ) → v < length raw.shapes → node_at parts v ≡ get_or parts v (node_at parts v)
    part_read v h = get_or_default parts v _ (node_at parts v) (omega (arith, h, last.size))

    pub node_of : (v : ℕ) → v < length raw.shapes → IsReducedNode raw v (later_of raw v) (node_at parts v)
    node_of v h =
        let here : length raw.shapes - length raw.shapes + v ≡ v = omega arith in
        subst (λ u. IsReducedNode raw u (later_of raw v) (node_at parts v)) here (last.node v (node_at parts v) h (part_read v h))

    pub all_shapes : map (λ n. n.shape) parts ≡ raw.shapes
    all_shapes = same_lists (map (λ n. n.shape) parts) raw.shapes (length-map parts (λ n. n.shape) ∙ last.size) (λ k d l.
        let within : k < length raw.shapes = omega (arith, l, length-map parts (λ n. n.shape), last.size) in
        get_or-map (λ n. n.shape) parts k (node_at parts k) d (omega (arith, within, last.size)) ∙ ap (λ n. n.shape) (sym (part_read k within)) ∙ (node_of k within).shape
        ∙ get_or_default raw.shapes k _ d within)

    pub row_count : (v : ℕ) → v < length raw.shapes → rows parts v ≡ length (kept_at v)
    row_count v h = rows_count raw v (kept_at v) (node_at parts v).rows (node_of v h).rows

    pub group_total : (v : ℕ) → v < length raw.shapes → group_count parts v ≡ length (links_at v)
    group_total v h = (node_of v h).grouping.size

    pub one_root_lem : 0 < length raw.shapes → group_count parts 0 ≤ 1
    one_root_lem h = elim (cases_lt 1 (length (links_at 0))) [
      | inl l ↦
          let same : 0 ≡ 1 = (node_of 0 h).grouping.distinct 0 1 (omega (arith, l)) l (root_link 0 (omega (arith, l)) ∙ sym (root_link 1 l)) in
          absurd (omega (arith, same))
      | inr g ↦ omega (arith, g, group_total 0 h)
    ]

    -- a member of a group is a row
    pub member_kept : (v g j : ℕ) → v < length raw.shapes → Contains (members parts v g) j → j < length (kept_at v)
    member_kept v g j h c = omega (arith, member-row (owns_at v) (links_at v) (node_at parts v).groups (node_of v h).grouping g j c, owns_count v)

    -- with the link of the group
    pub member_own : (v g j : ℕ) → v < length raw.shapes → Contains (members parts v g) j → get_or (owns_at v) j 0 ≡ get_or (links_at v) g 0
    member_own v g j h c = member_link (owns_at v) (links_at v) (node_at parts v).groups (node_of v h).grouping g j c

    pub own_member : (v g j : ℕ) → v < length raw.shapes → g < length (links_at v) → j < length (kept_at v) → get_or (owns_at v) j 0 ≡ get_or (links_at v) g 0 → Contains (members parts v g) j
    own_member v g j h within l e = row_member (owns_at v) (links_at v) (node_at parts v).groups (node_of v h).grouping g j within (omega (arith, l, owns_count v)) e

    -- each row has a group
    pub group_for : (v j : ℕ) → v < length raw.shapes → j < length (kept_at v) → (g : ℕ) × (g < length (links_at v)) × Contains (members parts v g) j
    group_for v j h l =
        let at = group_of (owns_at v) (links_at v) (node_at parts v).groups (node_of v h).grouping j (omega (arith, l, owns_count v)) in
        (at.0, omega (arith, at.1, group_total v h), at.2)

    -- and at the root the only one
    pub root_group : (j : ℕ) → 0 < length raw.shapes → j < length (kept_at 0) → Contains (members parts 0 0) j
    root_group j h l =
        let at = group_for 0 j h l in
        let first : at.0 ≡ 0 = omega (arith, at.1, one_root_lem h, group_total 0 h) in
        subst (λ g. Contains (members parts 0 g) j) first at.2
