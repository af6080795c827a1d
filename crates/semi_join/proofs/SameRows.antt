-- What a node is reduced to depends on the shapes and on its own rows alone.
use Rattle.std.proofs.Common.{◌≡◌, ℕ, suc, ◌+◌, ◌-◌, ◌*◌, ◌≤◌, Bool, cond, nat_eq, List, [], map, length, get_or, slice_get, Some, ap, subst, ◌∙◌}
use Rattle.std.specs.List.{filter, list_any, list_all, position_or_len, range_with_len}
use Rattle.indexmap.specs.IndexSet.{insert_all}
use Rattle.tdp_core.specs.declared.parts.NodeShape.{NodeShape}
use Rattle.tdp_core.specs.RawView.{RawView, RawRowView, raw_len, rows_at, shape_at, shape_parent}
use Rattle.tdp_core.specs.TreeView.{NodeView}
use Rattle.semi_join.specs.Reduction.{IsGrouping, IsReducedNode, group_links}

module _ (v : ℕ) (later : List (List ℕ)) where
  abbrev kids : List NodeShape → List ℕ
  kids shapes = filter (λ u. nat_eq (shape_parent shapes u) v) (range_with_len (suc v) (length shapes - suc v))

  abbrev links-at : List NodeShape → ℕ → List ℕ
  links-at shapes c = get_or later (get_or (kids shapes) c 0 - v - 1) []

module _ {R : Type 0} (v : ℕ) (later : List (List ℕ)) where
  abbrev names : List (RawRowView R) → ℕ → ℕ → ℕ
  names rows i c = get_or (get_or (map (λ x. x.children) rows) i []) c 0

  abbrev met : List NodeShape → List (RawRowView R) → ℕ → Bool
  met shapes rows i = list_all (λ c. list_any (nat_eq (names rows i c)) (links-at v later shapes c)) (range_with_len 0 (length (kids v later shapes)))

  abbrev named : List NodeShape → List (RawRowView R) → ℕ → List ℕ
  named shapes rows i = map (λ c. position_or_len (nat_eq (names rows i c)) (links-at v later shapes c)) (range_with_len 0 (length (kids v later shapes)))

  abbrev stay : List NodeShape → List (RawRowView R) → List ℕ
  stay shapes rows = filter (met shapes rows) (range_with_len 0 (length rows))

  abbrev links : List NodeShape → List (RawRowView R) → List ℕ
  links shapes rows = map (λ i. cond (nat_eq v 0) 0 (get_or (map (λ x. x.own) rows) i 0)) (stay shapes rows)

  module _ (t u : RawView R) (shapes : t.shapes ≡ u.shapes) (same : rows_at t v ≡ rows_at u v) where
    by_both : (F : List NodeShape → List (RawRowView R) → Type 0) → F t.shapes (rows_at t v) → F u.shapes (rows_at u v)
    by_both F h = subst (λ rs. F u.shapes rs) same (subst (λ ss. F ss (rows_at t v)) shapes h)

    pub reduced_same : (part : NodeView R) → IsReducedNode t v later part → IsReducedNode u v later part
    reduced_same part h = record {
      shape = by_both (λ ss rs. part.shape ≡ shape_at ss v) h.shape;
      rows = by_both (λ ss rs. map Some part.rows ≡ map (λ r. slice_get (map (λ x. x.row) rs) r) (stay ss rs)) h.rows;
      to_child = by_both (λ ss rs. part.to_child ≡ map (named ss rs) (stay ss rs)) h.to_child;
      grouping = by_both (λ ss rs. IsGrouping (links ss rs) (insert_all nat_eq [] (links ss rs)) part.groups) h.grouping;
      best = h.best;
    }

    pub links_same : group_links t v later ≡ group_links u v later
    links_same = ap (λ ss. insert_all nat_eq [] (links ss (rows_at t v))) shapes ∙ ap (λ rs. insert_all nat_eq [] (links u.shapes rs)) same

    pub steps_same : (s0 s1 : ℕ) → s1 ≤ s0 + raw_len t v * length t.shapes → s1 ≤ s0 + raw_len u v * length u.shapes
    steps_same s0 s1 h = by_both (λ ss rs. s1 ≤ s0 + length rs * length ss) h
