-- Nodes as a slice of parts holds them, and as contracts see them.
use Rattle.std.proofs.Common.{◌≡◌, ◌≢◌, ℕ, ◌<◌, List, [], length, get_or, sym, ap, subst, ◌∙◌, inl, inr, arith}
use Rattle.std.proofs.Math.ListN.{set}
use Rattle.std.proofs.lemmas.Bool.{cases_eq}
use Rattle.std.proofs.lemmas.List.{get_or-map, map-set, length-map, get_or-set_same, get_or-set_other}
use Rattle.tdp_core.specs.declared.parts.NodeParts.{NodeParts}
use Rattle.tdp_core.specs.TreeView.{NodeView, node_view, tree_view, node_at, rows}
use Rattle.tree_dp.specs.SolvedTrees.{IsReordered}
use Rattle.tree_dp.proofs.ReorderedNodes.{reordered_refl}

-- what stands past the last node
abbrev no_node : (R : Type 0) → NodeView R
no_node R = record { shape = record { parent = 0; item = 0; caps = [] }; rows = []; to_child = []; groups = []; best = [] }

-- a node that is read with some default
pub read_node : {R : Type 0} (parts : List (NodeParts R)) (v : ℕ) (none : NodeParts R) → v < length parts → node_at (tree_view parts) v ≡ node_view (get_or parts v none)
read_node {R} parts v none l = get_or-map node_view parts v none (no_node R) l

-- the rows of a node that is read
pub rows_read : {R : Type 0} (parts : List (NodeParts R)) (v : ℕ) (node : NodeParts R) → v < length parts → node ≡ get_or parts v node → length node.rows ≡ rows (tree_view parts) v
rows_read parts v node l e = ap (λ p. length p.rows) e ∙ sym (ap (λ n. length n.rows) (read_node parts v node l))

-- one node in place of another
module _ {R : Type 0} (parts : List (NodeParts R)) (v : ℕ) (new : NodeParts R) where
  pub written_here : v < length parts → node_at (tree_view (set parts v new)) v ≡ node_view new
  written_here l =
      ap (λ t. node_at t v) (map-set node_view parts v new) ∙ get_or-set_same (tree_view parts) v (node_view new) (no_node R) (omega (arith, l, length-map parts node_view))

  pub written_elsewhere : (w : ℕ) → w ≢ v → node_at (tree_view (set parts v new)) w ≡ node_at (tree_view parts) w
  written_elsewhere w other = ap (λ t. node_at t w) (map-set node_view parts v new) ∙ get_or-set_other (tree_view parts) v w (node_view new) (no_node R) other

  pub written_reordered : (none : NodeParts R) → v < length parts → IsReordered (node_view (get_or parts v none)) (node_view new)
      → (w : ℕ) → IsReordered (node_at (tree_view parts) w) (node_at (tree_view (set parts v new)) w)
  written_reordered none l same w = elim (cases_eq w v) [
    | inl e ↦ subst (λ k. IsReordered (node_at (tree_view parts) k) (node_at (tree_view (set parts v new)) k)) (sym e)
        (subst (λ n. IsReordered n (node_at (tree_view (set parts v new)) v)) (sym (read_node parts v none l))
        (subst (IsReordered (node_view (get_or parts v none))) (sym (written_here l)) same))
    | inr other ↦ subst (IsReordered (node_at (tree_view parts) w)) (sym (written_elsewhere w other)) (reordered_refl (node_at (tree_view parts) w))
  ]
