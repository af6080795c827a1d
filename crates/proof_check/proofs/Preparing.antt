-- What the rows of a node satisfy before they are put into groups.
use Rattle.std.proofs.Common.{◌≡◌, ◌⊎◌, ℕ, ◌<◌, ◌≤◌, None, Some, List, length, slice_index, slice_index_or, sym, subst, inl, inr, arith}
use Rattle.join_tree.specs.declared.tree.JoinTree.{JoinTree}
use Rattle.tdp_model.specs.KeyTuple.{KeyOf}
use Rattle.proof_check.specs.BoundedRows.{BoundedView, bound_ranks}
use Rattle.proof_check.specs.RowPlaces.{place_at}
use Rattle.proof_check.proofs.Nodes.{all_nodes}
use Rattle.proof_check.specs.Levels.{ArePrefixes, BeginAlike, IsReady, list_at, own_bounds}
use Rattle.tdp_core.proofs.RawReads.{length_within}
use Rattle.proof_check.proofs.Walking.{own_size}

module _ {R : Type 0} (join : JoinTree) (tree : BoundedView R) (d : ℕ) (key : R → KeyOf d 16)
    (p : ℕ) (ready : IsReady join tree d key p) where
  pub node_bounds : p < length tree.bounds
  node_bounds =
      let each = ready.bounded.bounded.each_node in
      omega (arith, all_nodes ready.bounded.query ready.bounded.tables join ready.ordered ready.long, each, ready.node)

  pub few_rows_lem : length (own_bounds tree p) ≤ 4194304
  few_rows_lem = omega (arith, own_size join tree d key p ready, ready.formed.few_rows, length_within tree.raw.rows p)

  pub own_within : (i b : ℕ) → i < length (own_bounds tree p) → slice_index_or (own_bounds tree p) i None ≡ Some b
      → b < length (bound_ranks tree p)
  own_within i b l e =
      let nodes = all_nodes ready.bounded.query ready.bounded.tables join ready.ordered ready.long in
      (ready.bounded.bounded.own_is p i b (omega (arith, nodes, ready.node)) (omega (arith, own_size join tree d key p ready, l)) e).0

-- the rows of a beginning are rows of their nodes
pub start_rows : (len : ℕ → ℕ) (count p : ℕ) (places : List (List ℕ)) (numbers : List ℕ) (starts : List (List ℕ)) → p < count
    → ((i q : ℕ) → i < length places → q < count → place_at places i q < len q)
    → ArePrefixes p places numbers starts → (n q : ℕ) → n < length starts → q < p
    → slice_index (list_at starts n) q < len q
start_rows len count p places numbers starts node within prefixes n q l h =
    by (prefixes.begun n l)
  where
    by : (p ≡ 0) ⊎ ((i : ℕ) × (i < length places) × BeginAlike p (list_at starts n) (list_at places i))
        → slice_index (list_at starts n) q < len q
    by (inl z) = absurd (omega (arith, z, h))
    by (inr b) = subst (λ r. r < len q) (sym (b.2 q h)) (within b.0 q b.1 (omega (arith, h, node)))
