-- The number of rows that stay in a reduction.
use Rattle.std.proofs.Common.{◌≡◌, ℕ, ◌+◌, ◌<◌, ◌≤◌, List, length, slice_index, Some, sym, ap, ◌∙◌, arith}
use Rattle.std.proofs.lemmas.List.{get_or_default, length-map}
use Rattle.tdp_model.specs.KeyTuple.{KeyOf}
use Rattle.tdp_model.specs.TreeProblem.{sum_from}
use Rattle.tdp_core.specs.RawView.{RawView, raw_len, raw_row_at, row_total}
use Rattle.tdp_core.specs.TreeView.{NodeView, node_at, rows}
use Rattle.bound_query.proofs.NodeSums.{lengths_in_all, sum_fewer}
use Rattle.semi_join.specs.ReducedTrees.{IsReduced}
use Rattle.plan_build.proofs.Sizes.{few_below}

module _ {R : Type 0} (d : ℕ) (key : R → KeyOf d 16) (raw : RawView R) (parts : List (NodeView R)) (reduced : IsReduced d key raw parts) where
  kept_few : (v : ℕ) → v < length raw.shapes → rows parts v ≤ raw_len raw v
  kept_few v l =
      let long : rows parts v ≡ length (reduced.kept v) =
      sym (length-map (node_at parts v).rows Some) ∙ ap length (reduced.rows v l) ∙ length-map (reduced.kept v) (raw_row_at raw v) in
      let few = few_below (reduced.kept v) (raw_len raw v) (reduced.ascending v l)
      (λ k inside. ((reduced.exact v (slice_index (reduced.kept v) k) l).0 (k, inside, get_or_default (reduced.kept v) k (slice_index (reduced.kept v) k) 0 inside)).0) in
      omega (arith, long, few)

  pub kept_in_all : length raw.rows ≡ length raw.shapes → sum_from ◌+◌ 0 (rows parts) (length raw.shapes) 0 ≤ row_total raw
  kept_in_all each_node =
      let fewer = sum_fewer (rows parts) (raw_len raw) (length raw.shapes) 0 (λ v a b. kept_few v (omega (arith, b))) in
      let all : sum_from ◌+◌ 0 (raw_len raw) (length raw.shapes) 0 ≡ row_total raw =
      ap (λ n. sum_from ◌+◌ 0 (raw_len raw) n 0) (sym each_node) ∙ lengths_in_all raw.rows in
      omega (arith, fewer, all)
