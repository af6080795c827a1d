-- The parts are a tree whose rows stand in groups.
use Rattle.std.proofs.Common.{◌≡◌, ℕ, zero, suc, ◌+◌, ◌<◌, ◌≤◌, List, [], length, get_or, sym, ap, subst, ◌∙◌, arith}
use Rattle.std.specs.List.{concat, range_with_len}
use Rattle.std.specs.List.Sorted.{IsPermutation}
use Rattle.std.proofs.lemmas.List.{length-map, get_or-map}
use Rattle.std.proofs.lemmas.List.Elements.{All-map}
use Rattle.tdp_model.specs.KeyTuple.{KeyOf, key_none}
use Rattle.tdp_model.specs.TreeProblem.{sum_from}
use Rattle.tdp_core.specs.declared.parts.NodeShape.{NodeShape}
use Rattle.tdp_core.specs.declared.parts.NodeRow.{NodeRow}
use Rattle.tdp_core.specs.RawView.{RawView, IsRawFormed, rows_at, raw_len, shape_item, shape_cap, shape_parent}
use Rattle.tdp_core.specs.TreeView.{NodeView, cap_of, node_at, parent, rows, number, rank, group_count, group_named, child_place, child_count, item, cap}
use Rattle.tdp_core.specs.WellFormed.{RowFits}
use Rattle.tdp_core.proofs.RawReads.{field_read}
use Rattle.semi_join.specs.GroupedTrees.{IsGrouped}
use Rattle.semi_join.specs.Reduction.{child_nodes, has_partners, groups_named}
use Rattle.semi_join.proofs.FromLast.{AreReducedLast}
use Rattle.semi_join.proofs.FirstOnes.{kept_first, kept_more}
use Rattle.semi_join.proofs.Kids.{few_cond, children_count}
use Rattle.semi_join.proofs.Descends.{later_of}
use Rattle.semi_join.proofs.NodeRows.{row_fact}
use Rattle.semi_join.proofs.SameShapes.{shape_same, children_same, held_same, shaped_same}
use Rattle.tdp_model.proofs.Sums.{sum_fewer}
use Rattle.semi_join.proofs.Totals.{sum_rows}
use Rattle.semi_join.proofs.KeptParts.{kept_at, owns_count, node_of, all_shapes, row_count, group_total, one_root_lem}
use Rattle.semi_join.proofs.NamedGroups.{named_count, named_group}
use Rattle.semi_join.proofs.KeptSolutions.{parent_is, parent_inside}

kept_few : {R : Type 0} (raw : RawView R) (v : ℕ) (later : List (List ℕ)) (n : ℕ) → length (kept_first raw v later n) ≤ n
kept_few raw v later zero = omega arith
kept_few raw v later (suc n) = subst (λ l. length l ≤ suc n) (sym (kept_more raw v later n)) (few_cond (has_partners raw v later n) (kept_first raw v later n) n n (kept_few raw v later n))

module _ {R : Type 0} (d : ℕ) (key : R → KeyOf d 16) (raw : RawView R) (formed : IsRawFormed d key raw) (parts : List (NodeView R)) (last : AreReducedLast raw (length raw.shapes) parts) where
  inside : (v : ℕ) → v < length parts → v < length raw.shapes
  inside v h = omega (arith, h, last.size)

  few_rows_lem : sum_from ◌+◌ 0 (rows parts) (length parts) 0 ≤ 4194304
  few_rows_lem =
      let all : 0 + length raw.shapes ≡ length raw.rows = omega (arith, formed.each_node) in
      let most = sum_fewer (rows parts) (raw_len raw) (length raw.shapes) 0 (λ v a b.
      let h : v < length raw.shapes = omega (arith, b) in
      omega (arith, row_count raw parts last v h, kept_few raw v (later_of raw v) (raw_len raw v))) in
      omega (arith, ap (λ n. sum_from ◌+◌ 0 (rows parts) n 0) last.size, most, sum_rows raw.rows (length raw.shapes) 0 all, formed.few_rows)

  row_kept : (v r : ℕ) → (h : v < length raw.shapes) → r < rows parts v → r < length (kept_at raw v)
  row_kept v r h l = omega (arith, l, row_count raw parts last v h)

  fits : (v r : ℕ) → v < length parts → r < rows parts v → RowFits d (item parts v) (cap parts v) (number parts v r) (rank parts d key v r)
  fits v r h l =
      let within = inside v h in
      let P : NodeRow R → Type 0 = λ x. RowFits d (shape_item raw.shapes v) (shape_cap raw.shapes v) x.row (key x.rank) in
      let each = All-map P (λ x. x.row) (rows_at raw v) (λ k e m. (formed.rows_fit v within k e m).0) in
      let at = row_fact raw v (kept_at raw v) (node_at parts v).rows (node_of raw parts last v within).rows P each r (row_kept v r within l) in
      let number_is : number parts v r ≡ at.0.row = field_read (λ x. x.row) (node_at parts v).rows r at.0 0 at.2 in
      let rank_is : rank parts d key v r ≡ key at.0.rank = field_read (λ x. key x.rank) (node_at parts v).rows r at.0 (key_none d 16) at.2 in
      let F : NodeShape → Type 0 = λ s. RowFits d s.item (λ i. cap_of s i) (number parts v r) (rank parts d key v r) in
      subst F (sym (shape_same raw.shapes parts (all_shapes raw parts last) v))
      (subst (λ n. RowFits d (shape_item raw.shapes v) (shape_cap raw.shapes v) n (rank parts d key v r)) (sym number_is)
      (subst (RowFits d (shape_item raw.shapes v) (shape_cap raw.shapes v) at.0.row) (sym rank_is) at.1))

  names_all : (v r : ℕ) → v < length parts → r < rows parts v → length (get_or (node_at parts v).to_child r []) ≡ child_count parts v
  names_all v r h l =
      let within = inside v h in
      ap (λ c. length (get_or c r [])) (node_of raw parts last v within).to_child
      ∙ ap length (get_or-map (groups_named raw v (later_of raw v)) (kept_at raw v) r 0 [] (row_kept v r within l))
      ∙ named_count raw v (later_of raw v) (length (child_nodes raw v)) (get_or (kept_at raw v) r 0)
      ∙ children_count raw formed.shaped v within ∙ sym (children_same raw.shapes parts (all_shapes raw parts last) v)

  names_one : (q r : ℕ) → 0 < q → q < length parts → r < rows parts (parent parts q) → group_named parts (parent parts q) r (child_place parts q) < group_count parts q
  names_one q r some h l =
      let within = inside q h in
      let above = parent_inside raw formed.shaped parts last q within in
      let row = row_kept (shape_parent raw.shapes q) r above (subst (λ p. r < rows parts p) (parent_is raw formed.shaped parts last q) l) in
      omega (arith, (named_group raw formed.shaped parts last q r some within row).0, group_total raw parts last q within)

  pub formed_parts : IsGrouped d key parts
  formed_parts = record {
    laid_out = record {
      shaped = shaped_same raw.shapes parts (all_shapes raw parts last) formed.shaped;
      held = held_same raw.shapes parts (all_shapes raw parts last) d key formed.held;
      few_rows = few_rows_lem;
      rows_fit = fits;
      all_name = λ v h.
          let within = inside v h in
          ap length (node_of raw parts last v within).to_child ∙ length-map (kept_at raw v) (groups_named raw v (later_of raw v)) ∙ sym (row_count raw parts last v within);
      name_all = names_all;
      named = names_one;
      grouped = λ v h.
          let within = inside v h in
          subst (λ n. IsPermutation (range_with_len 0 n) (concat (node_at parts v).groups)) (owns_count raw v ∙ sym (row_count raw parts last v within)) (node_of raw parts last v within).grouping.spread;
      inhabited = λ v g h l. (node_of raw parts last v (inside v h)).grouping.inhabited g l;
      one_root = one_root_lem raw parts last formed.shaped.some_node;
    };
    no_best = λ v h. (node_of raw parts last v (inside v h)).best;
  }
