-- A raw tree with the rows of one more node.
use Rattle.std.proofs.Common.{◌<◌, ◌+◌, ℕ, List, [], length, get_or, sym, subst, ◌∙◌, inl, inr, arith}
use Rattle.std.proofs.lemmas.Bool.{cases_eq}
use Rattle.std.proofs.lemmas.List.Sums.{sum_by_more}
use Rattle.tdp_model.specs.KeyTuple.{KeyOf}
use Rattle.tdp_core.specs.TreeView.{kids_below}
use Rattle.tdp_core.specs.RawView.{RawView, RawRowView, rows_at}
use Rattle.join_tree.specs.declared.tree.JoinTree.{JoinTree}
use Rattle.anyk_model.specs.Table.{Table}
use Rattle.bound_query.specs.WeighedQuery.{BoundQuery}
use Rattle.node_build.specs.PartialTrees.{AreFilled, HasOnlyMore}
use Rattle.link_index.specs.NumberedLists.{AreMore}
use Rattle.node_build.specs.Links.{HasRowsOf, IsRowOf, values_at}
use Rattle.node_build.specs.Nodes.{parent_of}
use Rattle.node_build.proofs.Numbering.{link_kept}

module _ (bound : BoundQuery) (tables : List Table) (join : JoinTree) (own above : List (List ℕ)) {R : Type 0} (d : ℕ) (key : R → KeyOf d 16) where
  -- a row keeps its links when more lists are numbered
  row_kept : (old new : List (List (List ℕ))) (v row : ℕ) (x : RawRowView R) → AreMore old new → IsRowOf bound tables join own above d key old v row x
      → IsRowOf bound tables join own above d key new v row x
  row_kept old new v row x more h = record {
    number = h.number;
    rank = h.rank;
    link = link_kept old new v x.own (values_at bound tables join own above v row (get_or own v [])) more h.link;
    children = λ q some l is. link_kept old new q (get_or x.children (kids_below (parent_of join) v q) 0) (values_at bound tables join own above v row (get_or above q [])) more
        (h.children q some l is);
  }

  pub rows_kept : (old new : List (List (List ℕ))) (v n : ℕ) (rows : List ℕ) (xs : List (RawRowView R)) → AreMore old new
      → HasRowsOf bound tables join own above d key old v n rows xs → HasRowsOf bound tables join own above d key new v n rows xs
  rows_kept old new v n rows xs more h = record { count = h.count; each = λ r x is. row_kept old new v (get_or rows r 0) x more (h.each r x is) }

  -- the rows of one more node
  pub filled_more : (old new : List (List (List ℕ))) (n : ℕ) (rows : List (List ℕ)) (t now : RawView R) → AreMore old new → n < length rows
      → AreFilled bound tables join own above d key old n rows t → HasOnlyMore n (length (get_or rows n [])) t now
      → HasRowsOf bound tables join own above d key new n (length (get_or rows n [])) (get_or rows n []) (rows_at now n)
      → AreFilled bound tables join own above d key new (n + 1) rows now
  filled_more old new n rows t now more inside so_far only here =
      let total = so_far.total in
      let added = only.total in
      let one = sum_by_more length rows n [] inside in
      record {
        each_node = only.each_node ∙ so_far.each_node;
        filled = λ v l. elim (cases_eq v n) [
          | inl same ↦ subst (λ (u : ℕ). HasRowsOf bound tables join own above d key new u (length (get_or rows u [])) (get_or rows u []) (rows_at now u)) (sym same) here
          | inr other ↦
              let h = rows_kept old new v (length (get_or rows v [])) (get_or rows v []) (rows_at t v) more (so_far.filled v (omega (arith, l, other))) in
              subst (HasRowsOf bound tables join own above d key new v (length (get_or rows v [])) (get_or rows v [])) (sym (only.others v other)) h
        ];
        empty = λ v l. only.others v (omega (arith, l)) ∙ so_far.empty v (omega (arith, l));
        total = omega (arith, total, added, one);
      }
