-- A raw tree without rows, and no numbered lists.
use Rattle.std.proofs.Common.{◌≡◌, ℕ, zero, suc, List, [], length, get_or, replicate, refl, sym, ap, subst, ◌∙◌, inl, inr, arith}
use Rattle.std.specs.List.{sum_by}
use Rattle.std.proofs.lemmas.Bool.{cases_lt}
use Rattle.std.proofs.lemmas.List.{get_or-replicate, get_or_past, length-replicate}
use Rattle.std.proofs.lemmas.List.Sums.{sum_by-cons}
use Rattle.tdp_model.specs.KeyTuple.{KeyOf}
use Rattle.tdp_core.specs.declared.parts.NodeShape.{NodeShape}
use Rattle.tdp_core.specs.RawView.{RawView, RawRowView, row_total}
use Rattle.join_tree.specs.declared.tree.JoinTree.{JoinTree}
use Rattle.anyk_model.specs.Table.{Table}
use Rattle.bound_query.specs.WeighedQuery.{BoundQuery}
use Rattle.node_build.specs.PartialTrees.{AreFilled}
use Rattle.node_build.specs.Shapes.{AreShapesOf}

none_at : (A : Type 0) (n q : ℕ) → (let none : List A = [] in get_or (replicate n none) q none ≡ none)
none_at A n q = let none : List A = [] in elim (cases_lt q n) [
  | inl l ↦ get_or-replicate n q none none l
  | inr g ↦ get_or_past (replicate n none) q none (omega (arith, g, length-replicate n none))
]

sum_none : (A : Type 0) (n : ℕ) → (let none : List A = [] in sum_by length (replicate n none) ≡ 0)
sum_none A zero = refl
sum_none A (suc n) = let none : List A = [] in omega (arith, sum_none A n, sum_by-cons length none (replicate n none))

pub lists_count : (lists : List (List (List ℕ))) (n : ℕ) → lists ≡ replicate n [] → length lists ≡ n
lists_count lists n is = let none : List (List ℕ) = [] in ap length is ∙ length-replicate n none

pub no_rows_yet : {R : Type 0} (bound : BoundQuery) (tables : List Table) (join : JoinTree) (own above : List (List ℕ)) (d : ℕ) (key : R → KeyOf d 16) (lists : List (List (List ℕ)))
    (rows : List (List ℕ)) (shapes : List NodeShape) (tree : RawView R) → length shapes ≡ join.count → tree ≡ record { shapes = shapes; rows = replicate (length shapes) [] }
    → AreFilled bound tables join own above d key lists 0 rows tree
no_rows_yet {R = R} bound tables join own above d key lists rows shapes tree count is =
    let none : List (RawRowView R) = [] in
    let list : tree.rows ≡ replicate (length shapes) none = ap (λ (t : RawView R). t.rows) is in
    let total : row_total tree ≡ 0 = ap (sum_by length) list ∙ sum_none (RawRowView R) (length shapes) in
    record {
      each_node = ap length list ∙ length-replicate (length shapes) none ∙ count;
      filled = λ v l. absurd (omega (arith, l));
      empty = λ v l. ap (λ (xs : List (List (RawRowView R))). get_or xs v none) list ∙ none_at (RawRowView R) (length shapes) v;
      total = total;
    }

-- a tree keeps the shapes with which it was begun
pub shapes_kept : {R : Type 0} (bound : BoundQuery) (tables : List Table) (join : JoinTree) (shapes list : List NodeShape) (begun tree : RawView R)
    → AreShapesOf bound tables join join.count shapes → list ≡ shapes → begun ≡ record { shapes = list; rows = replicate (length list) [] } → tree.shapes ≡ begun.shapes
    → AreShapesOf bound tables join join.count tree.shapes
shapes_kept {R = R} bound tables join shapes list begun tree of_join same is kept =
    subst (AreShapesOf bound tables join join.count) (sym (kept ∙ ap (λ (t : RawView R). t.shapes) is ∙ same)) of_join
