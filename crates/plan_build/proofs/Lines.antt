-- The lines of a report, one node after another.
use Rattle.std.proofs.Common.{◌≡◌, ◌+◌, ℕ, List, [], ◌∷◌, ◌++◌, length, map, sym, ap, subst, ◌∙◌, append-nil, arith}
use Rattle.std.specs.List.{flat_map, range_with_len}
use Rattle.std.proofs.lemmas.Grind.{flat_map-append}
use Rattle.std.proofs.lemmas.List.FromFn.{map-range_with_len_more}
use Rattle.tdp_model.specs.KeyTuple.{KeyOf}
use Rattle.anyk_model.specs.Table.{Table}
use Rattle.bound_query.specs.WeighedQuery.{BoundQuery}
use Rattle.join_tree.specs.Rerooting.{IsTree}
use Rattle.bound_query.specs.Shape.{Shape}
use Rattle.bound_query.specs.JoinTreeView.{HasItems}
use Rattle.plan_build.specs.Plan.{IsPlanFor, PlanView, shape_of}

map_same : (ns : List ℕ) → map (λ (n : ℕ). n) ns ≡ ns
map_same [] = sym (append-nil [])
map_same (n ∷ ns) = ap (λ (l : List ℕ). n ∷ l) (map_same ns)

range_more : (n : ℕ) → range_with_len 0 (n + 1) ≡ range_with_len 0 n ++ n ∷ []
range_more n =
    sym (map_same (range_with_len 0 (n + 1))) ∙ map-range_with_len_more (λ (k : ℕ). k) 0 n n (omega arith)
    ∙ ap (λ (l : List ℕ). l ++ n ∷ []) (map_same (range_with_len 0 n))

-- the lines with one node more
pub lines_more : (line : ℕ → List ℕ) (n : ℕ) (old new : List ℕ) → old ≡ flat_map line (range_with_len 0 n) → new ≡ old ++ line n
    → new ≡ flat_map line (range_with_len 0 (n + 1))
lines_more line n old new so_far one =
    one ∙ ap (λ (l : List ℕ). l ++ line n) so_far ∙ ap (λ (l : List ℕ). flat_map line (range_with_len 0 n) ++ l) (sym (append-nil (line n)))
    ∙ sym (flat_map-append line (range_with_len 0 n) (n ∷ [])) ∙ ap (flat_map line) (sym (range_more n))

module _ {R : Type 0} (d : ℕ) (key : R → KeyOf d 16) (bound : BoundQuery) (tables : List Table) (plan : PlanView R) (is : IsPlanFor d key bound tables plan) where
  pub nodes_counted : length (shape_of plan).atoms ≡ plan.join.count
  nodes_counted = ap (λ (s : Shape). length s.atoms) (sym is.shown) ∙ is.is_shape.0.hung.join_tree.nodes ∙ is.is_shape.0.hung.of_query.atoms ∙ sym is.count

  pub rows_counted : length plan.node_rows ≡ plan.join.count
  rows_counted = ap (λ (s : Shape). length s.node_rows) (sym is.shown) ∙ is.is_shape.0.counts ∙ ap (λ (s : Shape). length s.atoms) is.shown ∙ nodes_counted

-- a plan as it is stored and as it is seen
module _ {R : Type 0} (a b : PlanView R) (same : a ≡ b) where
  pub shape_same : shape_of a ≡ shape_of b
  shape_same = ap (λ (p : PlanView R). shape_of p) same

  pub count_same : a.join.count ≡ b.join.count
  count_same = ap (λ (p : PlanView R). p.join.count) same

  pub rows_same : length a.node_rows ≡ length b.node_rows
  rows_same = ap (λ (p : PlanView R). length p.node_rows) same

  pub total_same : a.total ≡ b.total
  total_same = ap (λ (p : PlanView R). p.total) same

  pub ordered_same : IsTree b.join.count b.join.atom b.join.parent → IsTree a.join.count a.join.atom a.join.parent
  ordered_same = subst (λ (p : PlanView R). IsTree p.join.count p.join.atom p.join.parent) (sym same)

  pub atoms_same : (items : ℕ) → HasItems b.join.count b.join.atom items → HasItems a.join.count a.join.atom items
  atoms_same items = subst (λ (p : PlanView R). HasItems p.join.count p.join.atom items) (sym same)
