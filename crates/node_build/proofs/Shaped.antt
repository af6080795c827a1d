-- The shapes of the nodes of a join tree are those of a tree.
use Rattle.std.proofs.Common.{◌≡◌, ◌≢◌, ◌<◌, ◌≤◌, ◌+◌, ◌^◌, ℕ, Bool, true, false, cond, nat_lt, List, [], length, take, get_or, refl, sym, ap, ◌∙◌, inl, inr, arith}
use Rattle.std.proofs.lemmas.Bool.{cases_lt, cases_order}
use Rattle.std.proofs.lemmas.List.{get_or-take}
use Rattle.tdp_model.specs.TreeProblem.{sum_from}
use Rattle.tdp_core.specs.declared.parts.NodeShape.{NodeShape}
use Rattle.tdp_core.specs.RawView.{AreShapes, shape_cap}
use Rattle.join_tree.specs.declared.tree.JoinTree.{JoinTree}
use Rattle.anyk_model.specs.Table.{Table}
use Rattle.anyk_model.specs.Query.{Query}
use Rattle.bound_query.proofs.Sums.{sum_zero}
use Rattle.bound_query.specs.NamedPlaces.{KeyInside}
use Rattle.bound_query.specs.KeyParts.{numbers_of}
use Rattle.bound_query.specs.WeighedQuery.{BoundQuery, Fits}
use Rattle.bound_query.specs.Weights.{KeyInRange, cap_of, key_at}
use Rattle.bound_query.proofs.Parts.{caps_add}
use Rattle.bound_query.proofs.Lists.{all_at}
use Rattle.bound_query.proofs.NodeSums.{AreApart, fewer_nodes, over, sum_same}
use Rattle.node_build.specs.Nodes.{CapsBelow, IsJoinTreeOf, cap_at, item_of, parent_of}
use Rattle.node_build.specs.Shapes.{AreShapesOf}

-- ---- join trees

module _ (query : Query) (join : JoinTree) (tree : IsJoinTreeOf query join) where
  atoms : tree.graph.atoms ≡ join.count
  atoms = let a = tree.of_query.atoms in let c = tree.count in omega (arith, a, c)

  pub few_nodes_lem : join.count ≤ 16
  few_nodes_lem = let f = tree.of_query.is_graph.few in let a = atoms in omega (arith, f, a)

  pub some_node_lem : 1 ≤ join.count
  some_node_lem = let f = tree.of_query.is_graph.some in let a = atoms in omega (arith, f, a)

  nodes : length (take join.count join.atom) ≡ join.count
  nodes = tree.tree.nodes ∙ atoms

  parents : length (take join.count join.parent) ≡ join.count
  parents = tree.tree.has_parents ∙ atoms

  pub item_known : (v : ℕ) → v < join.count → item_of join v < length query.items
  item_known v l =
      let n = nodes in
      let h = tree.tree.within v (omega (arith, l, n)) in
      let same : get_or (take join.count join.atom) v 0 ≡ item_of join v = get_or-take join.count join.atom v 0 l in
      let a = tree.of_query.atoms in
      omega (arith, h, same, a)

  pub items_differ : (u v : ℕ) → u < v → v < join.count → item_of join u ≢ item_of join v
  items_differ u v less l e =
      let n = nodes in
      tree.tree.distinct u v less (omega (arith, l, n)) (get_or-take join.count join.atom u 0 (omega (arith, less, l)) ∙ e ∙ sym (get_or-take join.count join.atom v 0 l))

  pub root_parent : parent_of join 0 ≡ 0
  root_parent = let s = some_node_lem in sym (get_or-take join.count join.parent 0 0 (omega (arith, s))) ∙ tree.tree.first.root

  pub parent_earlier : (v : ℕ) → 0 < v → v < join.count → parent_of join v < v
  parent_earlier v some l =
      let n = parents in
      let h = tree.tree.first.earlier v some (omega (arith, l, n)) in
      let same : get_or (take join.count join.parent) v 0 ≡ parent_of join v = get_or-take join.count join.parent v 0 l in
      omega (arith, h, same)

  pub apart : AreApart (length query.items) (item_of join) join.count 0
  apart = record {
    within = λ v a b. item_known v (omega (arith, b));
    differ = λ u v a b c. items_differ u v b (omega (arith, c));
  }

-- ---- caps

module _ (bound : BoundQuery) (tables : List Table) (fits : Fits bound tables) where
  key_in_range : (key : ℕ) → key < length bound.query.order → KeyInRange tables bound.query.items (key_at bound.query.order key)
  key_in_range key there = all_at (KeyInRange tables bound.query.items) bound.query.order key (record { terms = []; descending = false }) fits.range there

  -- the caps of all items have a sum that fits
  pub caps_small : CapsBelow (2 ^ 127) bound tables
  caps_small i = by (nat_lt i (length bound.query.order)) refl
    where
      by : (b : Bool) → nat_lt i (length bound.query.order) ≡ b
          → over (λ item. cond {A = ℕ} b (cap_of tables bound.query.items item (key_at bound.query.order i)) 0) (length bound.query.items) < 2 ^ 127
      by true e =
          let there : i < length bound.query.order = elim (cases_lt i (length bound.query.order)) [
            | inl l ↦ l
            | inr g ↦ absurd (let f : nat_lt i (length bound.query.order) ≡ false = grind (arith, g) in cc)
          ] in
          let inside : KeyInside tables bound.query.items (key_at bound.query.order i) =
          all_at (KeyInside tables bound.query.items) bound.query.order i (record { terms = []; descending = false }) fits.within.order there in
          let sum = caps_add tables bound.query.items (key_at bound.query.order i) inside in
          let small = key_in_range i there in
          omega (arith, sum, small)
      by false e = let none = sum_zero (numbers_of bound.query.items) in omega (arith, none)

  -- the shapes are those of a tree
  pub shapes_are : (join : JoinTree) (shapes : List NodeShape) → IsJoinTreeOf bound.query join → AreShapesOf bound tables join join.count shapes → AreShapes shapes
  shapes_are join shapes tree of_join =
      let count = of_join.count in
      let few = few_nodes_lem bound.query join tree in
      let some = some_node_lem bound.query join tree in
      record {
        some_node = omega (arith, count, some);
        few_nodes = omega (arith, count, few);
        root = of_join.parents 0 (omega (arith, some)) ∙ root_parent bound.query join tree;
        parents_first = λ q l h.
            let e = of_join.parents q (omega (arith, h, count)) in
            let p = parent_earlier bound.query join tree q l (omega (arith, h, count)) in
            omega (arith, e, p);
        items = λ v h.
            let e = of_join.items v (omega (arith, h, count)) in
            let i = item_known bound.query join tree v (omega (arith, h, count)) in
            let c = tree.count in
            omega (arith, e, i, c, few);
        items_apart = λ u v a b same.
            let e = of_join.items u (omega (arith, a, count)) in
            let f = of_join.items v (omega (arith, b, count)) in
            elim (cases_order u v) [
              | inl is ↦ is
              | inr (inl less) ↦ absurd (items_differ bound.query join tree u v less (omega (arith, b, count)) (sym e ∙ same ∙ f))
              | inr (inr more) ↦ absurd (items_differ bound.query join tree v u more (omega (arith, a, count)) (sym f ∙ sym same ∙ e))
            ];
        caps_fit = λ i.
            let same = sum_same (λ v. shape_cap shapes v i) (λ v. cap_at bound tables (item_of join v) i) join.count 0 (λ v a b. of_join.caps v i (omega (arith, b))) in
            let fewer = fewer_nodes (length bound.query.items) (item_of join) join.count (λ item. cap_at bound tables item i) (apart bound.query join tree) in
            let small = caps_small i in
            let all : sum_from ◌+◌ 0 (λ v. shape_cap shapes v i) (length shapes) 0 ≡ sum_from ◌+◌ 0 (λ v. shape_cap shapes v i) join.count 0 =
            ap (λ (m : ℕ). sum_from ◌+◌ 0 (λ v. shape_cap shapes v i) m 0) count in
            omega (arith, same, fewer, small, all);
      }
