-- A plan with the nodes of its join tree, and one with those of the same tree under another root.
use Rattle.std.proofs.Common.{◌≡◌, ℕ, ◌<◌, List, length, take, slice_index, Option, None, Some, Result, Ok, Err, IfOk, sym, ap, ◌∙◌, subst, inl, inr, arith}
use Rattle.std.proofs.lemmas.List.{ext_get_or, get_or-map, get_or-take, length-map, length-take-le}
use Rattle.tdp_model.specs.KeyTuple.{KeyOf}
use Rattle.tdp_core.specs.TreeView.{item, parent}
use Rattle.hyper_graph.specs.Graph.{Hypergraph}
use Rattle.hyper_graph.specs.Trees.{IsLinked}
use Rattle.hyper_graph.specs.JoinTrees.{IsJoinTree}
use Rattle.join_tree.specs.Rerooting.{AreLinked, HasAtom, IsSameTree}
use Rattle.join_tree.specs.declared.tree.JoinTree.{JoinTree}
use Rattle.anyk_model.specs.Table.{Table}
use Rattle.anyk_model.specs.Query.{Query}
use Rattle.bound_query.specs.WeighedQuery.{BoundQuery}
use Rattle.bound_query.specs.Shape.{Shape}
use Rattle.node_build.specs.Nodes.{IsJoinTreeOf, item_of, parent_of}
use Rattle.plan_build.proofs.Witnesses.{items_ordered}
use Rattle.plan_build.specs.declared.fault.PlanFault.{PlanFault}
use Rattle.plan_build.specs.Making.{IsPlanOver}
use Rattle.plan_build.specs.Plan.{IsPlan, IsPlanAt, IsPlanFor, IsPlanOf, PlanView, nodes_in, shape_view}

-- ---- trees that are equal node by node

module _ (count : ℕ) (atoms ups others parents : List ℕ) (same_atoms : (k : ℕ) → k < count → slice_index others k ≡ slice_index atoms k)
    (same_ups : (k : ℕ) → k < count → slice_index parents k ≡ slice_index ups k) where
  has_atom : (a : ℕ) → HasAtom count atoms a → HasAtom count others a
  has_atom a (k, l, e) = (k, l, same_atoms k l ∙ e)

  linked_same : (j k : ℕ) → j < count → k < count → IsLinked ups j k → IsLinked parents j k
  linked_same j k lj lk (inl (above, e)) = inl (above, same_ups k lk ∙ e)
  linked_same j k lj lk (inr (above, e)) = inr (above, same_ups j lj ∙ e)

  are_linked : (a b : ℕ) → AreLinked count atoms ups a b → AreLinked count others parents a b
  are_linked a b (j, k, lj, lk, ej, ek, linked) = (j, k, lj, lk, same_atoms j lj ∙ ej, same_atoms k lk ∙ ek, linked_same j k lj lk linked)

-- a tree that is equal node by node to one with the same links has the same links
pub same_tree : (count : ℕ) (first firsts atoms ups others parents : List ℕ) → ((k : ℕ) → k < count → slice_index others k ≡ slice_index atoms k)
    → ((k : ℕ) → k < count → slice_index parents k ≡ slice_index ups k) → IsSameTree count first firsts atoms ups → IsSameTree count first firsts others parents
same_tree count first firsts atoms ups others parents same_atoms same_ups same =
    let back_atoms : (k : ℕ) → k < count → slice_index atoms k ≡ slice_index others k = λ k l. sym (same_atoms k l) in
    let back_ups : (k : ℕ) → k < count → slice_index ups k ≡ slice_index parents k = λ k l. sym (same_ups k l) in
    record {
      nodes = λ a. (
        λ h. has_atom count atoms ups others parents same_atoms same_ups a ((same.nodes a).0 h),
        λ h. (same.nodes a).1 (has_atom count others parents atoms ups back_atoms back_ups a h),
      );
      links = λ a b. (
        λ h. are_linked count atoms ups others parents same_atoms same_ups a b ((same.links a b).0 h),
        λ h. (same.links a b).1 (are_linked count others parents atoms ups back_atoms back_ups a b h),
      );
    }

-- lists that are equal at the first n places
fronts_same : (n : ℕ) (xs ys : List ℕ) → length (take n xs) ≡ n → length (take n ys) ≡ n → ((k : ℕ) → k < n → slice_index xs k ≡ slice_index ys k) → take n xs ≡ take n ys
fronts_same n xs ys long alike same =
    ext_get_or 0 (take n xs) (take n ys) (long ∙ sym alike) (λ k l.
    let inside : k < n = omega (arith, l, long) in
    get_or-take n xs k 0 inside ∙ same k inside ∙ sym (get_or-take n ys k 0 inside))

-- ---- a stored join tree under another root

module _ (query : Query) (join : JoinTree) (joined : IsJoinTreeOf query join) where
  -- each item is at a node
  pub item_there : (at : ℕ) → at < length query.items → HasAtom join.count join.atom at
  item_there at l =
      let found = (items_ordered query join joined).each at l in
      (found.0, (let w = found.1 in let c = joined.count in omega (arith, w, c)), found.2)

  -- what is a join tree of each graph of which this is one is a join tree of the query
  pub joined_again : (rooted : JoinTree) → rooted.count ≡ join.count
      → ((graph : Hypergraph) → IsJoinTree graph (take join.count join.atom) (take join.count join.parent)
      → IsJoinTree graph (take rooted.count rooted.atom) (take rooted.count rooted.parent)) → IsJoinTreeOf query rooted
  joined_again rooted same graphs = record {
    count = same ∙ joined.count;
    graph = joined.graph;
    of_query = joined.of_query;
    tree = graphs joined.graph joined.tree;
  }

-- ---- the nodes of a plan's tree

module _ {R : Type 0} (d : ℕ) (key : R → KeyOf d 16) (bound : BoundQuery) (tables : List Table) (plan : PlanView R) (join over : JoinTree)
    (whole : IsPlanFor d key bound tables plan) (kept : plan.join ≡ join) (joined : IsJoinTreeOf bound.query over)
    (items : (v : ℕ) → v < length plan.tree → item plan.tree v ≡ item_of over v)
    (parents : (v : ℕ) → v < length plan.tree → parent plan.tree v ≡ parent_of over v) where
  shape_is : whole.shape ≡ shape_view join plan.node_rows
  shape_is = whole.shown ∙ ap (λ (j : JoinTree). shape_view j plan.node_rows) kept

  nodes_many : length plan.tree ≡ over.count
  nodes_many = whole.nodes ∙ sym joined.count

  -- the nodes are those of the join tree that the plan keeps
  pub plan_of : over ≡ join → IsPlan d key bound tables plan
  plan_of same =
      let over_shown : whole.shape ≡ shape_view over plan.node_rows = shape_is ∙ ap (λ (j : JoinTree). shape_view j plan.node_rows) (sym same) in
      record {
        whole = whole;
        items = λ v l.
            let inside : v < over.count = (let n = nodes_many in omega (arith, l, n)) in
            items v l ∙ sym (ap (λ (s : Shape). slice_index s.atoms v) over_shown ∙ get_or-take over.count over.atom v 0 inside);
        parents = λ v l.
            let inside : v < over.count = (let n = nodes_many in omega (arith, l, n)) in
            parents v l ∙ sym (ap (λ (s : Shape). slice_index s.parents v) over_shown ∙ get_or-take over.count over.parent v 0 inside);
      }

  atom_at : (v : ℕ) → v < over.count → slice_index (nodes_in plan.tree).atom v ≡ slice_index over.atom v
  atom_at v l =
      let inside : v < length plan.tree = (let n = nodes_many in omega (arith, l, n)) in
      get_or-map (λ n. n.shape.item) plan.tree v _ 0 inside ∙ items v inside

  parent_at : (v : ℕ) → v < over.count → slice_index (nodes_in plan.tree).parent v ≡ slice_index over.parent v
  parent_at v l =
      let inside : v < length plan.tree = (let n = nodes_many in omega (arith, l, n)) in
      get_or-map (λ n. n.shape.parent) plan.tree v _ 0 inside ∙ parents v inside

  nodes_joined : IsJoinTreeOf bound.query (nodes_in plan.tree)
  nodes_joined =
      let many = nodes_many in
      let full : over.count ≡ joined.graph.atoms = joined.count ∙ sym joined.of_query.atoms in
      let atoms_long : length (take over.count over.atom) ≡ over.count = joined.tree.nodes ∙ sym full in
      let ups_long : length (take over.count over.parent) ≡ over.count = joined.tree.has_parents ∙ sym full in
      let own_long : length (take over.count (nodes_in plan.tree).atom) ≡ over.count = length-take-le over.count (nodes_in plan.tree).atom (let m = length-map plan.tree (λ n. n.shape.item) in omega (arith, m, many)) in
      let above_long : length (take over.count (nodes_in plan.tree).parent) ≡ over.count = length-take-le over.count (nodes_in plan.tree).parent (let m = length-map plan.tree (λ n. n.shape.parent) in omega (arith, m, many)) in
      let atoms = fronts_same over.count over.atom (nodes_in plan.tree).atom atoms_long own_long (λ k l. sym (atom_at k l)) in
      let ups = fronts_same over.count over.parent (nodes_in plan.tree).parent ups_long above_long (λ k l. sym (parent_at k l)) in
      let tree = subst (λ (xs : List ℕ). IsJoinTree joined.graph xs (take over.count (nodes_in plan.tree).parent)) atoms
      (subst (λ (xs : List ℕ). IsJoinTree joined.graph (take over.count over.atom) xs) ups joined.tree) in
      record {
        count = whole.nodes;
        graph = joined.graph;
        of_query = joined.of_query;
        tree = subst (λ (m : ℕ). IsJoinTree joined.graph (take m (nodes_in plan.tree).atom) (take m (nodes_in plan.tree).parent)) (sym many) tree;
      }

  -- the nodes are those of the join tree under another root
  pub plan_at : (at : ℕ) → 0 < length bound.query.items → item_of over 0 ≡ at → over.count ≡ join.count
      → IsSameTree join.count join.atom join.parent over.atom over.parent → IsPlanAt d key bound tables at plan
  plan_at at some root alike same = record {
    whole = whole;
    root = items 0 (let n = whole.nodes in omega (arith, n, some)) ∙ root;
    joined = nodes_joined;
    same = subst (λ (j : JoinTree). IsSameTree j.count j.atom j.parent (nodes_in plan.tree).atom (nodes_in plan.tree).parent) (sym kept)
        (same_tree join.count join.atom join.parent over.atom over.parent (nodes_in plan.tree).atom (nodes_in plan.tree).parent
        (λ k l. atom_at k (omega (arith, l, alike))) (λ k l. parent_at k (omega (arith, l, alike))) same);
  }

-- what all plans have, whether an item is given or not
pub whole_of : {R : Type 0} (d : ℕ) (key : R → KeyOf d 16) (bound : BoundQuery) (tables : List Table) (at : Option ℕ) (plan : PlanView R)
    → IsPlanOf d key bound tables at plan → IsPlanFor d key bound tables plan
whole_of d key bound tables None plan is = is.whole
whole_of d key bound tables (Some item) plan is = is.whole

-- ---- the same of a result

module _ {R : Type 0} (d : ℕ) (key : R → KeyOf d 16) (bound : BoundQuery) (tables : List Table) (join over : JoinTree) (joined : IsJoinTreeOf bound.query over) where
  pub plan_given : (result : Result (PlanView R) PlanFault) → IfOk result (IsPlanOver d key bound tables join over) → over ≡ join → IfOk result (IsPlan d key bound tables)
  plan_given (Ok plan) made same = plan_of d key bound tables plan join over made.whole made.kept joined made.items made.parents same
  plan_given (Err fault) made same = tt

  pub plan_at_given : (result : Result (PlanView R) PlanFault) → IfOk result (IsPlanOver d key bound tables join over)
      → (at : ℕ) → 0 < length bound.query.items → item_of over 0 ≡ at → over.count ≡ join.count
      → IsSameTree join.count join.atom join.parent over.atom over.parent → IfOk result (IsPlanAt d key bound tables at)
  plan_at_given (Ok plan) made at some root alike same = plan_at d key bound tables plan join over made.whole made.kept joined made.items made.parents at some root alike same
  plan_at_given (Err fault) made at some root alike same = tt
