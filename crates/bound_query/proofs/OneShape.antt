-- A query has at most one shape.
use Rattle.std.proofs.Common.{◌≡◌, ◌↔◌, ℕ, suc, ◌-◌, ◌<◌, ◌≤◌, List, length, slice_index, inl, inr, refl, sym, ◌∙◌, ap, subst, arith, Result, Ok, Err}
use Rattle.std.proofs.lemmas.Bool.{cases_order}
use Rattle.std.proofs.lemmas.Grind.{same_number_lists}
use Rattle.hyper_graph.specs.Graph.{Hypergraph, HasVar, IsIn}
use Rattle.hyper_graph.specs.JoinTrees.{HasJoinTree}
use Rattle.hyper_graph.proofs.Graphs.{has_within}
use Rattle.join_tree.specs.Removal.{HasOne}
use Rattle.join_tree.proofs.Hanging.{one_iff_tree}
use Rattle.join_tree.proofs.FromRemoval as removing
use Rattle.anyk_model.specs.Table.{Table}
use Rattle.anyk_model.specs.Query.{Query, Column, Equality}
use Rattle.rankings.specs.Order.{IsMember, IsAscending}
use Rattle.rankings.proofs.Unique.{ascending_unique_lem}
use Rattle.bound_query.specs.Classes.{AreVariables, ColumnBefore, HasVariable}
use Rattle.bound_query.specs.Graph.{IsGraphOf}
use Rattle.bound_query.specs.KeyParts.{sum_of_all}
use Rattle.bound_query.specs.Shape.{Flaw, cyclic, too_many_rows, IsInCore, IsCyclic, Shape, HasNodeRows, HasTree, HasShape, IsShape}
use Rattle.tdp_model.specs.NodeRows.{most_node_rows}
use Rattle.bound_query.proofs.Alike.{runs_same, ends_same, core_same}
use Rattle.bound_query.proofs.ColumnOrder.{before_asym}

one_variables : (es : List Equality) (a b : List Column) → AreVariables es a → AreVariables es b → a ≡ b
one_variables es a b x y = ascending_unique_lem ColumnBefore before_asym a b x.ascending y.ascending
    (λ c m. (y.members c).1 ((x.members c).0 m)) (λ c m. (x.members c).1 ((y.members c).0 m))

numbers_asym : (a b : ℕ) → a < b → b < a → ⊥
numbers_asym a b x y = omega (arith, x, y)

one_list : (P : ℕ → Type 0) (a b : List ℕ) → IsAscending (λ x y. x < y) a → IsAscending (λ x y. x < y) b
    → ((x : ℕ) → IsMember x a ↔ P x) → ((x : ℕ) → IsMember x b ↔ P x) → a ≡ b
one_list P a b x y m n = ascending_unique_lem (λ p q. p < q) numbers_asym a b x y (λ c h. (n c).1 ((m c).0 h)) (λ c h. (m c).1 ((n c).0 h))

has_same : (query : Query) (g h : Hypergraph) → IsGraphOf query g → IsGraphOf query h → (v a : ℕ) → HasVar g v a → HasVar h v a
has_same query g h x y v a has =
    let same : x.variables ≡ y.variables = one_variables query.equalities x.variables y.variables x.are_variables y.are_variables in
    let within : v < length g.vars = has_within g v a has in
    let here : v < length x.variables = subst (λ k. v < k) x.numbered within in
    let there : v < length y.variables = subst (λ list. v < length list) same here in
    let variable : (place : ℕ) × HasVariable query.equalities x.variables a v place = (x.has v a here).0 has in
    (y.has v a there).1 (subst (λ list. (place : ℕ) × HasVariable query.equalities list a v place) same variable)

-- the numbers of node rows
one_count : (query : Query) (tables : List Table) (item a b : ℕ) → HasNodeRows query tables item a → HasNodeRows query tables item b → a ≡ b
one_count query tables item a b x y =
    sym x.counted ∙ ap length (one_list _ x.rows y.rows x.ascending y.ascending x.members y.members) ∙ y.counted

-- two cores
module _ (query : Query) (a b : List ℕ) (x : IsCyclic query a) (y : IsCyclic query b) where
  to : (v e : ℕ) → HasVar x.graph v e → HasVar y.graph v e
  to = has_same query x.graph y.graph x.of_query y.of_query

  from : (v e : ℕ) → HasVar y.graph v e → HasVar x.graph v e
  from = has_same query y.graph x.graph y.of_query x.of_query

  atoms : x.graph.atoms ≡ y.graph.atoms
  atoms = x.of_query.atoms ∙ sym y.of_query.atoms

  removed_same : x.removed ≡ y.removed
  removed_same = ends_same x.graph y.graph x.parent x.order y.parent y.order x.removed y.removed x.core y.core atoms to from x.removal.run y.removal.run x.removal.stuck y.removal.stuck

  core_to : (e : ℕ) → IsIn x.core e → IsIn y.core e
  core_to = core_same x.graph y.graph x.parent x.order y.parent y.order x.removed y.removed x.core y.core atoms to from x.removal.run y.removal.run removed_same

  core_from : (e : ℕ) → IsIn y.core e → IsIn x.core e
  core_from = core_same y.graph x.graph y.parent y.order x.parent x.order y.removed x.removed y.core x.core (sym atoms) from to y.removal.run x.removal.run (sym removed_same)

  pub one_core : a ≡ b
  one_core = ascending_unique_lem (λ p q. p < q) numbers_asym a b x.ascending y.ascending
      (λ c m. (y.members c).1 (moved ((x.members c).0 m))) (λ c m. (x.members c).1 (moved_back ((y.members c).0 m)))
    where
      moved : {c : ℕ} → IsInCore x.core c → IsInCore y.core c
      moved (e, is, h) = (e, is, core_to e h)

      moved_back : {c : ℕ} → IsInCore y.core c → IsInCore x.core c
      moved_back (e, is, h) = (e, is, core_from e h)

-- a join tree of one graph of a query is one of another
tree_same : (query : Query) (g h : Hypergraph) → IsGraphOf query g → IsGraphOf query h → HasJoinTree g → HasJoinTree h
tree_same query g h x y (nodes, parents, t) = (
  nodes,
  parents,
  record {
    nodes = t.nodes ∙ same;
    has_parents = t.has_parents ∙ same;
    first = t.first;
    within = λ k l. subst (λ n. slice_index nodes k < n) same (t.within k l);
    distinct = t.distinct;
    each = λ a l. t.each a (subst (λ n. a < n) (sym same) l);
    connected = λ v node last path p q k l.
        has_same query g h x y v (slice_index nodes (node k)) (t.connected v node last path
        (has_same query h g y x v (slice_index nodes (node 0)) p) (has_same query h g y x v (slice_index nodes (node last)) q) k l);
  },
)
  where
    same : g.atoms ≡ h.atoms
    same = x.atoms ∙ sym y.atoms

-- two shapes
module _ (query : Query) (tables : List Table) (a b : Shape) (s : HasShape query tables a) (t : HasShape query tables b) where
  x : HasTree query a.atoms a.parents
  x = s.hung

  y : HasTree query b.atoms b.parents
  y = t.hung

  goes : (v e : ℕ) → HasVar x.graph v e → HasVar y.graph v e
  goes = has_same query x.graph y.graph x.of_query y.of_query

  comes : (v e : ℕ) → HasVar y.graph v e → HasVar x.graph v e
  comes = has_same query y.graph x.graph y.of_query x.of_query

  sizes : x.graph.atoms ≡ y.graph.atoms
  sizes = x.of_query.atoms ∙ sym y.of_query.atoms

  stops : x.removed ≡ y.removed
  stops = ends_same x.graph y.graph x.parent x.order y.parent y.order x.removed y.removed x.core y.core sizes goes comes x.removal.run y.removal.run x.removal.stuck y.removal.stuck

  core_in : (e : ℕ) → IsIn x.core e → IsIn y.core e
  core_in = core_same x.graph y.graph x.parent x.order y.parent y.order x.removed y.removed x.core y.core sizes goes comes x.removal.run y.removal.run stops

  steps_same : (j : ℕ) → j < x.removed → (slice_index x.order j ≡ slice_index y.order j) × (slice_index x.parent (slice_index x.order j) ≡ slice_index y.parent (slice_index y.order j))
  steps_same = runs_same x.graph y.graph x.parent x.order y.parent y.order x.removed y.removed x.core y.core sizes goes comes x.removal.run y.removal.run x.removed (omega arith) (omega (arith, stops))

  lone : HasOne y.core
  lone = (one_iff_tree y.graph y.parent y.order y.removed y.core y.removal).1 (b.atoms, b.parents, y.join_tree)

  counted : suc y.removed ≡ y.graph.atoms
  counted =
      let many : y.graph.atoms ≡ suc (y.graph.atoms - 1) = omega (arith, y.removal.some_left) in
      let all : y.removed ≡ y.graph.atoms - 1 = removing.counts y.graph y.parent y.order y.removed y.core (y.graph.atoms - 1) y.removal.run many y.removal.some_left lone in
      omega (arith, many, all)

  long : length a.atoms ≡ suc x.removed
  long = omega (arith, x.join_tree.nodes, sizes, counted, stops)

  head_same : slice_index a.atoms 0 ≡ slice_index b.atoms 0
  head_same = lone.2 (slice_index a.atoms 0) (core_in _ x.tree.root) ∙ sym (lone.2 (slice_index b.atoms 0) y.tree.root)

  later_same : (k : ℕ) → 0 < k → k ≤ x.removed → slice_index a.atoms k ≡ slice_index b.atoms k
  later_same k some l =
      let place : x.removed - k ≡ y.removed - k = ap (λ n. n - k) stops in
      x.tree.reversed k some l ∙ (steps_same (x.removed - k) (omega (arith, some, l))).0
      ∙ ap (slice_index y.order) place ∙ sym (y.tree.reversed k some (omega (arith, l, stops)))

  atom_same : (k : ℕ) → k < length a.atoms → slice_index a.atoms k ≡ slice_index b.atoms k
  atom_same k l = elim (cases_order k 0) [
    | inl none ↦ ap (slice_index a.atoms) none ∙ head_same ∙ ap (slice_index b.atoms) (sym none)
    | inr (inl less) ↦ absurd (omega (arith, less))
    | inr (inr some) ↦ later_same k some (omega (arith, l, long))
  ]

  atoms_same : a.atoms ≡ b.atoms
  atoms_same = same_number_lists a.atoms b.atoms (x.join_tree.nodes ∙ sizes ∙ sym y.join_tree.nodes) atom_same

  above_same : (k : ℕ) → 0 < k → k ≤ x.removed → slice_index b.atoms (slice_index a.parents k) ≡ slice_index b.atoms (slice_index b.parents k)
  above_same k some l =
      let fits : k ≤ y.removed = omega (arith, l, stops) in
      let place : x.removed - k ≡ y.removed - k = ap (λ n. n - k) stops in
      let mine : slice_index b.atoms (slice_index a.parents k) ≡ slice_index x.parent (slice_index a.atoms k) =
      ap (λ list. slice_index list (slice_index a.parents k)) (sym atoms_same) ∙ x.tree.hung k some l in
      let hers : slice_index b.atoms (slice_index b.parents k) ≡ slice_index y.parent (slice_index b.atoms k) = y.tree.hung k some fits in
      mine ∙ ap (slice_index x.parent) (x.tree.reversed k some l) ∙ (steps_same (x.removed - k) (omega (arith, some, l))).1
      ∙ ap (λ j. slice_index y.parent (slice_index y.order j)) place ∙ ap (slice_index y.parent) (sym (y.tree.reversed k some fits)) ∙ sym hers

  parent_apart : (p q : ℕ) → p < length b.atoms → q < length b.atoms → slice_index b.atoms p ≡ slice_index b.atoms q → p ≡ q
  parent_apart p q lp lq e = elim (cases_order p q) [
    | inl same ↦ same
    | inr (inl l) ↦ absurd (y.join_tree.distinct p q l lq e)
    | inr (inr l) ↦ absurd (y.join_tree.distinct q p l lp (sym e))
  ]

  parent_later : (k : ℕ) → 0 < k → k ≤ x.removed → slice_index a.parents k ≡ slice_index b.parents k
  parent_later k some l =
      let size : length b.atoms ≡ suc y.removed = y.join_tree.nodes ∙ sym counted in
      let fits : k ≤ y.removed = omega (arith, l, stops) in
      let mine : slice_index a.parents k < k = x.tree.earlier k some l in
      let hers : slice_index b.parents k < k = y.tree.earlier k some fits in
      parent_apart _ _ (omega (arith, mine, fits, size)) (omega (arith, hers, fits, size)) (above_same k some l)

  parent_same : (k : ℕ) → k < length a.parents → slice_index a.parents k ≡ slice_index b.parents k
  parent_same k l = elim (cases_order k 0) [
    | inl none ↦ ap (slice_index a.parents) none ∙ x.tree.top ∙ sym y.tree.top ∙ ap (slice_index b.parents) (sym none)
    | inr (inl less) ↦ absurd (omega (arith, less))
    | inr (inr some) ↦ parent_later k some (omega (arith, l, x.join_tree.has_parents, sizes, counted, stops))
  ]

  parents_same : a.parents ≡ b.parents
  parents_same = same_number_lists a.parents b.parents (x.join_tree.has_parents ∙ sizes ∙ sym y.join_tree.has_parents) parent_same

  rows_same : (k : ℕ) → k < length a.node_rows → slice_index a.node_rows k ≡ slice_index b.node_rows k
  rows_same k l =
      let here : k < length a.atoms = subst (λ n. k < n) s.counts l in
      let there : k < length b.atoms = subst (λ (list : List ℕ). k < length list) atoms_same here in
      one_count query tables (slice_index b.atoms k) _ _
      (subst (λ item. HasNodeRows query tables item (slice_index a.node_rows k)) (atom_same k here) (s.rows k here)) (t.rows k there)

  node_rows_same : a.node_rows ≡ b.node_rows
  node_rows_same = same_number_lists a.node_rows b.node_rows (s.counts ∙ ap length atoms_same ∙ sym t.counts) rows_same

  pub one_tree : a ≡ b
  one_tree = λ i. record { atoms = atoms_same i; parents = parents_same i; node_rows = node_rows_same i }

same_found : {a b : Shape} → a ≡ b → ◌≡◌ {A = Result Shape Flaw} (Ok a) (Ok b)
same_found e = ap (λ (s : Shape). Ok s) e

same_flaw : {a b : Flaw} → a ≡ b → ◌≡◌ {A = Result Shape Flaw} (Err a) (Err b)
same_flaw e = ap (λ (f : Flaw). Err f) e

cyclic_or_tree : (query : Query) (tables : List Table) (items : List ℕ) (s : Shape) → IsCyclic query items → HasShape query tables s → ⊥
cyclic_or_tree query tables items s c h =
    c.no_tree (tree_same query h.hung.graph c.graph h.hung.of_query c.of_query (s.atoms, s.parents, h.hung.join_tree))

many_or_few : (query : Query) (tables : List Table) (a b : Shape) → HasShape query tables a → HasShape query tables b
    → sum_of_all a.node_rows ≤ most_node_rows → most_node_rows < sum_of_all b.node_rows → ⊥
many_or_few query tables a b x y few many =
    let same : sum_of_all a.node_rows ≡ sum_of_all b.node_rows = ap (λ (s : Shape). sum_of_all s.node_rows) (one_tree query tables a b x y) in
    omega (arith, few, many, same)

pub one_shape : (query : Query) (tables : List Table) (x y : Result Shape Flaw) → IsShape query tables x → IsShape query tables y → x ≡ y
one_shape query tables (Ok a) (Ok b) (x, _) (y, _) = same_found (one_tree query tables a b x y)
one_shape query tables (Ok a) (Err (cyclic items)) (x, few) c = absurd (cyclic_or_tree query tables items a c x)
one_shape query tables (Ok a) (Err too_many_rows) (x, few) (s, h, many) = absurd (many_or_few query tables a s x h few many)
one_shape query tables (Err (cyclic items)) (Ok a) c (x, few) = absurd (cyclic_or_tree query tables items a c x)
one_shape query tables (Err too_many_rows) (Ok a) (s, h, many) (x, few) = absurd (many_or_few query tables a s x h few many)
one_shape query tables (Err (cyclic items)) (Err (cyclic others)) c d = same_flaw (ap (λ (l : List ℕ). cyclic l) (one_core query items others c d))
one_shape query tables (Err (cyclic items)) (Err too_many_rows) c (s, h, many) = absurd (cyclic_or_tree query tables items s c h)
one_shape query tables (Err too_many_rows) (Err (cyclic items)) (s, h, many) c = absurd (cyclic_or_tree query tables items s c h)
one_shape query tables (Err too_many_rows) (Err too_many_rows) (s, h, many) (t, k, more) = refl
