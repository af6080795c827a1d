-- Rows that pass, and agree along the links of a join tree, are a witness.
use Rattle.std.proofs.Common.{◌≡◌, ◌↔◌, ◌<◌, ◌≤◌, ℕ, List, length, slice_index, refl, sym, ap, subst, ◌∙◌, arith}
use Rattle.hyper_graph.specs.Graph.{HasVar, Hypergraph}
use Rattle.hyper_graph.specs.JoinTrees.{IsJoinTree}
use Rattle.hyper_graph.proofs.Paths.{IsRunning}
use Rattle.hyper_graph.proofs.Routes.{running_from_connected}
use Rattle.tdp_model.specs.KeyTuple.{KeyOf, key_add, key_none}
use Rattle.tdp_model.specs.TreeProblem.{sum_from}
use Rattle.anyk_model.specs.Table.{Table}
use Rattle.anyk_model.specs.Query.{Column, IsCombination, IsWitness, Query, row_counts}
use Rattle.bound_query.specs.Classes.{Agree, AreVariables, HasVariable, Passes, row_field, variable_at}
use Rattle.bound_query.specs.Graph.{IsGraphOf}
use Rattle.bound_query.specs.NamedPlaces.{NamesExist}
use Rattle.bound_query.proofs.Least.{at_member, least_iff, shared_along}
use Rattle.bound_query.proofs.Witness.{linked_append, linked_back, witness_iff}
use Rattle.witness_key.specs.WitnessKey.{witness_key}
use Rattle.witness_key.specs.Laws.{AgreeAlongLinks, item_key}
use Rattle.witness_key.proofs.WitnessKeys.{keys_add}
use Rattle.witness_key.proofs.WitnessRows.{numbered_again, other_number}
use Rattle.witness_key.proofs.WitnessSums.{IsOrderOf}
use Rattle.witness_key.proofs.WitnessTrees.{agree_anywhere}

module _ (query : Query) (tables : List Table) (graph : Hypergraph) (atoms parents : List ℕ)
    (of_query : IsGraphOf query graph)
    (tree : IsJoinTree graph atoms parents) where
  abbrev atom : ℕ → ℕ
  atom k = slice_index atoms k

  abbrev above_of : ℕ → ℕ
  above_of k = slice_index parents k

  pub as_many : length atoms ≡ length query.items
  as_many = tree.nodes ∙ of_query.atoms

  length_parents : length parents ≡ length query.items
  length_parents = tree.has_parents ∙ of_query.atoms

  -- a node of an item
  node_of : (a : ℕ) → a < length query.items → (k : ℕ) × (k < length query.items) × (atom k ≡ a)
  node_of a l =
      let k = tree.each a (omega (arith, of_query.atoms, l)) in
      let inside = k.1 in (k.0, omega (arith, inside, as_many), k.2)

  -- the nodes' items are the items, each once
  pub nodes_ordered : IsOrderOf (length query.items) (slice_index atoms)
  nodes_ordered =
      let c = as_many in
      record {
        within = λ v l. let h = tree.within v (omega (arith, c, l)) in omega (arith, h, of_query.atoms);
        distinct = λ u v less l e. tree.distinct u v less (omega (arith, c, l)) e;
        each = node_of;
      }

  -- the keys of the nodes' rows add up
  pub nodes_add : (rows : List ℕ) (d : ℕ) → NamesExist query tables → length rows ≡ length query.items
      → sum_from (key_add d 16) (key_none d 16) (λ q. item_key d query tables rows (slice_index atoms q)) (length atoms) 0
      ≡ witness_key d query tables rows
  nodes_add rows d within count =
      let f : ℕ → KeyOf d 16 = λ q. item_key d query tables rows (atom q) in
      let few : length query.items ≤ 16 = omega (arith, of_query.is_graph.few, of_query.atoms) in
      ap (λ n. sum_from (key_add d 16) (key_none d 16) f n 0) as_many
      ∙ keys_add query tables within d (slice_index atoms) rows f few nodes_ordered count (λ v l. refl)

  module _ (rows : List ℕ) (variables : List Column) (known : AreVariables query.equalities variables) where
    abbrev Has : ℕ → ℕ → ℕ → Type 0
    Has a number p = HasVariable query.equalities variables a number p

    abbrev field : ℕ → ℕ → List ℕ
    field a p = row_field query tables a (slice_index rows a) p

    -- the rows of two items agree at the least columns of each variable
    abbrev pub AgreeAtLeast : ℕ → ℕ → Type 0
    AgreeAtLeast a b = (number p q : ℕ) → Has a number p → Has b number q → field a p ≡ field b q

    pub agree_least : (a b : ℕ) → Agree query tables rows a b → AgreeAtLeast a b
    agree_least a b h number p q x y =
        let s = ((known.members (variable_at variables number)).0 (at_member variables number x.known)).0 in
        h p q (shared_along query.equalities (variable_at variables number) (record { item = a; place = p }) x.linked s)
        (linked_append (linked_back x.linked) y.linked)

    module _ (links : (k : ℕ) → 0 < k → k < length query.items → AgreeAtLeast (atom k) (atom (above_of k))) where
      module _ (number : ℕ) (there : number < length variables) where
        running : IsRunning parents (λ k. (p : ℕ) × Has (atom k) number p)
        running j k less l a b =
            let es = query.equalities in
            let others = of_query.variables in
            let other = other_number es variables others known of_query.are_variables number there in
            let to_graph : (i : ℕ) → ((p : ℕ) × Has (atom i) number p) → HasVar graph other.0 (atom i) =
            λ i h. (of_query.has other.0 (atom i) other.1).1
            (h.0, numbered_again es variables others number other.0 (atom i) h.0 other.1 other.2 h.1) in
            let back : (i : ℕ) → HasVar graph other.0 (atom i) → (p : ℕ) × Has (atom i) number p =
            λ i h. (let g = (of_query.has other.0 (atom i) other.1).0 h in
            (g.0, numbered_again es others variables other.0 number (atom i) g.0 there (sym other.2) g.1)) in
            let run = running_from_connected parents (λ i. HasVar graph other.0 (atom i)) tree.first
            (tree.connected other.0) in
            back (above_of k) (run j k less l (to_graph j a) (to_graph k b))

        one_place : (k p q : ℕ) → Has (atom k) number p → Has (atom k) number q → p ≡ q
        one_place k p q a b =
            let more = b.least p (linked_append (linked_back b.linked) a.linked) in
            omega (arith, a.least q (linked_append (linked_back a.linked) b.linked), more)

        nodes_agree : (j k p q : ℕ) → j < length query.items → k < length query.items
            → Has (atom j) number p → Has (atom k) number q → field (atom j) p ≡ field (atom k) q
        nodes_agree j k p q lj lk a b =
            let c = length_parents in
            agree_anywhere parents (λ i r. Has (atom i) number r) (λ i r. field (atom i) r) tree.first running one_place
            (λ i r t above inside g h. links i above (omega (arith, c, inside)) number r t g h)
            j k p q (omega (arith, c, lj)) (omega (arith, c, lk)) a b

      -- any two items agree
      pub items_agree : (i j : ℕ) → i < length query.items → j < length query.items → AgreeAtLeast i j
      items_agree i j li lj number p q a b =
          let u = node_of i li in
          let v = node_of j lj in
          let first = subst (λ x. AgreeAtLeast x (atom v.0)) u.2
          (λ m r t g h. nodes_agree m g.known u.0 v.0 r t u.1 v.1 g h) in
          subst (λ y. AgreeAtLeast i y) v.2 first number p q a b

      -- rows that pass are then a witness
      pub links_witness : NamesExist query tables → IsCombination (row_counts query.items tables) rows
          → ((i : ℕ) → i < length query.items → Passes query tables i (slice_index rows i))
          → IsWitness query tables rows
      links_witness within combination passes =
          (witness_iff query tables rows within).1 (
            combination,
            (least_iff query tables rows variables known).1 (record { pass = passes; agree = items_agree }),
          )

  -- a combination is a witness exactly if its rows pass, and agree along each link
  pub links_iff : (rows : List ℕ) → NamesExist query tables → IsWitness query tables rows
      ↔ (IsCombination (row_counts query.items tables) rows
      × ((i : ℕ) → i < length query.items → Passes query tables i (slice_index rows i))
      × AgreeAlongLinks query tables atoms parents rows)
  links_iff rows within = (
    λ w.
        let pairs = ((witness_iff query tables rows within).0 w).1 in (
          w.0,
          pairs.pass,
          λ k above l.
              let c = as_many in
              let p = tree.first.earlier k above (let n = length_parents in omega (arith, c, n, l)) in
              pairs.agree (atom k) (atom (above_of k)) (nodes_ordered.within k (omega (arith, c, l)))
              (nodes_ordered.within (above_of k) (omega (arith, c, l, p))),
        ),
    λ h. links_witness rows of_query.variables of_query.are_variables
        (λ k above l. let c = as_many in agree_least rows of_query.variables of_query.are_variables (atom k)
        (atom (above_of k))
        (h.2 k above (omega (arith, c, l)))) within h.0 h.1,
  )
