-- The solutions of a raw tree are the witnesses of its query, with the same keys.
use Rattle.std.proofs.Common.{◌≡◌, ◌<◌, ◌≤◌, ℕ, List, length, map, take, slice_index, refl, sym, ap, subst, ◌∙◌, inl, inr, arith}
use Rattle.std.proofs.lemmas.Bool.{cases_eq, cases_order}
use Rattle.std.proofs.lemmas.Grind.{get_or_default_zero}
use Rattle.std.proofs.lemmas.List.{get_or-take, length-map}
use Rattle.rankings.proofs.Members.{contains_member, member_contains}
use Rattle.join_tree.specs.declared.tree.JoinTree.{JoinTree}
use Rattle.tdp_model.specs.KeyTuple.{KeyOf, key_add, key_none}
use Rattle.tdp_model.specs.TreeProblem.{sum_from}
use Rattle.tdp_core.specs.RawView.{RawView, child_link, own_link, raw_len, raw_number, raw_rank, rows_at, shape_child_place}
use Rattle.tdp_core.specs.Solutions.{IsRawSolution, raw_solution_key}
use Rattle.rank_key.specs.Keys.{row_key}
use Rattle.anyk_model.specs.Table.{Table}
use Rattle.anyk_model.specs.Query.{IsCombination, IsWitness, Query, item_table, row_counts}
use Rattle.bound_query.specs.Classes.{HasVariable, PassAndAgreeAtLeast, Passes, row_field}
use Rattle.bound_query.specs.WeighedQuery.{BoundQuery, Fits}
use Rattle.bound_query.proofs.Least.{least_iff}
use Rattle.bound_query.proofs.Witness.{witness_iff}
use Rattle.node_build.specs.Nodes.{IsBuilt, IsJoinTreeOf, RowsAgree, item_of, parent_of, row_parts}
use Rattle.witness_key.specs.WitnessKey.{witness_key}
use Rattle.witness_key.proofs.TreeWitnesses.{links_witness}
use Rattle.witness_key.proofs.WitnessKeys.{keys_add}
use Rattle.witness_key.proofs.WitnessRows.{combination_of_each, each_of_combination, length_of_combination}
use Rattle.witness_key.proofs.WitnessSums.{IsOrderOf, choose}

-- # The tree

module _ (query : Query) (join : JoinTree) (tree : IsJoinTreeOf query join) where
  abbrev atoms : List ℕ
  atoms = take join.count join.atom

  abbrev parents : List ℕ
  parents = take join.count join.parent

  length_atoms : length atoms ≡ length query.items
  length_atoms = tree.tree.nodes ∙ tree.of_query.atoms

  length_parents : length parents ≡ length query.items
  length_parents = tree.tree.has_parents ∙ tree.of_query.atoms

  item_at : (v : ℕ) → v < length query.items → slice_index atoms v ≡ item_of join v
  item_at v l = let c = tree.count in get_or-take join.count join.atom v 0 (omega (arith, c, l))

  parent_at : (v : ℕ) → v < length query.items → slice_index parents v ≡ parent_of join v
  parent_at v l = let c = tree.count in get_or-take join.count join.parent v 0 (omega (arith, c, l))

  parent_earlier : (v : ℕ) → 0 < v → v < length query.items → parent_of join v < v
  parent_earlier v above l = let c = length_parents in subst (λ p. p < v) (parent_at v l) (tree.tree.first.earlier v above (omega (arith, c, l)))

  -- a node of an item
  atom_of : (a : ℕ) → a < length query.items → (k : ℕ) × (k < length query.items) × (slice_index atoms k ≡ a)
  atom_of a l =
      let c = length_atoms in
      let g = tree.of_query.atoms in
      let k = tree.tree.each a (omega (arith, g, l)) in
      let inside = k.1 in (k.0, omega (arith, inside, c), k.2)

  -- the nodes' items are the items, each once
  pub items_ordered : IsOrderOf (length query.items) (item_of join)
  items_ordered =
      let c = length_atoms in
      let g = tree.of_query.atoms in
      record {
        within = λ v l. subst (λ a. a < length query.items) (item_at v l) (let h = tree.tree.within v (omega (arith, c, l)) in omega (arith, h, g));
        distinct = λ u v less l e. tree.tree.distinct u v less (omega (arith, c, l)) (item_at u (omega (arith, less, l)) ∙ e ∙ sym (item_at v l));
        each = λ a l. let k = atom_of a l in (k.0, k.1, sym (item_at k.0 k.1) ∙ k.2);
      }

module _ {R : Type 0} (bound : BoundQuery) (tables : List Table) (d : ℕ) (key : R → KeyOf d 16) (join : JoinTree) (raw : RawView R)
    (fits : Fits bound tables) (tree : IsJoinTreeOf bound.query join) (built : IsBuilt bound tables d key join raw) where
  abbrev n : ℕ
  n = length bound.query.items

  abbrev item : ℕ → ℕ
  item v = item_of join v

  abbrev up : ℕ → ℕ
  up v = parent_of join v

  order : IsOrderOf n item
  order = items_ordered bound.query join tree

  node_counted : (v : ℕ) → v < n → v < join.count
  node_counted v l = let c = tree.count in omega (arith, c, l)

  -- the rows of nodes, as row numbers, one for each item
  record Matches (s : ℕ → ℕ) (rows : List ℕ) : Type 0 where
    pub count : length rows ≡ n
    pub within : (v : ℕ) → v < n → s v < raw_len raw v
    pub number : (v : ℕ) → v < n → slice_index rows (item v) ≡ raw_number raw v (s v)

  -- # Keys

  keys_match : (s : ℕ → ℕ) (rows : List ℕ) → Matches s rows → raw_solution_key raw d key s ≡ witness_key d bound.query tables rows
  keys_match s rows m =
      let f : ℕ → KeyOf d 16 = λ q. raw_rank raw d key q (s q) in
      let few : n ≤ 16 = let g = tree.of_query.atoms in let h = tree.of_query.is_graph.few in omega (arith, g, h) in
      ap (λ c. sum_from (key_add d 16) (key_none d 16) f c 0) (built.nodes ∙ tree.count)
      ∙ keys_add bound.query tables fits.within d item rows f few order m.count (λ v l.
      built.ranks v (s v) (node_counted v l) (m.within v l)
      ∙ ap (λ r. row_key d (row_parts bound tables (item v) r) (item v) r) (sym (m.number v l)))

  -- # Rows

  module _ (s : ℕ → ℕ) (rows : List ℕ) (m : Matches s rows) where
    abbrev IsGood : ℕ → ℕ → Type 0
    IsGood a row = (1 ≤ row) × (row ≤ length (item_table bound.query tables a).rows) × Passes bound.query tables a row

    node_good : (v : ℕ) → v < n → IsGood (item v) (raw_number raw v (s v))
    node_good v l =
        let numbers : List ℕ = map (λ x. x.row.row) (rows_at raw v) in
        let size : length numbers ≡ raw_len raw v = length-map (rows_at raw v) (λ x. x.row.row) in
        let inside = m.within v l in
        let there : s v < length numbers = omega (arith, size, inside) in
        ((built.rows v (node_counted v l)).members (raw_number raw v (s v))).0
        (contains_member (raw_number raw v (s v)) numbers (s v) there (get_or_default_zero numbers (s v) (raw_number raw v (s v)) there))

    item_good : (a : ℕ) → a < n → IsGood a (slice_index rows a)
    item_good a l =
        let v = order.each a l in
        subst (λ b. IsGood b (slice_index rows b)) v.2 (subst (IsGood (item v.0)) (sym (m.number v.0 v.1)) (node_good v.0 v.1))

    combination : IsCombination (row_counts bound.query.items tables) rows
    combination = combination_of_each bound.query tables rows m.count (λ a l. let g = item_good a l in (g.0, g.1))

    abbrev Has : ℕ → ℕ → ℕ → Type 0
    Has a number p = HasVariable bound.query.equalities bound.variables a number p

    abbrev field : ℕ → ℕ → List ℕ
    field a p = row_field bound.query tables a (slice_index rows a) p

    -- the rows of two items agree
    abbrev Agree : ℕ → ℕ → Type 0
    Agree a b = (number p q : ℕ) → Has a number p → Has b number q → field a p ≡ field b q

    abbrev NodesAgree : ℕ → Type 0
    NodesAgree k = RowsAgree bound tables (item k) (item (up k)) (raw_number raw k (s k)) (raw_number raw (up k) (s (up k)))

    abbrev NodeLinked : ℕ → Type 0
    NodeLinked k = own_link raw k (s k) ≡ child_link raw (up k) (s (up k)) (shape_child_place raw.shapes k)

    linked_agree : (k : ℕ) → 0 < k → k < n → NodeLinked k → NodesAgree k
    linked_agree k above l =
        let early = parent_earlier bound.query join tree k above l in
        (built.links k (s k) (s (up k)) above (node_counted k l) (m.within k l) (m.within (up k) (omega (arith, early, l)))).0

    agree_linked : (k : ℕ) → 0 < k → k < n → NodesAgree k → NodeLinked k
    agree_linked k above l =
        let early = parent_earlier bound.query join tree k above l in
        (built.links k (s k) (s (up k)) above (node_counted k l) (m.within k l) (m.within (up k) (omega (arith, early, l)))).1

    to_items : (k : ℕ) → 0 < k → k < n → NodesAgree k → Agree (item k) (item (up k))
    to_items k above l h number p q a b =
        let early = parent_earlier bound.query join tree k above l in
        ap (λ r. row_field bound.query tables (item k) r p) (m.number k l)
        ∙ h number p q a b
        ∙ sym (ap (λ r. row_field bound.query tables (item (up k)) r q) (m.number (up k) (omega (arith, early, l))))

    from_items : (k : ℕ) → 0 < k → k < n → Agree (item k) (item (up k)) → NodesAgree k
    from_items k above l h number p q a b =
        let early = parent_earlier bound.query join tree k above l in
        sym (ap (λ r. row_field bound.query tables (item k) r p) (m.number k l))
        ∙ h number p q a b
        ∙ ap (λ r. row_field bound.query tables (item (up k)) r q) (m.number (up k) (omega (arith, early, l)))

    -- # From a solution

    module _ (solution : IsRawSolution raw s) where
      node_linked : (k : ℕ) → 0 < k → k < n → NodeLinked k
      node_linked k above l =
          let c = built.nodes ∙ tree.count in
          elim ((solution k (omega (arith, c, l))).1) [
            | inl root ↦ absurd (omega (arith, root, above))
            | inr e ↦ subst (λ p. own_link raw k (s k) ≡ child_link raw p (s p) (shape_child_place raw.shapes k)) (built.parents k (node_counted k l)) e
          ]

      abbrev atom : ℕ → ℕ
      atom k = slice_index (atoms bound.query join tree) k

      abbrev above_of : ℕ → ℕ
      above_of k = slice_index (parents bound.query join tree) k

      edge_agrees : (k : ℕ) → 0 < k → k < n → Agree (atom k) (atom (above_of k))
      edge_agrees k above l =
          let early = parent_earlier bound.query join tree k above l in
          let parent = parent_at bound.query join tree k l in
          let base : Agree (item k) (item (up k)) = to_items k above l (linked_agree k above l (node_linked k above l)) in
          let top : atom (above_of k) ≡ item (up k) = ap atom parent ∙ item_at bound.query join tree (up k) (omega (arith, early, l)) in
          subst (λ a. Agree a (atom (above_of k))) (sym (item_at bound.query join tree k l)) (subst (λ b. Agree (item k) b) (sym top) base)

      is_witness : IsWitness bound.query tables rows
      is_witness =
          links_witness bound.query tables tree.graph (atoms bound.query join tree) (parents bound.query join tree) tree.of_query tree.tree
          rows bound.variables fits.variables edge_agrees fits.within combination (λ a l. (item_good a l).2)

    -- # From a witness

    is_solution : IsWitness bound.query tables rows → IsRawSolution raw s
    is_solution w q l =
        let c = built.nodes ∙ tree.count in
        let pairs : PassAndAgreeAtLeast bound.query tables bound.variables rows =
        (least_iff bound.query tables rows bound.variables fits.variables).0 (((witness_iff bound.query tables rows fits.within).0 w).1) in
        let inside : q < n = omega (arith, c, l) in (
          m.within q inside,
          elim (cases_eq q 0) [
            | inl root ↦ inl root
            | inr other ↦
                let above : 0 < q = omega (arith, other) in
                let early = parent_earlier bound.query join tree q above inside in
                let e : NodeLinked q = agree_linked q above inside (from_items q above inside (pairs.agree (item q) (item (up q)) (order.within q inside) (order.within (up q) (omega (arith, early, inside))))) in
                inr (subst (λ p. own_link raw q (s q) ≡ child_link raw p (s p) (shape_child_place raw.shapes q)) (sym (built.parents q (node_counted q inside))) e)
          ],
        )

  -- # Both ways

  rows_of : (s : ℕ → ℕ) → IsRawSolution raw s → (rows : List ℕ) × Matches s rows
  rows_of s solution =
      let chosen = choose n (λ a x. (v : ℕ) × (v < n) × (item v ≡ a) × (x ≡ raw_number raw v (s v)))
      (λ a l. let v = order.each a l in (raw_number raw v.0 (s v.0), (v.0, v.1, v.2, refl))) in
      let c = built.nodes ∙ tree.count in (
        chosen.list,
        record {
          count = chosen.count;
          within = λ v l. (solution v (omega (arith, c, l))).0;
          number = λ v l.
              let at = chosen.each (item v) (order.within v l) in
              at.3 ∙ ap (λ u. raw_number raw u (s u)) (same_node at.0 v at.1 l at.2);
        },
      )
    where
      same_node : (u v : ℕ) → u < n → v < n → item u ≡ item v → u ≡ v
      same_node u v lu lv e = elim (cases_order u v) [
        | inl same ↦ same
        | inr (inl lt) ↦ absurd (order.distinct u v lt lv e)
        | inr (inr gt) ↦ absurd (order.distinct v u gt lu (sym e))
      ]

  rows_for : (rows : List ℕ) → IsWitness bound.query tables rows → (s : ℕ → ℕ) × Matches s rows
  rows_for rows w =
      let chosen = choose n (λ v r. (r < raw_len raw v) × (slice_index rows (item v) ≡ raw_number raw v r)) place in (
        λ v. slice_index chosen.list v,
        record {
          count = length_of_combination bound.query tables rows w.0;
          within = λ v l. (chosen.each v l).0;
          number = λ v l. (chosen.each v l).1;
        },
      )
    where
      place : (v : ℕ) → v < n → (r : ℕ) × ((r < raw_len raw v) × (slice_index rows (item v) ≡ raw_number raw v r))
      place v l =
          let there = each_of_combination bound.query tables rows w.0 (item v) (order.within v l) in
          let pairs = ((witness_iff bound.query tables rows fits.within).0 w).1 in
          let member = ((built.rows v (node_counted v l)).members (slice_index rows (item v))).1 (there.0, there.1, pairs.pass (item v) (order.within v l)) in
          let numbers : List ℕ = map (λ x. x.row.row) (rows_at raw v) in
          let at = member_contains (slice_index rows (item v)) numbers member in
          let size : length numbers ≡ raw_len raw v = length-map (rows_at raw v) (λ x. x.row.row) in
          let inside : at.0 < length numbers = at.1 in
          (at.0, (omega (arith, size, inside), sym at.2 ∙ get_or_default_zero numbers at.0 (slice_index rows (item v)) inside))

-- A solution of the raw tree gives a witness with its key.
pub raw_witness : {R : Type 0} (bound : BoundQuery) (tables : List Table) (d : ℕ) (key : R → KeyOf d 16) (join : JoinTree) (raw : RawView R)
    → Fits bound tables → length bound.query.order ≤ d → IsJoinTreeOf bound.query join → IsBuilt bound tables d key join raw
    → (s : ℕ → ℕ) → IsRawSolution raw s
    → (rows : List ℕ) × IsWitness bound.query tables rows × (raw_solution_key raw d key s ≡ witness_key d bound.query tables rows)
raw_witness bound tables d key join raw fits few tree built s solution =
    let found = rows_of bound tables d key join raw fits tree built s solution in
    (found.0, is_witness bound tables d key join raw fits tree built s found.0 found.1 solution, keys_match bound tables d key join raw fits tree built s found.0 found.1)

-- And a witness gives a solution of the raw tree with its key.
pub witness_raw : {R : Type 0} (bound : BoundQuery) (tables : List Table) (d : ℕ) (key : R → KeyOf d 16) (join : JoinTree) (raw : RawView R)
    → Fits bound tables → length bound.query.order ≤ d → IsJoinTreeOf bound.query join → IsBuilt bound tables d key join raw
    → (rows : List ℕ) → IsWitness bound.query tables rows
    → (s : ℕ → ℕ) × IsRawSolution raw s × (raw_solution_key raw d key s ≡ witness_key d bound.query tables rows)
witness_raw bound tables d key join raw fits few tree built rows w =
    let found = rows_for bound tables d key join raw fits tree built rows w in
    (found.0, is_solution bound tables d key join raw fits tree built found.0 rows found.1 w, keys_match bound tables d key join raw fits tree built found.0 rows found.1)
