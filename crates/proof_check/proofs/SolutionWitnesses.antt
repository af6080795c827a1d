-- The solutions of the tree problem of a query are its witnesses.
use Rattle.std.proofs.Common.{◌≡◌, ℕ, ◌<◌, cond, nat_eq, List, length, map, get_or, slice_index}
use Rattle.std.proofs.Common.{sym, ap, ◌∙◌, subst, inl, inr, arith}
use Rattle.std.proofs.lemmas.Bool.{cases_eq}
use Rattle.tdp_model.specs.Below.{is_below}
use Rattle.tdp_model.specs.KeyTuple.{KeyOf, key_add, key_below, key_none}
use Rattle.tdp_model.proofs.KeyTuples.{tuple_keys}
use Rattle.tdp_model.proofs.Sums.{sum_same}
use Rattle.rankings.specs.Order.{IsRanking}
use Rattle.anyk_model.specs.Table.{Table}
use Rattle.anyk_model.specs.Query.{IsWitness, Query}
use Rattle.anyk_model.specs.Ranking.{ranking_of}
use Rattle.bound_query.specs.NamedPlaces.{NamesExist}
use Rattle.bound_query.specs.Shape.{HasTree}
use Rattle.witness_key.specs.WitnessKey.{witness_key}
use Rattle.witness_key.proofs.Rankings.{keys_of_ranking}
use Rattle.witness_key.specs.Laws.{item_key}
use Rattle.witness_key.proofs.TreeWitnesses.{links_iff, nodes_add}
use Rattle.witness_key.proofs.WitnessRows.{combination_of_each, each_of_combination, length_of_combination}
use Rattle.proof_model.specs.FirstAnswers.{IsSolutionKey}
use Rattle.proof_model.specs.Laws.{IsProblem}
use Rattle.proof_model.specs.Problem.{Problem, IsSolutionAt, key_at, place_in, row_in, size}
use Rattle.proof_model.specs.QueryProblem.{IsPassing, problem_of, row_rank}
use Rattle.proof_model.proofs.ItemPlaces.{place_same, sum_ones}
use Rattle.proof_model.proofs.QueryItems.{as_many, few_items, item_within, node_items, node_of, parents_earlier}
use Rattle.proof_model.proofs.QueryItems.{some_nodes, tree_problem}
use Rattle.proof_model.proofs.SolutionRows.{list_key, list_of, list_solves, solution_subtree}
use Rattle.proof_model.proofs.Soundness.{all_below}
use Rattle.proof_model.proofs.Sums.{pick_eq}

module _ (query : Query) (tables : List Table) (atoms parents : List ℕ) (within : NamesExist query tables)
    (hung : HasTree query atoms parents) where
  abbrev t : Problem (KeyOf (length query.order) 16)
  t = problem_of query tables atoms parents

  abbrev item : ℕ → ℕ
  item = slice_index atoms

  abbrev up : ℕ → ℕ
  up = slice_index parents

  laws : IsProblem (problem_of query tables atoms parents)
  laws = tree_problem query tables atoms parents hung

  nodes : length atoms ≡ length query.items
  nodes = as_many query tables atoms parents hung

  pub root_below : (q : ℕ) → q < length atoms → is_below t.parent 0 q ≡ 1
  root_below q l = all_below t laws q q (omega arith) l

  -- the rows of the whole tree stand at the numbers of their items
  pub root_place : (q : ℕ) → q < length atoms → place_in t 0 q ≡ slice_index atoms q
  root_place q l =
      place_same (length atoms) (is_below t.parent 0) item (length query.items)
      (λ u h. let e = root_below u h in omega (arith, e))
      (item_within query tables atoms parents hung) hung.join_tree.distinct (length query.items)
      (λ x h. let at = node_of query tables atoms parents hung x h in (at.0, at.1, root_below at.0 at.1, at.2))
      (item q) (omega (arith, item_within query tables atoms parents hung q l))

  pub root_size : size t 0 ≡ length query.items
  root_size = sum_ones (is_below t.parent 0) (length atoms) 0 (λ i a b. root_below i (omega (arith, b))) ∙ nodes

  pub root_row : (rows : List ℕ) (q : ℕ) → q < length atoms → row_in t 0 rows q ≡ slice_index rows (item q)
  root_row rows q l = ap (λ p. get_or rows p 0) (root_place q l)

  -- ---- from a solution

  module _ (rows : List ℕ) (solution : IsSolutionAt (problem_of query tables atoms parents) 0 rows) where
    count : length rows ≡ length query.items
    count = solution.count ∙ root_size

    abbrev here : ℕ → ℕ
    here q = slice_index rows (item q)

    link_fits : (k : ℕ) → 0 < k → k < length atoms → t.Fits k (here (up k)) (here k)
    link_fits k above l =
        let p = parents_earlier query tables atoms parents hung k above l in
        subst (λ r. t.Fits k r (here k)) (root_row rows (up k) (omega (arith, p, l)))
        (subst (λ r. t.Fits k (row_in t 0 rows (up k)) r) (root_row rows k l)
        (solution.others k above l (omega (arith, root_below k l))))

    node_passes : (q : ℕ) → q < length atoms → IsPassing query tables (item q) (here q)
    node_passes q l = elim (cases_eq q 0) [
      | inl root ↦
          subst (λ v. IsPassing query tables (item v) (here v)) (sym root)
          (subst (IsPassing query tables (item 0)) (root_row rows 0 (some_nodes query tables atoms parents hung))
          solution.first)
      | inr other ↦ (link_fits q (omega (arith, other)) l).0
    ]

    item_passes : (a : ℕ) → a < length query.items → IsPassing query tables a (slice_index rows a)
    item_passes a l =
        let at = node_of query tables atoms parents hung a l in
        subst (λ b. IsPassing query tables b (slice_index rows b)) at.2 (node_passes at.0 at.1)

    pub solution_witness : IsWitness query tables rows
    solution_witness =
        (links_iff query tables hung.graph atoms parents hung.of_query hung.join_tree rows within).1 (
          combination_of_each query tables rows count (λ a l. let p = item_passes a l in (p.0, p.1)),
          (λ a l. (item_passes a l).2),
          (λ k above l. (link_fits k above l).1),
        )

  -- ---- from a witness

  module _ (rows : List ℕ) (witness : IsWitness query tables rows) where
    pub rows_count : length rows ≡ length query.items
    rows_count = length_of_combination query tables rows witness.0

    passes : (q : ℕ) → q < length atoms → IsPassing query tables (item q) (slice_index rows (item q))
    passes q l =
        let inside = item_within query tables atoms parents hung q l in
        let there = each_of_combination query tables rows witness.0 (item q) inside in
        let h = (links_iff query tables hung.graph atoms parents hung.of_query hung.join_tree rows within).0 witness in
        (there.0, there.1, h.1 (item q) inside)

    fits : (k : ℕ) → 0 < k → k < length atoms → t.Fits k (slice_index rows (item (up k))) (slice_index rows (item k))
    fits k above l =
        (passes k l, ((links_iff query tables hung.graph atoms parents hung.of_query hung.join_tree rows within).0 witness).2 k above l)

    pub witness_solution : IsSolutionAt (problem_of query tables atoms parents) 0 rows
    witness_solution = record {
      node = some_nodes query tables atoms parents hung;
      count = rows_count ∙ sym root_size;
      first =
          let some = some_nodes query tables atoms parents hung in
          subst (IsPassing query tables (item 0)) (sym (root_row rows 0 some)) (passes 0 some);
      others = λ k above l _.
          let p = parents_earlier query tables atoms parents hung k above l in
          subst (λ r. t.Fits k r (row_in t 0 rows k)) (sym (root_row rows (up k) (omega (arith, p, l))))
          (subst (λ r. t.Fits k (slice_index rows (item (up k))) r) (sym (root_row rows k l)) (fits k above l));
    }

  -- ---- keys

  pub rows_key : (rows : List ℕ) → length rows ≡ length query.items
      → key_at (problem_of query tables atoms parents) 0 rows ≡ witness_key (length query.order) query tables rows
  rows_key rows size =
      let d = length query.order in
      sum_same (key_below d 16) (key_add d 16) (key_none d 16) (tuple_keys d 16)
      (λ q. cond (nat_eq (is_below t.parent 0 q) 1) (t.key q (row_in t 0 rows q)) (key_none d 16))
      (λ q. item_key d query tables rows (item q))
      (length atoms) 0
      (λ q a b.
      let l : q < length atoms = omega (arith, b) in
      pick_eq (is_below t.parent 0 q) 1 (t.key q (row_in t 0 rows q)) (key_none d 16) (root_below q l)
      ∙ ap (λ r. row_rank query tables (item q) r) (root_row rows q l))
      ∙ nodes_add query tables hung.graph atoms parents hung.of_query hung.join_tree rows d within size

  -- the keys of the ranking are the ranking of the keys of solutions
  pub solutions_ranking : IsRanking (KeyOf (length query.order) 16) (key_below (length query.order) 16)
      (IsSolutionKey (problem_of query tables atoms parents))
      (map (witness_key (length query.order) query tables) (ranking_of query tables))
  solutions_ranking =
      let base = keys_of_ranking (length query.order) query tables (omega arith)
      (few_items query tables atoms parents hung) in
      record {
        ascending = base.ascending;
        sound = λ k m.
            let w = base.sound k m in
            let solution = witness_solution w.rows w.witness in (
              row_in t 0 w.rows,
              solution_subtree t laws (length query.items) (node_items query tables atoms parents hung) 0 w.rows
                  solution,
              rows_key w.rows (rows_count w.rows w.witness) ∙ sym w.is,
            );
        complete = λ k h.
            let items = node_items query tables atoms parents hung in
            let found = list_of t laws (length query.items) items 0 h.0 in
            let solution = list_solves t laws (length query.items) items 0 h.0 found.0 found.1 h.1 in
            base.complete k (record {
              rows = found.0;
              witness = solution_witness found.0 solution;
              is = sym h.2 ∙ sym (list_key t laws (length query.items) items 0 h.0 found.0 found.1)
                  ∙ rows_key found.0 (solution.count ∙ root_size);
            });
      }
