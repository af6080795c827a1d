-- The solved tree has the query's witnesses as its solutions.
use Rattle.std.proofs.Common.{◌≡◌, ℕ, ◌<◌, ◌≤◌, List, map, length, slice_index, slice_index_or, sym, ap, ◌∙◌, subst, arith}
use Rattle.tdp_model.specs.KeyTuple.{KeyOf, key_add, key_below, key_none}
use Rattle.tdp_model.specs.TreeProblem.{sum_from}
use Rattle.tdp_model.proofs.KeyTuples.{tuple_keys}
use Rattle.tdp_model.proofs.Sums.{sum_same}
use Rattle.tdp_core.specs.RawView.{RawView, raw_rank}
use Rattle.tdp_core.specs.TreeView.{NodeView, parent, rank}
use Rattle.tdp_core.specs.Solutions.{IsRawSolution, IsTreeRanking, IsTreeSolution, raw_solution_key, solution_key}
use Rattle.tdp_core.specs.WellFormed.{IsFormed, IsTieFreeTree}
use Rattle.anyk_model.specs.Table.{Table}
use Rattle.anyk_model.specs.Query.{Query, IsWitness}
use Rattle.anyk_model.specs.Ranking.{ranking_of}
use Rattle.witness_key.specs.WitnessKey.{witness_key}
use Rattle.witness_key.proofs.Rankings.{rankings_agree_lem}
use Rattle.semi_join.specs.ReducedTrees.{IsReduced}
use Rattle.tree_dp.specs.SolvedTrees.{IsSolved}
use Rattle.plan_build.specs.Plan.{HasWitnesses}
use Rattle.plan_build.proofs.TreeSolutions.{has_solution, solution_has, solutions_once}

module _ {R : Type 0} (d : ℕ) (key : R → KeyOf d 16) (query : Query) (tables : List Table) where
  -- the solutions of a raw tree are the witnesses, with their keys
  pub record AreWitnesses (raw : RawView R) : Type 0 where
    pub witness : (s : ℕ → ℕ) → IsRawSolution raw s → (found : List ℕ) × IsWitness query tables found × (raw_solution_key raw d key s ≡ witness_key d query tables found)
    pub solution : (found : List ℕ) → IsWitness query tables found → (s : ℕ → ℕ) × IsRawSolution raw s × (raw_solution_key raw d key s ≡ witness_key d query tables found)

  module _ (raw : RawView R) (parts tree : List (NodeView R)) (reduced : IsReduced d key raw parts) (solved : IsSolved parts tree) where
    -- a solution has one key, before and after
    same_key_lem : (rows : ℕ → ℕ) → solution_key tree d key rows ≡ solution_key parts d key rows
    same_key_lem rows =
        ap (λ n. sum_from (key_add d 16) (key_none d 16) (λ q. rank tree d key q (rows q)) n 0) solved.node_count
        ∙ sum_same (key_below d 16) (key_add d 16) (key_none d 16) (tuple_keys d 16) (λ q. rank tree d key q (rows q)) (λ q. rank parts d key q (rows q)) (length parts) 0
        (λ q low l. ap (λ xs. slice_index_or (map (λ x. key x.rank) xs) (rows q) (key_none d 16)) ((solved.nodes q).rows))

    pub has_witnesses : AreWitnesses raw → IsFormed d key tree → IsTieFreeTree tree → HasWitnesses d key query tables tree
    has_witnesses are formed tie_free = record {
      witness = λ rows solution.
          let before : IsTreeSolution parts rows = (solved.solutions rows).1 solution in
          let found = are.witness (λ q. slice_index (reduced.kept q) (rows q)) (reduced.solutions rows before) in
          (found.0, found.1, same_key_lem rows ∙ reduced.same_key rows before ∙ found.2);
      solution = λ found witness.
          let raw_one = are.solution found witness in
          let one = reduced.onto raw_one.0 raw_one.1 in
          let same = sum_same (key_below d 16) (key_add d 16) (key_none d 16) (tuple_keys d 16) (λ q. raw_rank raw d key q (slice_index (reduced.kept q) (one.0 q)))
          (λ q. raw_rank raw d key q (raw_one.0 q)) (length raw.shapes) 0 (λ q low l. ap (raw_rank raw d key q) (one.2 q (omega (arith, l)))) in
          (one.0, (solved.solutions one.0).0 one.1, same_key_lem one.0 ∙ reduced.same_key one.0 one.1 ∙ same ∙ raw_one.2);
      once = solutions_once d key tree formed tie_free;
    }

    earlier : (q : ℕ) → 0 < q → q < length tree → parent tree q < q
    earlier q some l =
        subst (λ p. p < q) (sym (ap (λ s. s.parent) ((solved.nodes q).shape)))
        (reduced.formed.shaped.parents_first q some (subst (λ n. q < n) solved.node_count l))

    -- the ranking of the tree is the ranking of the witnesses
    pub ranking_agrees : length query.order ≤ d → length query.items ≤ 16 → HasWitnesses d key query tables tree
        → (ks : List (KeyOf d 16)) → IsTreeRanking tree d key ks → ks ≡ map (witness_key d query tables) (ranking_of query tables)
    ranking_agrees few items has ks ranking = rankings_agree_lem d query tables ks few items (record {
      ascending = ranking.ascending;
      sound = λ k member.
          let solution = has_solution tree earlier d key k (ranking.sound k member) in
          let found = has.witness solution.0 solution.1 in
          record { rows = found.0; witness = found.1; is = sym solution.2 ∙ found.2 };
      complete = λ k w.
          let solution = has.solution w.rows w.witness in
          ranking.complete k (solution_has tree earlier d key k solution.0 solution.1 (solution.2 ∙ sym w.is));
    })
