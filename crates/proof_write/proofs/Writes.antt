-- The certificate that is written.
use Rattle.std.proofs.Common.{◌≡◌, ◌<◌, ◌≤◌, ◌+◌, ◌++◌, ℕ, zero, suc, Bool, Contains, List, [], ◌∷◌, map, length}
use Rattle.std.proofs.Common.{get_or, refl, sym, ap, subst, ◌∙◌, arith}
use Rattle.std.specs.List.{flat_map}
use Rattle.std.proofs.lemmas.List.{get_or_default}
use Rattle.std.proofs.lemmas.List.Concat.{flat_map-cons}
use Rattle.rankings.specs.Order.{BelowAll, IsAscending}
use Rattle.tdp_model.specs.KeyTuple.{KeyOf, key_below}
use Rattle.tdp_model.specs.Regions.{place_of}
use Rattle.tdp_model.specs.Remains.{AtMost}
use Rattle.tdp_model.proofs.Keys.{at_most_trans}
use Rattle.tdp_model.proofs.KeyTuples.{tuple_keys}
use Rattle.tdp_core.specs.TreeView.{NodeView, best, group_count, item, members, node_at, number, parent, rank, rows}
use Rattle.tdp_core.specs.WellFormed.{IsFormed}
use Rattle.anyk_model.specs.Table.{Table}
use Rattle.bound_query.specs.Classes.{AreVariables}
use Rattle.bound_query.specs.WeighedQuery.{BoundQuery}
use Rattle.bound_query.specs.Weights.{part_of}
use Rattle.rank_key.specs.Keys.{row_key}
use Rattle.plan_build.specs.Plan.{HasReducedRows, numbers}
use Rattle.proof_model.specs.Certificate.{AnswerLine, BoundLine, Certificate}
use Rattle.proof_model.specs.Writing.{answer_text}
use Rattle.proof_model.specs.Problem.{Problem, IsSolutionAt, key_at, row_in}
use Rattle.proof_model.specs.Laws.{IsProblem}
use Rattle.proof_model.specs.Wide.{wide}
use Rattle.proof_model.specs.Valid.{StandsFor}
use Rattle.proof_model.specs.WrittenProofs.{BoundBefore, IsFirstOfGroup, IsWritten}
use Rattle.proof_model.proofs.SolutionRows.{list_key, list_solves, own_below, solution_subtree}
use Rattle.proof_model.proofs.Wider.{wide_most}
use Rattle.proof_write.specs.Firsts.{AreBounds, IsFirst, listed}
use Rattle.proof_write.proofs.BestSums.{chosen_key, first_best, first_sum, sum_least}
use Rattle.proof_write.proofs.Groups.{group_of}
use Rattle.proof_write.proofs.NodeBounds.{itself, row_there}
use Rattle.proof_write.proofs.PlanProblem.{first_listed, first_subtree, items_of, joined, place_linked, place_number}
use Rattle.proof_write.proofs.PlanProblem.{place_there, problem_with, sum_wide, together}

-- ---- lines

-- the lines of the answers, from line n on
abbrev pub answer_lines : ℕ → List (List ℕ) → List AnswerLine
answer_lines n [] = []
answer_lines n (rows ∷ list) = (record { line = n; rows = rows }) ∷ answer_lines (n + 1) list

pub answer_rows : (n : ℕ) (list : List (List ℕ)) → map (λ (a : AnswerLine). a.rows) (answer_lines n list) ≡ list
answer_rows n [] = refl
answer_rows n (rows ∷ list) = ap (λ l. rows ∷ l) (answer_rows (n + 1) list)

pub answer_at : (n : ℕ) (list : List (List ℕ)) (i : ℕ) (none : AnswerLine) → i < length (answer_lines n list)
    → (get_or (answer_lines n list) i none).line ≡ n + i
answer_at n [] i none l = absurd (omega (arith, l))
answer_at n (rows ∷ list) zero none l = omega arith
answer_at n (rows ∷ list) (suc i) none l = let rest = answer_at (n + 1) list i none (omega (arith, l)) in omega
    (arith, rest)

pub answers_text : (n : ℕ) (list : List (List ℕ))
    → flat_map (λ (a : AnswerLine). answer_text a.rows) (answer_lines n list) ≡ flat_map answer_text list
answers_text n [] = refl
answers_text n (rows ∷ list) =
    flat_map-cons (λ (a : AnswerLine). answer_text a.rows) (record { line = n; rows = rows })
    (answer_lines (n + 1) list)
    ∙ ap (λ l. answer_text rows ++ l) (answers_text (n + 1) list) ∙ sym (flat_map-cons answer_text rows list)

-- an ascending list, from its places
module _ {K : Type 0} (Below : K → K → Type 0) (none : K) where
  below_all : (x : K) (xs : List K) → ((j : ℕ) → j < length xs → Below x (get_or xs j none)) → BelowAll Below x xs
  below_all x [] h = tt
  below_all x (y ∷ ys) h = (h 0 (omega arith), below_all x ys (λ j l. h (suc j) (omega (arith, l))))

  pub ascending_from : (xs : List K) → ((i j : ℕ) → i < j → j < length xs
      → Below (get_or xs i none) (get_or xs j none)) → IsAscending Below xs
  ascending_from [] h = tt
  ascending_from (x ∷ xs) h = (
    below_all x xs (λ j l. h 0 (suc j) (omega arith) (omega (arith, l))),
    ascending_from xs (λ i j less l. h (suc i) (suc j) (omega (arith, less)) (omega (arith, l))),
  )

-- ---- bounds

module _ {R : Type 0} (d : ℕ) (key : R → KeyOf d 16) (bound : BoundQuery) (tables : List Table)
    (tree : List (NodeView R)) (formed : IsFormed d key tree)
    (reduced : HasReducedRows bound tables tree) (known : AreVariables bound.query.equalities bound.variables)
    (few : length bound.query.order ≤ d)
    (ranks : (v r : ℕ) → v < length tree → r < rows tree v
    → rank tree d key v r ≡ row_key d (map
    (part_of tables bound.query.items (item tree v) (number tree v r)) bound.query.order) (item tree v)
    (number tree v r))
    (laws : IsProblem (problem_with bound.query tables (length tree) (parent tree) (item tree))) where
  abbrev u : Problem (KeyOf (length bound.query.order) 16)
  u = problem_with bound.query tables (length tree) (parent tree) (item tree)

  module _ (c : Certificate) (v g : ℕ) (node : v < length tree) (there : g < group_count tree v) (told_rows : List ℕ)
      (first : IsFirst tree v g told_rows) where
    top_there : first.chosen v < rows tree v
    top_there = row_there d key tree formed v node g there told_rows first v (itself d key tree formed v node)

    top_member : Contains (members tree v g) (first.chosen v)
    top_member =
        let full = formed.inhabited v g node there in
        (0, full, get_or_default (members tree v g) 0 (first.chosen v) 0 full ∙ sym first.top)

    -- its row of the node
    pub top_row : row_in u v (listed told_rows) v ≡ number tree v (first.chosen v)
    top_row =
        (first_listed d key bound tables tree formed reduced known v g node there told_rows first laws).row v node
        (own_below u laws 16 (items_of d key bound tables tree formed reduced known) v)

    pub first_solves : IsSolutionAt u v (listed told_rows)
    first_solves =
        list_solves u laws 16 (items_of d key bound tables tree formed reduced known) v
        (λ q. number tree q (first.chosen q)) (listed told_rows)
        (first_listed d key bound tables tree formed reduced known v g node there told_rows first laws)
        (first_subtree d key bound tables tree formed reduced known v g node there told_rows first)

    -- its key is the least key of the group's first row
    first_key : wide (length bound.query.order) d 16 (key_at u v (listed told_rows))
        ≡ chosen_key d key tree formed first.chosen v
    first_key =
        ap (wide (length bound.query.order) d 16)
        (list_key u laws 16 (items_of d key bound tables tree formed reduced known) v
        (λ q. number tree q (first.chosen q)) (listed told_rows)
        (first_listed d key bound tables tree formed reduced known v g node there told_rows first laws))
        ∙ sum_wide d key bound tables tree formed reduced known few ranks v
        (λ q. number tree q (first.chosen q)) first.chosen
        (λ q under. (row_there d key tree formed v node g there told_rows first q under, refl))

    pub first_least : (other : List ℕ) → IsSolutionAt u v other
        → u.IsGrouped v (row_in u v other v) (row_in u v (listed told_rows) v)
        → AtMost u.Below (key_at u v (listed told_rows)) (key_at u v other)
    first_least other solution grouped =
        let sub = solution_subtree u laws 16 (items_of d key bound tables tree formed reduced known) v other solution in
        let s : ℕ → ℕ = row_in u v other in
        let place : ℕ → ℕ = λ q. place_of (row_in u v other q) (numbers bound tables tree q) in
        let row = place_there d key bound tables tree formed reduced known v s sub v
        (itself d key tree formed v node) in
        let is = place_number d key bound tables tree formed reduced known v s sub v
        (itself d key tree formed v node) in
        let inside : Contains (members tree v g) (place v) =
        joined d key bound tables tree formed reduced known v g (first.chosen v)
        (place v) node there top_there row top_member
        (subst (λ z. u.IsGrouped v z (number tree v (first.chosen v))) (sym is)
        (subst (λ z. u.IsGrouped v (row_in u v other v) z) top_row grouped)) in
        let one : AtMost (key_below d 16) (best tree d key v (get_or (members tree v g) 0 0))
        (best tree d key v (place v)) =
        subst (λ r. AtMost (key_below d 16) (best tree d key v (get_or (members tree v g) 0 0)) (best tree d key v r))
        (get_or_default (members tree v g) inside.0 0 (place v) inside.1 ∙ inside.2)
        (first_best d key tree formed v g inside.0 node inside.1) in
        let two : AtMost (key_below d 16) (best tree d key v (place v)) (chosen_key d key tree formed place v) =
        sum_least d key tree formed v place
        (λ q after under. place_linked d key bound tables tree formed reduced known v s sub q after under) node row in
        let left : wide (length bound.query.order) d 16 (key_at u v (listed told_rows))
        ≡ best tree d key v (get_or (members tree v g) 0 0) =
        first_key ∙ first_sum d key tree formed v g node there told_rows first in
        let right : wide (length bound.query.order) d 16 (key_at u v other) ≡ chosen_key d key tree formed place v =
        sum_wide d key bound tables tree formed reduced known few ranks v s place
        (λ q under. (
          place_there d key bound tables tree formed reduced known v s sub q under,
          place_number d key bound tables tree formed reduced known v s sub q under,
        )) in
        wide_most (length bound.query.order) d few (key_at u v (listed told_rows)) (key_at u v other)
        (subst (λ k. AtMost (key_below d 16) k (wide (length bound.query.order) d 16 (key_at u v other))) (sym left)
        (subst (λ k. AtMost (key_below d 16) (best tree d key v (get_or (members tree v g) 0 0)) k) (sym right)
        (at_most_trans (key_below d 16) (tuple_keys d 16).order _ _ _ one two)))

    pub first_of_group : IsFirstOfGroup u c v (listed told_rows)
    first_of_group = record { solution = first_solves; least = first_least }

  module _ (bounds : List BoundLine) (are : AreBounds tree (length tree) bounds) (list : List (List ℕ))
      (ended : Bool) where
    abbrev pub written_lines : Certificate
    written_lines = record { bounds = bounds; answers = answer_lines (length bounds + 2) list; ended = ended }

    -- each group with a solution has a bound
    each_group : (v : ℕ) (other : List ℕ) → IsSolutionAt u v other
        → (i : ℕ) × StandsFor u written_lines v (row_in u v other v) i
    each_group v other solution =
        let sub = solution_subtree u laws 16 (items_of d key bound tables tree formed reduced known) v other solution in
        let s : ℕ → ℕ = row_in u v other in
        let node = solution.node in
        let own = itself d key tree formed v node in
        let place : ℕ → ℕ = λ q. place_of (row_in u v other q) (numbers bound tables tree q) in
        let row = place_there d key bound tables tree formed reduced known v s sub v own in
        let is = place_number d key bound tables tree formed reduced known v s sub v own in
        let group = group_of (rows tree v) (node_at tree v).groups (formed.grouped v node) (place v) row in
        let found = are.each v group.0 node group.1 in
        let b = found.2 in
        let top = top_row written_lines v group.0 node group.1 b.numbers b.first in (
          found.0,
          (
            (found.1, b.node),
            subst (λ l. u.IsGrouped v (row_in u v other v) (row_in u v l v)) (sym b.rows)
                (subst (λ z. u.IsGrouped v (row_in u v other v) z) (sym top)
                (subst (λ z. u.IsGrouped v z (number tree v (b.first.chosen v))) is
                (together d key bound tables tree formed reduced known v group.0 (place v) (b.first.chosen v) node row
                (top_there written_lines v group.0 node group.1 b.numbers b.first) group.2
                (top_member written_lines v group.0 node group.1 b.numbers b.first)))),
          ),
        )

    pub is_written : IsWritten u (record {
      bounds = bounds;
      answers = answer_lines
          (length bounds + 2) list;
      ended = ended;
    }) list
    is_written = record {
      ordered = ascending_from BoundBefore (record { line = 0; node = 0; rows = [] }) bounds are.ordered;
      firsts = λ i l.
          let f = are.firsts i l in
          let b = f.4 in (
            f.0,
            b.node,
            subst (IsFirstOfGroup u written_lines f.0) (sym b.rows)
                (first_of_group written_lines f.0 f.1 f.2 f.3 b.numbers b.first),
          );
      each = each_group;
      answers = answer_rows (length bounds + 2) list;
      bound_lines = are.lines;
      answer_lines = λ i l. let at = answer_at (length bounds + 2) list i (record { line = 0; rows = [] }) l in omega
          (arith, at);
    }
