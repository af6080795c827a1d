-- The text that is written for a query is read as a valid certificate.
use Rattle.std.proofs.Common.{◌≡◌, ℕ, suc, ◌+◌, ◌<◌, not, List, [], ◌∷◌, length, get_or, slice_index, Ok}
use Rattle.std.proofs.Common.{sym, ap, ◌∙◌, subst, inl, inr, arith}
use Rattle.std.proofs.lemmas.Bool.{cases_eq}
use Rattle.tdp_model.specs.Below.{is_below}
use Rattle.tdp_model.specs.KeyTuple.{KeyOf}
use Rattle.anyk_model.specs.Table.{Table}
use Rattle.anyk_model.specs.Query.{Query}
use Rattle.anyk_model.specs.Output.{cut}
use Rattle.anyk_model.specs.Ranking.{ranking_of}
use Rattle.bound_query.specs.NamedPlaces.{NamesExist}
use Rattle.bound_query.specs.Shape.{HasNodeRows, HasShape, HasTree, Shape}
use Rattle.bound_query.proofs.OneShape.{one_tree}
use Rattle.bound_query.specs.Steps.{reaches}
use Rattle.proof_model.specs.Certificate.{AnswerLine, BoundLine, Certificate}
use Rattle.proof_model.specs.NumberedProofs.{AreAnswersFrom, AreBoundsFrom, AreRows, IsNumbered, IsShort}
use Rattle.proof_model.specs.Reading.{proof_of}
use Rattle.proof_model.specs.Writing.{proof_text}
use Rattle.proof_model.proofs.RoundTrip.{written_read}
use Rattle.proof_model.specs.Parts.{HaveFewRows}
use Rattle.proof_model.specs.Problem.{Problem, IsSolutionAt, row_in}
use Rattle.proof_model.specs.ProofTexts.{IsProofText}
use Rattle.proof_model.specs.QueryProblem.{IsPassing, problem_of}
use Rattle.proof_model.specs.Valid.{IsValid, answer_at, bound_at}
use Rattle.proof_model.specs.WrittenProofs.{IsWritten}
use Rattle.proof_model.proofs.Completeness.{full_valid}
use Rattle.proof_model.proofs.QueryItems.{as_many, few_items, node_items, tree_problem}
use Rattle.proof_model.proofs.SolutionRows.{below_after, node_at, own_below, row_inside}
use Rattle.proof_model.proofs.SumsFit.{few_rows_at}
use Rattle.proof_check.proofs.Lists.{all_from}
use Rattle.proof_check.proofs.WrittenFull.{answer_solves, written_full}
use Rattle.tdp_model.proofs.Chosen.{choose}

-- ---- one join tree

-- the join tree of a shape is that of the query
module _ (query : Query) (tables : List Table) (atoms parents : List ℕ) (hung : HasTree query atoms parents)
    (shape : Shape)
    (has : HasShape query tables shape) where
  -- the number of the rows of a node
  node_count : (k : ℕ) → k < length atoms → (x : ℕ) × HasNodeRows query tables (slice_index atoms k) x
  node_count k l =
      let n = has.hung.of_query.atoms in
      let at = has.hung.join_tree.each (slice_index atoms k) (omega (arith, hung.join_tree.within k l, hung.of_query.atoms, n)) in (
        slice_index shape.node_rows at.0,
        subst (λ a. HasNodeRows query tables a (slice_index shape.node_rows at.0))
            at.2 (has.rows at.0 at.1),
      )

  pub shape_same : (node_rows : List ℕ) × (shape ≡ record { atoms = atoms; parents = parents; node_rows = node_rows })
  shape_same =
      let chosen = choose (length atoms) (λ k x. HasNodeRows query tables (slice_index atoms k) x) node_count in (
        chosen.list,
        one_tree query tables shape (record { atoms = atoms; parents = parents; node_rows = chosen.list }) has
            (record { hung = hung; counts = chosen.count; rows = chosen.each }),
      )

-- ---- lines and numbers

bounds_from : (n : ℕ) (xs : List BoundLine) (d : BoundLine)
    → ((i : ℕ) → i < length xs → ((get_or xs i d).line ≡ i + n) × IsShort (get_or xs i d).node
    × AreRows (get_or xs i d).rows)
    → AreBoundsFrom n xs
bounds_from n [] d h = tt
bounds_from n (x ∷ xs) d h =
    let first = h 0 (omega arith) in
    let line = first.0 in (
      omega (arith, line),
      first.1,
      first.2,
      bounds_from (n + 1) xs d (λ i l.
          let next = h (suc i) (omega (arith, l)) in
          (omega (arith, next.0), next.1, next.2)),
    )

answers_from : (n : ℕ) (xs : List AnswerLine) (d : AnswerLine)
    → ((i : ℕ) → i < length xs → ((get_or xs i d).line ≡ i + n) × AreRows (get_or xs i d).rows)
    → AreAnswersFrom n xs
answers_from n [] d h = tt
answers_from n (x ∷ xs) d h =
    let first = h 0 (omega arith) in
    let line = first.0 in (
      omega (arith, line),
      first.1,
      answers_from (n + 1) xs d (λ i l.
          let next = h (suc i) (omega (arith, l)) in
          (omega (arith, next.0), next.1)),
    )

module _ (query : Query) (tables : List Table) (atoms parents : List ℕ) (within : NamesExist query tables)
    (few : HaveFewRows tables)
    (hung : HasTree query atoms parents) where
  abbrev t : Problem (KeyOf (length query.order) 16)
  t = problem_of query tables atoms parents

  passing_short : (q row : ℕ) → IsPassing query tables (slice_index atoms q) row → IsShort row
  passing_short q row h =
      let f = few_rows_at tables ((get_or query.items (slice_index atoms q) (record { table = 0; alias = [] })).table)
      few in
      omega (arith, h.1, f)

  solution_rows : (v : ℕ) (rows : List ℕ) → IsSolutionAt t v rows → AreRows rows
  solution_rows v rows solution =
      let laws = tree_problem query tables atoms parents hung in
      let items = node_items query tables atoms parents hung in
      let some = row_inside t laws (length query.items) items v v solution.node
      (own_below t laws (length query.items) items v) in
      let count = solution.count in (
        omega (arith, some, count),
        all_from IsShort rows 0 (λ p l.
            let at = node_at t laws (length query.items) items v rows count p l in
            subst IsShort at.3 (row_short v rows solution at.0 at.1 at.2)),
      )
    where
      row_short : (v : ℕ) (rows : List ℕ) → IsSolutionAt t v rows → (q : ℕ) → q < length atoms
          → is_below t.parent v q ≡ 1
          → IsShort (row_in t v rows q)
      row_short v rows solution q l one = elim (cases_eq q v) [
        | inl same ↦ subst (λ u. IsShort (row_in t v rows u)) (sym same)
            (passing_short v (row_in t v rows v) solution.first)
        | inr other ↦
            let after = below_after t (tree_problem query tables atoms parents hung) (length query.items)
            (node_items query tables atoms parents hung) v q l one other in
            passing_short q (row_in t v rows q) (solution.others q after l (omega (arith, one))).0
      ]

  module _ (c : Certificate)
      (written : IsWritten (problem_of query tables atoms parents) c (cut query.limit (ranking_of query tables)))
      (ended : c.ended ≡ not (reaches query.limit (ranking_of query tables))) where
    numbered : IsNumbered c
    numbered = (
      bounds_from 2 c.bounds (record { line = 0; node = 0; rows = [] }) (λ i l.
          let f = written.firsts i l in
          let m = few_items query tables atoms parents hung in (
            written.bound_lines i l,
            omega (arith, f.1, f.2.solution.node, as_many query tables atoms parents hung, m),
            solution_rows f.0 (bound_at t c i).rows f.2.solution,
          )),
      answers_from (2 + length c.bounds) c.answers (record { line = 0; rows = [] }) (λ i l.
          let line = written.answer_lines i l in (
            omega (arith, line),
            solution_rows 0 (answer_at t c i).rows
                (answer_solves query tables atoms parents within hung c written ended i l),
          )),
    )

    pub written_valid : (proof_of (proof_text c) ≡ Ok c) × IsValid (problem_of query tables atoms parents) c query.limit
    written_valid = (
      written_read c numbered,
      full_valid t (tree_problem query tables atoms parents hung) c query.limit
          (written_full query tables atoms parents within hung c written ended),
    )

  pub text_valid : (text : List ℕ) → IsProofText query tables text
      → (c : Certificate) × (proof_of text ≡ Ok c) × IsValid (problem_of query tables atoms parents) c query.limit
  text_valid text x =
      let written : IsWritten (problem_of query tables atoms parents) x.2 (cut query.limit (ranking_of query tables)) =
      subst (λ (s : Shape). IsWritten (problem_of query tables s.atoms s.parents) x.2
      (cut query.limit (ranking_of query tables))) (shape_same query tables atoms parents hung x.0 x.1.0).1 x.3 in
      let h = written_valid x.2 written x.4 in
      (x.2, ap proof_of x.5 ∙ h.0, h.1)
