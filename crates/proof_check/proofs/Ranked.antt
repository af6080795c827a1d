-- The answers of a valid certificate are how the ranking begins.
use Rattle.std.proofs.Common.{◌≡◌, ℕ, zero, suc, ◌<◌, ◌≤◌, true, List, [], ◌∷◌, length, map, get_or, take}
use Rattle.std.proofs.Common.{refl, sym, ap, ◌∙◌, subst, inl, inr, arith}
use Rattle.std.specs.Prelude.{Option, None, Some}
use Rattle.std.proofs.lemmas.List.{take-map}
use Rattle.rankings.specs.Order.{IsMember}
use Rattle.tdp_model.specs.KeyTuple.{KeyOf}
use Rattle.anyk_model.specs.Table.{Table}
use Rattle.anyk_model.specs.Query.{IsWitness, Query}
use Rattle.anyk_model.specs.Output.{cut}
use Rattle.anyk_model.specs.Ranking.{ranking_of}
use Rattle.anyk_model.proofs.Exists.{ranking_is}
use Rattle.bound_query.specs.NamedPlaces.{NamesExist}
use Rattle.bound_query.specs.Shape.{HasTree}
use Rattle.witness_key.specs.WitnessKey.{witness_key}
use Rattle.witness_key.proofs.Rankings.{keys_tell_witnesses_lem, witness_length}
use Rattle.proof_model.specs.Certificate.{AnswerLine, Certificate}
use Rattle.proof_model.specs.FirstAnswers.{answer_keys}
use Rattle.proof_model.specs.Problem.{Problem, IsSolutionAt, key_at}
use Rattle.proof_model.specs.QueryProblem.{problem_of}
use Rattle.proof_model.specs.Valid.{IsValid}
use Rattle.proof_model.proofs.FirstAnswers.{answers_first, whole}
use Rattle.proof_model.proofs.QueryItems.{few_items, tree_problem}
use Rattle.proof_check.specs.Laws.{answer_rows}
use Rattle.proof_check.proofs.SolutionWitnesses.{rows_count, rows_key, solution_witness, solutions_ranking}

cut_map : {A B : Type 0} (f : A → B) (limit : Option ℕ) (xs : List A) → cut limit (map f xs) ≡ map f (cut limit xs)
cut_map f None xs = refl
cut_map f (Some n) xs = take-map f n xs

take_member : {A : Type 0} (x : A) (n : ℕ) (xs : List A) → IsMember x (take n xs) → IsMember x xs
take_member x zero xs m = absurd m
take_member x (suc n) [] m = absurd m
take_member x (suc n) (y ∷ xs) (inl e) = inl e
take_member x (suc n) (y ∷ xs) (inr m) = inr (take_member x n xs m)

pub cut_member : {A : Type 0} (x : A) (limit : Option ℕ) (xs : List A) → IsMember x (cut limit xs) → IsMember x xs
cut_member x None xs m = m
cut_member x (Some n) xs m = take_member x n xs m

module _ (query : Query) (tables : List Table) (few : length query.items ≤ 16) where
  abbrev key : List ℕ → KeyOf (length query.order) 16
  key rows = witness_key (length query.order) query tables rows

  -- lists of witnesses with the same keys are the same
  keys_tell_lists : (xs ys : List (List ℕ)) → ((x : List ℕ) → IsMember x xs → IsWitness query tables x)
      → ((y : List ℕ) → IsMember y ys → IsWitness query tables y) → map key xs ≡ map key ys → xs ≡ ys
  keys_tell_lists [] [] p q e = refl
  keys_tell_lists [] (y ∷ ys) p q e = let n = ap length e in absurd (omega (arith, n))
  keys_tell_lists (x ∷ xs) [] p q e = let n = ap length e in absurd (omega (arith, n))
  keys_tell_lists (x ∷ xs) (y ∷ ys) p q e =
      let same = keys_tell_witnesses_lem (length query.order) query tables x y few
      (witness_length query tables x (p x (inl refl)))
      (witness_length query tables y (q y (inl refl))) (ap (λ ks. get_or ks 0 (key x)) e) in
      λ i. same i ∷ (keys_tell_lists xs ys (λ z m. p z (inr m)) (λ z m. q z (inr m)) (ap (λ ks. rest_of ks) e)) i
    where
      rest_of : {A : Type 0} → List A → List A
      rest_of [] = []
      rest_of (a ∷ more) = more

module _ (query : Query) (tables : List Table) (atoms parents : List ℕ) (within : NamesExist query tables)
    (hung : HasTree query atoms parents)
    (c : Certificate) (valid : IsValid (problem_of query tables atoms parents) c query.limit) where
  abbrev t : Problem (KeyOf (length query.order) 16)
  t = problem_of query tables atoms parents

  abbrev none : AnswerLine
  none = record { line = 0; rows = [] }

  answers_solve : (xs : List AnswerLine) → ((i : ℕ) → i < length xs
      → IsSolutionAt (problem_of query tables atoms parents) 0 (get_or xs i none).rows)
      → (map (λ (a : AnswerLine). key_at t 0 a.rows) xs ≡ map (witness_key (length query.order) query tables)
      (map (λ (a : AnswerLine). a.rows) xs))
      × ((x : List ℕ) → IsMember x (map (λ (a : AnswerLine). a.rows) xs) → IsWitness query tables x)
  answers_solve [] h = (refl, λ x m. absurd m)
  answers_solve (a ∷ xs) h =
      let witness = solution_witness query tables atoms parents within hung a.rows (h 0 (omega arith)) in
      let same = rows_key query tables atoms parents within hung a.rows
      (rows_count query tables atoms parents within hung a.rows witness) in
      let rest = answers_solve xs (λ i l. h (suc i) (omega (arith, l))) in (
        (λ i. same i ∷ rest.0 i),
        λ x m. elim m [ inl e ↦ subst (IsWitness query tables) (sym e) witness | inr n ↦ rest.1 x n ],
      )

  abbrev ranking : List (List ℕ)
  ranking = ranking_of query tables

  abbrev key_list : List (List ℕ) → List (KeyOf (length query.order) 16)
  key_list list = map (witness_key (length query.order) query tables) list

  answers : (map (λ (a : AnswerLine). key_at t 0 a.rows) c.answers ≡ key_list (answer_rows c))
      × ((x : List ℕ) → IsMember x (answer_rows c) → IsWitness query tables x)
  answers = answers_solve c.answers valid.answers

  tells : (list : List (List ℕ)) → ((y : List ℕ) → IsMember y list → IsMember y ranking)
      → answer_keys t c ≡ key_list list → answer_rows c ≡ list
  tells list inside e =
      keys_tell_lists query tables (few_items query tables atoms parents hung) (answer_rows c) list answers.1
      (λ y m. (ranking_is query tables).sound y (inside y m)) (sym answers.0 ∙ e)

  pub begins : answer_rows c ≡ cut query.limit (ranking_of query tables)
  begins =
      tells (cut query.limit ranking) (λ y m. cut_member y query.limit ranking m)
      (answers_first t (tree_problem query tables atoms parents hung) c query.limit valid (key_list ranking)
      (solutions_ranking query tables atoms parents within hung)
      ∙ cut_map (witness_key (length query.order) query tables) query.limit ranking)

  pub ends : c.ended ≡ true → answer_rows c ≡ ranking_of query tables
  ends e =
      tells ranking (λ y m. m)
      (whole t (tree_problem query tables atoms parents hung) c query.limit valid (key_list ranking)
      (solutions_ranking query tables atoms parents within hung) e)
