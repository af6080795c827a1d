-- An input whose certificate is checked.
use Rattle.std.proofs.Common.{◌≡◌, ◌∙◌, ℕ, zero, suc, List, [], ◌∷◌, length, map, take, slice_index, inl, inr, Option, None, Result, Ok, Err, refl, sym, ap, subst, arith}
use Rattle.std.specs.List.{AllByRecursion}
use Rattle.std.proofs.lemmas.List.{length-map}
use Rattle.anyk_model.specs.Output.{output_of}
use Rattle.anyk_model.specs.Query.{IsCombination, IsWitness, Query, row_counts}
use Rattle.anyk_model.specs.Ranking.{ranking_of}
use Rattle.anyk_model.proofs.Exists.{ranking_is}
use Rattle.join_tree.specs.declared.tree.JoinTree.{JoinTree}
use Rattle.anyk_model.specs.Table.{Table}
use Rattle.proof_model.specs.Certificate.{Certificate}
use Rattle.proof_model.specs.declared.fault.ProofFault.{ProofFault}
use Rattle.proof_model.specs.declared.fault.ProofFault.TheVariants as fault
use Rattle.proof_check.specs.RowLists.{item_rows}
use Rattle.proof_check.proofs.Ranked.{cut_member}
use Rattle.proof_model.specs.Faults.{TellsFirst, TellsFlaw, fault_of}
use Rattle.proof_model.specs.QueryProblem.{problem_in, problem_of}
use Rattle.proof_model.specs.Valid.{Flaw, IsFirstFlaw, IsValid}
use Rattle.bound_query.specs.WeighedQuery.{BoundQuery}
use Rattle.hyper_graph.specs.Items.{items_of}
use Rattle.bound_query.specs.declared.fault.ShapeFault.{ShapeFault}
use Rattle.bound_query.specs.declared.fault.ShapeFault.TheVariants as cycle
use Rattle.bound_query.specs.Shape.{HasNodeRows, HasShape, HasTree, IsShape, Shape, cyclic, too_many_rows}
use Rattle.bound_query.specs.JoinTreeView.{HasStoredTree, TellsCycle}
use Rattle.rankings.specs.Order.{IsMember}
use Rattle.outer_io.proofs.Prints.{appends_nothing}
use Rattle.refusals.specs.PrintRefusals as print
use Rattle.outer_io.specs.Printing.{Printed}
use Rattle.outer_io.specs.SinkState.{SinkState}
use Rattle.outer_io.specs.declared.fault.PrintFault.{PrintFault}
use Rattle.refusals.specs.declared.refusal.Refusal.{Refusal}
use Rattle.refusals.specs.RefusalReasons.{reason_of}
use Rattle.bound_query.proofs.OneShape.{one_tree}
use Rattle.refusals.specs.Reason as reason
use Rattle.refusals.specs.Reason.{Reason}
use Rattle.session_script.specs.declared.step.Step.{Step}
use Rattle.command_input.specs.Input.{InputView, loaded_of}
use Rattle.verdict.specs.Faults.{of_proof}
use Rattle.verdict.specs.Output.{answers_text, style_of}
use Rattle.verdict.specs.AcceptedInput.{AcceptedInput, found_of, queries_in}
use Rattle.verdict.specs.Loading.{Loaded}
use Rattle.verdict.specs.StageResults.{Pure}
use Rattle.verdict.specs.Stages.{Then, followed, refused}
use Rattle.verdict.specs.Verdict.{IsShaped, IsStructure, IsVerified}
use Rattle.verdict.specs.Words.{Words}
use Rattle.command_verify.specs.Verifications.{HasAnswers, IsCheckedFor, IsShown, check_reason, rejected, shape_reason, shown}
use Rattle.command_verify.specs.declared.fault.CheckFault.{CheckFault}

-- ---- stages that read no file

-- a refusal of one is a refusal of another
pure_wider : {A B : Type 0} (G : Result A Reason → Type 0) (H : Result B Reason → Type 0) (e : Reason) → (G (Err e) → H (Err e))
    → Pure G (Err e) → Pure H (Err e)
pure_wider G H reason.NoMemory wider h = tt
pure_wider G H (reason.NoFile name) wider h = h
pure_wider G H (reason.ReadFault name) wider h = h
pure_wider G H (reason.TooLarge name) wider h = h
pure_wider G H reason.WriteFault wider h = h
pure_wider G H reason.Usage wider h = h
pure_wider G H e wider h = wider h

-- a query without a join tree
pub cycle_told : (query : Query) (tables : List Table) (told : ShapeFault) → TellsCycle query told
    → Pure (IsStructure None tables query) (Err (shape_reason told))
cycle_told query tables (cycle.Cyclic core) tells = record { flaw = cyclic (items_of core); is_flaw = tells; told = refl }
cycle_told query tables cycle.NoMemory tells = tt

-- ---- one query, its tables and a certificate

module _ (query : Query) (tables : List Table) (best : Option ℕ) (steps : List Step) (proof : Certificate) where
  abbrev loaded : Loaded
  loaded = record { queries = query ∷ []; tables = tables; best = best; steps = steps; proof = proof }

  one_shaped : (shape : Shape) → IsStructure None tables query (Ok shape) → IsShaped loaded (Ok (found_of loaded (shape ∷ [])))
  one_shaped shape h = followed {a = shape ∷ []} (followed {a = shape} h (followed {a = []} refl refl)) refl

  one_flawed : (e : Reason) → IsStructure None tables query (Err e) → IsShaped loaded (Err e)
  one_flawed e h = refused (refused h)

  -- the certificate is valid
  pub checked_found : IsCheckedFor query tables proof (Ok tt)
      → (shape : Shape) × Then (IsShaped loaded) IsVerified (Ok (found_of loaded (shape ∷ [])))
  checked_found (followed {a = shape} structured valid) =
      (shape, followed {a = found_of loaded (shape ∷ [])} (one_shaped shape structured) (followed {a = tt} valid refl))

  -- it is not, or the query has no structure
  pub checked_refused : (e : Reason) → Pure (IsCheckedFor query tables proof) (Err e) → Pure (Then (IsShaped loaded) IsVerified) (Err e)
  checked_refused e h = pure_wider (IsCheckedFor query tables proof) (Then (IsShaped loaded) IsVerified) e by h
    where
      by : IsCheckedFor query tables proof (Err e) → Then (IsShaped loaded) IsVerified (Err e)
      by (refused flawed) = refused (one_flawed e flawed)
      by (followed {a = shape} structured flaw) =
          followed {a = found_of loaded (shape ∷ [])} (one_shaped shape structured) (refused flaw)

-- ---- the join tree that is stored is that of the structure

no_rows : (query : Query) (item : ℕ) → HasNodeRows query [] item 0
no_rows query item = record {
  rows = [];
  ascending = tt;
  members = λ row. ((λ m. absurd m), (λ h. let low = h.0 in let high = h.1 in absurd (omega (arith, low, high))));
  counted = refl;
}

zeros : (atoms : List ℕ) (k : ℕ) → slice_index (map (λ (a : ℕ). 0) atoms) k ≡ 0
zeros [] k = refl
zeros (a ∷ atoms) zero = refl
zeros (a ∷ atoms) (suc k) = zeros atoms k

bare : (query : Query) (atoms parents : List ℕ) → HasTree query atoms parents
    → HasShape query [] (record { atoms = atoms; parents = parents; node_rows = map (λ (a : ℕ). 0) atoms })
bare query atoms parents hung = record {
  hung = hung;
  counts = length-map atoms (λ (a : ℕ). 0);
  rows = λ k l. subst (HasNodeRows query [] (slice_index atoms k)) (sym (zeros atoms k)) (no_rows query (slice_index atoms k));
}

pub one_hung : (query : Query) (atoms parents others ups : List ℕ) → HasTree query atoms parents → HasTree query others ups
    → (atoms ≡ others) × (parents ≡ ups)
one_hung query atoms parents others ups x y =
    let same = one_tree query [] _ _ (bare query atoms parents x) (bare query others ups y) in
    (ap (λ (s : Shape). s.atoms) same, ap (λ (s : Shape). s.parents) same)

module _ (query : Query) (tables : List Table) (join : JoinTree) (proof : Certificate) (stored : HasStoredTree query join) where
  abbrev nodes : List ℕ
  nodes = take join.count join.atom

  abbrev above : List ℕ
  above = take join.count join.parent

  -- the certificate is valid for the stored tree
  pub valid_checked : (shape : Shape) → IsShape query tables (Ok shape) → IsValid (problem_in query tables join) proof query.limit
      → IsCheckedFor query tables proof (Ok tt)
  valid_checked shape is valid =
      let same = one_hung query shape.atoms shape.parents nodes above is.0.hung stored in
      followed {a = shape} is
      (subst (λ (ps : List ℕ). IsValid (problem_of query tables shape.atoms ps) proof query.limit) (sym same.1)
      (subst (λ (items : List ℕ). IsValid (problem_of query tables items above) proof query.limit) (sym same.0) valid))

  -- the first flaw for these nodes
  abbrev Tells : Reason → List ℕ → List ℕ → Type 0
  Tells told items ups =
      (flaw : Flaw) × (told ≡ of_proof (fault_of (problem_of query tables items ups) proof flaw))
      × IsFirstFlaw (problem_of query tables items ups) proof query.limit flaw

  first_checked : (told : ProofFault) → TellsFirst query tables join proof told → IsCheckedFor query tables proof (Err (of_proof told))
  first_checked told (shape, is, flaw, same_fault, first) =
      let same = one_hung query shape.atoms shape.parents nodes above is.0.hung stored in
      followed {a = shape} is
      (subst (λ (ps : List ℕ). Tells (of_proof told) shape.atoms ps) (sym same.1)
      (subst (λ (items : List ℕ). Tells (of_proof told) items above) (sym same.0) (flaw, ap of_proof same_fault, first)))

  -- it is not valid
  pub flaw_checked : (told : ProofFault) → TellsFlaw query tables join proof told → Pure (IsCheckedFor query tables proof) (Err (of_proof told))
  flaw_checked fault.NoMemory tells = tt
  flaw_checked fault.BadHeader tells = absurd tells
  flaw_checked (fault.BadLine n) tells = absurd tells
  flaw_checked (fault.TooManyRows most) tells = refused (record { flaw = too_many_rows; is_flaw = tells.1; told = refl })
  flaw_checked (fault.BadBound n) tells = first_checked (fault.BadBound n) tells
  flaw_checked (fault.BoundTwice n) tells = first_checked (fault.BoundTwice n) tells
  flaw_checked (fault.Weak n) tells = first_checked (fault.Weak n) tells
  flaw_checked (fault.BadAnswer n) tells = first_checked (fault.BadAnswer n) tells
  flaw_checked (fault.Order n) tells = first_checked (fault.Order n) tells
  flaw_checked fault.Count tells = first_checked fault.Count tells
  flaw_checked fault.Missed tells = first_checked fault.Missed tells

-- ---- an input of one query

abbrev with_queries : InputView → List BoundQuery → Loaded
with_queries input queries = record {
  queries = queries_in queries;
  tables = input.tables;
  best = input.best;
  steps = input.steps;
  proof = input.proof;
}

abbrev IsTold : InputView → List BoundQuery → Result AcceptedInput Reason → Type 0
IsTold input queries = Then (IsShaped (with_queries input queries)) IsVerified

-- its certificate is valid, and its answers were printed
pub shown_in : (words : Words) (input : InputView) (query : BoundQuery) → input.queries ≡ query ∷ [] → (old new : SinkState)
    (r : Result (Unit {0}) PrintFault) → IsCheckedFor query.query input.tables input.proof (Ok tt)
    → ((shape : Shape) → Printed old new (answers_text words (found_of (loaded_of input) (shape ∷ []))) r)
    → IsShown words (loaded_of input) old new (print.refused r)
shown_in words input query only old new r checked printed =
    let told = checked_found query.query input.tables input.best input.steps input.proof checked in
    let found : List BoundQuery → AcceptedInput = λ qs. found_of (with_queries input qs) (told.0 ∷ []) in
    shown told.0 r (subst (λ (qs : List BoundQuery). IsTold input qs (Ok (found qs))) (sym only) told.1) (printed told.0)

-- it is not, or the query has no structure, and nothing was printed
pub rejected_in : (words : Words) (input : InputView) (query : BoundQuery) → input.queries ≡ query ∷ [] → (s : SinkState)
    (fault : CheckFault) (refusal : Refusal) → reason_of refusal ≡ check_reason fault
    → Pure (IsCheckedFor query.query input.tables input.proof) (Err (check_reason fault))
    → IsShown words (loaded_of input) s s (Err refusal)
rejected_in words input query only s fault refusal same checked =
    let told = checked_refused query.query input.tables input.best input.steps input.proof (check_reason fault) checked in
    let P : List BoundQuery → Reason → Type 0 = λ qs a. Pure (IsTold input qs) (Err a) in
    rejected {refusal = refusal} (subst (λ (qs : List BoundQuery). P qs (reason_of refusal)) (sym only) (subst (P (query ∷ [])) (sym same) told))
    (appends_nothing s.written) (omega arith)

-- the answers are rows of the items
combine_all : (query : Query) (tables : List Table) (n : ℕ) (answers : List (List ℕ))
    → ((rows : List ℕ) → IsMember rows (map (take n) answers) → IsWitness query tables rows)
    → AllByRecursion (λ rows. IsCombination (row_counts query.items tables) (take n rows)) answers
combine_all query tables n [] sound = tt
combine_all query tables n (a ∷ answers) sound =
    ((sound (take n a) (inl refl)).0, combine_all query tables n answers (λ rows m. sound rows (inr m)))

pub answers_combine : (input : InputView) (answers : List (List ℕ)) (h : HasAnswers input answers)
    → AllByRecursion (λ rows. IsCombination (row_counts h.query.query.items input.tables) (take (length h.query.query.items) rows)) answers
answers_combine input answers h =
    let query = h.query.query in
    combine_all query input.tables (length query.items) answers
    (λ rows m. (ranking_is query input.tables).sound rows
    (cut_member rows query.limit (ranking_of query input.tables) (subst (IsMember rows) h.listed m)))

-- the text of these answers
pub answers_shown : (words : Words) (input : InputView) (shape : Shape) (answers : List (List ℕ)) (h : HasAnswers input answers)
    → output_of h.query.query input.tables (style_of words) (item_rows h.query.query answers)
    ≡ answers_text words (found_of (loaded_of input) (shape ∷ []))
answers_shown words input shape answers h =
    let text : List BoundQuery → Option ℕ → List ℕ = λ qs best. answers_text words (record {
      queries = queries_in qs;
      tables = input.tables;
      shapes = shape ∷ [];
      best = best;
      steps = input.steps;
      proof = input.proof;
    }) in
    ap (output_of h.query.query input.tables (style_of words)) h.listed
    ∙ sym (ap (text (h.query ∷ [])) h.unnamed) ∙ sym (ap (λ (qs : List BoundQuery). text qs input.best) h.only)
