-- An input whose certificate is checked.
use Rattle.std.specs.Prelude.{◌≡◌, ◌≤◌, ℕ, List, [], ◌∷◌, None, Result, Ok, Err}
use Rattle.std.specs.Io.KnownBytes.{Appends}
use Rattle.anyk_model.specs.Output.{cut}
use Rattle.anyk_model.specs.Query.{Query}
use Rattle.anyk_model.specs.Ranking.{ranking_of}
use Rattle.anyk_model.specs.Table.{Table}
use Rattle.proof_check.specs.RowLists.{item_rows}
use Rattle.proof_model.specs.Certificate.{Certificate}
use Rattle.bound_query.specs.WeighedQuery.{BoundQuery}
use Rattle.hyper_graph.specs.Items.{items_of}
use Rattle.bound_query.specs.Shape.{Shape as ShapeView}
use Rattle.bound_query.specs.declared.fault.ShapeFault.{ShapeFault}
use Rattle.bound_query.specs.declared.fault.ShapeFault.TheVariants as shape_fault
use Rattle.outer_io.specs.declared.fault.PrintFault.{PrintFault}
use Rattle.refusals.specs.declared.refusal.Refusal.{Refusal}
use Rattle.outer_io.specs.Printing.{Printed}
use Rattle.refusals.specs.PrintRefusals.{refused}
use Rattle.refusals.specs.Reason as reason
use Rattle.refusals.specs.Reason.{Reason}
use Rattle.refusals.specs.RefusalReasons.{reason_of}
use Rattle.outer_io.specs.SinkState.{SinkState}
use Rattle.command_input.specs.Input.{InputView}
use Rattle.verdict.specs.AcceptedInput.{found_of}
use Rattle.verdict.specs.Faults.{of_proof}
use Rattle.verdict.specs.Loading.{Loaded}
use Rattle.verdict.specs.Output.{answers_text}
use Rattle.verdict.specs.StageResults.{Pure}
use Rattle.verdict.specs.Stages.{Then}
use Rattle.verdict.specs.Verdict.{IsCertified, IsShaped, IsStructure, IsVerified}
use Rattle.verdict.specs.Words.{Words}
use Rattle.command_verify.specs.declared.fault.CheckFault.{CheckFault}
use Rattle.command_verify.specs.declared.fault.CheckFault.TheVariants.{Proof, Shape}

-- why a query has no join tree
abbrev pub shape_reason : ShapeFault → Reason
shape_reason (shape_fault.Cyclic core) = reason.Cyclic None (items_of core)
shape_reason shape_fault.NoMemory = reason.NoMemory

-- why the answers of a certificate are not those of a query
abbrev pub check_reason : CheckFault → Reason
check_reason (Shape fault) = shape_reason fault
check_reason (Proof fault) = of_proof fault

-- a result without its value
abbrev pub done_result_view : {A : Type 0} → Result A CheckFault → Result (Unit {0}) Reason
done_result_view (Ok a) = Ok tt
done_result_view (Err fault) = Err (check_reason fault)

-- the structure of one query, and then the certificate
abbrev pub IsCheckedFor : Query → List Table → Certificate → Result (Unit {0}) Reason → Type 0
IsCheckedFor query tables proof = Then (IsStructure None tables query)
    (λ shape. IsCertified query tables shape proof)

-- What checking the certificate of what was loaded, and printing the answers that it lists, give: a
-- refusal, before anything is written, or the output for a structure, which is not kept.
pub data IsShown (words : Words) (loaded : Loaded) (old new : SinkState)
    : Result (Unit {0}) Refusal → Type 0 where
  rejected : {refusal : Refusal}
      → Pure (Then (IsShaped loaded) IsVerified) (Err (reason_of refusal))
      → Appends old.written new.written [] → old.faults ≤ new.faults
      → IsShown words loaded old new (Err refusal)
  shown : (shape : ShapeView) (printed : Result (Unit {0}) PrintFault)
      → Then (IsShaped loaded) IsVerified (Ok (found_of loaded (shape ∷ [])))
      → Printed old new (answers_text words (found_of loaded (shape ∷ []))) printed
      → IsShown words loaded old new (refused printed)

-- the input has one query and no item whose rows are asked for, and these are its first answers
pub record HasAnswers (input : InputView) (answers : List (List ℕ)) : Type 0 where
  pub query : BoundQuery
  pub only : input.queries ≡ query ∷ []
  pub unnamed : input.best ≡ None
  pub listed : item_rows query.query answers
      ≡ cut query.query.limit (ranking_of query.query input.tables)
