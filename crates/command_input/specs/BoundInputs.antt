-- Queries that are bound to their tables, and the input that they are with what is read beside them.
use Rattle.std.specs.Prelude.{ℕ, List, [], Option, Result, Ok, Err}
use Rattle.anyk_model.specs.Table.{Table}
use Rattle.query_select.specs.declared.select.Select.{Select}
use Rattle.proof_model.specs.Certificate.{Certificate}
use Rattle.refusals.specs.declared.refusal.Refusal.{Refusal}
use Rattle.refusals.specs.Reason.{Reason}
use Rattle.refusals.specs.RefusalReasons.{reason_of}
use Rattle.session_script.specs.declared.step.Step.{Step}
use Rattle.session_script.specs.Script.{KeepsRules}
use Rattle.verdict.specs.Loading.{SideInput, Loaded, are_several, bound_from, loaded_in}
use Rattle.verdict.specs.Stages.{Is, Then}
use Rattle.command_input.specs.declared.binding.BoundInput.{BoundInput}
use Rattle.command_input.specs.declared.binding.BoundSelects.{BoundSelects}
use Rattle.command_input.specs.Input.{InputView, IsSound, loaded_of}

abbrev pub input_with : BoundInput → List Step → Certificate → InputView
input_with bound steps proof = record {
  queries = bound.queries.items;
  tables = bound.tables;
  best = bound.best;
  steps = steps;
  proof = proof;
}

-- with any steps that keep the rules of scripts they are an input
abbrev pub IsWhole : BoundInput → Type 0
IsWhole bound = (steps : List Step) (proof : Certificate) → KeepsRules [] steps
    → IsSound (input_with bound steps proof)

-- what is known of the input with this beside it
abbrev pub bound_result_view : SideInput → Result BoundInput Refusal → Result Loaded Reason
bound_result_view beside (Ok bound) = Ok (loaded_of (input_with bound beside.steps beside.proof))
bound_result_view beside (Err refusal) = Err (reason_of refusal)

-- ---- over tables that stay where they are

-- the names, the weights and the ranges of each branch, then the branches' shape, and then the item
-- that has the alias; the tables have these names
abbrev pub IsBoundTo : List (List ℕ) → Option (List ℕ) → List Table → List Select → SideInput
    → Result Loaded Reason → Type 0
IsBoundTo names alias tables selects beside =
    Then (Is (bound_from names tables (are_several selects) 1 selects))
    (λ queries. Is (loaded_in alias queries tables beside))

abbrev pub selects_with : List Table → BoundSelects → List Step → Certificate → InputView
selects_with tables bound steps proof = record {
  queries = bound.queries.items;
  tables = tables;
  best = bound.best;
  steps = steps;
  proof = proof;
}

-- with any steps that keep the rules of scripts they are an input over these tables
abbrev pub IsWholeOver : List Table → BoundSelects → Type 0
IsWholeOver tables bound = (steps : List Step) (proof : Certificate) → KeepsRules [] steps
    → IsSound (selects_with tables bound steps proof)

-- what is known of the input over these tables with this beside it
abbrev pub selects_bound_view : List Table → SideInput → Result BoundSelects Refusal
    → Result Loaded Reason
selects_bound_view tables beside (Ok bound) =
    Ok (loaded_of (selects_with tables bound beside.steps beside.proof))
selects_bound_view tables beside (Err refusal) = Err (reason_of refusal)
