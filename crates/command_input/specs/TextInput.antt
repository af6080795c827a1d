-- The stages of loading over tables that are there already: the query, and the script or the
-- certificate, come as bytes. There is a table for each name, in the order of the names. The order
-- of refusals is that of reading from files.
use Rattle.std.specs.Prelude.{ℕ, List, Result, Ok, Err}
use Rattle.anyk_model.specs.Table.{Table}
use Rattle.proof_model.specs.ProofView.{proof_view}
use Rattle.query_select.specs.declared.select.Select.{Select}
use Rattle.refusals.specs.declared.refusal.Refusal.{Refusal}
use Rattle.refusals.specs.Reason.{Reason}
use Rattle.refusals.specs.RefusalReasons.{reason_of}
use Rattle.session_script.specs.Script.{unless}
use Rattle.verdict.specs.Loading.{IsReading, Loaded, SideInput, all_items, unknown_table}
use Rattle.verdict.specs.Stages.{Is, Then}
use Rattle.verdict.specs.Words.{InputFiles}
use Rattle.command_input.specs.BoundInputs.{IsBoundTo}
use Rattle.command_input.specs.Entries.{tables_of}
use Rattle.command_input.specs.Input.{InputView, IsSound, loaded_of}
use Rattle.command_input.specs.InputFiles.{beside_said}
use Rattle.command_input.specs.declared.text_input.TextInput.{TextInput}

-- the names, the weights and the ranges of each branch, then the branches' shape, and then the item
-- of which each row's best answer is asked for
abbrev pub IsBoundOver : InputFiles → List Table → List Select → SideInput → Result Loaded Reason
    → Type 0
IsBoundOver sought tables selects beside =
    IsBoundTo (tables_of sought.named) sought.best_of tables selects beside

-- a table that has no name
abbrev pub IsKnownOver : InputFiles → List Table → List Select → SideInput → Result Loaded Reason
    → Type 0
IsKnownOver sought tables selects beside =
    Then (Is (unless (unknown_table sought.named (all_items selects)) selects))
    (λ known. IsBoundOver sought tables known beside)

-- the script or the certificate, if there is one
abbrev pub IsBesideOver : InputFiles → List ℕ → List Table → List Select → Result Loaded Reason
    → Type 0
IsBesideOver sought side tables selects = Then (Is (beside_said sought.aside side))
    (λ beside. IsKnownOver sought tables selects beside)

-- what the bytes of the query write
abbrev pub IsLoadedOver : InputFiles → List ℕ → List ℕ → List Table → Result Loaded Reason → Type 0
IsLoadedOver sought query side tables = Then (IsReading sought.several query)
    (λ selects. IsBesideOver sought side tables selects)

-- ---- what was read

-- with these tables
abbrev pub text_over : List Table → TextInput → InputView
text_over tables text = record {
  queries = text.queries.items;
  tables = tables;
  best = text.best;
  steps = text.script.items;
  proof = proof_view text.proof;
}

-- with these tables it is an input
abbrev pub IsInputOver : List Table → TextInput → Type 0
IsInputOver tables text = IsSound (text_over tables text)

-- what is known of it with these tables
abbrev pub text_result_view : List Table → Result TextInput Refusal → Result Loaded Reason
text_result_view tables (Ok text) = Ok (loaded_of (text_over tables text))
text_result_view tables (Err refusal) = Err (reason_of refusal)
