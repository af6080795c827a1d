-- The results of the parts of loading, as results of stages.
use Rattle.std.specs.Prelude.{◌≡◌, ◌+◌, ◌<◌, ℕ, List, Option, Result, Ok, OnErr, OnOk, Err, Vec, length}
use Rattle.std.specs.Global.{Global}
use Rattle.std.specs.List.{All}
use Rattle.csv_tables.specs.declared.fault.TableFault.{TableFault}
use Rattle.csv_tables.specs.declared.fault.TableFault.TheVariants as table
use Rattle.outer_io.specs.declared.reading.FileFault.{FileFault}
use Rattle.outer_io.specs.declared.reading.FileFault.TheVariants as file
use Rattle.anyk_model.specs.Table.{Table}
use Rattle.anyk_model.specs.Query.{Query}
use Rattle.proof_model.specs.ProofView.{proof_view}
use Rattle.bound_query.specs.WeighedQuery.{BoundQuery, Fits}
use Rattle.query_bind.specs.declared.fault.BindFault.{BindFault}
use Rattle.query_parse.specs.declared.fault.ParseFault.{ParseFault}
use Rattle.query_select.specs.declared.select.Select.{Select}
use Rattle.refusals.specs.declared.refusal.Refusal.{Refusal}
use Rattle.refusals.specs.Reason as reason
use Rattle.refusals.specs.Reason.{Reason}
use Rattle.refusals.specs.RefusalReasons.{reason_of}
use Rattle.verdict.specs.AcceptedInput.{queries_in}
use Rattle.verdict.specs.Faults.{of_bind, of_parse}
use Rattle.verdict.specs.Loading.{SideInput, Loaded, all_items, are_several, bound_from, table_numbers, told_branch}
use Rattle.verdict.specs.StageResults.{Pure}
use Rattle.verdict.specs.Stages.{Is}
use Rattle.command_input.specs.declared.side_input.SideInput.{SideInput as BesideRead}
use Rattle.command_input.specs.declared.table_uses.UsesFault.{UsesFault}
use Rattle.command_input.specs.declared.table_uses.UsesFault.TheVariants as uses
use Rattle.command_input.specs.Input.{InputView, loaded_of}

abbrev pub tables_result_view : Result (List Table) Refusal → Result (List Table) Reason
tables_result_view (Ok tables) = Ok tables
tables_result_view (Err refusal) = Err (reason_of refusal)

-- a result in which this value stands for the value at `Ok`
abbrev pub said_as : {A B : Type 0} → B → Result A Refusal → Result B Reason
said_as b (Ok a) = Ok b
said_as b (Err refusal) = Err (reason_of refusal)

abbrev pub uses_reason : UsesFault → Reason
uses_reason (uses.UnknownTable at) = reason.UnknownTable at
uses_reason uses.NoMemory = reason.NoMemory

-- the same as `said_as` for the tables that items use
abbrev pub used_as : {A B : Type 0} → B → Result A UsesFault → Result B Reason
used_as b (Ok a) = Ok b
used_as b (Err fault) = Err (uses_reason fault)

abbrev pub file_reason : List ℕ → FileFault → Reason
file_reason name file.Missing = reason.NoFile name
file_reason name file.Failed = reason.ReadFault name
file_reason name file.TooLarge = reason.TooLarge name
file_reason name file.NoMemory = reason.NoMemory

abbrev pub table_reason : List ℕ → TableFault → Reason
table_reason name table.NoHeader = reason.NoHeader name
table_reason name table.TooManyColumns = reason.TooManyColumns name
table_reason name (table.DuplicateName column) = reason.DuplicateName name column
table_reason name table.TooManyRows = reason.TooManyTableRows name
table_reason name (table.Ragged row) = reason.Ragged name row
table_reason name table.NoMemory = reason.NoMemory

abbrev pub bytes_result_view : Result (Vec ℕ Global) Refusal → Result (List ℕ) Reason
bytes_result_view (Ok bytes) = Ok bytes.items
bytes_result_view (Err refusal) = Err (reason_of refusal)

-- what was read beside the query and the tables
abbrev pub beside_view : BesideRead → SideInput
beside_view beside = record { steps = beside.script.items; proof = proof_view beside.proof }

abbrev pub beside_result_view : Result BesideRead Refusal → Result SideInput Reason
beside_result_view (Ok beside) = Ok (beside_view beside)
beside_result_view (Err refusal) = Err (reason_of refusal)

abbrev pub selects_result_view : Result (Vec Select Global) ParseFault → Result (List Select) Reason
selects_result_view (Ok selects) = Ok selects.items
selects_result_view (Err fault) = Err (of_parse fault)

abbrev pub queries_result_view : Result (Vec BoundQuery Global) Refusal → Result (List Query) Reason
queries_result_view (Ok queries) = Ok (queries_in queries.items)
queries_result_view (Err refusal) = Err (reason_of refusal)

-- the queries of all selects, or the reason of the select after those that these are the queries of
abbrev pub each_view : List Select → List BoundQuery → Result (Unit {0}) BindFault
    → Result (List Query) Reason
each_view selects queries (Ok _) = Ok (queries_in queries)
each_view selects queries (Err fault) =
    Err (of_bind (told_branch (are_several selects) (length queries + 1)) fault)

-- what binding selects one after another gives; the numbers are those of the items' tables among
-- any names
pub record BindsEach (selects : List Select) (tables : List Table) (which : List ℕ)
    (queries : List BoundQuery)
    (result : Result (Unit {0}) BindFault) : Type 0 where
  pub bound : (names : List (List ℕ)) → which ≡ table_numbers names (all_items selects)
      → Pure (Is (bound_from names tables (are_several selects) 1 selects))
      (each_view selects queries result)
  pub count : OnOk result (length queries ≡ length selects)
  pub fits : OnOk result (All (λ (q : BoundQuery). Fits q tables) queries)
  pub few : OnErr result (length queries < length selects)

abbrev pub item_result_view : Result (Option ℕ) Refusal → Result (Option ℕ) Reason
item_result_view (Ok item) = Ok item
item_result_view (Err refusal) = Err (reason_of refusal)

abbrev pub input_result_view : Result InputView Refusal → Result Loaded Reason
input_result_view (Ok input) = Ok (loaded_of input)
input_result_view (Err refusal) = Err (reason_of refusal)
