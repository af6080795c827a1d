-- The stages of loading an input: its query, or the branches of it, its script or its certificate,
-- its tables, and the queries bound to them.
use Rattle.std.specs.Prelude.{◌≡◌, ◌≢◌, ◌+◌, ◌&&◌, ℕ, nat_eq, nat_lt, Bool, true, false, if◌then◌else◌, List, [], ◌∷◌, ◌++◌, map, length, Option, None, Some, option_map, position, unwrap_or, Result, Ok, Err}
use Rattle.std.specs.List.{list_any, position_or_len}
use Rattle.std.specs.Str.{bytes_eq}
use mathlib.Core.Bool.{beq}
use Rattle.outer_io.specs.Files.{Files, bytes_of}
use Rattle.query_parse.specs.declared.fault.ParseFault.{ParseFault}
use Rattle.query_parse.specs.declared.fault.ParseFault.TheVariants.{NoMemory as out_of_memory}
use Rattle.query_select.specs.declared.select.ItemRef.{ItemRef}
use Rattle.query_select.specs.declared.select.Select.{Select}
use Rattle.query_select.specs.declared.select.SelectAll.{SelectAll}
use Rattle.query_parse.specs.Parse.{IsParsed, IsParsedAll, Faults, FaultsAll}
use Rattle.anyk_model.specs.Table.{Table, flaw_of, records_of, table_of}
use Rattle.anyk_model.specs.Query.{Item, OrderKey, Query}
use Rattle.query_bind.specs.Bind.{bind_fault}
use Rattle.query_bind.specs.Binding.{bound_query}
use Rattle.refusals.specs.Reason.{Reason, BranchShape, NoFile, TooLarge, UnionBest, UnknownBest, UnknownTable}
use Rattle.session_script.specs.declared.script_fault.ScriptFault.{ScriptFault}
use Rattle.session_script.specs.declared.step.Step.{Step}
use Rattle.session_script.specs.Script.{steps_of}
use Rattle.proof_model.specs.declared.fault.ProofFault.{ProofFault}
use Rattle.proof_model.specs.Certificate.{Certificate}
use Rattle.proof_model.specs.Reading.{proof_of}
use Rattle.verdict.specs.Faults.{of_parse, of_script, of_proof, of_bind, of_flaw}
use Rattle.session_script.specs.Script.{unless}
use Rattle.verdict.specs.Stages.{Then, Is, then_by}
use Rattle.verdict.specs.Words.{SideFile, nothing, script, certificate}

-- ---- one file

-- the greatest number of bytes of a file
abbrev pub most_bytes : ℕ
most_bytes = 67108864

abbrev pub short_enough : List ℕ → List ℕ → Result (List ℕ) Reason
short_enough name bytes = if nat_lt most_bytes (length bytes) then Err (TooLarge name) else Ok bytes

abbrev pub file_with : List ℕ → Option (List ℕ) → Result (List ℕ) Reason
file_with name None = Err (NoFile name)
file_with name (Some bytes) = short_enough name bytes

-- the bytes of the file of this name
abbrev pub file_in : Files → List ℕ → Result (List ℕ) Reason
file_in files name = file_with name (bytes_of files name)

-- ---- the query: a relation, since the grammar is a relation

abbrev pub IsParse : List ℕ → Result Select Reason → Type 0
IsParse bytes (Ok select) = IsParsed bytes select
IsParse bytes (Err reason) =
    (fault : ParseFault) × Faults bytes fault × (fault ≢ out_of_memory) × (reason ≡ of_parse fault)

abbrev pub IsParseAll : List ℕ → Result SelectAll Reason → Type 0
IsParseAll bytes (Ok all) = IsParsedAll bytes all
IsParseAll bytes (Err reason) =
    (fault : ParseFault) × FaultsAll bytes fault × (fault ≢ out_of_memory)
    × (reason ≡ of_parse fault)

-- each branch with the limit of the whole
abbrev pub branches_of : SelectAll → List Select
branches_of all = map (λ (select : Select). record select { limit = all.limit }) all.branches

-- the query, or its branches if it may have several
abbrev pub IsReading : Bool → List ℕ → Result (List Select) Reason → Type 0
IsReading true bytes = Then (IsParseAll bytes) (λ all. Is (Ok (branches_of all)))
IsReading false bytes = Then (IsParse bytes) (λ select. Is (Ok (select ∷ [])))

-- the items of all branches; those of one query are its own
abbrev pub all_items : List Select → List ItemRef
all_items [] = []
all_items (select ∷ []) = select.items
all_items (select ∷ other ∷ selects) = select.items ++ all_items (other ∷ selects)

-- ---- the script or the certificate

-- what is read beside the query and the tables
pub record SideInput : Type 0 where
  -- the steps of the script, and none if there is no script
  pub steps : List Step
  -- the certificate, and the empty one if there is none
  pub proof : Certificate

abbrev pub no_certificate : Certificate
no_certificate = record { bounds = []; answers = []; ended = false }

abbrev pub with_steps : List Step → SideInput
with_steps steps = record { steps = steps; proof = no_certificate }

abbrev pub with_proof : Certificate → SideInput
with_proof proof = record { steps = []; proof = proof }

abbrev pub told_steps : Result (List Step) ScriptFault → Result (List Step) Reason
told_steps (Ok steps) = Ok steps
told_steps (Err fault) = Err (of_script fault)

-- the steps that the bytes of a script write
abbrev pub steps_said : List ℕ → Result (List Step) Reason
steps_said bytes = told_steps (steps_of bytes)

abbrev pub told_proof : Result Certificate ProofFault → Result Certificate Reason
told_proof (Ok proof) = Ok proof
told_proof (Err fault) = Err (of_proof fault)

-- the certificate that bytes are
abbrev pub proof_said : List ℕ → Result Certificate Reason
proof_said bytes = told_proof (proof_of bytes)

-- what the file beside the query and the tables has, if there is one
abbrev pub beside_in : Files → SideFile → Result SideInput Reason
beside_in files nothing = Ok (with_steps [])
beside_in files (script name) = then_by (then_by (file_in files name) steps_said)
    (λ steps. Ok (with_steps steps))
beside_in files (certificate name) = then_by (then_by (file_in files name) proof_said)
    (λ proof. Ok (with_proof proof))

-- ---- the tables

-- The first item, in the order of the text, whose table the command line does not name. The first
-- argument is the file of that item's table, if there is one.
abbrev pub unknown_with : Option (List ℕ) → ℕ → Option Reason → Option Reason
unknown_with None at later = Some (UnknownTable at)
unknown_with (Some file) at later = later

abbrev pub unknown_table : List (List ℕ × List ℕ) → List ItemRef → Option Reason
unknown_table named [] = None
unknown_table named (item ∷ items) = unknown_with (bytes_of named item.table) item.at
    (unknown_table named items)

-- the names that are not in the first list and not earlier in the second
abbrev pub first_uses_after : List (List ℕ) → List (List ℕ) → List (List ℕ)
first_uses_after earlier [] = []
first_uses_after earlier (name ∷ names) =
    if list_any (λ other. bytes_eq other name) earlier then first_uses_after earlier names
    else name ∷ first_uses_after (earlier ++ name ∷ []) names

abbrev pub table_names : List ItemRef → List (List ℕ)
table_names items = map (λ (item : ItemRef). item.table) items

-- the tables that items use, in the order of their first use
abbrev pub first_uses : List ItemRef → List (List ℕ)
first_uses items = first_uses_after [] (table_names items)

-- the number of each item's table among these names
abbrev pub table_numbers : List (List ℕ) → List ItemRef → List ℕ
table_numbers names items = map (λ name. position_or_len (λ other. bytes_eq other name) names)
    (table_names items)

-- the file of a table that the command line names
abbrev pub known_file : List (List ℕ × List ℕ) → List ℕ → List ℕ
known_file named table = unwrap_or (bytes_of named table) []

-- the table in the bytes of its file
abbrev pub sound_table : List ℕ → List ℕ → Result Table Reason
sound_table name bytes = unless (option_map (of_flaw name) (flaw_of (records_of bytes)))
    (table_of (records_of bytes))

-- a table: its file, and then its records
abbrev pub table_in : Files → List (List ℕ × List ℕ) → List ℕ → Result Table Reason
table_in files named name = then_by (file_in files (known_file named name)) (sound_table name)

-- tables one after another
abbrev pub tables_in : Files → List (List ℕ × List ℕ) → List (List ℕ) → Result (List Table) Reason
tables_in files named [] = Ok []
tables_in files named (name ∷ names) =
    then_by (table_in files named name)
    (λ table. then_by (tables_in files named names) (λ tables. Ok (table ∷ tables)))

abbrev pub go_on : {A : Type 0} → Result A Reason → List (List ℕ) → List (List ℕ)
go_on (Ok a) later = later
go_on (Err reason) later = []

-- the files that are read for these tables: up to the first that is refused
abbrev pub files_read : Files → List (List ℕ × List ℕ) → List (List ℕ) → List (List ℕ)
files_read files named [] = []
files_read files named (name ∷ names) = known_file named name
    ∷ go_on (table_in files named name) (files_read files named names)

-- ---- the queries bound to their tables

-- there are several branches
abbrev pub are_several : {A : Type 0} → List A → Bool
are_several list = nat_lt 1 (length list)

-- how a refusal tells a branch: not at all if there is one
abbrev pub told_branch : Bool → ℕ → Option ℕ
told_branch several number = if several then Some number else None

-- the names, the weights and the ranges of a query are checked
abbrev pub bound_as : Option ℕ → List (List ℕ) → List Table → Select → Result Query Reason
bound_as branch names tables select =
    unless (option_map (of_bind branch)
    (bind_fault select tables (table_numbers names select.items)))
    (bound_query select tables (table_numbers names select.items))

-- those of each branch in order, of which the first has this number
abbrev pub bound_from : List (List ℕ) → List Table → Bool → ℕ → List Select
    → Result (List Query) Reason
bound_from names tables several number [] = Ok []
bound_from names tables several number (select ∷ selects) =
    then_by (bound_as (told_branch several number) names tables select)
    (λ query. then_by (bound_from names tables several (number + 1) selects)
    (λ queries. Ok (query ∷ queries)))

-- all tables are there, for each branch those that its items name
abbrev pub bound_in : List Select → List Table → Result (List Query) Reason
bound_in selects tables = bound_from (first_uses (all_items selects)) tables
    (are_several selects) 1 selects

-- ---- the shape of the branches

-- as many keys, and each in the same direction
abbrev pub have_directions : List OrderKey → List OrderKey → Bool
have_directions [] [] = true
have_directions [] (key ∷ keys) = false
have_directions (key ∷ keys) [] = false
have_directions (key ∷ keys)
    (other ∷ others) = beq key.descending other.descending && have_directions keys others

-- as many selected columns, and keys of the same directions
abbrev pub have_one_shape : Query → Query → Bool
have_one_shape a b = nat_eq (length a.list) (length b.list) && have_directions a.order b.order

-- the first branch that is not of the first one's shape; the first of these has this number
abbrev pub odd_from : Query → ℕ → List Query → Option Reason
odd_from first number [] = None
odd_from first number (query ∷ queries) =
    if have_one_shape first query then odd_from first (number + 1) queries else Some
    (BranchShape number)

abbrev pub odd_branch : List Query → Option Reason
odd_branch [] = None
odd_branch (first ∷ queries) = odd_from first 2 queries

-- ---- the item of which each row's best answer is asked for

abbrev pub known_item : Option ℕ → Result (Option ℕ) Reason
known_item None = Err UnknownBest
known_item (Some item) = Ok (Some item)

-- the number of the item that has the alias, if one is named; then there may not be several
-- branches
abbrev pub best_in : Option (List ℕ) → List Query → Result (Option ℕ) Reason
best_in None queries = Ok None
best_in (Some alias) [] = Err UnknownBest
best_in (Some alias) (query ∷ []) = known_item
    (position (λ (i : Item). bytes_eq i.alias alias) query.items)
best_in (Some alias) (query ∷ other ∷ queries) = Err UnionBest

-- ---- all together

-- what is known of an input once its queries are bound to their tables
pub record Loaded : Type 0 where
  -- the query of each branch, and one query if there are no branches
  pub queries : List Query
  pub tables : List Table
  -- the item of which each row's best answer is asked for, if one is named
  pub best : Option ℕ
  -- the steps of the script, and none if there is no script
  pub steps : List Step
  -- the certificate, and the empty one if there is none
  pub proof : Certificate

-- the queries of one shape, the tables, and the script or the certificate, with the item that is
-- named
abbrev pub loaded_in : Option (List ℕ) → List Query → List Table → SideInput → Result Loaded Reason
loaded_in alias queries tables beside =
    then_by (unless (odd_branch queries) queries)
    (λ queries. then_by (best_in alias queries)
    (λ best. Ok (record {
      queries = queries;
      tables = tables;
      best = best;
      steps = beside.steps;
      proof = beside.proof;
    })))
