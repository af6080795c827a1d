-- The verdict on an input: what is found, or the first refusal in the order of the stages. Read the
-- stages from `IsVerdict` up: each definition is one stage, and names the one that follows it.
use Rattle.std.specs.Prelude.{◌≡◌, ◌+◌, ℕ, Bool, List, [], ◌∷◌, Option, Result, Ok, Err}
use Rattle.outer_io.specs.Files.{Files}
use Rattle.query_select.specs.declared.select.Select.{Select}
use Rattle.anyk_model.specs.Query.{Query}
use Rattle.anyk_model.specs.Table.{Table}
use Rattle.refusals.specs.Reason.{Reason, Usage}
use Rattle.bound_query.specs.Shape.{Flaw, IsShape, Shape}
use Rattle.proof_model.specs.Certificate.{Certificate}
use Rattle.proof_model.specs.QueryProblem.{problem_of}
use Rattle.proof_model.specs.Faults.{fault_of}
use Rattle.proof_model.specs.Valid.{Flaw as ProofFlaw, IsFirstFlaw, IsValid}
use Rattle.verdict.specs.Faults.{of_proof, of_shape}
use Rattle.verdict.specs.MadeFiles.{files_of}
use Rattle.verdict.specs.Words.{Asked, InputFiles, no_command, a_command, verify, input_files_of}
use Rattle.verdict.specs.Loading.{SideInput, Loaded, IsReading, all_items, are_several, beside_in, file_in, told_branch}
use Rattle.verdict.specs.Loading.{unknown_table, tables_in, first_uses, bound_in, loaded_in}
use Rattle.verdict.specs.AcceptedInput.{AcceptedInput, found_of, query_of, structure_of}
use Rattle.session_script.specs.Script.{unless}
use Rattle.verdict.specs.Stages.{Then, Is}

-- ---- loading

-- the names, the weights and the ranges of each branch, then the branches' shape, and then the item
-- of which each row's best answer is asked for
abbrev pub IsBoundInput : InputFiles → List Select → List Table → SideInput → Result Loaded Reason → Type 0
IsBoundInput sought selects tables beside = Then (Is (bound_in selects tables))
    (λ queries. Is (loaded_in sought.best_of queries tables beside))

-- each table in the order of first use
abbrev pub IsTabled : InputFiles → Files → List Select → SideInput → Result Loaded Reason → Type 0
IsTabled sought files selects beside =
    Then (Is (tables_in files sought.named (first_uses (all_items selects))))
    (λ tables. IsBoundInput sought selects tables beside)

-- a table that the command line does not name
abbrev pub IsSelected : InputFiles → Files → List Select → SideInput → Result Loaded Reason → Type 0
IsSelected sought files selects beside =
    Then (Is (unless (unknown_table sought.named (all_items selects)) selects))
    (λ known. IsTabled sought files known beside)

-- the script or the certificate, if there is one
abbrev pub IsAccompanied : InputFiles → Files → List Select → Result Loaded Reason → Type 0
IsAccompanied sought files selects = Then (Is (beside_in files sought.aside))
    (λ beside. IsSelected sought files selects beside)

-- what the bytes of the query file write
abbrev pub IsRead : InputFiles → Files → List ℕ → Result Loaded Reason → Type 0
IsRead sought files bytes = Then (IsReading sought.several bytes) (IsAccompanied sought files)

-- the query file
abbrev pub IsLoadedOn : InputFiles → Files → Result Loaded Reason → Type 0
IsLoadedOn sought files = Then (Is (file_in files sought.query)) (IsRead sought files)

-- the arguments
abbrev pub IsLoaded : Asked → Files → Result Loaded Reason → Type 0
IsLoaded no_command files = Is (Err Usage)
IsLoaded (a_command command) files = IsLoadedOn (input_files_of command) (files_of command files)

-- ---- the structure

-- the query has no join tree, or too many node rows
pub record IsFlawed (branch : Option ℕ) (query : Query) (tables : List Table)
    (reason : Reason) : Type 0 where
  pub flaw : Flaw
  pub is_flaw : IsShape query tables (Err flaw)
  pub told : reason ≡ of_shape branch flaw

-- the structure of one query
abbrev pub IsStructure : Option ℕ → List Table → Query → Result Shape Reason → Type 0
IsStructure branch tables query (Ok shape) = IsShape query tables (Ok shape)
IsStructure branch tables query (Err reason) = IsFlawed branch query tables reason

-- that of each branch in order, of which the first has this number
abbrev pub AreStructures : Bool → ℕ → List Table → List Query → Result (List Shape) Reason → Type 0
AreStructures several number tables [] = Is (Ok [])
AreStructures several number tables (query ∷ queries) =
    Then (IsStructure (told_branch several number) tables query)
    (λ shape. Then (AreStructures several (number + 1) tables queries)
    (λ shapes. Is (Ok (shape ∷ shapes))))

-- the structure of what was loaded
abbrev pub IsShaped : Loaded → Result AcceptedInput Reason → Type 0
IsShaped loaded =
    Then (AreStructures (are_several loaded.queries) 1 loaded.tables loaded.queries)
    (λ shapes. Is (Ok (found_of loaded shapes)))

-- ---- the certificate

-- the certificate is valid for the query with this structure, or the reason tells its first flaw
abbrev pub IsCertified : Query → List Table → Shape → Certificate → Result (Unit {0}) Reason
    → Type 0
IsCertified query tables shape proof (Ok done) = IsValid
    (problem_of query tables shape.atoms shape.parents) proof query.limit
IsCertified query tables shape proof (Err reason) =
    (flaw : ProofFlaw) ×
    (reason ≡ of_proof (fault_of
    (problem_of query tables shape.atoms shape.parents) proof flaw))
    × IsFirstFlaw (problem_of query tables shape.atoms shape.parents) proof query.limit flaw

-- the certificate that was read is checked for the first query, which is the only one
abbrev pub IsVerified : AcceptedInput → Result AcceptedInput Reason → Type 0
IsVerified found = Then (IsCertified (query_of found) found.tables (structure_of found) found.proof)
    (λ done. Is (Ok found))

-- ---- all together

-- an input is loaded, and then structured
abbrev pub IsStructured : Asked → Files → Result AcceptedInput Reason → Type 0
IsStructured asked files = Then (IsLoaded asked files) IsShaped

-- and then, if the command is `verify`, its certificate is checked
abbrev pub IsVerdict : Asked → Files → Result AcceptedInput Reason → Type 0
IsVerdict (a_command (verify proof words)) files = Then
    (IsStructured (a_command (verify proof words)) files) IsVerified
IsVerdict asked files = IsStructured asked files
