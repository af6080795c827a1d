-- The files that the stages of loading read.
use Rattle.std.specs.Prelude.{◌≡◌, ℕ, List, Some}
use Rattle.outer_io.specs.Files.{Files}
use Rattle.query_select.specs.declared.select.Select.{Select}
use Rattle.rankings.specs.Order.{IsMember}
use Rattle.verdict.specs.Loading.{IsReading, all_items, beside_in, file_in, files_read, first_uses, tables_in, unknown_table}
use Rattle.verdict.specs.StageResults.{EitherTurn, NoTurn}
use Rattle.session_script.specs.Script.{unless}
use Rattle.verdict.specs.Stages.{Is}
use Rattle.verdict.specs.Words.{InputFiles, aside_name}

abbrev pub IsTabledTurn : InputFiles → Files → List Select → List ℕ → Type 0
IsTabledTurn sought files selects =
    EitherTurn (λ files. Is (tables_in files sought.named (first_uses (all_items selects))))
    (λ files file. IsMember file
    (files_read files sought.named (first_uses (all_items selects))))
    (λ tables. NoTurn) files

abbrev pub IsSelectedTurn : InputFiles → Files → List Select → List ℕ → Type 0
IsSelectedTurn sought files selects =
    EitherTurn (λ files. Is (unless (unknown_table sought.named (all_items selects)) selects))
    NoTurn (λ known files. IsTabledTurn sought files known) files

abbrev pub IsAccompaniedTurn : InputFiles → Files → List Select → List ℕ → Type 0
IsAccompaniedTurn sought files selects =
    EitherTurn (λ files. Is (beside_in files sought.aside))
    (λ files file. aside_name sought.aside ≡ Some file)
    (λ beside files. IsSelectedTurn sought files selects) files

abbrev pub IsReadTurn : InputFiles → Files → List ℕ → List ℕ → Type 0
IsReadTurn sought files bytes = EitherTurn (λ files. IsReading sought.several bytes) NoTurn
    (λ selects files. IsAccompaniedTurn sought files selects) files

abbrev pub IsTurn : InputFiles → Files → List ℕ → Type 0
IsTurn sought files =
    EitherTurn (λ files. Is (file_in files sought.query)) (λ files file. file ≡ sought.query)
    (λ bytes files. IsReadTurn sought files bytes) files
