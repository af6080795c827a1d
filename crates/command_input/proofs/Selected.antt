-- The stages after the query was parsed, one after another.
use Rattle.std.proofs.Common.{ℕ, List, Some, Result, Ok, Err}
use Rattle.std.proofs.Common.{◌≡◌}
use Rattle.outer_io.specs.Files.{Files}
use Rattle.anyk_model.specs.Table.{Table}
use Rattle.query_select.specs.declared.select.Select.{Select}
use Rattle.rankings.specs.Order.{IsMember}
use Rattle.refusals.specs.Reason.{Reason}
use Rattle.session_script.specs.Script.{unless}
use Rattle.verdict.specs.Loading.{SideInput, Loaded, all_items, beside_in, files_read, first_uses, tables_in, unknown_table}
use Rattle.verdict.specs.StageResults.{NoTurn, Pure, Shelved, Staged}
use Rattle.verdict.specs.Stages.{Is}
use Rattle.verdict.specs.Verdict.{IsAccompanied, IsBoundInput, IsSelected, IsTabled}
use Rattle.verdict.specs.Words.{InputFiles, aside_name}
use Rattle.verdict.proofs.Staging.{found_then, pure_staged, refusal_then}
use Rattle.command_input.specs.FilesRead.{IsAccompaniedTurn, IsSelectedTurn, IsTabledTurn}

module _ (sought : InputFiles) (selects : List Select) where
  abbrev beside_of : Files → Result SideInput Reason → Type 0
  beside_of files = Is (beside_in files sought.aside)

  abbrev IsAside : Files → List ℕ → Type 0
  IsAside files file = aside_name sought.aside ≡ Some file

  -- the script or the certificate is refused
  pub beside_refused : (old new : Shelved) (e : Reason) → Staged beside_of IsAside old new (Err e)
      → Staged (λ files. IsAccompanied sought files selects) (λ files. IsAccompaniedTurn sought files selects) old new (Err e)
  beside_refused = refusal_then beside_of IsAside (λ beside files. IsSelected sought files selects beside) (λ beside files. IsSelectedTurn sought files selects)

  -- it was read
  pub beside_read : (old mid new : Shelved) (beside : SideInput) (r : Result Loaded Reason) → Staged beside_of IsAside old mid (Ok beside)
      → Staged (λ files. IsSelected sought files selects beside) (λ files. IsSelectedTurn sought files selects) mid new r
      → Staged (λ files. IsAccompanied sought files selects) (λ files. IsAccompaniedTurn sought files selects) old new r
  beside_read = found_then beside_of IsAside (λ beside files. IsSelected sought files selects beside) (λ beside files. IsSelectedTurn sought files selects)

  abbrev known : Result (List Select) Reason
  known = unless (unknown_table sought.named (all_items selects)) selects

  abbrev tables_of : Files → Result (List Table) Reason → Type 0
  tables_of files = Is (tables_in files sought.named (first_uses (all_items selects)))

  abbrev IsFileOf : Files → List ℕ → Type 0
  IsFileOf files file = IsMember file (files_read files sought.named (first_uses (all_items selects)))

  module _ (beside : SideInput) where
    -- an item's table is not named
    pub unknown_refused : (s : Shelved) (e : Reason) → Pure (Is known) (Err e)
        → Staged (λ files. IsSelected sought files selects beside) (λ files. IsSelectedTurn sought files selects) s s (Err e)
    unknown_refused s e h =
        refusal_then (λ files. Is known) NoTurn (λ known files. IsTabled sought files known beside) (λ known files. IsTabledTurn sought files known)
        s s e (pure_staged (Is known) s (Err e) h)

    tables_after : (old new : Shelved) (r : Result Loaded Reason) → Is known (Ok selects)
        → Staged (λ files. IsTabled sought files selects beside) (λ files. IsTabledTurn sought files selects) old new r
        → Staged (λ files. IsSelected sought files selects beside) (λ files. IsSelectedTurn sought files selects) old new r
    tables_after old new r h =
        found_then (λ files. Is known) NoTurn (λ known files. IsTabled sought files known beside) (λ known files. IsTabledTurn sought files known)
        old old new selects r (pure_staged (Is known) old (Ok selects) h)

    -- a table is refused
    pub tables_refused : (old new : Shelved) (e : Reason) → Is known (Ok selects) → Staged tables_of IsFileOf old new (Err e)
        → Staged (λ files. IsSelected sought files selects beside) (λ files. IsSelectedTurn sought files selects) old new (Err e)
    tables_refused old new e h s =
        tables_after old new (Err e) h
        (refusal_then tables_of IsFileOf (λ tables files. IsBoundInput sought selects tables beside) (λ tables. NoTurn) old new e s)

    -- the tables were read
    pub tables_read : (old new : Shelved) (tables : List Table) (r : Result Loaded Reason) → Is known (Ok selects) → Staged tables_of IsFileOf old new (Ok tables)
        → Pure (IsBoundInput sought selects tables beside) r
        → Staged (λ files. IsSelected sought files selects beside) (λ files. IsSelectedTurn sought files selects) old new r
    tables_read old new tables r h s bound =
        tables_after old new r h
        (found_then tables_of IsFileOf (λ tables files. IsBoundInput sought selects tables beside) (λ tables. NoTurn) old new new tables r s
        (pure_staged (IsBoundInput sought selects tables beside) new r bound))
