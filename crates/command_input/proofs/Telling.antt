-- The file that a refusal tells.
use Rattle.std.proofs.Common.{◌≡◌, ◌∷◌, [], Bool, true, false, ℕ, List, Option, Some, Result, Ok, Err, IfErr, cond, inl, inr, refl}
use Rattle.std.specs.Result.{result_and}
use Rattle.std.specs.Str.{bytes_eq}
use Rattle.outer_io.specs.Files.{bytes_of}
use Rattle.outer_io.specs.declared.reading.FileFault.{FileFault}
use Rattle.outer_io.specs.declared.reading.FileFault.TheVariants as file
use Rattle.csv_tables.specs.declared.fault.TableFault.{TableFault}
use Rattle.csv_tables.specs.declared.fault.TableFault.TheVariants as table
use Rattle.rankings.specs.Order.{IsMember}
use Rattle.refusals.specs.declared.refusal.Refusal.{Refusal}
use Rattle.refusals.specs.Reason as reason
use Rattle.refusals.specs.Reason.{Reason}
use Rattle.refusals.specs.RefusalReasons.{reason_of}
use Rattle.verdict.specs.Loading.{SideInput, Loaded}
use Rattle.verdict.specs.StageResults.{Pure, TellsOne}
use Rattle.verdict.specs.Words.{Named, table_file_names}
use Rattle.command_input.specs.Entries.{IsEntryOf}
use Rattle.command_input.specs.Input.{InputView}
use Rattle.command_input.specs.StageViews.{beside_result_view, file_reason, input_result_view, table_reason}
use Rattle.command_input.specs.BoundInputs.{bound_result_view}
use Rattle.command_input.specs.declared.side_input.SideInput.{SideInput as BesideRead}
use Rattle.command_input.specs.declared.binding.BoundInput.{BoundInput}

-- a file that is not read is told
pub file_told : (name : List ℕ) (fault : FileFault) → TellsOne (λ told. told ≡ name) (file_reason name fault)
file_told name file.Missing = refl
file_told name file.Failed = refl
file_told name file.TooLarge = refl
file_told name file.NoMemory = tt

-- the file of an entry is one of those that are named
pub entry_named : (named : Named) (entry : List ℕ × List ℕ) → IsEntryOf named entry → IsMember entry.1 (table_file_names named)
entry_named [] entry is = cc
entry_named (pair ∷ named) entry is = by (bytes_eq pair.0 entry.0) (entry_named named entry) is
  where
    by : (same : Bool) → (IsEntryOf named entry → IsMember entry.1 (table_file_names named))
        → ◌≡◌ {A = Option (List ℕ)} (cond same (Some pair.1) (bytes_of named entry.0)) (Some entry.1)
        → IsMember entry.1 (table_file_names (pair ∷ named))
    by true later is = inl (cc)
    by false later is = inr (later is)

module _ (IsOne : List ℕ → Type 0) where
  -- a flaw of a table tells no file
  pub table_told : (name : List ℕ) (fault : TableFault) → TellsOne IsOne (table_reason name fault)
  table_told name table.NoHeader = tt
  table_told name table.TooManyColumns = tt
  table_told name (table.DuplicateName column) = tt
  table_told name table.TooManyRows = tt
  table_told name (table.Ragged row) = tt
  table_told name table.NoMemory = tt

  -- nor does a stage that reads none
  pub pure_tells : {A : Type 0} (G : Result A Reason → Type 0) (a : Reason) → Pure G (Err a) → TellsOne IsOne a
  pure_tells G (reason.NoFile name) h = absurd h
  pure_tells G (reason.ReadFault name) h = absurd h
  pure_tells G (reason.TooLarge name) h = absurd h
  pure_tells G a h = tt

  pub pure_result : {A : Type 0} (G : Result A Reason → Type 0) (r : Result A Reason) → Pure G r → IfErr r (TellsOne IsOne)
  pure_result G (Ok a) h = tt
  pure_result G (Err a) h = pure_tells G a h

  pub beside_tells : (G : Result SideInput Reason → Type 0) (r : Result BesideRead Refusal) → Pure G (beside_result_view r)
      → IfErr r (λ refusal. TellsOne IsOne (reason_of refusal))
  beside_tells G (Ok beside) h = tt
  beside_tells G (Err refusal) h = pure_tells G (reason_of refusal) h

  pub bound_tells : (G : Result Loaded Reason → Type 0) (beside : SideInput) (r : Result BoundInput Refusal) → Pure G (bound_result_view beside r)
      → IfErr r (λ refusal. TellsOne IsOne (reason_of refusal))
  bound_tells G beside (Ok bound) h = tt
  bound_tells G beside (Err refusal) h = pure_tells G (reason_of refusal) h

  -- the result of reading, as what is known of it
  pub input_tells : (r : Result InputView Refusal) → IfErr r (λ refusal. TellsOne IsOne (reason_of refusal))
      → IfErr (input_result_view r) (TellsOne IsOne)
  input_tells (Ok input) h = tt
  input_tells (Err refusal) h = h

  -- an error before another result
  pub handed_tells : {A B : Type 0} (r : Result A Refusal) (b : B) → IfErr r (λ refusal. TellsOne IsOne (reason_of refusal))
      → IfErr (result_and r (Ok b)) (λ refusal. TellsOne IsOne (reason_of refusal))
  handed_tells (Ok a) b h = tt
  handed_tells (Err refusal) b h = h

  -- it tells one of more files
  pub wider_told : (IsMore : List ℕ → Type 0) → ((name : List ℕ) → IsOne name → IsMore name) → (a : Reason) → TellsOne IsOne a → TellsOne IsMore a
  wider_told IsMore wider (reason.NoFile name) h = wider name h
  wider_told IsMore wider (reason.ReadFault name) h = wider name h
  wider_told IsMore wider (reason.TooLarge name) h = wider name h
  wider_told IsMore wider a h = tt
