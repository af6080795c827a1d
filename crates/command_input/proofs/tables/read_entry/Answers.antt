use Rattle.std.proofs.Common.{◌≡◌, ◌∷◌, ◌++◌, ◌∙◌, [], ℕ, List, Ok, Err, IfErr, length, length-append, ap, subst, sym}
use Rattle.anyk_model.specs.Table.{flaw_of, records_of, table_of}
use Rattle.cmd_words.specs.NamedPairs.{named_pair}
use Rattle.std.proofs.lemmas.Result.{IfOk-from_err}
use Rattle.refusals.specs.Reason.{Reason}
use Rattle.refusals.specs.RefusalReasons.{reason_of}
use Rattle.verdict.specs.Loading.{file_in}
use Rattle.verdict.specs.Stages.{Is}
use Rattle.verdict.specs.StageResults.{Staged, TellsOne, shelved}
use Rattle.command_input.specs.Entries.{IsNext}
use Rattle.command_input.specs.StageViews.{said_as, table_reason}
use Rattle.command_input.proofs.Handing.{handed_with}
use Rattle.command_input.proofs.Faults.{table_added, table_refused}
use Rattle.command_input.proofs.Reading.{file_read, file_refused}
use Rattle.command_input.proofs.Telling.{table_told}
use Rattle.command_input.proofs.tables.read_entry.Goals as goal

pub returns-in_err-bytes : goal.returns-in_err-bytes
returns-in_err-bytes g c =
    record {
      staged = λ named is_entry.
          handed_with (λ r. Staged (IsNext named (named_pair c.args.entry.now).0 c.args.tables.now) (λ files file. file ≡ (named_pair c.args.entry.now).1) (shelved g.F.Shelf c.args.shelf.now) (shelved g.F.Shelf c.load.new.shelf) (said_as c.args.tables.now r))
          c.from_residual.result c.in_err-bytes.field-0.0 c.from_residual.ensures.1
          (file_refused named (named_pair c.args.entry.now) is_entry c.args.tables.now _ _ _ (rw c.as_str.ensures.value at c.in_err-bytes.ensures.staged));
      tells = handed_with (λ r. IfErr r (λ refusal. TellsOne (λ file. file ≡ (named_pair c.args.entry.now).1) (reason_of refusal)))
          c.from_residual.result c.in_err-bytes.field-0.0 c.from_residual.ensures.1 (rw c.as_str.ensures.value at c.in_err-bytes.ensures.tells);
      longer = IfOk-from_err c.from_residual.result _ c.from_residual.ensures.0;
    }

pub returns-in-Ok : goal.returns-in-Ok
returns-in-Ok g c =
    let bytes = c.in_ok-bytes.bytes.items in
    let added = c.in-Ok.ensures.added ∙ ap (λ (b : List ℕ). c.args.tables.now ++ table_of (records_of b) ∷ []) c.deref.ensures.value in
    let sound = ap (λ (b : List ℕ). flaw_of (records_of b)) (sym c.deref.ensures.value) ∙ c.in-Ok.ensures.sound in
    let name = (named_pair c.args.entry.now).0 in
    record {
      staged = λ named is_entry.
          file_read named (named_pair c.args.entry.now) is_entry c.args.tables.now _ _ bytes (Ok c.read.new.self) (subst (λ (file : List ℕ). Staged (λ files. Is (file_in files file)) (λ files name. name ≡ file) (shelved g.F.Shelf c.args.shelf.now) (shelved g.F.Shelf c.load.new.shelf) (Ok bytes))
          c.as_str.ensures.value c.in_ok-bytes.ensures.staged)
          (table_added name bytes c.args.tables.now c.read.new.self added sound);
      tells = tt;
      longer = ap length added ∙ length-append c.args.tables.now (table_of (records_of bytes) ∷ []);
    }

pub returns : goal.returns
returns g c =
    let bytes = c.in_ok-bytes.bytes.items in
    let records = records_of bytes in
    let told = rw c.deref.ensures.value at c.in-Err.ensures.fault in
    let name = (named_pair c.args.entry.now).0 in
    record {
      staged = λ named is_entry.
          subst (λ (reason : Reason). Staged (IsNext named (named_pair c.args.entry.now).0 c.args.tables.now) (λ files file. file ≡ (named_pair c.args.entry.now).1) (shelved g.F.Shelf c.args.shelf.now) (shelved g.F.Shelf c.load.new.shelf) (Err reason))
          (sym (c.table_refusal.ensures ∙ ap (λ (table : List ℕ). table_reason table c.in-Err.fault) c.as_bytes.ensures.value))
          (file_read named (named_pair c.args.entry.now) is_entry c.args.tables.now _ _ bytes _ (subst (λ (file : List ℕ). Staged (λ files. Is (file_in files file)) (λ files name. name ≡ file) (shelved g.F.Shelf c.args.shelf.now) (shelved g.F.Shelf c.load.new.shelf) (Ok bytes))
          c.as_str.ensures.value c.in_ok-bytes.ensures.staged)
          (table_refused name c.args.tables.now (table_of records) (flaw_of records) c.in-Err.fault told));
      tells = rw c.table_refusal.ensures (table_told (λ file. file ≡ (named_pair c.args.entry.now).1) c.as_bytes.result.now c.in-Err.fault);
      longer = tt;
    }
