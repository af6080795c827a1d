use Rattle.std.proofs.Common.{◌≡◌, ◌∙◌, None, Some, false, map, ap, refl, subst}
use Rattle.cmd_words.specs.NamedPairs.{named_pair}
use Rattle.make_input.specs.Input.{query_file, table_files}
use Rattle.outer_io.specs.Files.{Files}
use Rattle.outer_io.specs.Holding.{Holding}
use Rattle.verdict.specs.MadeFiles.{made_files}
use Rattle.verdict.specs.StageResults.{IsStageOf, Shelved}
use Rattle.verdict.specs.Verdict.{IsLoadedOn}
use Rattle.verdict.specs.Words.{Named, InputFiles, load, nothing, input_files_of}
use Rattle.command_input.specs.FilesRead.{IsTurn}
use Rattle.command_input.specs.StageViews.{input_result_view}
use Rattle.command_input.proofs.MadeShelf.{distinct_files}
use Rattle.command_input.proofs.NoneRefused.{made_none, pure_told}
use Rattle.command_input.proofs.generated_input.generate_input.Goals as goal

pub new-requires : goal.new-requires
new-requires c = distinct_files _ c.args.made.now.number c.args.made.now.rows c.in-Ok.ensures

pub returns-in-Ok : goal.returns-in-Ok
returns-in-Ok c = record {
  made =
      let number = c.args.made.now.number in
      let rows = c.args.made.now.rows in
      let asked : InputFiles = input_files_of (load number rows) in
      let held : c.new.result.files ≡ made_files number rows = ap (λ (s : Holding). s.files) c.new.ensures ∙ c.in-Ok.ensures in
      let P : InputFiles → Type 0 = λ sought. IsStageOf (IsLoadedOn sought) (IsTurn sought) (Some c.new.result.files) (input_result_view c.read_files.result) in
      let Q : Files → Type 0 = λ files. IsStageOf (IsLoadedOn asked) (IsTurn asked) (Some files) (input_result_view c.read_files.result) in
      let old : Shelved = record { files = Some c.new.result.files; misses = c.new.result.misses; faults = 0; taken = c.new.result.taken } in
      let new : Shelved = record { files = Some c.read_files.new.shelf.files; misses = c.read_files.new.shelf.misses; faults = 0; taken = c.read_files.new.shelf.taken } in
      pure_told (IsLoadedOn asked) (IsTurn asked) (made_files number rows) old new (input_result_view c.read_files.result)
      (made_none number rows c.args.made.now.few_rows (input_result_view c.read_files.result)) (subst Q held (subst P c.asked_of_made-sought.ensures.asked c.read_files.ensures.staged.fits)) refl refl c.read_files.ensures.staged.caused;
  alone = c.read_files.ensures.alone c.asked_of_made-sought.ensures.one;
}
