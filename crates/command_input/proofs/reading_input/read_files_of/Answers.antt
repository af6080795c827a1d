use Rattle.std.proofs.Common.{◌∙◌, None, IfErr, Option, ap, subst, sym}
use Rattle.refusals.specs.RefusalReasons.{reason_of}
use Rattle.command_input.specs.FilesRead.{IsTurn}
use Rattle.command_input.specs.StageViews.{input_result_view}
use Rattle.verdict.specs.StageResults.{Staged, TellsOne, shelved}
use Rattle.verdict.specs.Verdict.{IsLoadedOn}
use Rattle.verdict.specs.Words.{InputFiles, IsNamed}
use Rattle.command_input.proofs.Telling.{input_tells}
use Rattle.command_input.proofs.reading_input.read_files_of.Goals as goal

pub returns : goal.returns
returns g c = record {
  looked =
      let P : InputFiles → Type 0 = λ sought. Staged (IsLoadedOn sought) (IsTurn sought) (shelved g.F.Shelf c.args.shelf.now) (shelved g.F.Shelf c.read_files.new.shelf) (input_result_view c.read_files.result) in
      let Q : InputFiles → Type 0 = λ sought. IfErr (input_result_view c.read_files.result) (TellsOne (IsNamed sought)) in
      record {
        staged = subst P c.asked_in-sought.ensures.asked c.read_files.ensures.staged;
        tells = subst Q c.asked_in-sought.ensures.asked (input_tells _ c.read_files.result c.read_files.ensures.tells);
      };
  alone = λ one. c.read_files.ensures.alone (ap (λ (s : InputFiles). s.several) c.asked_in-sought.ensures.asked ∙ one);
  unnamed = λ none. c.read_files.ensures.unnamed (c.asked_in-sought.ensures.best_of ∙ none);
}
