use Rattle.std.proofs.Common.{◌≡◌, ℕ, List, Some, Err, IfErr}
use Rattle.std.proofs.lemmas.Result.{IfOk-from_err}
use Rattle.refusals.specs.RefusalReasons.{reason_of}
use Rattle.command_input.specs.StageViews.{beside_view, input_result_view}
use Rattle.command_input.specs.InputFiles.{sought_view}
use Rattle.verdict.specs.StageResults.{Staged, TellsOne, shelved}
use Rattle.verdict.specs.Verdict.{IsAccompanied}
use Rattle.verdict.specs.Words.{IsNamed, aside_name, names_aside}
use Rattle.command_input.specs.FilesRead.{IsAccompaniedTurn}
use Rattle.command_input.proofs.Handing.{handed_with}
use Rattle.command_input.proofs.Selected.{beside_read, beside_refused}
use Rattle.command_input.proofs.Telling.{wider_told}
use Rattle.command_input.proofs.input.select_input.Goals as goal

pub returns-in_err-beside : goal.returns-in_err-beside
returns-in_err-beside g c = record {
  staged =
      handed_with (λ r. Staged (λ files. IsAccompanied (sought_view c.args.sought.now) files c.args.selects.now) (λ files. IsAccompaniedTurn (sought_view c.args.sought.now) files c.args.selects.now) (shelved g.F.Shelf c.args.shelf.now) (shelved g.F.Shelf c.read_side_input.new.shelf) (input_result_view r)) c.from_residual.result c.in_err-beside.field-0.0 c.from_residual.ensures.1
      (beside_refused (sought_view c.args.sought.now) c.args.selects.now _ _ _ c.in_err-beside.ensures.staged);
  tells =
      let sought = sought_view c.args.sought.now in
      let IsAside : List ℕ → Type 0 = λ file. aside_name sought.aside ≡ Some file in
      handed_with (λ r. IfErr r (λ refusal. TellsOne (IsNamed sought) (reason_of refusal))) c.from_residual.result c.in_err-beside.field-0.0 c.from_residual.ensures.1
      (wider_told IsAside (IsNamed sought) (λ file is. names_aside is) (reason_of c.in_err-beside.field-0.0) c.in_err-beside.ensures.tells);
  branches = IfOk-from_err c.from_residual.result _ c.from_residual.ensures.0;
  unnamed = λ _. IfOk-from_err c.from_residual.result _ c.from_residual.ensures.0;
}

pub returns-in_err-bound : goal.returns-in_err-bound
returns-in_err-bound g c = record {
  staged =
      let beside = beside_view c.in_ok-beside.beside in
      handed_with (λ r. Staged (λ files. IsAccompanied (sought_view c.args.sought.now) files c.args.selects.now) (λ files. IsAccompaniedTurn (sought_view c.args.sought.now) files c.args.selects.now) (shelved g.F.Shelf c.args.shelf.now) (shelved g.F.Shelf c.load_bound.new.shelf) (input_result_view r)) c.from_residual-in_err-bound.result c.in_err-bound.field-0.0 c.from_residual-in_err-bound.ensures.1
      (beside_read (sought_view c.args.sought.now) c.args.selects.now _ _ _ beside (Err (reason_of c.in_err-bound.field-0.0)) c.in_ok-beside.ensures.staged (c.in_err-bound.ensures.staged beside));
  tells =
      let sought = sought_view c.args.sought.now in
      handed_with (λ r. IfErr r (λ refusal. TellsOne (IsNamed sought) (reason_of refusal))) c.from_residual-in_err-bound.result c.in_err-bound.field-0.0 c.from_residual-in_err-bound.ensures.1
      c.in_err-bound.ensures.tells;
  branches = IfOk-from_err c.from_residual-in_err-bound.result _ c.from_residual-in_err-bound.ensures.0;
  unnamed = λ _. IfOk-from_err c.from_residual-in_err-bound.result _ c.from_residual-in_err-bound.ensures.0;
}

pub invariant_of-result : goal.invariant_of-result
invariant_of-result g c = c.in_ok-bound.ensures.whole _ _ c.in_ok-beside.ensures.rules

pub returns : goal.returns
returns g c = record {
  staged =
      let beside = beside_view c.in_ok-beside.beside in
      beside_read (sought_view c.args.sought.now) c.args.selects.now _ _ _ beside _ c.in_ok-beside.ensures.staged (c.in_ok-bound.ensures.staged beside);
  tells = tt;
  branches = c.in_ok-bound.ensures.branches;
  unnamed = c.in_ok-bound.ensures.unnamed;
}
