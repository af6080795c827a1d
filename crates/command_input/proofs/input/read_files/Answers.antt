use Rattle.std.proofs.Common.{◌≡◌, ◌∙◌, ℕ, List, IfErr, ap, length}
use Rattle.std.proofs.lemmas.Result.{IfOk-from_err, IfOk-weaker}
use Rattle.refusals.specs.RefusalReasons.{reason_of}
use Rattle.verdict.specs.Loading.{IsReading, file_in}
use Rattle.verdict.specs.StageResults.{NoTurn, Staged, TellsOne, shelved}
use Rattle.verdict.specs.Stages.{Is}
use Rattle.verdict.specs.Verdict.{IsAccompanied, IsLoadedOn, IsRead}
use Rattle.verdict.specs.Words.{IsNamed, names_query}
use Rattle.verdict.proofs.Staging.{found_then, pure_staged, refusal_then}
use Rattle.command_input.specs.FilesRead.{IsAccompaniedTurn, IsReadTurn, IsTurn}
use Rattle.command_input.specs.InputFiles.{sought_view}
use Rattle.command_input.specs.StageViews.{input_result_view}
use Rattle.command_input.proofs.Handing.{handed_with}
use Rattle.command_input.proofs.Telling.{pure_tells, wider_told}
use Rattle.command_input.proofs.input.read_files.Goals as goal

pub returns-in_err-bytes : goal.returns-in_err-bytes
returns-in_err-bytes g c = record {
  staged =
      let sought = sought_view c.args.sought.now in
      handed_with (λ r. Staged (IsLoadedOn sought) (IsTurn sought) (shelved g.F.Shelf c.args.shelf.now) (shelved g.F.Shelf c.load.new.shelf) (input_result_view r)) c.from_residual.result c.in_err-bytes.field-0.0 c.from_residual.ensures.1
      (refusal_then (λ files. Is (file_in files sought.query)) (λ files file. file ≡ sought.query) (λ bytes files. IsRead sought files bytes) (λ bytes files. IsReadTurn sought files bytes)
      _ _ _ c.in_err-bytes.ensures.staged);
  tells =
      let sought = sought_view c.args.sought.now in
      let IsQuery : List ℕ → Type 0 = λ file. file ≡ sought.query in
      handed_with (λ r. IfErr r (λ refusal. TellsOne (IsNamed sought) (reason_of refusal))) c.from_residual.result c.in_err-bytes.field-0.0 c.from_residual.ensures.1
      (wider_told IsQuery (IsNamed sought) (λ file is. names_query is) (reason_of c.in_err-bytes.field-0.0) c.in_err-bytes.ensures.tells);
  alone = λ _. IfOk-from_err c.from_residual.result _ c.from_residual.ensures.0;
  unnamed = λ _. IfOk-from_err c.from_residual.result _ c.from_residual.ensures.0;
}

pub returns : goal.returns
returns g c = record {
  staged =
      let sought = sought_view c.args.sought.now in
      let bytes = c.in_ok-bytes.bytes.items in
      rw c.parse_refusal.ensures (found_then (λ files. Is (file_in files sought.query)) (λ files file. file ≡ sought.query) (λ bytes files. IsRead sought files bytes) (λ bytes files. IsReadTurn sought files bytes)
      _ _ _ bytes _ c.in_ok-bytes.ensures.staged
      (refusal_then (λ files. IsReading sought.several bytes) NoTurn (λ selects files. IsAccompanied sought files selects) (λ selects files. IsAccompaniedTurn sought files selects)
      _ _ _ (pure_staged (IsReading sought.several bytes) _ _ (rw c.deref.ensures.value at c.in-Err.ensures.parsed))));
  tells =
      let sought = sought_view c.args.sought.now in
      rw c.parse_refusal.ensures (pure_tells (IsNamed sought) (IsReading sought.several c.deref.result.now) _ c.in-Err.ensures.parsed);
  alone = λ _. tt;
  unnamed = λ _. tt;
}

pub returns-in-Ok : goal.returns-in-Ok
returns-in-Ok g c = record {
  staged =
      let sought = sought_view c.args.sought.now in
      let bytes = c.in_ok-bytes.bytes.items in
      found_then (λ files. Is (file_in files sought.query)) (λ files file. file ≡ sought.query) (λ bytes files. IsRead sought files bytes) (λ bytes files. IsReadTurn sought files bytes)
      _ _ _ bytes _ c.in_ok-bytes.ensures.staged
      (found_then (λ files. IsReading sought.several bytes) NoTurn (λ selects files. IsAccompanied sought files selects) (λ selects files. IsAccompaniedTurn sought files selects)
      _ _ _ c.in-Ok.selects.items _ (pure_staged (IsReading sought.several bytes) _ _ (rw c.deref.ensures.value at c.in-Ok.ensures.parsed))
      (rw c.deref-in-Ok.ensures.value at c.select_input.ensures.staged));
  tells = c.select_input.ensures.tells;
  alone =
      λ one.
      IfOk-weaker c.select_input.result _ _ (λ input same. same ∙ ap length c.deref-in-Ok.ensures.value ∙ c.in-Ok.ensures.alone one) c.select_input.ensures.branches;
  unnamed = c.select_input.ensures.unnamed;
}
