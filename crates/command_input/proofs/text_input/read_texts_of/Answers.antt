use Rattle.std.proofs.Common.{◌≡◌, ◌∙◌, Err, ap, length, subst, sym}
use Rattle.std.proofs.lemmas.Result.{IfOk-weaker}
use Rattle.refusals.specs.Reason.{Reason}
use Rattle.verdict.specs.Faults.{of_parse}
use Rattle.verdict.specs.Loading.{IsReading}
use Rattle.verdict.specs.StageResults.{Pure}
use Rattle.verdict.proofs.Staging.{pure_found, pure_refused}
use Rattle.command_input.specs.InputFiles.{sought_view}
use Rattle.command_input.specs.TextInput.{IsBesideOver, IsLoadedOver}
use Rattle.command_input.proofs.text_input.read_texts_of.Goals as goal

pub returns-in-Err : goal.returns-in-Err
returns-in-Err c = record {
  loaded =
      let sought = sought_view c.args.sought.now in
      let query = c.args.query.now in
      let side = c.args.side.now in
      let tables = c.args.tables.now in
      let P : Reason → Type 0 = λ e. Pure (IsLoadedOver sought query side tables) (Err e) in
      subst P (sym c.parse_refusal.ensures)
      (pure_refused (IsReading sought.several query) (λ selects. IsBesideOver sought side tables selects) (of_parse c.in-Err.fault) c.in-Err.ensures.parsed);
  over = tt;
  alone = λ _. tt;
  unnamed = λ _. tt;
}

pub returns-in-Ok : goal.returns-in-Ok
returns-in-Ok c = record {
  loaded =
      let sought = sought_view c.args.sought.now in
      let side = c.args.side.now in
      let tables = c.args.tables.now in
      pure_found (IsReading sought.several c.args.query.now) (λ selects. IsBesideOver sought side tables selects) c.in-Ok.selects.items _ c.in-Ok.ensures.parsed
      (rw c.deref.ensures.value at c.select_texts.ensures.loaded);
  over = c.select_texts.ensures.over;
  alone =
      λ one.
      IfOk-weaker c.select_texts.result _ _ (λ text same. same ∙ ap length c.deref.ensures.value ∙ c.in-Ok.ensures.alone one) c.select_texts.ensures.branches;
  unnamed = c.select_texts.ensures.unnamed;
}
