use Rattle.std.proofs.Common.{◌≡◌, ◌∙◌, [], ℕ, List, Some, IfErr, ap, sym}
use Rattle.std.proofs.lemmas.Result.{IfOk-from_err}
use Rattle.refusals.specs.RefusalReasons.{reason_of}
use Rattle.verdict.specs.StageResults.{TellsOne}
use Rattle.verdict.specs.Stages.{Is}
use Rattle.verdict.specs.Words.{aside_name}
use Rattle.command_input.specs.InputFiles.{aside_view, beside_said}
use Rattle.command_input.proofs.Handing.{handed_on, handed_with}
use Rattle.command_input.proofs.Telling.{beside_tells, wider_told}
use Rattle.command_input.proofs.Asides.{beside_none, beside_read, beside_unread}
use Rattle.command_input.proofs.side_input.read_side_input.Goals as goal

pub returns-in_default : goal.returns-in_default
returns-in_default g c = record {
  staged = beside_none (aside_view c.args.aside) _ _ _ c.in_default.ensures c.said_beside.ensures.said;
  tells = beside_tells (λ (file : List ℕ). aside_name (aside_view c.args.aside) ≡ Some file) (Is (beside_said (aside_view c.args.aside) [])) c.said_beside.result c.said_beside.ensures.said;
  rules = c.said_beside.ensures.rules;
}

pub returns-in_err-bytes : goal.returns-in_err-bytes
returns-in_err-bytes g c = record {
  staged =
      let e = handed_on c.from_residual.result c.in_err-bytes.field-0.0 c.from_residual.ensures.1 in
      rw e (beside_unread (aside_view c.args.aside) c.in-Some.name.now c.in-Some.ensures _ _ _ c.in_err-bytes.ensures.staged);
  tells =
      let IsAside : List ℕ → Type 0 = λ file. aside_name (aside_view c.args.aside) ≡ Some file in
      handed_with (λ r. IfErr r (λ refusal. TellsOne IsAside (reason_of refusal))) c.from_residual.result c.in_err-bytes.field-0.0 c.from_residual.ensures.1
      (wider_told (λ file. file ≡ c.in-Some.name.now) IsAside (λ file same. sym c.in-Some.ensures ∙ ap Some (sym same))
      (reason_of c.in_err-bytes.field-0.0) c.in_err-bytes.ensures.tells);
  rules = IfOk-from_err c.from_residual.result _ c.from_residual.ensures.0;
}

pub returns : goal.returns
returns g c = record {
  staged =
      beside_read (aside_view c.args.aside) c.in-Some.name.now c.in-Some.ensures c.in_ok-bytes.bytes.items _ _ _ c.in_ok-bytes.ensures.staged
      (rw c.deref.ensures.value at c.said_beside-2.ensures.said);
  tells = beside_tells (λ (file : List ℕ). aside_name (aside_view c.args.aside) ≡ Some file) (Is (beside_said (aside_view c.args.aside) c.deref.result.now)) c.said_beside-2.result c.said_beside-2.ensures.said;
  rules = c.said_beside-2.ensures.rules;
}
