use Rattle.std.proofs.Common.{◌∙◌, ap, length}
use Rattle.std.proofs.lemmas.Result.{IfOk-from_err}
use Rattle.verdict.specs.Loading.{all_items, first_uses}
use Rattle.verdict.specs.StageResults.{Pure}
use Rattle.verdict.specs.Verdict.{IsBoundInput}
use Rattle.command_input.specs.InputFiles.{sought_view}
use Rattle.command_input.specs.BoundInputs.{bound_result_view}
use Rattle.command_input.proofs.BoundQueries.{numbers_length}
use Rattle.command_input.proofs.Handing.{handed_with}
use Rattle.command_input.proofs.binding.bound_to.Goals as goal

pub returns-in_err-bound : goal.returns-in_err-bound
returns-in_err-bound c = record {
  bound =
      λ beside.
      let sought = sought_view c.args.sought.now in
      let items = all_items c.args.selects.now in
      handed_with (λ r. Pure (IsBoundInput sought c.args.selects.now c.args.tables beside) (bound_result_view beside r)) c.from_residual.result c.in_err-bound.field-0.0 c.from_residual.ensures.1
      (c.in_err-bound.ensures.bound (first_uses items) beside c.requires.numbers);
  whole = IfOk-from_err c.from_residual.result _ c.from_residual.ensures.0;
  branches = IfOk-from_err c.from_residual.result _ c.from_residual.ensures.0;
  unnamed = λ _. IfOk-from_err c.from_residual.result _ c.from_residual.ensures.0;
}

pub returns : goal.returns
returns c = record {
  bound = λ beside. c.in_ok-bound.ensures.bound (first_uses (all_items c.args.selects.now)) beside c.requires.numbers;
  whole = c.in_ok-bound.ensures.whole;
  branches = c.in_ok-bound.ensures.branches;
  unnamed = c.in_ok-bound.ensures.unnamed;
}

pub bound_over-requires-clause-limits : goal.bound_over-requires-clause-limits
bound_over-requires-clause-limits c = c.requires.limits

pub bound_over-requires-clause-as_many : goal.bound_over-requires-clause-as_many
bound_over-requires-clause-as_many c =
    let items = all_items c.args.selects.now in
    ap length c.requires.numbers ∙ numbers_length (first_uses items) items

pub bound_over-requires-clause-known : goal.bound_over-requires-clause-known
bound_over-requires-clause-known c = c.requires.known
