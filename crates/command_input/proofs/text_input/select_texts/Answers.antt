use Rattle.std.proofs.Common.{◌≡◌, ◌∙◌, ◌<◌, None, Ok, Err, List, Option, Result, ap, map, length, subst, sym, arith}
use Rattle.std.proofs.lemmas.List.{length-map}
use Rattle.std.proofs.lemmas.Result.{IfOk-from_err}
use Rattle.std.specs.List.{AllByRecursion}
use Rattle.cmd_words.specs.NamedPairs.{named_pair}
use Rattle.refusals.specs.RefusalReasons.{reason_of}
use Rattle.session_script.specs.Script.{unless}
use Rattle.verdict.specs.Loading.{all_items, unknown_table}
use Rattle.verdict.specs.StageResults.{Pure}
use Rattle.verdict.specs.Stages.{Is, followed}
use Rattle.verdict.proofs.Staging.{pure_found, pure_refused}
use Rattle.command_input.specs.Entries.{tables_of}
use Rattle.command_input.specs.InputFiles.{beside_said, sought_view}
use Rattle.command_input.specs.StageViews.{beside_view}
use Rattle.command_input.specs.TextInput.{IsBesideOver, IsBoundOver, IsKnownOver, text_result_view}
use Rattle.command_input.proofs.AllItems.{known_none}
use Rattle.command_input.proofs.BoundQueries.{numbers_length}
use Rattle.command_input.proofs.Handing.{handed_with}
use Rattle.command_input.proofs.TableNumbers.{known_within}
use Rattle.command_input.proofs.text_input.select_texts.Goals as goal

pub returns-in_err-beside : goal.returns-in_err-beside
returns-in_err-beside c = record {
  loaded =
      let sought = sought_view c.args.sought.now in
      let selects = c.args.selects.now in
      let side = c.args.side.now in
      let tables = c.args.tables.now in
      handed_with (λ r. Pure (IsBesideOver sought side tables selects) (text_result_view tables r)) c.from_residual.result c.in_err-beside.field-0.0 c.from_residual.ensures.1
      (pure_refused (Is (beside_said sought.aside side)) (λ beside. IsKnownOver sought tables selects beside) (reason_of c.in_err-beside.field-0.0) c.in_err-beside.ensures.said);
  over = IfOk-from_err c.from_residual.result _ c.from_residual.ensures.0;
  branches = IfOk-from_err c.from_residual.result _ c.from_residual.ensures.0;
  unnamed = λ _. IfOk-from_err c.from_residual.result _ c.from_residual.ensures.0;
}

pub numbers_of-requires : goal.numbers_of-requires
numbers_of-requires c = let same = c.requires.as_many in let most = c.count-few.ensures.limit in let count = c.count-few.ensures.count in omega (arith, same, most, count)

pub returns-in_err-numbers : goal.returns-in_err-numbers
returns-in_err-numbers c = record {
  loaded =
      let sought = sought_view c.args.sought.now in
      let selects = c.args.selects.now in
      let side = c.args.side.now in
      let tables = c.args.tables.now in
      let beside = beside_view c.in_ok-beside.beside in
      let reason = reason_of c.in_err-numbers.field-0.0 in
      handed_with (λ r. Pure (IsBesideOver sought side tables selects) (text_result_view tables r)) c.from_residual-in_err-numbers.result c.in_err-numbers.field-0.0 c.from_residual-in_err-numbers.ensures.1
      (pure_found (Is (beside_said sought.aside side)) (λ beside. IsKnownOver sought tables selects beside) beside (Err reason) c.in_ok-beside.ensures.said
      (pure_refused (Is (unless (unknown_table sought.named (all_items selects)) selects)) (λ known. IsBoundOver sought tables known beside) reason c.in_err-numbers.ensures.known));
  over = IfOk-from_err c.from_residual-in_err-numbers.result _ c.from_residual-in_err-numbers.ensures.0;
  branches = IfOk-from_err c.from_residual-in_err-numbers.result _ c.from_residual-in_err-numbers.ensures.0;
  unnamed = λ _. IfOk-from_err c.from_residual-in_err-numbers.result _ c.from_residual-in_err-numbers.ensures.0;
}

pub bound_over-requires-clause-limits : goal.bound_over-requires-clause-limits
bound_over-requires-clause-limits c = c.requires.limits

pub bound_over-requires-clause-as_many : goal.bound_over-requires-clause-as_many
bound_over-requires-clause-as_many c =
    let sought = sought_view c.args.sought.now in
    ap length (c.deref.ensures.value ∙ c.in_ok-numbers.ensures.numbers) ∙ numbers_length (tables_of sought.named) (all_items c.args.selects.now)

pub bound_over-requires-clause-known : goal.bound_over-requires-clause-known
bound_over-requires-clause-known c =
    let named = (sought_view c.args.sought.now).named in
    let items = all_items c.args.selects.now in
    let as_many : length named ≡ length c.args.tables.now = length-map c.args.sought.now.named.now named_pair ∙ c.requires.as_many in
    rw (c.deref.ensures.value, c.in_ok-numbers.ensures.numbers, ← as_many)
    (known_within named items (known_none named items c.args.selects.now c.in_ok-numbers.ensures.known))

pub returns-in_err-bound : goal.returns-in_err-bound
returns-in_err-bound c = record {
  loaded =
      let sought = sought_view c.args.sought.now in
      let selects = c.args.selects.now in
      let side = c.args.side.now in
      let tables = c.args.tables.now in
      let beside = beside_view c.in_ok-beside.beside in
      let reason = reason_of c.in_err-bound.field-0.0 in
      handed_with (λ r. Pure (IsBesideOver sought side tables selects) (text_result_view tables r)) c.from_residual-in_err-bound.result c.in_err-bound.field-0.0 c.from_residual-in_err-bound.ensures.1
      (pure_found (Is (beside_said sought.aside side)) (λ beside. IsKnownOver sought tables selects beside) beside (Err reason) c.in_ok-beside.ensures.said
      (pure_found (Is (unless (unknown_table sought.named (all_items selects)) selects)) (λ known. IsBoundOver sought tables known beside) selects (Err reason) c.in_ok-numbers.ensures.known
      (c.in_err-bound.ensures.bound (tables_of sought.named) beside (c.deref.ensures.value ∙ c.in_ok-numbers.ensures.numbers))));
  over = IfOk-from_err c.from_residual-in_err-bound.result _ c.from_residual-in_err-bound.ensures.0;
  branches = IfOk-from_err c.from_residual-in_err-bound.result _ c.from_residual-in_err-bound.ensures.0;
  unnamed = λ _. IfOk-from_err c.from_residual-in_err-bound.result _ c.from_residual-in_err-bound.ensures.0;
}

pub returns : goal.returns
returns c = record {
  loaded =
      let sought = sought_view c.args.sought.now in
      let selects = c.args.selects.now in
      let beside = beside_view c.in_ok-beside.beside in
      followed {a = beside} c.in_ok-beside.ensures.said
      (followed {a = selects} c.in_ok-numbers.ensures.known
      (c.in_ok-bound.ensures.bound (tables_of sought.named) beside (c.deref.ensures.value ∙ c.in_ok-numbers.ensures.numbers)));
  over = c.in_ok-bound.ensures.whole _ _ c.in_ok-beside.ensures.rules;
  branches = c.in_ok-bound.ensures.branches;
  unnamed = c.in_ok-bound.ensures.unnamed;
}
