use Rattle.std.proofs.Common.{Err, arith, option_map}
use Rattle.std.proofs.lemmas.Result.{IfOk-from_err}
use Rattle.refusals.specs.RefusalReasons.{reason_of}
use Rattle.verdict.specs.AcceptedInput.{queries_in}
use Rattle.verdict.specs.Loading.{are_several, bound_from, loaded_in}
use Rattle.verdict.specs.Stages.{Is, followed}
use Rattle.verdict.proofs.Staging.{pure_found, pure_refused}
use Rattle.verdict.specs.StageResults.{Pure}
use Rattle.command_input.specs.BoundInputs.{IsBoundTo, selects_bound_view}
use Rattle.command_input.proofs.Handing.{handed_with}
use Rattle.command_input.proofs.Best.{found_shaped, item_found, item_refused}
use Rattle.command_input.proofs.Shapes.{keys_none_odd}
use Rattle.command_input.proofs.binding.bound_over.Goals as goal

pub returns-in_err-queries : goal.returns-in_err-queries
returns-in_err-queries c = record {
  bound =
      λ names beside numbers.
      let alias = option_map (λ alias. alias.now) c.args.best_of in
      let selects = c.args.selects.now in
      let tables = c.args.tables.now in
      handed_with (λ r. Pure (IsBoundTo names alias tables selects beside) (selects_bound_view tables beside r)) c.from_residual.result c.in_err-queries.field-0.0 c.from_residual.ensures.1
      (pure_refused (Is (bound_from names tables (are_several selects) 1 selects)) (λ queries. Is (loaded_in alias queries tables beside)) _ (c.in_err-queries.ensures.bound names numbers));
  whole = IfOk-from_err c.from_residual.result _ c.from_residual.ensures.0;
  branches = IfOk-from_err c.from_residual.result _ c.from_residual.ensures.0;
  unnamed = λ _. IfOk-from_err c.from_residual.result _ c.from_residual.ensures.0;
}

pub returns-in_err-best : goal.returns-in_err-best
returns-in_err-best c = record {
  bound =
      λ names beside numbers.
      let alias = option_map (λ alias. alias.now) c.args.best_of in
      let selects = c.args.selects.now in
      let tables = c.args.tables.now in
      let queries = queries_in c.in_ok-queries.queries.items in
      let reason = reason_of c.in_err-best.field-0.0 in
      handed_with (λ r. Pure (IsBoundTo names alias tables selects beside) (selects_bound_view tables beside r)) c.from_residual-in_err-best.result c.in_err-best.field-0.0 c.from_residual-in_err-best.ensures.1
      (pure_found (Is (bound_from names tables (are_several selects) 1 selects)) (λ queries. Is (loaded_in alias queries tables beside)) queries (Err reason) (c.in_ok-queries.ensures.bound names numbers)
      (item_refused queries tables beside alias reason (rw c.deref.ensures.value at c.in_err-best.ensures.best)));
  whole = IfOk-from_err c.from_residual-in_err-best.result _ c.from_residual-in_err-best.ensures.0;
  branches = IfOk-from_err c.from_residual-in_err-best.result _ c.from_residual-in_err-best.ensures.0;
  unnamed = λ _. IfOk-from_err c.from_residual-in_err-best.result _ c.from_residual-in_err-best.ensures.0;
}

pub returns : goal.returns
returns c = record {
  bound =
      λ names beside numbers.
      let queries = queries_in c.in_ok-queries.queries.items in
      followed {a = queries} (c.in_ok-queries.ensures.bound names numbers)
      (item_found queries c.args.tables.now beside (option_map (λ alias. alias.now) c.args.best_of) c.in_ok-best.best (rw c.deref.ensures.value at c.in_ok-best.ensures.best));
  whole =
      λ steps proof kept.
      let queries = queries_in c.in_ok-queries.queries.items in
      let as_many = c.in_ok-queries.ensures.count in
      let some = c.requires.limits.some in
      let few = c.requires.limits.few in
      let best = rw c.deref.ensures.value at c.in_ok-best.ensures.best in
      record {
        some = omega (arith, as_many, some);
        few = omega (arith, as_many, few);
        fits = c.in_ok-queries.ensures.fits;
        keys = keys_none_odd queries (found_shaped (option_map (λ alias. alias.now) c.args.best_of) queries c.in_ok-best.best best);
        item = rw c.deref.ensures.value at c.in_ok-best.ensures.item;
        rules = kept;
      };
  branches = c.in_ok-queries.ensures.count;
  unnamed = c.in_ok-best.ensures.unnamed;
}

pub bind_queries-requires-clause-limits : goal.bind_queries-requires-clause-limits
bind_queries-requires-clause-limits c = c.requires.limits

pub bind_queries-requires-clause-as_many : goal.bind_queries-requires-clause-as_many
bind_queries-requires-clause-as_many c = c.requires.as_many

pub bind_queries-requires-clause-known : goal.bind_queries-requires-clause-known
bind_queries-requires-clause-known c = c.requires.known

pub best_item-requires-clause-some : goal.best_item-requires-clause-some
best_item-requires-clause-some c =
    let as_many = c.in_ok-queries.ensures.count in
    let some = c.requires.limits.some in rw c.deref.ensures.value (omega (arith, as_many, some))

pub best_item-requires-clause-few : goal.best_item-requires-clause-few
best_item-requires-clause-few c =
    let as_many = c.in_ok-queries.ensures.count in
    let few = c.requires.limits.few in rw c.deref.ensures.value (omega (arith, as_many, few))
