use Rattle.std.proofs.Common.{refl}
use Rattle.std.proofs.lemmas.Result.{IfOk-from_err}
use Rattle.engine_choice.proofs.choice.best_engine.Goals as goal

pub returns-in_err-best : goal.returns-in_err-best
returns-in_err-best g c = record {
  kind = IfOk-from_err c.from_residual.result _ c.from_residual.ensures.0;
  tree = IfOk-from_err c.from_residual.result _ c.from_residual.ensures.0;
  calls = IfOk-from_err c.from_residual.result _ c.from_residual.ensures.0;
  best = IfOk-from_err c.from_residual.result _ c.from_residual.ensures.0;
  cost = c.new.ensures.cost;
}

pub returns : goal.returns
returns g c = record {
  kind = refl;
  tree = c.in_ok-best.ensures.tree;
  calls = c.in_ok-best.ensures.calls;
  best = c.in_ok-best.ensures.best;
  cost = c.new.ensures.cost;
}
