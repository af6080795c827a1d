use Rattle.std.proofs.Common.{ℕ, ◌+◌, ◌*◌, ◌≤◌, Some, length, ap, sym, arith}
use Rattle.std.proofs.lemmas.Result.{IfOk-from_err}
use Rattle.tdp_core.specs.TreeView.{row_count}
use Rattle.engine_choice.proofs.choice.choose_engine.Goals as goal

one_product : (steps old m n : ℕ) → steps ≤ old + 16 * m * (1 + n) → steps ≤ old + 16 * (m * (1 + n))
one_product steps old m n h = omega arith

pub returns-in_err-part-in-Part : goal.returns-in_err-part-in-Part
returns-in_err-part-in-Part g c = record {
  kind = IfOk-from_err c.from_residual.result _ c.from_residual.ensures.0;
  tree = IfOk-from_err c.from_residual.result _ c.from_residual.ensures.0;
  calls = IfOk-from_err c.from_residual.result _ c.from_residual.ensures.0;
  ranking = IfOk-from_err c.from_residual.result _ c.from_residual.ensures.0;
  cost = c.new.ensures.cost;
}

pub returns-in_ok-part-in-Part : goal.returns-in_ok-part-in-Part
returns-in_ok-part-in-Part g c = record {
  kind = ap (λ k. Some k) (sym c.in-Part.is);
  tree = c.in_ok-part-in-Part.ensures.tree;
  calls = c.in_ok-part-in-Part.ensures.calls;
  ranking = c.in_ok-part-in-Part.ensures.ranking;
  cost = c.new.ensures.cost;
}

pub returns-in_err-rec-in-Rec : goal.returns-in_err-rec-in-Rec
returns-in_err-rec-in-Rec g c = record {
  kind = IfOk-from_err c.from_residual-in_err-rec-in-Rec.result _ c.from_residual-in_err-rec-in-Rec.ensures.0;
  tree = IfOk-from_err c.from_residual-in_err-rec-in-Rec.result _ c.from_residual-in_err-rec-in-Rec.ensures.0;
  calls = IfOk-from_err c.from_residual-in_err-rec-in-Rec.result _ c.from_residual-in_err-rec-in-Rec.ensures.0;
  ranking = IfOk-from_err c.from_residual-in_err-rec-in-Rec.result _ c.from_residual-in_err-rec-in-Rec.ensures.0;
  cost = one_product _ _ (length c.args.tree.now) (row_count c.args.tree.now) c.new-in-Rec.ensures.cost;
}

pub returns-in_ok-rec-in-Rec : goal.returns-in_ok-rec-in-Rec
returns-in_ok-rec-in-Rec g c = record {
  kind = ap (λ k. Some k) (sym c.in-Rec.is);
  tree = c.in_ok-rec-in-Rec.ensures.tree;
  calls = c.in_ok-rec-in-Rec.ensures.calls;
  ranking = c.in_ok-rec-in-Rec.ensures.ranking;
  cost = one_product _ _ (length c.args.tree.now) (row_count c.args.tree.now) c.new-in-Rec.ensures.cost;
}
