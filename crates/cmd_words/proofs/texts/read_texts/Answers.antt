use Rattle.std.proofs.lemmas.Result.{IfOk-from_err}
use Rattle.cmd_words.proofs.Pairing.{no_usage}
use Rattle.cmd_words.proofs.texts.read_texts.Goals as goal

pub returns-in_err-script : goal.returns-in_err-script
returns-in_err-script c = record {
  words = IfOk-from_err c.from_residual-in_err-script.result _ c.from_residual-in_err-script.ensures.0;
  usage = λ h. no_usage c.from_residual-in_err-script.result c.from_residual-in_err-script.ensures.1 h;
}

pub returns-in_err-proof : goal.returns-in_err-proof
returns-in_err-proof c = record {
  words = IfOk-from_err c.from_residual-in_err-proof.result _ c.from_residual-in_err-proof.ensures.0;
  usage = λ h. no_usage c.from_residual-in_err-proof.result c.from_residual-in_err-proof.ensures.1 h;
}

pub returns-in_err-best_of : goal.returns-in_err-best_of
returns-in_err-best_of c = record {
  words = IfOk-from_err c.from_residual-in_err-best_of.result _ c.from_residual-in_err-best_of.ensures.0;
  usage = λ h. no_usage c.from_residual-in_err-best_of.result c.from_residual-in_err-best_of.ensures.1 h;
}

pub returns-in_err-query : goal.returns-in_err-query
returns-in_err-query c = record {
  words = IfOk-from_err c.from_residual-in_err-query.result _ c.from_residual-in_err-query.ensures.0;
  usage = λ h. no_usage c.from_residual-in_err-query.result c.from_residual-in_err-query.ensures.1 h;
}
