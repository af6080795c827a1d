use Rattle.std.proofs.Common.{◌∙◌}
use Rattle.std.proofs.lemmas.Result.{IfOk-weaker}
use Rattle.cmd_words.proofs.arguments.parser_for.Goals as goal

pub returns : goal.returns
returns c = IfOk-weaker c.with_args.result _ _ (λ parser h. h ∙ c.taken_by-taking.ensures) c.with_args.ensures
