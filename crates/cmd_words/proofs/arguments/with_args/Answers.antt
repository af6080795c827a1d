use Rattle.std.proofs.Common.{◌∙◌, ap, map}
use Rattle.std.proofs.lemmas.List.{take_all}
use Rattle.clap.specs.Simple.{new_app}
use Rattle.cmd_words.specs.TakenRules.{rule_taken, with_rules}
use Rattle.cmd_words.proofs.Adding.{added}
use Rattle.cmd_words.proofs.arguments.with_args.Goals as goal

pub loop-taken-preserved : goal.loop-taken-preserved
loop-taken-preserved c =
    added _ _ _ _ c.loop-taken.taken-index _ _ c.loop-taken-test.true c.arg.ensures.rule c.loop-taken.invariant (c.in_ok-parser.ensures.shape c.arg.ensures.local)

pub returns : goal.returns
returns c = c.loop-taken.invariant ∙ ap (λ takes. with_rules (new_app c.args.name.now) (map rule_taken takes)) (take_all c.loop-taken.taken-index c.args.takes.now c.loop-taken-test.false)
