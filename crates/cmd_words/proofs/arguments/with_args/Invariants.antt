use Rattle.std.proofs.Common.{◌≡◌, map, take}
use Rattle.clap.specs.Simple.{app_of, new_app}
use Rattle.cmd_words.specs.TakenRules.{rule_taken, with_rules}
use Rattle.cmd_words.proofs.arguments.with_args.Given as goal

-- the options and arguments before this one are added
abbrev pub invariant-loop-taken : goal.invariant-loop-taken
invariant-loop-taken l = app_of l.parser ≡ with_rules (new_app l.name) (map rule_taken (take l.taken-index l.takes))
