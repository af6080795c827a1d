use Rattle.std.proofs.Common.{map}
use Rattle.cmd_words.specs.NamedPairs.{named_pair}
use Rattle.command_input.proofs.AllItems.{HasAllUses}
use Rattle.command_input.proofs.table_uses.uses_of.Given as goal

abbrev pub invariant-loop-select : goal.invariant-loop-select
invariant-loop-select l =
    HasAllUses (map named_pair l.named) l.selects l.select-index (map (λ e. named_pair e.now) l.uses.firsts.items) l.uses.numbers.items
