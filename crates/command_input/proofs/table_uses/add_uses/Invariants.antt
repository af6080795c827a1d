use Rattle.std.proofs.Common.{map}
use Rattle.cmd_words.specs.NamedPairs.{named_pair}
use Rattle.command_input.proofs.FirstUses.{HasItemUses}
use Rattle.command_input.proofs.table_uses.add_uses.Given as goal

abbrev pub invariant-loop-item : goal.invariant-loop-item
invariant-loop-item l =
    HasItemUses (map named_pair l.named) l.items l.item-index (map (λ e. named_pair e.now) l.initial.uses.firsts.items) l.initial.uses.numbers.items
    (map (λ e. named_pair e.now) l.uses.firsts.items) l.uses.numbers.items
