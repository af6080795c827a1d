use Rattle.std.proofs.Common.{map}
use Rattle.cmd_words.specs.NamedPairs.{named_pair}
use Rattle.command_input.proofs.TableNumbers.{HasItemNumbers}
use Rattle.command_input.proofs.table_uses.add_numbers.Given as goal

abbrev pub invariant-loop-item : goal.invariant-loop-item
invariant-loop-item l = HasItemNumbers (map named_pair l.named) l.items l.item-index l.initial.numbers.items l.numbers.items
