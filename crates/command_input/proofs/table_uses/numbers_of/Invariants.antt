use Rattle.std.proofs.Common.{map}
use Rattle.cmd_words.specs.NamedPairs.{named_pair}
use Rattle.command_input.proofs.TableNumbers.{HasAllNumbers}
use Rattle.command_input.proofs.table_uses.numbers_of.Given as goal

abbrev pub invariant-loop-select : goal.invariant-loop-select
invariant-loop-select l = HasAllNumbers (map named_pair l.named) l.selects l.select-index l.numbers.items
