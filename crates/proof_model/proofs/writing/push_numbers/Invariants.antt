use Rattle.std.proofs.Common.{◌≡◌, ◌++◌, take}
use Rattle.proof_model.specs.Writing.{spaced}
use Rattle.proof_model.proofs.writing.push_numbers.Given as goal

abbrev pub invariant-loop-number : goal.invariant-loop-number
invariant-loop-number l = l.line.items ≡ l.initial.line.items ++ spaced (take l.number-index l.numbers)
