use Rattle.std.proofs.Common.{◌≡◌, ◌++◌, take}
use Rattle.query_parse.specs.Text.{doubled}
use Rattle.query_parse.proofs.writing.push_doubled.Given as goal

abbrev pub invariant-loop-byte : goal.invariant-loop-byte
invariant-loop-byte l = l.text.items ≡ l.initial.text.items ++ doubled (take l.byte-index l.bytes)
