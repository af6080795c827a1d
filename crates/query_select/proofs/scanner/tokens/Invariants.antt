use Rattle.std.proofs.Common.{◌≡◌, ◌++◌, ◌-◌, ◌≤◌, length, drop}
use Rattle.query_select.specs.Lexeme.{lexemes}
use Rattle.query_select.specs.Tokens.{tokens_from, tokens_of}
use Rattle.query_select.proofs.scanner.tokens.Given as goal

abbrev pub invariant-loop-at : goal.invariant-loop-at
invariant-loop-at l = record {
  within : l.at ≤ length l.bytes;
  so_far : lexemes l.tokens.items ++ tokens_from 0 l.at (drop l.at l.bytes) ≡ tokens_of l.bytes;
}

abbrev pub decreases-loop-at : goal.decreases-loop-at
decreases-loop-at l = length l.bytes - l.at
