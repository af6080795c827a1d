use Rattle.std.proofs.Common.{◌≡◌, length}
use Rattle.query_select.specs.Lexeme.{lexemes}
use Rattle.query_parse.specs.Reading.{sources_at}
use Rattle.query_parse.proofs.Putting.{with_rest}
use Rattle.query_parse.proofs.reader.FromItems.read_all.Given as goal

abbrev pub invariant-loop-after : goal.invariant-loop-after
invariant-loop-after l = with_rest (l.self.items.items, l.self.on.items) (lexemes l.rest) ≡ sources_at (lexemes l.tokens)

abbrev pub decreases-loop-after : goal.decreases-loop-after
decreases-loop-after l = length l.rest
