use Rattle.std.proofs.Common.{◌≡◌, length}
use Rattle.query_select.specs.Lexeme.{lexemes}
use Rattle.query_parse.specs.Reading.{all_at, several_at}
use Rattle.query_parse.proofs.Loops.{with_front}
use Rattle.query_parse.proofs.reader.several.Given as goal

abbrev pub invariant-loop-list : goal.invariant-loop-list
invariant-loop-list g l = with_front l.list.items (all_at g.T.ListReader.next_at (lexemes l.rest)) ≡ several_at g.T.ClauseReader.one_at g.T.ListReader.next_at (lexemes l.tokens)

abbrev pub decreases-loop-list : goal.decreases-loop-list
decreases-loop-list g l = length l.rest
