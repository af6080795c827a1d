use Rattle.query_select.specs.Lexeme.{lexemes}
use Rattle.query_parse.proofs.Fronts.{passed, stuck}
use Rattle.query_parse.proofs.reader.skip.Goals as goal

pub returns-in-Some : goal.returns-in-Some
returns-in-Some c = (c.in-Some.ensures.0, passed c.args.kind (lexemes c.args.tokens.now) c.in-Some.ensures.0 (lexemes c.in-Some.rest.now) c.in-Some.ensures.1)

pub returns-in-None : goal.returns-in-None
returns-in-None c = (lexemes c.args.tokens.now, stuck c.args.kind (lexemes c.args.tokens.now) c.in-None.ensures, c.place.ensures)
