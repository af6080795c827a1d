use Rattle.query_select.specs.Lexeme.{lexemes}
use Rattle.query_parse.proofs.Putting.{comma_gives}
use Rattle.query_parse.proofs.reader.FromItems.read_next.Goals as goal

pub returns-in-Some : goal.returns-in-Some
returns-in-Some c =
    comma_gives (λ r. lexemes r.now) c.args.end (c.args.self.now.items.items, c.args.self.now.on.items) c.add.new.list.items (lexemes c.args.tokens.now) (lexemes c.in-Some.rest.now) c.in-Some.ensures.0
    c.item.result c.add.result c.found.result c.in-Some.ensures.1 c.item.ensures c.add.ensures c.found.ensures
