use Rattle.std.proofs.Common.{List, ℕ, ap}
use Rattle.query_select.specs.declared.select.Side.TheVariants.{Constant}
use Rattle.query_select.specs.Lexeme.{lexemes}
use Rattle.query_parse.proofs.reader.constant.Goals as goal

pub returns-in-Ok : goal.returns-in-Ok
returns-in-Ok c = (c.in-Ok.bytes, c.in-Ok.is, ap (λ (b : List ℕ). (Constant b, lexemes c.args.rest.now)) c.from_vec.ensures)
