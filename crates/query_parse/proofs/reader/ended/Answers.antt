use Rattle.std.proofs.Common.{◌∙◌, sym}
use Rattle.std.proofs.lemmas.Result.{err_from_is_err_and}
use Rattle.query_select.specs.Lexeme.{lexemes}
use Rattle.query_parse.specs.Reading.{limit_at, some_lexeme}
use Rattle.query_parse.proofs.Columns.{fails_on}
use Rattle.query_parse.proofs.Sections.{ended_as, nothing_more, something_more}
use Rattle.query_parse.proofs.reader.ended.Goals as goal

pub returns-in_err-digits : goal.returns-in_err-digits
returns-in_err-digits g c =
    let p = err_from_is_err_and c.from_residual-in_err-digits.result c.from_residual-in_err-digits.ensures.1 in
    ended_as c.args.end (λ r. lexemes r.now) some_lexeme c.args.read (c.in_ok-thing.thing, c.in_ok-thing.rest) c.from_residual-in_err-digits.result c.in_ok-thing.was
    (rw (p.1, p.2) (fails_on c.args.end c.in_err-digits.field-0.0 (limit_at (lexemes c.in_ok-thing.rest.now)) _ c.in_err-digits.ensures))

pub returns-then-is_empty : goal.returns-then-is_empty
returns-then-is_empty g c =
    ended_as c.args.end (λ r. lexemes r.now) some_lexeme c.args.read (c.in_ok-thing.thing, c.in_ok-thing.rest) _ c.in_ok-thing.was
    (nothing_more c.in_ok-thing.thing (lexemes c.in_ok-thing.rest.now) (lexemes c.in_ok-digits.rest.now) (some_lexeme c.in_ok-digits.digits) c.in_ok-digits.ensures
    (some_lexeme c.optional.result.0) c.optional.result.1.now c.optional.ensures (sym c.is_empty.ensures ∙ c.if-is_empty.true))

pub returns-else-is_empty : goal.returns-else-is_empty
returns-else-is_empty g c =
    let left = something_more c.in_ok-thing.thing (lexemes c.in_ok-thing.rest.now) (lexemes c.in_ok-digits.rest.now) (some_lexeme c.in_ok-digits.digits) c.in_ok-digits.ensures
    (some_lexeme c.optional.result.0) c.optional.result.1.now c.optional.ensures (sym c.is_empty.ensures ∙ c.if-is_empty.false) in
    ended_as c.args.end (λ r. lexemes r.now) some_lexeme c.args.read (c.in_ok-thing.thing, c.in_ok-thing.rest) _ c.in_ok-thing.was (lexemes c.optional.result.1.now, left, c.place.ensures)
