use Rattle.std.proofs.lemmas.Result.{err_from_is_err_and}
use Rattle.query_select.specs.Lexeme.{lexemes}
use Rattle.query_parse.proofs.Parts.{alias_fails, item_read}
use Rattle.query_parse.proofs.reader.item.Goals as goal

pub returns : goal.returns
returns c =
    item_read (lexemes c.args.tokens.now) (lexemes c.in_ok-table.rest.now) c.in_ok-table.table c.in_ok-table.ensures (lexemes c.in_ok-alias.rest.now) c.in_ok-alias.alias _ c.in_ok-alias.ensures
    (λ i. record { table = c.in_ok-table-2.ensures i; alias = c.in_ok-alias-2.ensures i; at = c.in_ok-table.table.at })

pub returns-in_err-alias : goal.returns-in_err-alias
returns-in_err-alias c =
    let p = err_from_is_err_and c.from_residual-in_err-alias.result c.from_residual-in_err-alias.ensures.1 in
    rw (p.1, p.2) (alias_fails (lexemes c.args.tokens.now) (lexemes c.in_ok-table.rest.now) c.in_ok-table.table c.in_ok-table.ensures c.args.end c.in_err-alias.field-0.0 c.in_err-alias.ensures)
