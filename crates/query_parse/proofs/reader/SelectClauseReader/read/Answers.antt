use Rattle.std.proofs.Common.{None}
use Rattle.std.proofs.lemmas.Result.{err_from_is_err_and}
use Rattle.query_select.specs.Lexeme.{lexemes}
use Rattle.query_parse.proofs.Sections.{selection_fails, sources_fail, branch_read}
use Rattle.query_parse.proofs.reader.SelectClauseReader.read.Goals as goal

pub returns-in_err-list : goal.returns-in_err-list
returns-in_err-list c =
    let p = err_from_is_err_and c.from_residual.result c.from_residual.ensures.1 in
    rw (p.1, p.2) (selection_fails (lexemes c.args.tokens.now) c.args.end c.in_err-list.field-0.0 c.in_err-list.ensures)

pub returns-in_err-rest : goal.returns-in_err-rest
returns-in_err-rest c =
    let p = err_from_is_err_and c.from_residual-in_err-rest.result c.from_residual-in_err-rest.ensures.1 in
    rw (p.1, p.2) (sources_fail (lexemes c.args.tokens.now) c.in_ok-list.list (lexemes c.in_ok-list.rest.now) c.in_ok-list.ensures c.args.end c.in_err-rest.field-0.0 c.in_err-rest.ensures)

pub returns-in-Ok : goal.returns-in-Ok
returns-in-Ok c =
    branch_read (lexemes c.args.tokens.now) c.in_ok-list.list (lexemes c.in_ok-list.rest.now) c.in_ok-list.ensures (c.read_all.new.self.items.items, c.read_all.new.self.on.items) (lexemes c.in_ok-rest.rest.now) c.in_ok-rest.ensures
    c.in-Ok.keys.items (lexemes c.in-Ok.rest.now) (record { list = c.in_ok-list.list; items = c.from_vec.result; equalities = c.from_vec-in-Ok.result; keys = c.from_vec-in-Ok-2.result; limit = None }) c.in-Ok.ensures
    (λ i. record { list = c.in_ok-list.list; items = c.from_vec.ensures i; equalities = c.from_vec-in-Ok.ensures i; keys = c.from_vec-in-Ok-2.ensures i; limit = None })
