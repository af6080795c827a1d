use Rattle.std.proofs.lemmas.Result.{err_from_is_err_and}
use Rattle.query_select.specs.Lexeme.{lexemes}
use Rattle.query_parse.specs.Reading.{several_at}
use Rattle.query_parse.proofs.Adding.{first_added, first_faulty, goes_on_with, shortens_with, ends_with}
use Rattle.query_parse.proofs.Loops.{ends, is_done}
use Rattle.query_parse.proofs.reader.several.Goals as goal

pub returns-in_err-rest : goal.returns-in_err-rest
returns-in_err-rest g c =
    let p = err_from_is_err_and c.from_residual.result c.from_residual.ensures.1 in
    rw (p.1, p.2) (first_faulty (λ r. r.now) c.args.end g.T.ClauseReader.one_at c.read.result c.new-list.result.items c.add.new.list.items g.T.ListReader.next_at (lexemes c.args.tokens.now) c.in_err-rest.field-0.0 c.read.ensures c.in_err-rest.ensures)

pub loop-list-init : goal.loop-list-init
loop-list-init g c =
    first_added (λ r. r.now) c.args.end g.T.ClauseReader.one_at c.read.result c.new-list.result.items c.add.new.list.items g.T.ListReader.next_at (lexemes c.args.tokens.now) c.in_ok-rest.rest c.new-list.ensures.items c.read.ensures c.in_ok-rest.ensures

pub returns-in_err-after : goal.returns-in_err-after
returns-in_err-after g c =
    let p = err_from_is_err_and c.from_residual-in_err-after.result c.from_residual-in_err-after.ensures.1 in
    rw (p.1, p.2) (ends c.requires c.args.end c.in_err-after.field-0.0 c.loop-list.list.items (lexemes c.loop-list.rest.now) (several_at g.T.ClauseReader.one_at g.T.ListReader.next_at (lexemes c.args.tokens.now)) c.in_err-after.ensures c.loop-list.invariant)

pub returns-in_err-rest-2 : goal.returns-in_err-rest-2
returns-in_err-rest-2 g c =
    let p = err_from_is_err_and c.from_residual-in_err-rest-2.result c.from_residual-in_err-rest-2.ensures.1 in
    rw (p.1, p.2) (ends_with (λ r. r.now) c.args.end g.T.ClauseReader.one_at c.read-in-Some.result c.loop-list.list.items c.add-in-Some.new.list.items g.T.ListReader.next_at c.requires c.in-Some.after c.loop-list.rest.now (rw c.in-Some.is at c.in_ok-after.ensures) c.read-in-Some.ensures
    c.in_err-rest-2.field-0.0 (several_at g.T.ClauseReader.one_at g.T.ListReader.next_at (lexemes c.args.tokens.now)) c.in_err-rest-2.ensures c.loop-list.invariant)

pub loop-list-smaller : goal.loop-list-smaller
loop-list-smaller g c =
    shortens_with (λ r. r.now) c.args.end g.T.ClauseReader.one_at c.read-in-Some.result c.loop-list.list.items c.add-in-Some.new.list.items g.T.ListReader.next_at c.requires c.in-Some.after c.loop-list.rest.now (rw c.in-Some.is at c.in_ok-after.ensures) c.read-in-Some.ensures c.in_ok-rest-2.rest c.in_ok-rest-2.ensures

pub loop-list-preserved : goal.loop-list-preserved
loop-list-preserved g c =
    goes_on_with (λ r. r.now) c.args.end g.T.ClauseReader.one_at c.read-in-Some.result c.loop-list.list.items c.add-in-Some.new.list.items g.T.ListReader.next_at c.requires c.in-Some.after c.loop-list.rest.now (rw c.in-Some.is at c.in_ok-after.ensures) c.read-in-Some.ensures
    c.in_ok-rest-2.rest (several_at g.T.ClauseReader.one_at g.T.ListReader.next_at (lexemes c.args.tokens.now)) c.in_ok-rest-2.ensures c.loop-list.invariant

pub returns : goal.returns
returns g c =
    is_done c.requires c.loop-list.list.items (lexemes c.loop-list.rest.now) (several_at g.T.ClauseReader.one_at g.T.ListReader.next_at (lexemes c.args.tokens.now)) (rw c.in_default.is at c.in_ok-after.ensures) c.loop-list.invariant
