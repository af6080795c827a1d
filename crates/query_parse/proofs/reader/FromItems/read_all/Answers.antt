use Rattle.std.proofs.lemmas.Result.{err_from_is_err_and}
use Rattle.query_select.specs.Lexeme.{lexemes}
use Rattle.query_parse.specs.Reading.{item_at, sources_at}
use Rattle.query_parse.proofs.Handed.{faulty, given}
use Rattle.query_parse.proofs.Putting.{first_ends, putting_shortens, rest_begins, rest_done, rest_ends, rest_gives, rest_goes_on, where_read}
use Rattle.query_parse.proofs.Stepping.{condition_steps, item_steps}
use Rattle.query_parse.proofs.reader.FromItems.read_all.Goals as goal

pub returns-in_err-rest-2 : goal.returns-in_err-rest-2
returns-in_err-rest-2 c =
    let p = err_from_is_err_and c.from_residual-in_err-rest-2.result c.from_residual-in_err-rest-2.ensures.1 in
    let from = c.in_ok-rest.ensures in
    let item = item_at (lexemes c.in_ok-rest.rest.now) in
    rw (p.1, p.2) (first_ends (lexemes c.args.tokens.now) (lexemes c.in_ok-rest.rest.now) from.0 from.1 c.args.end c.in_err-rest-2.field-0.0
    (faulty c.args.end (λ x. (x.0, lexemes x.1.now)) c.item.result c.in_err-rest-2.field-0.0 item c.in_err-rest-2.ensures c.item.ensures))

pub loop-after-init : goal.loop-after-init
loop-after-init c =
    let from = c.in_ok-rest.ensures in
    let added = c.in_ok-rest-2.ensures in
    let item = item_at (lexemes c.in_ok-rest.rest.now) in
    rest_begins (lexemes c.args.tokens.now) (lexemes c.in_ok-rest.rest.now) from.0 from.1 added.0 (lexemes c.in_ok-rest-2.rest.now) (c.args.self.now.items.items, c.args.self.now.on.items) c.add.new.list.items
    (λ i. (c.requires.no_items i, c.requires.no_conditions i)) (given c.args.end (λ x. (x.0, lexemes x.1.now)) c.item.result (added.0, c.in_ok-rest-2.rest) item added.1 c.item.ensures) added.2

pub returns-in_err-after : goal.returns-in_err-after
returns-in_err-after c =
    let p = err_from_is_err_and c.from_residual-in_err-after.result c.from_residual-in_err-after.ensures.1 in
    rw (p.1, p.2) (rest_ends (c.loop-after.self.items.items, c.loop-after.self.on.items) (c.read_next.new.self.items.items, c.read_next.new.self.on.items) (lexemes c.loop-after.rest.now) (sources_at (lexemes c.args.tokens.now)) c.loop-after.invariant c.args.end c.in_err-after.field-0.0 c.in_err-after.ensures)

pub loop-after-smaller : goal.loop-after-smaller
loop-after-smaller c =
    putting_shortens item_steps (c.loop-after.self.items.items, c.loop-after.self.on.items) (c.read_next.new.self.items.items, c.read_next.new.self.on.items) c.loop-after.rest.now c.in-Some.after.now (rw c.in-Some.is at c.in_ok-after.ensures)

pub loop-after-preserved : goal.loop-after-preserved
loop-after-preserved c =
    rest_goes_on (c.loop-after.self.items.items, c.loop-after.self.on.items) (c.read_next.new.self.items.items, c.read_next.new.self.on.items) (lexemes c.loop-after.rest.now) (sources_at (lexemes c.args.tokens.now)) c.loop-after.invariant
    (lexemes c.in-Some.after.now) (rw c.in-Some.is at c.in_ok-after.ensures)

pub several-requires : goal.several-requires
several-requires c = condition_steps

pub returns-in-Some-after : goal.returns-in-Some-after
returns-in-Some-after c =
    rest_gives (c.loop-after.self.items.items, c.loop-after.self.on.items) (c.read_next.new.self.items.items, c.read_next.new.self.on.items) (lexemes c.loop-after.rest.now) (sources_at (lexemes c.args.tokens.now)) c.loop-after.invariant
    (λ v. v.items) (λ r. lexemes r.now) c.args.end c.add_all.new.list.items c.several.result c.add_all.result (rw c.in_default.is at c.in_ok-after.ensures)
    (where_read (λ v. v.items) (λ r. lexemes r.now) c.args.end (lexemes c.loop-after.rest.now) (lexemes c.in-Some-after.rest.now) c.in-Some-after.ensures.0 c.several.result c.in-Some-after.ensures.1 c.several.ensures) c.add_all.ensures

pub returns-in-None : goal.returns-in-None
returns-in-None c =
    rest_done (c.loop-after.self.items.items, c.loop-after.self.on.items) (c.read_next.new.self.items.items, c.read_next.new.self.on.items) (lexemes c.loop-after.rest.now) (sources_at (lexemes c.args.tokens.now)) c.loop-after.invariant
    (rw c.in_default.is at c.in_ok-after.ensures) c.in-None.ensures
