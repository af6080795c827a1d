use Rattle.std.proofs.Common.{◌∙◌, ◌<◌, ℕ, List, length, ap, subst, sym, arith}
use Rattle.std.specs.List.{AllByRecursion}
use Rattle.command_input.specs.Limits.{IsWithinLimits}
use Rattle.command_input.proofs.Handing.{handed_on}
use Rattle.command_input.proofs.BoundQueries.{IsBinding, all_take, binding_more, each_end, each_refused, each_stopped, enough, no_queries, own_many}
use Rattle.command_input.proofs.FirstUses.{all_at}
use Rattle.command_input.proofs.binding.bind_each.Goals as goal

pub loop-select-init : goal.loop-select-init
loop-select-init c =
    subst (IsBinding c.args.selects.now c.args.tables.now c.args.which.now 0 c.args.which.now) (sym c.requires.none)
    (no_queries c.args.selects.now c.args.tables.now c.args.which.now c.requires.as_many c.requires.known)

pub loop-select-preserved : goal.loop-select-preserved
loop-select-preserved c =
    binding_more c.args.selects.now c.args.tables.now c.loop-select.select-index c.select-item.result c.loop-select.rest.now c.loop-select.queries.items c.loop-select-test.true
    c.select-item.is c.args.which.now c.loop-select.invariant
    c.split_at.result.0.now c.split_at.result.1.now c.in_ok-query.query _ (rw c.as_slice.ensures at c.split_at.ensures.front)
    (rw c.as_slice.ensures at c.split_at.ensures.back) c.in_ok-query.ensures.query c.in_ok-query.ensures.sound c.in_ok-query.ensures.fits c.in_ok-push.ensures.items

pub split_at-requires : goal.split_at-requires
split_at-requires c =
    rw c.as_slice.ensures
    (enough c.args.selects.now c.args.tables.now c.loop-select.select-index c.select-item.result c.loop-select.rest.now c.loop-select.queries.items c.loop-select-test.true
    c.select-item.is c.loop-select.invariant.so_far)

pub bind-requires : goal.bind-requires
bind-requires c =
    let selects = c.args.selects.now in
    let i = c.loop-select.select-index in
    let select = c.select-item.result in
    let known = c.loop-select.invariant.so_far in
    let own = own_many selects c.args.tables.now i select c.loop-select.rest.now c.loop-select.queries.items c.loop-select-test.true c.select-item.is known in
    let front = rw c.as_slice.ensures at c.split_at.ensures.front in
    let limits = subst IsWithinLimits (sym c.select-item.is) (all_at IsWithinLimits selects i select c.loop-select-test.true c.requires.limits.each) in
    let P : List ℕ → Type 0 = AllByRecursion (λ t. t < length c.args.tables.now) in
    record {
      some = limits.some;
      items = limits.items;
      keys = limits.keys;
      tables = ap length front ∙ own;
      known = subst P (sym front) (all_take (λ t. t < length c.args.tables.now) (length select.items) c.loop-select.rest.now known.known);
    }

pub returns-in_err-query : goal.returns-in_err-query
returns-in_err-query c =
    let e = handed_on c.from_residual.result c.in_err-query.field-0.0 c.from_residual.ensures.1 in
    rw e (each_refused c.args.selects.now c.args.tables.now c.loop-select.select-index c.select-item.result c.loop-select.rest.now c.loop-select.queries.items c.loop-select-test.true
    c.select-item.is c.args.which.now c.loop-select.invariant c.split_at.result.0.now c.in_err-query.field-0.0 (rw c.as_slice.ensures at c.split_at.ensures.front) c.in_err-query.ensures.fault)

pub returns-in_err-push : goal.returns-in_err-push
returns-in_err-push c =
    each_stopped c.args.selects.now c.args.tables.now c.loop-select.select-index c.select-item.result c.loop-select.rest.now c.loop-select.queries.items c.loop-select-test.true
    c.select-item.is c.args.which.now c.loop-select.invariant c.from_residual-in_err-push.result c.push.new.self.items c.from_residual-in_err-push.ensures.1 c.in_err-push.ensures.items

pub returns : goal.returns
returns c =
    each_end c.args.selects.now c.args.tables.now c.args.which.now c.loop-select.select-index c.loop-select.rest.now c.loop-select.queries.items c.loop-select-test.false (omega arith)
    c.loop-select.invariant
