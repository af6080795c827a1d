use Rattle.std.proofs.Common.{◌≡◌, ◌<◌, ◌+◌, ◌-◌, length, get_or, nat_eq, sym, ap, subst, ◌∙◌, arith}
use Rattle.std.proofs.Math.ListN.{set}
use Rattle.std.proofs.lemmas.List.{get_or_default, get_or_push, length_push}
use Rattle.std.proofs.lemmas.Result.{IfOk-from_err}
use Rattle.indexmap.specs.IndexSet.{insert_key}
use Rattle.link_index.specs.LinkTable.{IsTableOf}
use Rattle.link_index.proofs.Tables.{goes_last, stays, table_more, table_same}
use Rattle.link_index.proofs.direct.DirectIndex.insert.Goals as goal

pub invariant_of-self : goal.invariant_of-self
invariant_of-self g c =
    let links = c.self.inside.links.items in
    let table = c.reach.new.table.items in
    let link = c.args.link in
    let is_table : IsTableOf table links = table_same c.self.inside.table.items links c.self.invariant table c.reach.ensures.same in
    is_table

pub invariant_of-self-then-after-gt0 : goal.invariant_of-self-then-after-gt0
invariant_of-self-then-after-gt0 g c =
    let links = c.self.inside.links.items in
    let table = c.reach.new.table.items in
    let link = c.args.link in
    let is_table : IsTableOf table links = table_same c.self.inside.table.items links c.self.invariant table c.reach.ensures.same in
    is_table

pub returns-then-after-gt0-clause-links : goal.returns-then-after-gt0-clause-links
returns-then-after-gt0-clause-links g c =
    let links = c.self.inside.links.items in
    let table = c.reach.new.table.items in
    let link = c.args.link in
    let is_table : IsTableOf table links = table_same c.self.inside.table.items links c.self.invariant table c.reach.ensures.same in
    let r = c.index-after.result.now in
    let inside : link < length table = omega (arith, c.in_ok-reach.ensures.within, c.reach.new.table.ok.0) in
    let read : get_or table link 0 ≡ r = get_or_default table link 0 r inside ∙ sym c.index-after.ensures in
    let some : get_or table link 0 ≡ (r - 1) + 1 = omega (arith, read, c.if-after-gt0.true) in
    stays table links is_table link (r - 1) some ∙ ap (λ l. insert_key nat_eq l link) c.self.view_is

pub returns-then-after-gt0-clause-within : goal.returns-then-after-gt0-clause-within
returns-then-after-gt0-clause-within g c =
    let links = c.self.inside.links.items in
    let table = c.reach.new.table.items in
    let link = c.args.link in
    let is_table : IsTableOf table links = table_same c.self.inside.table.items links c.self.invariant table c.reach.ensures.same in
    let r = c.index-after.result.now in
    let inside : link < length table = omega (arith, c.in_ok-reach.ensures.within, c.reach.new.table.ok.0) in
    let read : get_or table link 0 ≡ r = get_or_default table link 0 r inside ∙ sym c.index-after.ensures in
    let some : get_or table link 0 ≡ (r - 1) + 1 = omega (arith, read, c.if-after-gt0.true) in
    (is_table.numbered link (r - 1) some).0

pub invariant_of-self-in_err-push : goal.invariant_of-self-in_err-push
invariant_of-self-in_err-push g c =
    let links = c.self.inside.links.items in
    let table = c.reach.new.table.items in
    let link = c.args.link in
    let is_table : IsTableOf table links = table_same c.self.inside.table.items links c.self.invariant table c.reach.ensures.same in
    subst (IsTableOf table) (sym c.in_err-push.ensures.items) is_table

pub invariant_of-self-2 : goal.invariant_of-self-2
invariant_of-self-2 g c =
    let links = c.self.inside.links.items in
    let table = c.reach.new.table.items in
    let link = c.args.link in
    let is_table : IsTableOf table links = table_same c.self.inside.table.items links c.self.invariant table c.reach.ensures.same in
    let r = c.index-after.result.now in
    let inside : link < length table = omega (arith, c.in_ok-reach.ensures.within, c.reach.new.table.ok.0) in
    let read : get_or table link 0 ≡ r = get_or_default table link 0 r inside ∙ sym c.index-after.ensures in
    let none : get_or table link 0 ≡ 0 = omega (arith, read, c.if-after-gt0.false) in
    let last : length links ≡ c.len-number.result = omega (arith, c.len-number.ensures, c.self.inside.links.ok.0) in
    subst (λ k. IsTableOf (set table link (k + 1)) c.push.new.self.items) last
    (subst (IsTableOf (set table link (length links + 1))) (sym c.in_ok-push.ensures.items) (table_more table links is_table link inside none))

pub returns-clause-links : goal.returns-clause-links
returns-clause-links g c =
    let links = c.self.inside.links.items in
    let table = c.reach.new.table.items in
    let link = c.args.link in
    let is_table : IsTableOf table links = table_same c.self.inside.table.items links c.self.invariant table c.reach.ensures.same in
    let r = c.index-after.result.now in
    let inside : link < length table = omega (arith, c.in_ok-reach.ensures.within, c.reach.new.table.ok.0) in
    let read : get_or table link 0 ≡ r = get_or_default table link 0 r inside ∙ sym c.index-after.ensures in
    let none : get_or table link 0 ≡ 0 = omega (arith, read, c.if-after-gt0.false) in
    c.in_ok-push.ensures.items ∙ goes_last table links is_table link none ∙ ap (λ l. insert_key nat_eq l link) c.self.view_is

pub returns-in_err-reach : goal.returns-in_err-reach
returns-in_err-reach g c =
    let r = c.from_residual.result in
    let e = c.from_residual.ensures.0 in
    record { links = IfOk-from_err r _ e; within = IfOk-from_err r _ e; stands = IfOk-from_err r _ e; cost = c.tick.ensures }

pub returns-in_err-push : goal.returns-in_err-push
returns-in_err-push g c =
    let r = c.from_residual-in_err-push.result in
    let e = c.from_residual-in_err-push.ensures.0 in
    record { links = IfOk-from_err r _ e; within = IfOk-from_err r _ e; stands = IfOk-from_err r _ e; cost = c.tick.ensures }

pub returns-then-after-gt0-clause-cost : goal.returns-then-after-gt0-clause-cost
returns-then-after-gt0-clause-cost g c = c.tick.ensures

pub returns-clause-cost : goal.returns-clause-cost
returns-clause-cost g c = c.tick.ensures

pub returns-clause-within : goal.returns-clause-within
returns-clause-within g c =
    let links = c.self.inside.links.items in
    let last : length links ≡ c.len-number.result = omega (arith, c.len-number.ensures, c.self.inside.links.ok.0) in
    omega (arith, last, ap length c.in_ok-push.ensures.items, length_push links c.args.link)

pub returns-clause-stands : goal.returns-clause-stands
returns-clause-stands g c =
    let links = c.self.inside.links.items in
    let last : length links ≡ c.len-number.result = omega (arith, c.len-number.ensures, c.self.inside.links.ok.0) in
    ap (λ l. get_or l c.len-number.result 0) c.in_ok-push.ensures.items ∙ get_or_push links c.args.link 0 c.len-number.result last

pub returns-then-after-gt0-clause-stands : goal.returns-then-after-gt0-clause-stands
returns-then-after-gt0-clause-stands g c =
    let links = c.self.inside.links.items in
    let table = c.reach.new.table.items in
    let link = c.args.link in
    let is_table : IsTableOf table links = table_same c.self.inside.table.items links c.self.invariant table c.reach.ensures.same in
    let r = c.index-after.result.now in
    let inside : link < length table = omega (arith, c.in_ok-reach.ensures.within, c.reach.new.table.ok.0) in
    let read : get_or table link 0 ≡ r = get_or_default table link 0 r inside ∙ sym c.index-after.ensures in
    let some : get_or table link 0 ≡ (r - 1) + 1 = omega (arith, read, c.if-after-gt0.true) in
    (is_table.numbered link (r - 1) some).1

pub overflow_add-number : goal.overflow_add-number
overflow_add-number g c =
    let last : length c.self.inside.links.items ≡ c.len-number.result = omega (arith, c.len-number.ensures, c.self.inside.links.ok.0) in
    omega (arith, last, ap length c.self.view_is, c.requires)

pub overflow_cast-number : goal.overflow_cast-number
overflow_cast-number g c =
    let last : length c.self.inside.links.items ≡ c.len-number.result = omega (arith, c.len-number.ensures, c.self.inside.links.ok.0) in
    omega (arith, last, ap length c.self.view_is, c.requires)
