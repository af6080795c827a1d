use Rattle.std.proofs.Common.{◌≡◌, ◌<◌, ◌≤◌, ◌+◌, ◌-◌, length, get_or, nat_eq, position, sym, ap, ◌∙◌, arith}
use Rattle.std.proofs.lemmas.List.{get_or_default, get_or_past}
use Rattle.link_index.proofs.Tables.{found, missing}
use Rattle.link_index.proofs.direct.DirectIndex.number_of.Goals as goal

pub returns-then-place-len-clause-number : goal.returns-then-place-len-clause-number
returns-then-place-len-clause-number g c =
    let table = c.self.inside.table.items in
    let links = c.self.inside.links.items in
    let link = c.args.link in
    let long = c.self.inside.table.ok.0 in
    let past : length table ≤ link = omega (arith, c.if-place-len.true, c.len.ensures, long) in
    sym (missing table links c.self.invariant link (get_or_past table link 0 past)) ∙ ap (position (nat_eq link)) c.self.view_is

pub returns-then-after-eq0-clause-number : goal.returns-then-after-eq0-clause-number
returns-then-after-eq0-clause-number g c =
    let table = c.self.inside.table.items in
    let links = c.self.inside.links.items in
    let link = c.args.link in
    let long = c.self.inside.table.ok.0 in
    let r = c.index.result.now in
    let inside : link < length table = omega (arith, c.if-place-len.false, c.len.ensures, long) in
    let read : get_or table link 0 ≡ r = get_or_default table link 0 r inside ∙ sym c.index.ensures in
    let none : get_or table link 0 ≡ 0 = omega (arith, read, c.if-after-eq0.true) in
    sym (missing table links c.self.invariant link none) ∙ ap (position (nat_eq link)) c.self.view_is

pub returns-else-after-eq0-clause-number : goal.returns-else-after-eq0-clause-number
returns-else-after-eq0-clause-number g c =
    let table = c.self.inside.table.items in
    let links = c.self.inside.links.items in
    let link = c.args.link in
    let long = c.self.inside.table.ok.0 in
    let r = c.index.result.now in
    let inside : link < length table = omega (arith, c.if-place-len.false, c.len.ensures, long) in
    let read : get_or table link 0 ≡ r = get_or_default table link 0 r inside ∙ sym c.index.ensures in
    let some : get_or table link 0 ≡ (r - 1) + 1 = omega (arith, read, c.if-after-eq0.false) in
    sym (found table links c.self.invariant link (r - 1) some) ∙ ap (position (nat_eq link)) c.self.view_is
