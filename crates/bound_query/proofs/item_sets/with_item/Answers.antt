use Rattle.std.proofs.Common.{◌≡◌, ◌<◌, ◌+◌, ◌*◌, ◌^◌, ◌%◌, add-one, arith, pow-suc}
use Rattle.std.proofs.lemmas.Nat.{one_shl, or_lt, pow_pos}
use Rattle.bound_query.proofs.GraphOf.{in_with}
use Rattle.bound_query.proofs.item_sets.with_item.Goals as goal

pub returns-clause-members : goal.returns-clause-members
returns-clause-members c = λ a. in_with c.args.set c.args.item a c.requires

pub returns-clause-within : goal.returns-clause-within
returns-clause-within c = λ h.
    let one : 1 * 2 ^ c.args.item % 65536 ≡ 2 ^ c.args.item = one_shl c.args.item 16 c.requires in
    let double : 2 ^ (c.args.item + 1) ≡ 2 ^ c.args.item * 2 = rw add-one (pow-suc 2 c.args.item) in
    let some : 0 < 2 ^ c.args.item = pow_pos c.args.item in
    or_lt (c.args.item + 1) c.args.set (1 * 2 ^ c.args.item % 65536) (omega (arith, h, double)) (omega (arith, one, double, some))
