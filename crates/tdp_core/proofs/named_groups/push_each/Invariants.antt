use Rattle.std.proofs.Common.{◌≡◌, ◌+◌, ◌++◌, take}
use Rattle.std.specs.Vec.{vec_capacity, vec_len}
use Rattle.tdp_core.proofs.named_groups.push_each.Given as goal

abbrev pub invariant-loop-number : goal.invariant-loop-number
invariant-loop-number l =
    (l.list.items ≡ l.fn.list.items ++ take l.number-index l.numbers)
    × (vec_len l.list ≡ vec_len l.fn.list + l.number-index)
    × (vec_capacity l.list ≡ vec_capacity l.fn.list)
