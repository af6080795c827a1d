use Rattle.std.proofs.Common.{◌≡◌, ◌+ℤ◌, ◌*ℤ◌, pos, map, get_or}
use Rattle.std.specs.List.{range_with_len}
use Rattle.query_bind.proofs.weighing.sums_with.Given as goal

abbrev pub invariant-loop-i : goal.invariant-loop-i
invariant-loop-i l = l.sums.items ≡ map (λ i. get_or l.fn.parts i (pos 0) +ℤ l.fn.net *ℤ get_or l.fn.weights i (pos 0)) (range_with_len 0 l.i)
