use Rattle.std.proofs.Common.{◌≡◌, ◌+◌, ◌==◌, drop, not}
use Rattle.std.specs.List.{prefix_len}
use Rattle.query_select.proofs.scanner.name_len.Given as goal

abbrev pub invariant-loop-i : goal.invariant-loop-i
invariant-loop-i l = prefix_len (λ x. not (x == 34)) l.bytes ≡ l.i + prefix_len (λ x. not (x == 34)) (drop l.i l.bytes)
