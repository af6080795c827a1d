use Rattle.std.proofs.Common.{◌+◌, ◌-◌, ◌^◌, pos, negsuc, arith}
use Rattle.std.proofs.lemmas.Int.{ints}
use Rattle.engine_tests.proofs.Held.{packed_row}
use Rattle.engine_tests.proofs.ranks.orders_packed.Goals as goal

pub of_row-later-requires-clause-held : goal.of_row-later-requires-clause-held
of_row-later-requires-clause-held g c = packed_row (pos 8796093022207) (c.loop-slot.slot + 1) 2097151 (omega (arith, ints)) (omega (arith, c.loop-slot-test.true)) (omega arith)

pub of_row-requires-clause-held : goal.of_row-requires-clause-held
of_row-requires-clause-held g c = packed_row (pos 8796093022207) c.loop-slot.slot 1 (omega (arith, ints)) (omega (arith, c.loop-slot-test.true)) (omega arith)

pub of_row-least-requires-clause-held : goal.of_row-least-requires-clause-held
of_row-least-requires-clause-held g c = packed_row (negsuc 8796093022206) 3 1 (omega (arith, ints)) (omega arith) (omega arith)

pub of_row-requires-2-clause-held : goal.of_row-requires-2-clause-held
of_row-requires-2-clause-held g c = packed_row (negsuc 8796093022206) 0 2097151 (omega (arith, ints)) (omega arith) (omega arith)

pub of_row-second-requires-clause-held : goal.of_row-second-requires-clause-held
of_row-second-requires-clause-held g c = packed_row (negsuc 8796093022205) 3 1 (omega (arith, ints)) (omega arith) (omega arith)

pub of_row-negative-requires-clause-held : goal.of_row-negative-requires-clause-held
of_row-negative-requires-clause-held g c = packed_row (negsuc 0) 0 2097151 (omega (arith, ints)) (omega arith) (omega arith)
