use Rattle.std.proofs.Common.{◌-◌, ◌^◌, [], ◌∷◌, pos, negsuc, arith, rules}
use Rattle.rank_key.proofs.HeldKeys.{wide_row_held}
use Rattle.engine_tests.proofs.ranks.orders_lists.Goals as goal

pub of_row-lesser-requires : goal.of_row-lesser-requires
of_row-lesser-requires g c = (search rules, (omega arith, (omega arith, wide_row_held 8 (pos 1 ∷ pos 4 ∷ []) 3 7 (omega arith))))

pub of_row-requires : goal.of_row-requires
of_row-requires g c = (search rules, (omega arith, (omega arith, wide_row_held 8 (pos 1 ∷ pos 5 ∷ []) 0 2 (omega arith))))

pub of_row-last-requires : goal.of_row-last-requires
of_row-last-requires g c = (search rules, (omega arith, (omega arith, wide_row_held 8 (pos 1 ∷ pos 5 ∷ pos 0 ∷ pos 0 ∷ pos 0 ∷ pos 0 ∷ pos 0 ∷ negsuc (2 ^ 127 - 1) ∷ []) 15 1 (omega arith))))

pub of_row-most-requires : goal.of_row-most-requires
of_row-most-requires g c = (search rules, (omega arith, (omega arith, wide_row_held 1 (pos (2 ^ 127 - 1) ∷ []) 0 4294967295 (omega arith))))

pub of_row-requires-3 : goal.of_row-requires-3
of_row-requires-3 g c = (search rules, (omega arith, (omega arith, wide_row_held 1 [] 15 1 (omega arith))))
