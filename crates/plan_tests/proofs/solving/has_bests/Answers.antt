use Rattle.std.proofs.Common.{[], ◌∷◌, pos, arith}
use Rattle.plan_tests.proofs.Held.{one_small, small_row_held}
use Rattle.plan_tests.proofs.solving.has_bests.Goals as goal

pub of_row-ten-requires-clause-held : goal.of_row-ten-requires-clause-held
of_row-ten-requires-clause-held g c = small_row_held g.R.Rank.key g.met.R.Rank.holds g.met.R.Rank.rows_held c.requires.slots c.requires.limit
    (pos 10 ∷ []) 1 2 (one_small (pos 10) (omega arith)) (omega arith) (omega arith)

pub of_row-thirteen-requires-clause-held : goal.of_row-thirteen-requires-clause-held
of_row-thirteen-requires-clause-held g c = small_row_held g.R.Rank.key g.met.R.Rank.holds g.met.R.Rank.rows_held c.requires.slots c.requires.limit
    (pos 13 ∷ []) 0 1 (one_small (pos 13) (omega arith)) (omega arith) (omega arith)
