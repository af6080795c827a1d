use Rattle.std.proofs.Common.{[], ◌∷◌, pos, arith}
use Rattle.plan_tests.proofs.Held.{one_small, small_row_held}
use Rattle.plan_tests.proofs.plans.is_three.Goals as goal

pub of_row-least-requires-clause-held : goal.of_row-least-requires-clause-held
of_row-least-requires-clause-held g c = small_row_held g.R.Rank.key g.met.R.Rank.holds g.met.R.Rank.rows_held c.requires.slots c.requires.limit
    (pos 3 ∷ []) 0 0 (one_small (pos 3) (omega arith)) (omega arith) (omega arith)

pub of_row-past-requires-clause-held : goal.of_row-past-requires-clause-held
of_row-past-requires-clause-held g c = small_row_held g.R.Rank.key g.met.R.Rank.holds g.met.R.Rank.rows_held c.requires.slots c.requires.limit
    (pos 4 ∷ []) 0 0 (one_small (pos 4) (omega arith)) (omega arith) (omega arith)
