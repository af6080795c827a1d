use Rattle.std.proofs.Common.{◌≡◌}
use Rattle.proof_check.proofs.RankSums.{rank_sum}
use Rattle.proof_check.proofs.places.rank_of_places.Given as goal

abbrev pub invariant-loop-at : goal.invariant-loop-at
invariant-loop-at g l = g.R.Rank.key l.rank ≡ rank_sum g.R.Rank.KEYS g.R.Rank.key l.raw l.node l.places l.at
