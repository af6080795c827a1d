use Rattle.plan_tests.proofs.SampleFacts.{sample_shaped, sample_held}
use Rattle.plan_tests.proofs.solving.branching.Goals as goal

pub new-requires : goal.new-requires
new-requires g c = record { shapes = sample_shaped; held = sample_held g.R.Rank.key g.met.R.Rank.holds g.met.R.Rank.rows_held c.requires.slots c.requires.limit g.met.R.Rank.below_rows g.met.R.Rank.rows_fit }
