use Rattle.plan_tests.proofs.ChainTree.{chain_shaped, chain_held, chain_is}
use Rattle.plan_tests.proofs.reduction.chain.Goals as goal

pub new-requires : goal.new-requires
new-requires g c = record { shapes = chain_shaped; held = chain_held g.R.Rank.key g.met.R.Rank.holds g.met.R.Rank.rows_held c.requires.slots c.requires.limit g.met.R.Rank.below_rows g.met.R.Rank.rows_fit }

pub returns-clause-chain : goal.returns-clause-chain
returns-clause-chain g c = rw c.in_ok-tree.ensures chain_is
