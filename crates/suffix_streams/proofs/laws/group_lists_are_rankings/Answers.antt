use Rattle.suffix_streams.proofs.Rankings.{group_is_ranking}
use Rattle.suffix_streams.proofs.laws.group_lists_are_rankings.Goals as goal

pub returns : goal.returns
returns g c node group within = group_is_ranking g.R.Rank.KEYS g.R.Rank.key c.args.tree.now node group within
