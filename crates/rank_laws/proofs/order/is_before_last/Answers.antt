use Rattle.std.proofs.Common.{◌∙◌}
use Rattle.rank_key.proofs.KeyOrder.{less_transitive}
use Rattle.rank_laws.proofs.order.is_before_last.Goals as goal

pub returns-clause-transitive : goal.returns-clause-transitive
returns-clause-transitive g c =
    let key = g.R.Rank.key in
    c.less.ensures.order ∙ less_transitive g.R.Rank.KEYS 16 (key c.args.first.now) (key c.args.second.now) (key c.args.third.now) c.requires.first c.requires.second
