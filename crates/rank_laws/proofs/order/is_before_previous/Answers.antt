use Rattle.std.proofs.Common.{◌∙◌}
use Rattle.rank_key.proofs.KeyOrder.{less_back}
use Rattle.rank_laws.proofs.order.is_before_previous.Goals as goal

pub returns-clause-asymmetric : goal.returns-clause-asymmetric
returns-clause-asymmetric g c =
    let key = g.R.Rank.key in
    c.less.ensures.order ∙ less_back g.R.Rank.KEYS 16 (key c.args.first.now) (key c.args.second.now) c.requires
