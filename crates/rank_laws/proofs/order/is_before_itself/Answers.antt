use Rattle.std.proofs.Common.{◌∙◌}
use Rattle.rank_key.proofs.KeyOrder.{less_itself}
use Rattle.rank_laws.proofs.order.is_before_itself.Goals as goal

pub returns-clause-irreflexive : goal.returns-clause-irreflexive
returns-clause-irreflexive g c = c.less.ensures.order ∙ less_itself g.R.Rank.KEYS 16 (g.R.Rank.key c.args.rank.now)
