use Rattle.std.proofs.Common.{◌∙◌}
use Rattle.rank_key.proofs.KeyOrder.{key_less_add_right}
use Rattle.rank_laws.proofs.addition.less_joined.Goals as goal

pub returns-clause-monotone : goal.returns-clause-monotone
returns-clause-monotone g c =
    let key = g.R.Rank.key in
    let sums = rw (c.join-first.ensures.sum, c.join-second.ensures.sum) at c.less.ensures.order in
    sums ∙ key_less_add_right g.R.Rank.KEYS 16 (key c.args.a) (key c.args.b) (key c.args.part)
