use Rattle.std.proofs.Common.{sym, ◌∙◌}
use Rattle.tdp_model.proofs.KeyNumbers.{key_less_below}
use Rattle.rank_key.proofs.KeyOrder.{same_key}
use Rattle.rank_laws.proofs.order.compare.Goals as goal

pub returns-then-less-clause-less : goal.returns-then-less-clause-less
returns-then-less-clause-less g c = λ _.
    let key = g.R.Rank.key in
    key_less_below g.R.Rank.KEYS 16 (key c.args.a.now) (key c.args.b.now) (sym c.less.ensures.order ∙ c.if-less.true)

pub returns-then-less-2-clause-greater : goal.returns-then-less-2-clause-greater
returns-then-less-2-clause-greater g c = λ _.
    let key = g.R.Rank.key in
    key_less_below g.R.Rank.KEYS 16 (key c.args.b.now) (key c.args.a.now) (sym c.less-2.ensures.order ∙ c.if-less-2.true)

pub returns-clause-equal : goal.returns-clause-equal
returns-clause-equal g c = λ _.
    let key = g.R.Rank.key in
    same_key g.R.Rank.KEYS 16 (key c.args.a.now) (key c.args.b.now) (sym c.less.ensures.order ∙ c.if-less.false) (sym c.less-2.ensures.order ∙ c.if-less-2.false)
