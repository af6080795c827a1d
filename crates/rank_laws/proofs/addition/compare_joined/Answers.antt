use Rattle.std.proofs.Common.{sym, ◌∙◌}
use Rattle.tdp_model.proofs.KeyNumbers.{key_cancel}
use Rattle.rank_key.proofs.KeyOrder.{below_cancel_right}
use Rattle.rank_laws.proofs.addition.compare_joined.Goals as goal

pub returns-clause-cancels_less : goal.returns-clause-cancels_less
returns-clause-cancels_less g c = λ is.
    let key = g.R.Rank.key in
    below_cancel_right g.R.Rank.KEYS 16 (key c.args.a) (key c.args.b) (key c.args.part) (rw (c.join-first.ensures.sum, c.join-second.ensures.sum) at (c.compare.ensures.less is))

pub returns-clause-cancels_equal : goal.returns-clause-cancels_equal
returns-clause-cancels_equal g c = λ is.
    let key = g.R.Rank.key in
    key_cancel g.R.Rank.KEYS 16 (key c.args.a) (key c.args.b) (key c.args.part) (sym c.join-first.ensures.sum ∙ c.compare.ensures.equal is ∙ c.join-second.ensures.sum)

pub returns-clause-cancels_greater : goal.returns-clause-cancels_greater
returns-clause-cancels_greater g c = λ is.
    let key = g.R.Rank.key in
    below_cancel_right g.R.Rank.KEYS 16 (key c.args.b) (key c.args.a) (key c.args.part) (rw (c.join-first.ensures.sum, c.join-second.ensures.sum) at (c.compare.ensures.greater is))
