use Rattle.std.proofs.Common.{sym, subst, ◌∙◌}
use Rattle.rank_key.specs.Keys.{KeyFits}
use Rattle.rank_key.proofs.KeyOrder.{add_comm}
use Rattle.rank_laws.proofs.addition.joined_both_ways.Goals as goal

pub join-back-requires : goal.join-back-requires
join-back-requires g c =
    let keys = g.R.Rank.KEYS in let key = g.R.Rank.key in
    subst (KeyFits keys key) (add_comm keys 16 (key c.args.a) (key c.args.b)) c.requires

pub returns-clause-commutative : goal.returns-clause-commutative
returns-clause-commutative g c =
    let keys = g.R.Rank.KEYS in let key = g.R.Rank.key in
    c.join-there.ensures.sum ∙ add_comm keys 16 (key c.args.a) (key c.args.b) ∙ sym c.join-back.ensures.sum
