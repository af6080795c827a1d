use Rattle.std.proofs.Common.{ap, sym, subst, ◌∙◌}
use Rattle.tdp_model.specs.KeyTuple.{key_add}
use Rattle.rank_key.specs.Keys.{KeyFits}
use Rattle.rank_key.proofs.KeyOrder.{add_none, none_add}
use Rattle.rank_laws.proofs.addition.joined_with_zero.Goals as goal

pub join-right-requires : goal.join-right-requires
join-right-requires g c =
    let keys = g.R.Rank.KEYS in let rank = g.R.Rank.key c.args.rank in
    subst (KeyFits keys g.R.Rank.key) (sym (add_none keys 16 rank) ∙ ap (λ z. key_add keys 16 rank z) (sym c.zero.ensures)) c.requires

pub join-left-requires : goal.join-left-requires
join-left-requires g c =
    let keys = g.R.Rank.KEYS in let rank = g.R.Rank.key c.args.rank in
    subst (KeyFits keys g.R.Rank.key) (sym (none_add keys 16 rank) ∙ ap (λ z. key_add keys 16 z rank) (sym c.zero-2.ensures)) c.requires

pub returns-clause-neutral_right : goal.returns-clause-neutral_right
returns-clause-neutral_right g c =
    let keys = g.R.Rank.KEYS in let rank = g.R.Rank.key c.args.rank in
    c.join-right.ensures.sum ∙ ap (λ z. key_add keys 16 rank z) c.zero.ensures ∙ add_none keys 16 rank

pub returns-clause-neutral_left : goal.returns-clause-neutral_left
returns-clause-neutral_left g c =
    let keys = g.R.Rank.KEYS in let rank = g.R.Rank.key c.args.rank in
    c.join-left.ensures.sum ∙ ap (λ z. key_add keys 16 z rank) c.zero-2.ensures ∙ none_add keys 16 rank
