use Rattle.std.proofs.Common.{ap, sym, subst, ◌∙◌}
use Rattle.tdp_model.specs.KeyTuple.{key_add}
use Rattle.rank_key.specs.Keys.{KeyFits}
use Rattle.rank_key.proofs.KeyOrder.{add_assoc}
use Rattle.rank_laws.proofs.addition.grouped_both_ways.Goals as goal

pub join-from_left-requires : goal.join-from_left-requires
join-from_left-requires g c =
    let keys = g.R.Rank.KEYS in let key = g.R.Rank.key in
    let from = ap (λ z. key_add keys 16 z (key c.args.c)) c.join-left.ensures.sum in
    subst (KeyFits keys key) (sym (add_assoc keys 16 (key c.args.a) (key c.args.b) (key c.args.c)) ∙ sym from) c.requires.whole

pub join-from_right-requires : goal.join-from_right-requires
join-from_right-requires g c =
    let keys = g.R.Rank.KEYS in let key = g.R.Rank.key in
    subst (KeyFits keys key) (ap (λ z. key_add keys 16 (key c.args.a) z) (sym c.join-right.ensures.sum)) c.requires.whole

pub returns-clause-associative : goal.returns-clause-associative
returns-clause-associative g c =
    let keys = g.R.Rank.KEYS in let key = g.R.Rank.key in
    let left = ap (λ z. key_add keys 16 z (key c.args.c)) c.join-left.ensures.sum in
    let right = ap (λ z. key_add keys 16 (key c.args.a) z) c.join-right.ensures.sum in
    c.join-from_left.ensures.sum ∙ left ∙ add_assoc keys 16 (key c.args.a) (key c.args.b) (key c.args.c) ∙ sym right ∙ sym c.join-from_right.ensures.sum
