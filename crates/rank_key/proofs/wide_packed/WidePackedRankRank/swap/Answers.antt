use Rattle.std.proofs.Common.{◌≡◌, ◌+◌, ◌-◌, sym, ap, ◌∙◌, arith}
use Rattle.tdp_model.specs.KeyTuple.{key_add}
use Rattle.rank_key.specs.Packed.{packed_key}
use Rattle.rank_key.specs.WidePacked.{front_of}
use Rattle.rank_key.proofs.KeyOrder.{rest_is}
use Rattle.rank_key.proofs.WideAdding.{front_fits, rests_add, same_numbers, wide_key}
use Rattle.rank_key.proofs.wide_packed.WidePackedRankRank.swap.Goals as goal

pub swap-requires : goal.swap-requires
swap-requires g c = record {
  rest = front_of c.requires.rest;
  whole = ap front_of c.requires.whole;
  rest_fits = front_fits c.requires.rest c.requires.rest_fits;
  swapped_fits = front_fits (key_add 1 16 c.requires.rest (wide_key c.args.new)) c.requires.swapped_fits;
}

pub returns-clause-swapped : goal.returns-clause-swapped
returns-clause-swapped g c = λ other is.
    let left = c.requires.rest_fits.2 in let whole = c.requires.swapped_fits.2 in
    let t = c.args.total in let o = c.args.old in let n = c.args.new in
    let taken : t.rest ≡ left.0.rest + o.rest =
    rests_add (packed_key left.0.front.number) (packed_key o.front.number) (packed_key t.front.number) left.0.rest o.rest t.rest
    (c.requires.whole ∙ ap (λ k. key_add 1 16 k (wide_key o)) (sym left.1)) in
    let put : whole.0.rest ≡ left.0.rest + n.rest =
    rests_add (packed_key left.0.front.number) (packed_key n.front.number) (packed_key whole.0.front.number) left.0.rest n.rest whole.0.rest
    (whole.1 ∙ ap (λ k. key_add 1 16 k (wide_key n)) (sym left.1)) in
    let rest : t.rest - o.rest + n.rest ≡ whole.0.rest = omega (arith, taken, put) in
    let front = c.swap.ensures.swapped (front_of c.requires.rest) (ap front_of c.requires.whole) ∙ sym (ap front_of whole.1) in
    same_numbers (packed_key c.swap.result.number) (packed_key whole.0.front.number) (t.rest - o.rest + n.rest) whole.0.rest front rest
    ∙ whole.1
    ∙ ap (λ k. key_add 1 16 k (wide_key n)) (rest_is 1 16 c.requires.rest other (wide_key o) (sym c.requires.whole ∙ is))
