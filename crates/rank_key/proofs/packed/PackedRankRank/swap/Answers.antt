use Rattle.std.proofs.Common.{◌≡◌, ◌+ℤ◌, ◌-ℤ◌, sym, ap, subst, ◌∙◌}
use Rattle.std.specs.Prelude.{FitsSigned}
use Rattle.std.specs.Int.{w128}
use Rattle.tdp_model.specs.KeyTuple.{key_add}
use Rattle.rank_key.proofs.KeyOrder.{rest_is}
use Rattle.rank_key.specs.Packed.{packed_key}
use Rattle.rank_key.proofs.Adding.{number_sum, number_rest, read, sum_read, difference_read, number_read, read_fits}
use Rattle.rank_key.proofs.packed.PackedRankRank.swap.Goals as goal

pub overflow_sub-get : goal.overflow_sub-get
overflow_sub-get g c =
    let held = c.requires.rest_fits.2 in
    let t = c.args.total in let o = c.args.old in
    let rest = number_rest t.number o.number held.0.number c.requires.rest t.fits o.fits held.0.fits c.requires.whole held.1 in
    let left = difference_read c.get.result c.get-2.result t.number o.number c.get.ensures c.get-2.ensures t.fits o.fits in
    subst (FitsSigned w128) (rest ∙ sym left) held.0.fits

pub overflow_add-get : goal.overflow_add-get
overflow_add-get g c =
    let held = c.requires.rest_fits.2 in let whole = c.requires.swapped_fits.2 in
    let t = c.args.total in let o = c.args.old in let n = c.args.new in
    let rest = number_rest t.number o.number held.0.number c.requires.rest t.fits o.fits held.0.fits c.requires.whole held.1 in
    let sum = number_sum held.0.number n.number whole.0.number held.0.fits n.fits whole.0.fits (whole.1 ∙ ap (λ k. key_add 1 16 k (packed_key n.number)) (sym held.1)) in
    let left = difference_read c.get.result c.get-2.result t.number o.number c.get.ensures c.get-2.ensures t.fits o.fits in
    let parts = sum_read (read c.get.result -ℤ read c.get-2.result) c.get-3.result held.0.number n.number (left ∙ sym rest) c.get-3.ensures held.0.fits n.fits in
    subst (FitsSigned w128) (sum ∙ sym parts) whole.0.fits

pub invariant_of-result : goal.invariant_of-result
invariant_of-result g c = record { fits = read_fits c.new.result (read (read c.get.result -ℤ read c.get-2.result) +ℤ read c.get-3.result) c.new.ensures }

pub returns-clause-swapped : goal.returns-clause-swapped
returns-clause-swapped g c = λ other is.
    let held = c.requires.rest_fits.2 in let whole = c.requires.swapped_fits.2 in
    let t = c.args.total in let o = c.args.old in let n = c.args.new in
    let rest = number_rest t.number o.number held.0.number c.requires.rest t.fits o.fits held.0.fits c.requires.whole held.1 in
    let sum = number_sum held.0.number n.number whole.0.number held.0.fits n.fits whole.0.fits (whole.1 ∙ ap (λ k. key_add 1 16 k (packed_key n.number)) (sym held.1)) in
    let left = difference_read c.get.result c.get-2.result t.number o.number c.get.ensures c.get-2.ensures t.fits o.fits in
    let parts = sum_read (read c.get.result -ℤ read c.get-2.result) c.get-3.result held.0.number n.number (left ∙ sym rest) c.get-3.ensures held.0.fits n.fits in
    ap packed_key (c.new.ensures ∙ number_read _ whole.0.number (parts ∙ sym sum) whole.0.fits) ∙ whole.1
    ∙ ap (λ k. key_add 1 16 k (packed_key n.number)) (rest_is 1 16 c.requires.rest other (packed_key o.number) (sym c.requires.whole ∙ is))
