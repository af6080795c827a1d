use Rattle.std.proofs.Common.{◌≡◌, ◌+ℤ◌, sym, ap, subst, ◌∙◌}
use Rattle.std.specs.Prelude.{FitsSigned}
use Rattle.std.specs.Int.{w128}
use Rattle.rank_key.specs.Packed.{packed_key}
use Rattle.rank_key.proofs.Adding.{number_sum, number_read, sum_read, read, read_fits}
use Rattle.rank_key.proofs.packed.PackedRankRank.join.Goals as goal

pub overflow_add-get : goal.overflow_add-get
overflow_add-get g c =
    let held = c.requires.2 in
    let a = c.args.a in let b = c.args.b in
    let sum = number_sum a.number b.number held.0.number a.fits b.fits held.0.fits held.1 in
    let parts = sum_read c.get.result c.get-2.result a.number b.number c.get.ensures c.get-2.ensures a.fits b.fits in
    subst (FitsSigned w128) (sum ∙ sym parts) held.0.fits

pub invariant_of-result : goal.invariant_of-result
invariant_of-result g c = record { fits = read_fits c.new.result (read c.get.result +ℤ read c.get-2.result) c.new.ensures }

pub returns-clause-sum : goal.returns-clause-sum
returns-clause-sum g c =
    let held = c.requires.2 in
    let a = c.args.a in let b = c.args.b in
    let sum = number_sum a.number b.number held.0.number a.fits b.fits held.0.fits held.1 in
    let parts = sum_read c.get.result c.get-2.result a.number b.number c.get.ensures c.get-2.ensures a.fits b.fits in
    ap packed_key (c.new.ensures ∙ number_read _ held.0.number (parts ∙ sym sum) held.0.fits) ∙ held.1
