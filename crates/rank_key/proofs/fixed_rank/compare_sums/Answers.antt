use Rattle.std.proofs.Common.{◌≡◌, false, add-one, sym, ap, ◌∙◌, arith, refl}
use Rattle.std.proofs.lemmas.List.{take_all}
use Rattle.std.specs.Ordering.{int_cmp, is_ne}
use Rattle.std.specs.Cmp.Lexicographic.{slice_cmp}
use Rattle.std.specs.declared.cmp.Ordering.{Ordering}
use Rattle.std.specs.declared.cmp.Ordering.TheVariants.{Less, Equal, Greater}
use Rattle.rank_key.proofs.Comparing.{first_differs, one_more}
use Rattle.rank_key.proofs.fixed_rank.compare_sums.Goals as goal

is_equal : (o : Ordering) → is_ne o ≡ false → o ≡ Equal
is_equal Less h = absurd (search arith)
is_equal Equal h = refl
is_equal Greater h = absurd (search arith)

pub loop-place-init : goal.loop-place-init
loop-place-init c = refl

pub returns-then-is_ne : goal.returns-then-is_ne
returns-then-is_ne c =
    let compared = c.compare-order.ensures ∙ (λ i. int_cmp (c.index-a-place.is i) (c.index-b-place.is i)) in
    compared
    ∙ sym (first_differs c.loop-place.place c.args.a.now c.args.b.now c.index-a-place.result c.index-b-place.result (omega arith) (omega (arith, c.requires)) c.loop-place.invariant
    (ap is_ne (sym compared) ∙ sym c.is_ne.ensures ∙ c.if-is_ne.true))

pub loop-place-preserved : goal.loop-place-preserved
loop-place-preserved c =
    let compared = c.compare-order.ensures ∙ (λ i. int_cmp (c.index-a-place.is i) (c.index-b-place.is i)) in
    rw (add-one c.loop-place.place)
    (one_more c.loop-place.place c.args.a.now c.args.b.now c.index-a-place.result c.index-b-place.result (omega arith) (omega (arith, c.requires)) c.loop-place.invariant
    (sym compared ∙ is_equal c.compare-order.result (sym c.is_ne.ensures ∙ c.if-is_ne.false)))

pub returns : goal.returns
returns c =
    sym c.loop-place.invariant
    ∙ (λ i. slice_cmp int_cmp (take_all c.loop-place.place c.args.a.now (omega arith) i) (take_all c.loop-place.place c.args.b.now (omega (arith, c.requires)) i))
