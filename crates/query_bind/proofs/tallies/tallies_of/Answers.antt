use Rattle.std.proofs.Common.{◌∙◌, ◌∷◌, [], ap, sym, subst, map, take, get_or, false, arith, List}
use Rattle.std.proofs.lemmas.List.{length-map, length-take, map-append, take_all, take_more}
use Rattle.anyk_model.specs.Query.{Column, Term}
use Rattle.bound_query.specs.StoredParts.{term_view}
use Rattle.query_bind.specs.Tallies.{AreTalliesOnce}
use Rattle.bound_query.specs.declared.bound.BoundTerm.{BoundTerm}
use Rattle.query_bind.proofs.Tallying.{ones_length, tallies_none}
use Rattle.query_bind.proofs.tallies.tallies_of.Goals as goal

pub loop-term-init : goal.loop-term-init
loop-term-init c = subst (AreTalliesOnce []) (sym c.new-tallies.ensures.items) (record { same = tallies_none; once = tt })

pub count-requires : goal.count-requires
count-requires c =
    let i = c.loop-term.term-index in
    let terms = map term_view (take i c.args.terms.now) in
    let sum = c.loop-term.invariant.same.size (λ (k : Column). 1) in
    let ones = ones_length terms in
    let size = length-map (take i c.args.terms.now) term_view in
    let cut = length-take i c.args.terms.now in
    let inside = c.loop-term-test.true in
    omega (arith, sum, ones, size, cut, inside)

pub loop-term-preserved : goal.loop-term-preserved
loop-term-preserved c =
    let i = c.loop-term.term-index in
    let terms = c.args.terms.now in
    let d : BoundTerm = record { minus = false; column = (0, 0) } in
    let t = get_or terms i d in
    subst (λ (l : List Term). AreTalliesOnce l c.count.new.tallies.items) (sym (ap (map term_view) (take_more terms i d c.loop-term-test.true) ∙ map-append term_view (take i terms) (t ∷ [])))
    (c.in_ok-count.ensures (map term_view (take i terms)) c.loop-term.invariant)

pub returns : goal.returns
returns c =
    subst (λ (l : List BoundTerm). AreTalliesOnce (map term_view l) c.loop-term.tallies.items)
    (take_all c.loop-term.term-index c.args.terms.now c.loop-term-test.false) c.loop-term.invariant
