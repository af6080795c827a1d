use Rattle.std.proofs.Common.{◌≡◌, ◌<◌, ◌+◌, ◌*◌, ◌++◌, ◌∷◌, ◌∙◌, [], List, length, get_or, set, refl, sym, ap, subst, arith}
use Rattle.anyk_model.specs.Query.{Column}
use Rattle.rankings.specs.Order.{IsMember}
use Rattle.bound_query.specs.StoredParts.{column_view, term_view}
use Rattle.query_bind.specs.Tallies.{AreTalliesOnce, columns_of, tally_size, with_one}
use Rattle.query_bind.specs.declared.tallies.Tally.{Tally}
use Rattle.query_bind.proofs.Tallying.{at_most_sum, once_again, once_first, tallies_again, tallies_first}
use Rattle.query_bind.proofs.tallies.count.Goals as goal

pub counted-requires : goal.counted-requires
counted-requires c =
    let ys = c.args.tallies.now.items in
    let j = c.in-Some.place in
    let y = c.index.result.now in
    let inside : j < length ys = omega (arith, c.in-Some.ensures.within, ap length c.as_slice.ensures.value) in
    let below = at_most_sum (tally_size (λ (k : Column). 1)) ys j y inside in
    let is : tally_size (λ (k : Column). 1) y ≡ tally_size (λ (k : Column). 1) (get_or ys j y) = ap (tally_size (λ (k : Column). 1)) c.index.ensures in
    let one : (y.plus + y.minus) * 1 ≡ y.plus + y.minus = omega arith in
    let limit = c.requires in
    omega (arith, below, is, one, limit)

pub returns-in-Some : goal.returns-in-Some
returns-in-Some c = λ terms known.
    let ys = c.args.tallies.now.items in
    let j = c.in-Some.place in
    let y = c.index.result.now in
    let inside : j < length ys = omega (arith, c.in-Some.ensures.within, ap length c.as_slice.ensures.value) in
    let same : column_view (get_or ys j y).column ≡ (term_view c.args.term.now).column =
    ap (λ (l : List Tally). column_view (get_or l j y).column) (sym c.as_slice.ensures.value) ∙ ap column_view (c.in-Some.ensures.there y) in
    let new : c.counted.result ≡ with_one c.args.term.now.minus (get_or ys j y) = c.counted.ensures ∙ ap (with_one c.args.term.now.minus) c.index.ensures in
    subst (λ (z : Tally). AreTalliesOnce (terms ++ term_view c.args.term.now ∷ []) (set ys j z)) (sym new)
    (record { same = tallies_again terms ys (term_view c.args.term.now) known.same j y inside same; once = once_again ys j y c.args.term.now.minus known.once })

pub returns-in_ok-push-in-None : goal.returns-in_ok-push-in-None
returns-in_ok-push-in-None c = λ terms known.
    let ys = c.args.tallies.now.items in
    let fresh : Tally = record { column = c.args.term.now.column; plus = 0; minus = 0 } in
    let pushed = c.in_ok-push-in-None.ensures.items ∙ ap (λ (z : Tally). ys ++ z ∷ []) c.counted-in-None.ensures in
    let absent : IsMember fresh.column (columns_of ys) → ⊥ = subst (λ (l : List Tally). IsMember fresh.column (columns_of l) → ⊥) c.as_slice.ensures.value c.in-None.ensures in
    subst (λ (l : List Tally). AreTalliesOnce (terms ++ term_view c.args.term.now ∷ []) l) (sym pushed)
    (record { same = tallies_first terms ys (term_view c.args.term.now) known.same fresh refl refl refl; once = once_first ys fresh c.args.term.now.minus absent known.once })
