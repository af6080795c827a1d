use Rattle.std.proofs.Common.{sym, subst, map, length, ℕ, List}
use Rattle.std.proofs.Common.{◌+◌, arith, ◌≡◌}
use Rattle.anyk_model.specs.Query.{Column}
use Rattle.query_bind.specs.Labels.{HasNoPlace, IsFirstPlace, least_in}
use Rattle.bound_query.specs.StoredParts.{column_view}
use Rattle.query_bind.specs.Variables.{HavePlaces}
use Rattle.query_bind.proofs.VariablesFound.{places_more, places_none, places_skip, variable_shown}
use Rattle.query_bind.proofs.variables.places_of.Goals as goal

pub loop-number-init : goal.loop-number-init
loop-number-init c =
    subst (λ (l : List (ℕ × ℕ)). HavePlaces (least_in c.args.classes.now) (map column_view c.args.variables.now) c.args.item c.args.width 0 l) (sym c.new-places.ensures.items)
    (places_none (least_in c.args.classes.now) (map column_view c.args.variables.now) c.args.item c.args.width)

pub loop-number-preserved : goal.loop-number-preserved
loop-number-preserved c =
    let label = least_in c.args.classes.now in
    let variables = map column_view c.args.variables.now in
    let n = c.loop-number.number in
    let here = subst (λ (z : Column). IsFirstPlace label c.args.item c.args.width z c.in-Some.place) (variable_shown c.args.variables.now n (0, 0) c.loop-number-test.true) c.in-Some.ensures in
    subst (λ (l : List (ℕ × ℕ)). HavePlaces label variables c.args.item c.args.width (n + 1) l) (sym c.in_ok-push.ensures.items)
    (places_more label variables c.args.item c.args.width n c.in-Some.place c.loop-number.places.items c.loop-number.invariant here)

pub loop-number-preserved-in_default : goal.loop-number-preserved-in_default
loop-number-preserved-in_default c =
    let label = least_in c.args.classes.now in
    let variables = map column_view c.args.variables.now in
    let n = c.loop-number.number in
    let none = subst (λ (z : Column). HasNoPlace label c.args.item c.args.width z) (variable_shown c.args.variables.now n (0, 0) c.loop-number-test.true) c.in_default.ensures in
    places_skip label variables c.args.item c.args.width n c.loop-number.places.items c.loop-number.invariant none

pub returns : goal.returns
returns c =
    let all : c.loop-number.number ≡ length c.args.variables.now = omega (arith, c.loop-number.auto.number-end, c.loop-number-test.false) in
    subst (λ (n : ℕ). HavePlaces (least_in c.args.classes.now) (map column_view c.args.variables.now) c.args.item c.args.width n c.loop-number.places.items) all c.loop-number.invariant
