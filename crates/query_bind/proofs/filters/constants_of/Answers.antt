use Rattle.std.proofs.Common.{◌≡◌, ◌≤◌, length, arith, ◌+◌, ◌∙◌, sym, ap, subst, map, take, ◌++◌, ◌∷◌, [], ℕ, List}
use Rattle.std.proofs.lemmas.List.{map-append, take_all}
use Rattle.std.proofs.lemmas.Result.{IfOk-from_err}
use Rattle.anyk_model.specs.Query.{Column, Equality, of_column, of_constant}
use Rattle.bound_query.specs.FilterViews.{constant_view}
use Rattle.query_bind.specs.Filters.{HaveConstants}
use Rattle.query_bind.specs.Labels.{HasNoPlace, IsFirstPlace, least_in}
use Rattle.bound_query.specs.StoredParts.{column_view, equality_view, side_view}
use Rattle.rankings.specs.Order.{IsMember}
use Rattle.bound_query.specs.declared.bound.BoundEquality.{BoundEquality}
use Rattle.bound_query.specs.declared.filters.Constant.{Constant}
use Rattle.query_bind.proofs.Filtering.{constants_again, constants_more, constants_skip, equalities_more, listed_member}
use Rattle.query_bind.proofs.filters.constants_of.Goals as goal

pub loop-equality-preserved-in_default : goal.loop-equality-preserved-in_default
loop-equality-preserved-in_default c =
    let label = least_in c.args.classes.now in
    let i = c.loop-equality.equality-index in
    let es = c.args.equalities.now in
    let e = c.equality-item.result in
    let list = map constant_view c.loop-equality.constants.items in
    let column : side_view e.right ≡ of_column (column_view c.in_default.field-0) = ap side_view c.in_default.is in
    subst (λ (l : List Equality). HaveConstants label c.args.item c.args.width l list) (equalities_more es i e c.loop-equality-test.true c.equality-item.is)
    (constants_skip label c.args.item c.args.width (map equality_view (take i es)) (equality_view e) list c.loop-equality.invariant
    (λ bytes is. absurd (let clash : of_column (column_view c.in_default.field-0) ≡ of_constant bytes = sym column ∙ is in cc)))

pub loop-equality-preserved-in_default-first_place : goal.loop-equality-preserved-in_default-first_place
loop-equality-preserved-in_default-first_place c =
    let label = least_in c.args.classes.now in
    let i = c.loop-equality.equality-index in
    let es = c.args.equalities.now in
    let e = c.equality-item.result in
    let list = map constant_view c.loop-equality.constants.items in
    let none = subst (λ (z : Column). HasNoPlace label c.args.item c.args.width z) c.least_of-least.ensures c.in_default-first_place.ensures in
    subst (λ (l : List Equality). HaveConstants label c.args.item c.args.width l list) (equalities_more es i e c.loop-equality-test.true c.equality-item.is)
    (constants_skip label c.args.item c.args.width (map equality_view (take i es)) (equality_view e) list c.loop-equality.invariant (λ bytes is. none))

pub loop-equality-preserved-then-is_listed : goal.loop-equality-preserved-then-is_listed
loop-equality-preserved-then-is_listed c =
    let label = least_in c.args.classes.now in
    let i = c.loop-equality.equality-index in
    let es = c.args.equalities.now in
    let e = c.equality-item.result in
    let xs = c.loop-equality.constants.items in
    let p = c.in-Some.place in
    let bytes = c.in-Constant.bytes in
    let constant : side_view e.right ≡ of_constant bytes = ap side_view c.in-Constant.is in
    let here = subst (λ (z : Column). IsFirstPlace label c.args.item c.args.width z p) c.least_of-least.ensures c.in-Some.ensures in
    let listed = listed_member p c.bytes.result.now c.as_slice.result.now (sym c.is_listed.ensures ∙ c.if-is_listed.true) in
    let there : IsMember (p, bytes) (map constant_view xs) =
    subst (λ (b : List ℕ). IsMember (p, b) (map constant_view xs)) c.bytes.ensures
    (subst (λ (l : List Constant). IsMember (p, c.bytes.result.now) (map constant_view l)) c.as_slice.ensures.value listed) in
    subst (λ (l : List Equality). HaveConstants label c.args.item c.args.width l (map constant_view xs))
    (equalities_more es i e c.loop-equality-test.true c.equality-item.is)
    (constants_again label c.args.item c.args.width (map equality_view (take i es)) (equality_view e) bytes p (map constant_view xs) c.loop-equality.invariant constant here there)

pub loop-equality-preserved : goal.loop-equality-preserved
loop-equality-preserved c =
    let label = least_in c.args.classes.now in
    let i = c.loop-equality.equality-index in
    let es = c.args.equalities.now in
    let e = c.equality-item.result in
    let list = map constant_view c.loop-equality.constants.items in
    let p = c.in-Some.place in
    let bytes = c.from_vec-bytes.result in
    let copied : bytes ≡ c.in-Constant.bytes = c.from_vec-bytes.ensures ∙ c.in_ok-copy.ensures.items ∙ c.bytes-in-loop-equality.ensures in
    let constant : side_view e.right ≡ of_constant bytes = ap side_view c.in-Constant.is ∙ ap of_constant (sym copied) in
    let here = subst (λ (z : Column). IsFirstPlace label c.args.item c.args.width z p) c.least_of-least.ensures c.in-Some.ensures in
    let pushed : map constant_view c.push.new.self.items ≡ list ++ (p, bytes) ∷ [] =
    ap (map constant_view) c.in_ok-push.ensures.items ∙ map-append constant_view c.loop-equality.constants.items (record { place = p; bytes = bytes } ∷ []) in
    subst (λ (l : List (ℕ × List ℕ)). HaveConstants label c.args.item c.args.width (map equality_view (take (i + 1) es)) l) (sym pushed)
    (subst (λ (l : List Equality). HaveConstants label c.args.item c.args.width l (list ++ (p, bytes) ∷ [])) (equalities_more es i e c.loop-equality-test.true c.equality-item.is)
    (constants_more label c.args.item c.args.width (map equality_view (take i es)) (equality_view e) bytes p list c.loop-equality.invariant constant here))

pub returns-in_err-copy : goal.returns-in_err-copy
returns-in_err-copy c = IfOk-from_err c.from_residual.result _ c.from_residual.ensures.0

pub returns-in_err-push : goal.returns-in_err-push
returns-in_err-push c = IfOk-from_err c.from_residual-in_err-push.result _ c.from_residual-in_err-push.ensures.0

pub returns : goal.returns
returns c =
    let past : length c.args.equalities.now ≤ c.loop-equality.equality-index = omega arith in
    subst (λ (es : List BoundEquality). HaveConstants (least_in c.args.classes.now) c.args.item c.args.width (map equality_view es) (map constant_view c.loop-equality.constants.items))
    (take_all c.loop-equality.equality-index c.args.equalities.now past) c.loop-equality.invariant
