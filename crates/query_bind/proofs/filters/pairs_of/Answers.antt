use Rattle.std.proofs.Common.{◌≡◌, ◌+◌, sym, subst, List, ℕ, arith}
use Rattle.std.proofs.lemmas.Result.{IfOk-from_err}
use Rattle.anyk_model.specs.Query.{Column}
use Rattle.query_bind.specs.Filters.{HavePairs}
use Rattle.query_bind.specs.Labels.{HasNoPlace, IsFirstPlace, least_in}
use Rattle.query_bind.proofs.Filtering.{pairs_more, pairs_none, pairs_skip}
use Rattle.query_bind.proofs.filters.pairs_of.Goals as goal

pub loop-place-preserved-in_default : goal.loop-place-preserved-in_default
loop-place-preserved-in_default c =
    pairs_skip (least_in c.args.classes.now) c.args.item c.loop-place.place c.loop-place.pairs.items c.loop-place.invariant
    (subst (λ (z : Column). HasNoPlace (least_in c.args.classes.now) c.args.item c.loop-place.place z) c.least_of-least.ensures c.in_default.ensures)

pub loop-place-preserved : goal.loop-place-preserved
loop-place-preserved c =
    subst (λ (l : List (ℕ × ℕ)). HavePairs (least_in c.args.classes.now) c.args.item (c.loop-place.place + 1) l) (sym c.in_ok-push.ensures.items)
    (pairs_more (least_in c.args.classes.now) c.args.item c.loop-place.place c.in-Some.first c.loop-place.pairs.items c.loop-place.invariant
    (subst (λ (z : Column). IsFirstPlace (least_in c.args.classes.now) c.args.item c.loop-place.place z c.in-Some.first) c.least_of-least.ensures c.in-Some.ensures))

pub loop-place-init : goal.loop-place-init
loop-place-init c =
    subst (λ (l : List (ℕ × ℕ)). HavePairs (least_in c.args.classes.now) c.args.item 0 l) (sym c.new-pairs.ensures.items) (pairs_none (least_in c.args.classes.now) c.args.item)

pub returns-in_err-push : goal.returns-in_err-push
returns-in_err-push c = IfOk-from_err c.from_residual.result _ c.from_residual.ensures.0

pub returns : goal.returns
returns c =
    let all : c.loop-place.place ≡ c.args.width = omega (arith, c.loop-place.auto.place-end, c.loop-place-test.false) in
    subst (λ (n : ℕ). HavePairs (least_in c.args.classes.now) c.args.item n c.loop-place.pairs.items) all c.loop-place.invariant
