use Rattle.std.proofs.Common.{◌≡◌, ◌∙◌, ℕ, arith, ◌∷◌, ◌++◌, [], ap, map, replicate, List, ℤ}
use Rattle.std.proofs.lemmas.List.{map-append, replicate_more}
use Rattle.std.proofs.lemmas.Result.{IfOk-from_err}
use Rattle.bound_query.specs.WeighedQuery.{ItemParts}
use Rattle.bound_query.specs.WeighedView.{item_weights_view}
use Rattle.bound_query.specs.declared.bound.ItemWeights.{ItemWeights}
use Rattle.query_bind.proofs.weighing.no_weights.Goals as goal

pub loop-preserved : goal.loop-preserved
loop-preserved c =
    let none : ItemParts = record { cap = 0; parts = [] } in
    let new : ItemWeights = record { cap = 0; parts = c.new-parts.result } in
    ap (map item_weights_view) c.in_ok-push.ensures.items ∙ map-append item_weights_view c.loop.items.items (new ∷ [])
    ∙ ap (λ (l : List ItemParts). l ++ item_weights_view new ∷ []) c.loop.invariant
    ∙ ap (λ (l : List ℤ). let p : ItemParts = record { cap = 0; parts = l } in replicate c.loop.counter none ++ p ∷ []) c.new-parts.ensures.items
    ∙ replicate_more c.loop.counter none

pub loop-init : goal.loop-init
loop-init c = ap (map item_weights_view) c.new-items.ensures.items

pub returns-in_err-push : goal.returns-in_err-push
returns-in_err-push c = IfOk-from_err c.from_residual.result _ c.from_residual.ensures.0

pub returns : goal.returns
returns c =
    let all : c.loop.counter ≡ c.args.count = omega arith in
    c.loop.invariant ∙ ap (λ (n : ℕ). let none : ItemParts = record { cap = 0; parts = [] } in replicate n none) all
