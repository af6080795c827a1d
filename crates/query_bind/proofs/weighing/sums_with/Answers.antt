use Rattle.std.proofs.Common.{◌≡◌, ◌∙◌, ◌≤◌, ◌+ℤ◌, ◌*ℤ◌, pos, nat_abs, sym, ap, get_or, arith, ℤ, ℕ, List, ◌∷◌, ◌++◌, [], rules, SFits}
use mir.Syntax.{w128}
use mir.Val.{of_z, to_z}
use Rattle.std.proofs.lemmas.Int.{to_z-of_z}
use Rattle.std.proofs.lemmas.List.FromFn.{map-range_with_len_more}
use Rattle.std.proofs.lemmas.Result.{IfOk-from_err}
use Rattle.bound_query.specs.Weights.{most_sum}
use Rattle.query_bind.proofs.weighing.sums_with.Goals as goal

pub part_with-requires-clause-product : goal.part_with-requires-clause-product
part_with-requires-clause-product c =
    let weight = get_or c.args.weights.now c.loop-i.i (pos 0) in
    let wf : SFits w128 weight = search rules in
    let h : nat_abs (c.args.net *ℤ weight) ≤ most_sum = (c.requires c.loop-i.i c.loop-i-test.true).0 in
    rw (to_z-of_z w128 c.args.net c.ranges.net, to_z-of_z w128 weight wf) h

pub part_with-requires-clause-sum : goal.part_with-requires-clause-sum
part_with-requires-clause-sum c =
    let weight = get_or c.args.weights.now c.loop-i.i (pos 0) in
    let part = c.part_at.result in
    let wf : SFits w128 weight = search rules in
    let pf : SFits w128 part = search rules in
    let h : nat_abs (get_or c.args.parts.now c.loop-i.i (pos 0) +ℤ c.args.net *ℤ weight) ≤ most_sum = (c.requires c.loop-i.i c.loop-i-test.true).1 in
    rw (to_z-of_z w128 part pf, to_z-of_z w128 c.args.net c.ranges.net, to_z-of_z w128 weight wf, c.part_at.ensures) h

pub returns-in_err-push : goal.returns-in_err-push
returns-in_err-push c = IfOk-from_err c.from_residual.result _ c.from_residual.ensures.0

pub loop-i-preserved : goal.loop-i-preserved
loop-i-preserved c =
    let i = c.loop-i.i in
    let ws = c.args.weights.now in
    let n = to_z w128 (of_z w128 c.args.net) in
    let f : ℕ → ℤ = λ k. get_or c.args.parts.now k (pos 0) +ℤ n *ℤ get_or ws k (pos 0) in
    let g : SFits w128 c.part_with.result = search rules in
    let re : to_z w128 (of_z w128 c.part_with.result) ≡ c.part_with.result = simp to_z-of_z in
    let pf : SFits w128 c.part_at.result = search rules in
    let p : to_z w128 (of_z w128 c.part_at.result) ≡ c.part_at.result = simp to_z-of_z in
    let wf : SFits w128 (get_or ws i (pos 0)) = search rules in
    let w : to_z w128 (of_z w128 (get_or ws i (pos 0))) ≡ get_or ws i (pos 0) = simp to_z-of_z in
    let value : c.part_with.result ≡ c.part_at.result +ℤ n *ℤ get_or ws i (pos 0) = c.part_with.ensures ∙ (λ j. p j +ℤ n *ℤ w j) in
    let more : c.part_with.result ≡ f i = value ∙ ap (λ (z : ℤ). z +ℤ n *ℤ get_or ws i (pos 0)) c.part_at.ensures in
    c.in_ok-push.ensures.items ∙ ap (λ (z : ℤ). c.loop-i.sums.items ++ z ∷ []) (re ∙ more)
    ∙ ap (λ (l : List ℤ). l ++ f i ∷ []) c.loop-i.invariant ∙ sym (map-range_with_len_more f 0 i i (omega arith))
