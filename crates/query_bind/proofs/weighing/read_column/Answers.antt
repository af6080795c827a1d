use Rattle.std.proofs.Common.{◌≡◌, ◌<◌, ◌≤◌, ◌+◌, ◌∙◌, ◌∷◌, ◌++◌, [], sym, subst, length, get_or, map, take, max, nat_abs, None, Some, Option, option_map, inr, arith, rules, ap, SFits, ℕ, ℤ, List}
use mir.Syntax.{w128}
use mir.Val.{of_z, to_z}
use Rattle.std.proofs.lemmas.Int.{to_z-of_z}
use Rattle.std.proofs.lemmas.List.{map-append, take_all, take_more}
use Rattle.anyk_model.specs.Table.{table_at}
use Rattle.query_bind.specs.declared.fault.BindFault.TheVariants as fault
use Rattle.query_bind.specs.Measures.{HasMeasured}
use Rattle.bound_query.specs.Weights.{weights_in}
use Rattle.query_bind.proofs.Measuring.{measured_more, missing_there, most_is, none_missing, weight_at, weights_length}
use Rattle.query_bind.proofs.weighing.read_column.Goals as goal

pub returns-in_default : goal.returns-in_default
returns-in_default c =
    let t = table_at c.args.tables.now c.args.table in
    let ws = weights_in t c.args.column.1 in
    let inside : c.loop-i.i < length ws = omega (arith, weights_length t c.args.column.1, c.len-i-end.ensures.rows) in
    let row : c.loop-i.i < length t.rows = omega (arith, c.len-i-end.ensures.rows) in
    let here : get_or ws c.loop-i.i None ≡ None = weight_at t c.args.column.1 c.loop-i.i row ∙ sym c.weight.ensures ∙ c.in_default.is in
    inr (ap (option_map (λ n. fault.BadWeight (c.args.column.0 + 1) (n + 1) (c.args.column.1 + 1))) (missing_there ws c.loop-i.i c.loop-i.most c.loop-i.invariant.0 inside here))

pub loop-i-preserved : goal.loop-i-preserved
loop-i-preserved c =
    let t = table_at c.args.tables.now c.args.table in
    let ws = weights_in t c.args.column.1 in
    let i = c.loop-i.i in
    let z = c.in-Some.weight in
    let inside : i < length ws = omega (arith, weights_length t c.args.column.1, c.len-i-end.ensures.rows) in
    let row : i < length t.rows = omega (arith, c.len-i-end.ensures.rows) in
    let here : get_or ws i None ≡ Some z = weight_at t c.args.column.1 i row ∙ sym c.weight.ensures ∙ c.in-Some.is in
    let f : SFits w128 z = search rules in
    let ze : to_z w128 (of_z w128 z) ≡ z = simp to_z-of_z in
    let most : max c.loop-i.most (nat_abs z) ≡ c.max-most.result = sym (c.max-most.ensures ∙ ap (max c.loop-i.most) (simp to_z-of_z at c.unsigned_abs.ensures.value)) in
    let some : ℤ → Option ℤ = λ x. Some x in (
      subst (λ (n : ℕ). HasMeasured ws (i + 1) n) most (measured_more ws i c.loop-i.most c.loop-i.invariant.0 z inside here),
      ap (map some) (c.in_ok-push.ensures.items ∙ ap (λ (x : ℤ). c.loop-i.weights.items ++ x ∷ []) ze) ∙ map-append some c.loop-i.weights.items (z ∷ [])
          ∙ ap (λ (l : List (Option ℤ)). l ++ some z ∷ []) c.loop-i.invariant.1 ∙ ap (λ (o : Option ℤ). take i ws ++ o ∷ []) (sym here) ∙ sym (take_more ws i None inside),
    )

pub returns : goal.returns
returns c =
    let t = table_at c.args.tables.now c.args.table in
    let ws = weights_in t c.args.column.1 in
    let past : length ws ≤ c.loop-i.i = omega (arith, weights_length t c.args.column.1, c.len-i-end.ensures.rows) in (
      (c.loop-i.invariant.1 ∙ take_all c.loop-i.i ws past, most_is ws c.loop-i.i c.loop-i.most c.loop-i.invariant.0 past),
      ap (option_map (λ n. fault.BadWeight (c.args.column.0 + 1) (n + 1) (c.args.column.1 + 1))) (none_missing ws c.loop-i.i c.loop-i.most c.loop-i.invariant.0 past),
    )
