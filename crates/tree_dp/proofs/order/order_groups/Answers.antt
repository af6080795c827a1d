use Rattle.std.proofs.Common.{◌≡◌, ◌+◌, ◌<◌, [], ◌∷◌, All, length, length-append, get_or, refl, inl, inr, sym, ap, subst, ◌∙◌, arith}
use Rattle.std.proofs.Math.ListN.{set}
use Rattle.std.specs.List.Sorted.{IsPermutation}
use Rattle.std.proofs.lemmas.Bool.{cases_lt}
use Rattle.std.proofs.lemmas.List.{length-set, get_or_past}
use Rattle.std.proofs.lemmas.Result.{IfOk-from_err}
use Rattle.std.proofs.lemmas.List.Sorted.{IsPermutation-refl, IsPermutation-trans, All-permutation, length_permutation}
use Rattle.tree_dp.specs.Orders.{key_at, IsHeapOver}
use Rattle.tree_dp.proofs.Grouping.{group_steps, same_members, below_next, without_rest}
use Rattle.tdp_core.proofs.LoopCounts.{at_list, below_count, ended, none_below}
use Rattle.tree_dp.proofs.Leasts.{leasts_pushed}
use Rattle.tree_dp.proofs.order.order_groups.Goals as goal

pub returns-in_err-leasts : goal.returns-in_err-leasts
returns-in_err-leasts g c = record {
  group_count = IfOk-from_err c.from_residual.result _ c.from_residual.ensures.0;
  same_rows = IfOk-from_err c.from_residual.result _ c.from_residual.ensures.0;
  heaps = IfOk-from_err c.from_residual.result _ c.from_residual.ensures.0;
  least_count = IfOk-from_err c.from_residual.result _ c.from_residual.ensures.0;
  leasts = IfOk-from_err c.from_residual.result _ c.from_residual.ensures.0;
  cost = omega arith;
}

pub loop-number-init : goal.loop-number-init
loop-number-init g c = record {
  group_count = refl;
  same_rows = λ m. IsPermutation-refl (get_or c.args.groups.now m []);
  heaps = λ m l. absurd (none_below m l);
  least_count = ap length c.in_ok-leasts.ensures.items;
  leasts = λ m l. absurd (none_below m l);
  counted = omega arith;
}

pub order_group-requires-clause-rows : goal.order_group-requires-clause-rows
order_group-requires-clause-rows g c =
    let n = c.loop-number.number in
    subst (All (λ r. r < length c.args.best.now)) (sym c.group.ensures) (All-permutation (λ r. r < length c.args.best.now) _ _ (c.loop-number.invariant.same_rows n) (c.requires.rows n))

pub order_group-requires-clause-inhabited : goal.order_group-requires-clause-inhabited
order_group-requires-clause-inhabited g c =
    let n = c.loop-number.number in
    omega (arith, ap length c.group.ensures, length_permutation _ _ (c.loop-number.invariant.same_rows n), c.requires.inhabited n (below_count _ _ _ c.loop-number-test.true c.len-number-end.ensures))

pub replace-requires-clause-size : goal.replace-requires-clause-size
replace-requires-clause-size g c = ap length c.deref.ensures.value ∙ length_permutation _ _ c.in_ok-least.ensures.same_rows ∙ ap length c.group.ensures

pub loop-number-preserved : goal.loop-number-preserved
loop-number-preserved g c =
    let groups = c.loop-number.groups in
    let first = c.args.groups.now in
    let n = c.loop-number.number in
    let new = c.order_group.new.rows.items in
    let in_first : n < length first = below_count _ _ _ c.loop-number-test.true c.len-number-end.ensures in
    let within : n < length groups = at_list _ _ _ in_first c.loop-number.invariant.group_count in
    let moved : IsPermutation (get_or groups n []) new = subst (λ xs. IsPermutation xs new) c.group.ensures c.in_ok-least.ensures.same_rows in
    let written : c.replace.new.self ≡ set groups n new = c.replace.ensures ∙ ap (set groups n) c.deref.ensures.value in
    let long : length c.group.result.now ≡ length (get_or first n []) = ap length c.group.ensures ∙ length_permutation _ _ (c.loop-number.invariant.same_rows n) in
    record {
      group_count = ap length written ∙ length-set groups n new ∙ c.loop-number.invariant.group_count;
      same_rows = λ m. subst (λ xs. IsPermutation (get_or first m []) (get_or xs m [])) (sym written) (IsPermutation-trans _ _ _ (c.loop-number.invariant.same_rows m) (same_members groups n new within moved m));
      heaps = λ m l. subst (λ xs. IsHeapOver g.R.Rank.KEYS g.R.Rank.key c.args.best.now (get_or xs m [])) (sym written)
          (below_next (IsHeapOver g.R.Rank.KEYS g.R.Rank.key c.args.best.now) groups n new within c.loop-number.invariant.heaps c.in_ok-least.ensures.heap m l);
      least_count = ap length c.in_ok-push.ensures.items ∙ length-append c.loop-number.leasts.items (c.in_ok-least.least ∷ []) ∙ ap (λ k. k + 1) c.loop-number.invariant.least_count;
      leasts = λ m l. ap (λ xs. key_at g.R.Rank.KEYS g.R.Rank.key xs m) c.in_ok-push.ensures.items
          ∙ leasts_pushed g.R.Rank.KEYS g.R.Rank.key c.args.best.now c.loop-number.leasts.items c.in_ok-least.least groups n new within c.loop-number.invariant.least_count c.loop-number.invariant.leasts
          c.in_ok-least.ensures.least m l
          ∙ ap (λ xs. key_at g.R.Rank.KEYS g.R.Rank.key c.args.best.now (get_or (get_or xs m []) 0 0)) (sym written);
      counted = group_steps first n (length c.group.result.now) c.args.steps.now c.loop-number.steps c.order_group.new.steps in_first long c.loop-number.invariant.counted c.order_group.ensures.cost;
    }

pub returns-in_err-least : goal.returns-in_err-least
returns-in_err-least g c =
    let first = c.args.groups.now in
    let n = c.loop-number.number in
    let long : length c.group.result.now ≡ length (get_or first n []) = ap length c.group.ensures ∙ length_permutation _ _ (c.loop-number.invariant.same_rows n) in
    record {
      group_count = IfOk-from_err c.from_residual-in_err-least.result _ c.from_residual-in_err-least.ensures.0;
      same_rows = IfOk-from_err c.from_residual-in_err-least.result _ c.from_residual-in_err-least.ensures.0;
      heaps = IfOk-from_err c.from_residual-in_err-least.result _ c.from_residual-in_err-least.ensures.0;
      least_count = IfOk-from_err c.from_residual-in_err-least.result _ c.from_residual-in_err-least.ensures.0;
      leasts = IfOk-from_err c.from_residual-in_err-least.result _ c.from_residual-in_err-least.ensures.0;
      cost = without_rest _ _ _ (group_steps first n (length c.group.result.now) c.args.steps.now c.loop-number.steps c.order_group.new.steps (below_count _ _ _ c.loop-number-test.true c.len-number-end.ensures) long c.loop-number.invariant.counted c.order_group.ensures.cost);
    }

pub returns-in_err-push : goal.returns-in_err-push
returns-in_err-push g c =
    let first = c.args.groups.now in
    let n = c.loop-number.number in
    let long : length c.group.result.now ≡ length (get_or first n []) = ap length c.group.ensures ∙ length_permutation _ _ (c.loop-number.invariant.same_rows n) in
    record {
      group_count = IfOk-from_err c.from_residual-in_err-push.result _ c.from_residual-in_err-push.ensures.0;
      same_rows = IfOk-from_err c.from_residual-in_err-push.result _ c.from_residual-in_err-push.ensures.0;
      heaps = IfOk-from_err c.from_residual-in_err-push.result _ c.from_residual-in_err-push.ensures.0;
      least_count = IfOk-from_err c.from_residual-in_err-push.result _ c.from_residual-in_err-push.ensures.0;
      leasts = IfOk-from_err c.from_residual-in_err-push.result _ c.from_residual-in_err-push.ensures.0;
      cost = without_rest _ _ _ (group_steps first n (length c.group.result.now) c.args.steps.now c.loop-number.steps c.order_group.new.steps (below_count _ _ _ c.loop-number-test.true c.len-number-end.ensures) long c.loop-number.invariant.counted c.order_group.ensures.cost);
    }

pub returns : goal.returns
returns g c =
    let all : c.loop-number.number ≡ length c.args.groups.now = ended _ _ c.loop-number.auto.number-end c.loop-number-test.false ∙ c.len-number-end.ensures in
    record {
      group_count = c.loop-number.invariant.group_count;
      same_rows = c.loop-number.invariant.same_rows;
      heaps = λ n. elim (cases_lt n (length c.loop-number.groups)) [
        | inl l ↦ c.loop-number.invariant.heaps n (below_count _ _ _ l (c.loop-number.invariant.group_count ∙ sym all))
        | inr past ↦ λ i some h. absurd (omega (arith, ap length (get_or_past c.loop-number.groups n [] past), h))
      ];
      least_count = c.loop-number.invariant.least_count ∙ all;
      leasts = λ n l. c.loop-number.invariant.leasts n (subst (λ m. n < m) (sym all) l);
      cost = without_rest _ _ _ c.loop-number.invariant.counted;
    }

pub replace-requires-clause-group : goal.replace-requires-clause-group
replace-requires-clause-group g c =
    at_list _ _ _ (below_count _ _ _ c.loop-number-test.true c.len-number-end.ensures) c.loop-number.invariant.group_count
