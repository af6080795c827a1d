use Rattle.std.proofs.Common.{◌≡◌, ◌<◌, ◌≤◌, ◌+◌, ℕ, [], ◌∷◌, None, get_or, length, length-append, slice_index_or, unwrap_or, sym, ap, subst, ◌∙◌, arith}
use Rattle.std.proofs.lemmas.Result.{IfOk-from_err, IfOk-weaker}
use Rattle.tdp_core.specs.RowGroups.{places_by_number}
use Rattle.proof_check.specs.Levels.{AreGroups}
use Rattle.proof_check.proofs.Counts.{at_list, none_below}
use Rattle.proof_check.proofs.Grouping.{groups_are, numbers_within}
use Rattle.proof_check.proofs.Nothing.{numbers_more}
use Rattle.proof_check.proofs.deviations.rows_by_bound.Goals as goal

-- the place at which a loop over a list ends
at_end : (i n : ℕ) → i ≤ n → n ≤ i → i ≡ n
at_end i n l h = omega (arith, l, h)

few_numbers : (all made i n : ℕ) → all ≡ made → made ≡ i → i ≤ n → n ≤ 4194304 → all ≤ 4194304
few_numbers all made i n same is l few = omega (arith, same, is, l, few)

pub loop-i-init : goal.loop-i-init
loop-i-init c = record { count = ap length c.new-numbers.ensures.items; each = λ k l. absurd (none_below _ l) }

pub loop-i-preserved : goal.loop-i-preserved
loop-i-preserved c =
    let own = c.args.own.now in
    let here : c.unwrap_or-number.result ≡ unwrap_or (slice_index_or own c.loop-i.i None) c.args.count =
    c.unwrap_or-number.ensures ∙ ap (unwrap_or (slice_index_or own c.loop-i.i None)) c.in-Ok.ensures.1 in
    let old = c.loop-i.numbers.items in let one = c.unwrap_or-number.result in
    record {
      count = ap length c.in_ok-push.ensures.items ∙ length-append old (one ∷ []) ∙ ap (λ n. n + 1) c.loop-i.invariant.count;
      each = numbers_more (λ k. unwrap_or (slice_index_or own k None) c.args.count) old c.push.new.self.items one c.loop-i.i
          c.in_ok-push.ensures.items here c.loop-i.invariant.count c.loop-i.invariant.each;
    }

pub of_numbers-requires-clause-numbers : goal.of_numbers-requires-clause-numbers
of_numbers-requires-clause-numbers c =
    let all = at_end _ _ c.loop-i.auto.i-end c.loop-i-test.false in
    subst (λ xs. (k d : ℕ) → k < length xs → get_or xs k d < c.args.count + 1) (sym c.deref.ensures.value)
    (numbers_within c.args.own.now c.args.count c.loop-i.numbers.items (c.loop-i.invariant.count ∙ all)
    (λ k l. c.loop-i.invariant.each k (at_list _ _ _ l all)) c.requires.within)

pub of_numbers-requires-clause-few : goal.of_numbers-requires-clause-few
of_numbers-requires-clause-few c =
    few_numbers _ _ _ _ (ap length c.deref.ensures.value) c.loop-i.invariant.count c.loop-i.auto.i-end c.requires.few

pub returns : goal.returns
returns c =
    let own = c.args.own.now in let count = c.args.count in
    let all = at_end _ _ c.loop-i.auto.i-end c.loop-i-test.false in
    IfOk-weaker c.of_numbers.result (λ groups. groups ≡ places_by_number c.deref.result.now (count + 1)) (AreGroups own count)
    (λ groups e. subst (AreGroups own count)
    (sym (e ∙ ap (λ xs. places_by_number xs (count + 1)) c.deref.ensures.value))
    (groups_are own count c.loop-i.numbers.items (c.loop-i.invariant.count ∙ all) (λ k l. c.loop-i.invariant.each k (at_list _ _ _ l all))))
    c.of_numbers.ensures

pub returns-in_err-push : goal.returns-in_err-push
returns-in_err-push c = IfOk-from_err c.from_residual.result _ c.from_residual.ensures.0

pub returns-in_default : goal.returns-in_default
returns-in_default c = tt

pub overflow_add-count : goal.overflow_add-count
overflow_add-count c = let few = c.in-Ok.ensures.0 in omega (arith, few)
