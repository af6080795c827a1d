use Rattle.std.proofs.Common.{◌≡◌, ℕ, ◌+◌, ◌≤◌, true, Result, Ok, Err, OnErr, is_ok, ◌∙◌, sym, arith}
use Rattle.std.proofs.lemmas.Result.{IfOk-from_err}
use Rattle.tdp_core.specs.AnswerView.{counted}
use Rattle.tdp_core.proofs.OptionFacts.{at_none, at_some}
use Rattle.cursor_set.proofs.next_answer.fetch.Goals as goal

on_any_err : {T E P : Type 0} (r : Result T E) → P → OnErr r P
on_any_err (Ok x) p = tt
on_any_err (Err e) p = p

within_more : (steps old due share : ℕ) → steps ≤ old + due → due ≤ share → steps ≤ old + share
within_more steps old due share h k = omega arith

counted_within : (calls old : ℕ) → calls ≡ counted old → calls ≤ old + 1
counted_within calls old e = omega arith

pub returns-in_err-answer : goal.returns-in_err-answer
returns-in_err-answer g c =
    record {
      found = IfOk-from_err c.from_residual.result _ c.from_residual.ensures.0;
      end = IfOk-from_err c.from_residual.result _ c.from_residual.ensures.0;
      refused = on_any_err c.from_residual.result (c.reserve.ensures.items, c.in_err-answer.ensures.refused);
      size = c.next.ensures.size;
      calls = counted_within _ _ c.next.ensures.counted;
      cost = c.next.ensures.cost;
      share = within_more _ _ _ _ c.next.ensures.cost (g.met.E.Ranked.due_within c.args.engine.now);
    }

pub returns-in-Some : goal.returns-in-Some
returns-in-Some g c =
    let is : is_ok c.push.result ≡ true = sym c.is_ok-pushed.ensures.value ∙ c.if-prove.false in
    let pushed = rw is at c.push.ensures.items in
    let next = at_some _ _ _ c.in-Some.is c.in_ok-answer.ensures.found in
    record {
      found = (rw c.reserve.ensures.items at pushed, next);
      end = tt;
      refused = tt;
      size = c.next.ensures.size;
      calls = counted_within _ _ c.next.ensures.counted;
      cost = c.next.ensures.cost;
      share = within_more _ _ _ _ c.next.ensures.cost (g.met.E.Ranked.due_within c.args.engine.now);
    }

pub returns-in-None : goal.returns-in-None
returns-in-None g c =
    let e = at_none _ _ c.in-None.is c.in_ok-answer.ensures.end in
    record {
      found = tt;
      end = (c.reserve.ensures.items, e.0, e.1);
      refused = tt;
      size = c.next.ensures.size;
      calls = counted_within _ _ c.next.ensures.counted;
      cost = c.next.ensures.cost;
      share = within_more _ _ _ _ c.next.ensures.cost (g.met.E.Ranked.due_within c.args.engine.now);
    }
