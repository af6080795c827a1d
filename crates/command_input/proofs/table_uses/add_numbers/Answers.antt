use Rattle.std.proofs.Common.{◌≡◌, ◌∙◌, None, Option, map, sym, ap, rules, arith}
use Rattle.std.proofs.lemmas.Result.{IfOk-from_err}
use Rattle.cmd_words.specs.NamedPairs.{named_pair}
use Rattle.refusals.specs.Reason.{Reason}
use Rattle.session_script.specs.Script.{unless}
use Rattle.verdict.specs.Loading.{unknown_table}
use Rattle.verdict.specs.Stages.{Is}
use Rattle.command_input.proofs.Handing.{uses_memory}
use Rattle.command_input.proofs.TableNumbers.{no_numbers, numbers_done, numbers_known, numbers_more, numbers_refused, placed, unplaced}
use Rattle.command_input.proofs.table_uses.add_numbers.Goals as goal

pub loop-item-init : goal.loop-item-init
loop-item-init c = no_numbers (map named_pair c.args.named.now) c.args.items.now c.args.numbers.now.items

pub returns-in_default : goal.returns-in_default
returns-in_default c = record {
  known =
      let named = c.args.named.now in
      let item = c.item-item.result in
      let none : c.place_of.result ≡ None = search rules in
      let missing = unplaced item.table named (rw c.bytes.ensures at (sym none ∙ c.place_of.ensures)) in
      sym (ap (λ (o : Option Reason). unless o c.args.items.now)
      (numbers_refused (map named_pair named) c.args.items.now c.loop-item.item-index _ _ c.loop-item.invariant item c.loop-item-test.true c.item-item.is missing));
  numbers = tt;
}

pub returns-in_err-push : goal.returns-in_err-push
returns-in_err-push c = record {
  known = uses_memory (Is (unless (unknown_table (map named_pair c.args.named.now) c.args.items.now) c.args.items.now)) c.args.items.now c.from_residual.result
      c.from_residual.ensures.1;
  numbers = IfOk-from_err c.from_residual.result _ c.from_residual.ensures.0;
}

pub loop-item-preserved : goal.loop-item-preserved
loop-item-preserved c =
    let named = c.args.named.now in
    let item = c.item-item.result in
    let place = placed item.table named c.in-Some.number (rw c.bytes.ensures at (sym c.in-Some.is ∙ c.place_of.ensures)) in
    rw c.in_ok-push.ensures.items
    (numbers_more (map named_pair named) c.args.items.now c.loop-item.item-index _ _ c.loop-item.invariant item c.loop-item-test.true c.item-item.is c.in-Some.number place.0 place.1)

pub returns : goal.returns
returns c = record {
  known =
      sym (ap (λ (o : Option Reason). unless o c.args.items.now)
      (numbers_known (map named_pair c.args.named.now) c.args.items.now c.loop-item.item-index _ _ c.loop-item.invariant (omega (arith, c.loop-item-test.false))));
  numbers = numbers_done (map named_pair c.args.named.now) c.args.items.now c.loop-item.item-index _ _ c.loop-item.invariant (omega (arith, c.loop-item-test.false));
}
