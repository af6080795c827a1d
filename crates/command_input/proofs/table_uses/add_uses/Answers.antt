use Rattle.std.proofs.Common.{◌≡◌, ◌∙◌, None, Option, map, option_map, sym, ap, rules, arith}
use Rattle.std.proofs.lemmas.List.{length-map}
use Rattle.std.proofs.lemmas.Result.{IfOk-from_err}
use Rattle.cmd_words.specs.NamedPairs.{named_pair}
use Rattle.refusals.specs.Reason.{Reason}
use Rattle.session_script.specs.Script.{unless}
use Rattle.verdict.specs.Loading.{unknown_table}
use Rattle.verdict.specs.Stages.{Is}
use Rattle.command_input.proofs.Handing.{uses_memory}
use Rattle.command_input.proofs.FirstUses.{found_entry, found_table, items_end, items_known, items_more, items_none, items_used, none_file, number_shown}
use Rattle.command_input.proofs.table_uses.add_uses.Goals as goal

pub returns-in_default : goal.returns-in_default
returns-in_default c = record {
  known =
      let named = c.args.named.now in
      let item = c.item-item.result in
      let none : c.entry_of.result ≡ None = search rules in
      let missing = none_file item.table named (rw c.bytes.ensures at (sym c.entry_of.ensures ∙ ap (option_map (λ e. e.now)) none)) in
      let unknown = items_end (map named_pair named) c.args.items.now c.loop-item.item-index _ _ _ _ item c.loop-item-test.true c.item-item.is missing c.loop-item.invariant in
      sym (ap (λ (o : Option Reason). unless o c.args.items.now) unknown);
  used = λ earlier used. tt;
}

pub returns-in_err-number : goal.returns-in_err-number
returns-in_err-number c = record {
  known = uses_memory (Is (unless (unknown_table (map named_pair c.args.named.now) c.args.items.now) c.args.items.now)) c.args.items.now c.from_residual.result c.from_residual.ensures.1;
  used = λ earlier used. IfOk-from_err c.from_residual.result _ c.from_residual.ensures.0;
}

pub returns-in_err-push : goal.returns-in_err-push
returns-in_err-push c = record {
  known = uses_memory (Is (unless (unknown_table (map named_pair c.args.named.now) c.args.items.now) c.args.items.now)) c.args.items.now c.from_residual-in_err-push.result
      c.from_residual-in_err-push.ensures.1;
  used = λ earlier used. IfOk-from_err c.from_residual-in_err-push.result _ c.from_residual-in_err-push.ensures.0;
}

pub loop-item-init : goal.loop-item-init
loop-item-init c = items_none (map named_pair c.args.named.now) c.args.items.now (map (λ e. named_pair e.now) c.args.uses.now.firsts.items) c.args.uses.now.numbers.items

pub loop-item-preserved : goal.loop-item-preserved
loop-item-preserved c =
    let named = c.args.named.now in
    let item = c.item-item.result in
    let entry = c.in-Some.entry.now in
    let some = rw c.bytes.ensures at (sym c.entry_of.ensures ∙ ap (option_map (λ e. e.now)) c.in-Some.is) in
    rw c.in_ok-push.ensures.items
    (items_more (map named_pair named) c.args.items.now c.loop-item.item-index _ _ _ _ item _ (named_pair entry) c.in_ok-number.number c.loop-item-test.true c.item-item.is
    (found_table item.table named entry some) (found_entry item.table named entry some) c.in_ok-number.ensures.firsts
    (c.in_ok-number.ensures.number ∙ sym (number_shown (λ e. named_pair e.now) c.number_of.new.firsts.items (named_pair entry).0)) c.loop-item.invariant)

pub returns : goal.returns
returns c = record {
  known =
      sym (ap (λ (o : Option Reason). unless o c.args.items.now)
      (items_known (map named_pair c.args.named.now) c.args.items.now c.loop-item.item-index _ _ _ _ (omega (arith, c.loop-item-test.false)) c.loop-item.invariant));
  used = items_used (map named_pair c.args.named.now) c.args.items.now c.loop-item.item-index _ _ _ _ (omega (arith, c.loop-item-test.false)) c.loop-item.invariant;
}

pub number_of-requires : goal.number_of-requires
number_of-requires c =
    let few = c.loop-item.invariant.few in
    let before = length-map c.args.uses.now.firsts.items (λ e. named_pair e.now) in
    let now = length-map c.loop-item.uses.firsts.items (λ e. named_pair e.now) in
    let room = c.requires in
    omega (arith, few, before, now, room, c.loop-item-test.true)
