use Rattle.std.proofs.Common.{Err, map, arith, subst, sym}
use Rattle.std.proofs.lemmas.List.{length-map}
use Rattle.cmd_words.specs.NamedPairs.{named_pair}
use Rattle.refusals.specs.Reason.{Reason}
use Rattle.session_script.specs.Script.{unless}
use Rattle.verdict.specs.Loading.{all_items, unknown_table}
use Rattle.verdict.specs.StageResults.{Pure}
use Rattle.verdict.specs.Stages.{Is}
use Rattle.command_input.specs.StageViews.{uses_reason}
use Rattle.command_input.proofs.AllItems.{all_known, all_more, all_refused, all_room, all_used}
use Rattle.command_input.proofs.table_uses.uses_of.Goals as goal

pub add_uses-requires : goal.add_uses-requires
add_uses-requires c =
    let room = all_room (map named_pair c.args.named.now) c.args.selects.now c.loop-select.select-index c.select-item.result _ _ c.loop-select-test.true c.select-item.is
    c.loop-select.invariant c.requires in
    let same = length-map c.loop-select.uses.firsts.items (λ e. named_pair e.now) in
    rw c.as_slice.ensures (omega (arith, room, same))

pub returns-in-Err : goal.returns-in-Err
returns-in-Err c =
    let selects = c.args.selects.now in
    let P : Reason → Type 0 = λ a. Pure (Is (unless (unknown_table (map named_pair c.args.named.now) (all_items selects)) selects)) (Err a) in
    record {
      known = subst P (sym c.uses_refusal.ensures)
          (all_refused (map named_pair c.args.named.now) selects c.loop-select.select-index c.select-item.result c.loop-select-test.true c.select-item.is
          c.loop-select.invariant.known selects (uses_reason c.in-Err.fault) (rw c.as_slice.ensures at c.in-Err.ensures.known));
      used = tt;
    }

pub loop-select-preserved : goal.loop-select-preserved
loop-select-preserved c =
    all_more (map named_pair c.args.named.now) c.args.selects.now c.loop-select.select-index c.select-item.result _ _ c.loop-select-test.true c.select-item.is
    c.loop-select.invariant _ _ (rw c.as_slice.ensures at c.in-Ok.ensures.known) (rw c.as_slice.ensures at c.in-Ok.ensures.used)

pub returns : goal.returns
returns c = record {
  known = all_known (map named_pair c.args.named.now) c.args.selects.now c.loop-select.select-index (omega (arith, c.loop-select-test.false)) c.loop-select.invariant.known c.args.selects.now;
  used = all_used (map named_pair c.args.named.now) c.args.selects.now c.loop-select.select-index _ _ (omega (arith, c.loop-select-test.false)) c.loop-select.invariant;
}
