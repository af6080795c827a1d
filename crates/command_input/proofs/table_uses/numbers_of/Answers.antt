use Rattle.std.proofs.Common.{Err, map, refl, arith, subst, sym}
use Rattle.cmd_words.specs.NamedPairs.{named_pair}
use Rattle.refusals.specs.Reason.{Reason}
use Rattle.session_script.specs.Script.{unless}
use Rattle.verdict.specs.Loading.{all_items, unknown_table}
use Rattle.verdict.specs.StageResults.{Pure}
use Rattle.verdict.specs.Stages.{Is}
use Rattle.command_input.specs.StageViews.{uses_reason}
use Rattle.command_input.proofs.AllItems.{all_known, all_refused}
use Rattle.command_input.proofs.TableNumbers.{all_numbers_done, all_numbers_more}
use Rattle.command_input.proofs.table_uses.numbers_of.Goals as goal

pub loop-select-init : goal.loop-select-init
loop-select-init c = record { known = refl; numbers_are = c.new-numbers.ensures.items }

pub returns-in-Err : goal.returns-in-Err
returns-in-Err c =
    let selects = c.args.selects.now in
    let P : Reason → Type 0 = λ a. Pure (Is (unless (unknown_table (map named_pair c.args.named.now) (all_items selects)) selects)) (Err a) in
    record {
      known = subst P (sym c.uses_refusal.ensures)
          (all_refused (map named_pair c.args.named.now) selects c.loop-select.select-index c.select-item.result c.loop-select-test.true c.select-item.is
          c.loop-select.invariant.known selects (uses_reason c.in-Err.fault) (rw c.as_slice.ensures at c.in-Err.ensures.known));
      numbers = tt;
    }

pub loop-select-preserved : goal.loop-select-preserved
loop-select-preserved c =
    all_numbers_more (map named_pair c.args.named.now) c.args.selects.now c.loop-select.select-index c.select-item.result _ _ c.loop-select-test.true c.select-item.is
    c.loop-select.invariant (rw c.as_slice.ensures at c.in-Ok.ensures.known) (rw c.as_slice.ensures at c.in-Ok.ensures.numbers)

pub returns : goal.returns
returns c = record {
  known = all_known (map named_pair c.args.named.now) c.args.selects.now c.loop-select.select-index (omega (arith, c.loop-select-test.false)) c.loop-select.invariant.known c.args.selects.now;
  numbers = all_numbers_done (map named_pair c.args.named.now) c.args.selects.now c.loop-select.select-index _ (omega (arith, c.loop-select-test.false)) c.loop-select.invariant;
}
