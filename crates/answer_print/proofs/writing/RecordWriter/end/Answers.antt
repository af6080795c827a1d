use Rattle.std.proofs.Common.{sym, subst, ◌∙◌}
use Rattle.std.proofs.lemmas.Result.{on_ok_weaker}
use Rattle.answer_print.specs.RecordWriters.{RecordView}
use Rattle.answer_print.specs.WrittenRecords.{HasFields}
use Rattle.answer_print.proofs.Written.{ok_has, record_ends, on_ok_of_err, start_grows}
use Rattle.answer_print.proofs.writing.RecordWriter.end.Goals as goal

pub returns-else-is_err : goal.returns-else-is_err
returns-else-is_err c = λ fields has.
    let own = subst (λ (v : RecordView). HasFields fields v.begun) (sym c.self.view_is) has in
    on_ok_weaker c.end_record-ended.result (λ bytes. record_ends fields c.self.inside.start _ _ _ _ c.self.invariant.start own bytes) c.end_record-ended.ensures.bytes

pub returns-then-is_err : goal.returns-then-is_err
returns-then-is_err c = λ fields has. on_ok_of_err _ c.end_record-ended.result (sym c.is_err.ensures.value ∙ c.if-is_err.true)

pub invariant_of-self-else-is_err : goal.invariant_of-self-else-is_err
invariant_of-self-else-is_err c =
    let r = c.end_record-ended.result in
    let ended = c.end_record-ended.ensures in
    let done = sym c.is_err.ensures.value ∙ c.if-is_err.false in
    let between = ok_has _ r done ended.between in
    record {
      setup = between.setup;
      start = start_grows c.self.inside.start _ _ _ _ c.self.invariant.start (ok_has _ r done ended.bytes);
      between = λ _. between;
    }
