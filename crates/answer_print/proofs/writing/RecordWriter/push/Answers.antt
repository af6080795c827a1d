use Rattle.std.proofs.Common.{sym, subst, ◌∙◌}
use Rattle.std.proofs.lemmas.Bool.{false≢true}
use Rattle.answer_print.specs.RecordWriters.{RecordView}
use Rattle.answer_print.specs.WrittenRecords.{HasFields}
use Rattle.answer_print.proofs.Written.{field_more, ok_has, on_ok_four, on_ok_of_err, start_grows_open}
use Rattle.answer_print.proofs.writing.RecordWriter.push.Goals as goal

pub returns-else-is_err : goal.returns-else-is_err
returns-else-is_err c = λ fields has.
    let own = subst (λ (v : RecordView). HasFields fields v.begun) (sym c.self.view_is) has in
    let put = c.write_field-written.ensures in
    on_ok_four c.write_field-written.result
    (λ bytes counted first stays. field_more fields c.self.inside.start _ _ _ _ c.self.invariant.start own c.args.field.now _ _ bytes counted first stays)
    put.bytes put.fields put.first put.stays

pub returns-then-is_err : goal.returns-then-is_err
returns-then-is_err c = λ fields has. on_ok_of_err _ c.write_field-written.result (sym c.is_err.ensures.value ∙ c.if-is_err.true)

pub invariant_of-self-else-is_err : goal.invariant_of-self-else-is_err
invariant_of-self-else-is_err c =
    let r = c.write_field-written.result in
    let put = c.write_field-written.ensures in
    let done = sym c.is_err.ensures.value ∙ c.if-is_err.false in
    record {
      setup = ok_has _ r done put.setup;
      start = start_grows_open c.self.inside.start _ _ _ c.self.invariant.start (ok_has _ r done put.bytes);
      between = λ closed. absurd (false≢true (sym closed));
    }
