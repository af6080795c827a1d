use Rattle.std.proofs.Common.{length, ap, arith}
use Rattle.answer_print.proofs.Written.{begun_at}
use Rattle.answer_print.proofs.writing.RecordWriter.new.Goals as goal

pub returns-clause-fields : goal.returns-clause-fields
returns-clause-fields c =
    let is = c.new_writer.ensures.between in
    begun_at _ _ 0 _ _ is.pending (omega (arith, ap length c.new_writer.ensures.empty)) is.fields is.wrote
