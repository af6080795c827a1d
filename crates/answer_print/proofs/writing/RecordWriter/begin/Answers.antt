use Rattle.std.proofs.Common.{◌≤◌, length, sym, ap, subst, arith}
use Rattle.answer_print.specs.WrittenRecords.{IsBetween, bytes_under}
use Rattle.answer_print.specs.declared.writing.RecordWriter.TheInside.{Inside}
use Rattle.answer_print.proofs.Written.{begun_at}
use Rattle.answer_print.proofs.writing.RecordWriter.begin.Goals.{then-self, else-self+else-len-gt-MAX_KEPT}
use Rattle.answer_print.proofs.writing.RecordWriter.begin.Goals as goal

pub returns : goal.returns
returns c =
    let between : IsBetween c.if-self.self-inside.writer = elim c.if-self.branch [
      | then-self w ↦ subst (λ (i : Inside). IsBetween i.writer) (sym w.self-inside-is) w.renew.ensures.between
      | else-self+else-len-gt-MAX_KEPT w ↦ subst (λ (i : Inside). IsBetween i.writer) (sym w.self-inside-is) (c.self.invariant.between w.if-self.false)
    ] in
    let under = c.get_ref-2.result.now in
    let size : length (bytes_under c.if-self.self-inside.writer) ≤ c.len-self-inside.result =
    omega (arith, c.len-self-inside.ensures, under.ok.0, ap (λ v. length v.items) c.get_ref-2.ensures) in
    begun_at _ _ _ _ _ between.pending size between.fields between.wrote
