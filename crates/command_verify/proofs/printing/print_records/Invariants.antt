use Rattle.std.proofs.Common.{List, ℕ, length, take}
use Rattle.anyk_model.specs.Output.{line_text}
use Rattle.answer_print.specs.StyleView.{style_view}
use Rattle.outer_io.specs.SinkState.{state_of}
use Rattle.command_verify.proofs.Records.{HasPrinted}
use Rattle.command_verify.proofs.printing.print_records.Given as goal

abbrev pub invariant-loop-answer : goal.invariant-loop-answer
invariant-loop-answer g l =
    HasPrinted (λ (rows : List ℕ). line_text l.query.query l.tables (style_view l.style) (take (length l.query.query.items) rows)) l.answers
    l.answer-index (state_of g.S.Sink l.initial.out) (state_of g.S.Sink l.out)
