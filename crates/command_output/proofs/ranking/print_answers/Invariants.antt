use Rattle.std.proofs.Common.{length, take}
use Rattle.anyk_model.specs.Output.{line_text}
use Rattle.anyk_model.specs.Query.{IsCombination, row_counts}
use Rattle.answer_print.specs.StyleView.{style_view}
use Rattle.outer_io.specs.SinkState.{state_of}
use Rattle.tdp_core.specs.AnswerView.{AnswerView}
use Rattle.witness_key.specs.WitnessKey.{combinations_in}
use Rattle.command_output.proofs.Given.{HasPrinted}
use Rattle.command_output.proofs.ranking.print_answers.Given as goal

abbrev pub invariant-loop-given : goal.invariant-loop-given
invariant-loop-given g l =
    HasPrinted (λ (a : AnswerView). IsCombination (row_counts l.query.query.items l.tables) (take (length l.query.query.items) a.rows))
    (line_text l.query.query l.tables (style_view l.style)) (λ (a : AnswerView). take (length l.query.query.items) a.rows)
    (combinations_in l.query.query (g.E.Ranked.rest l.initial.engine)) l._given
    (g.E.Ranked.rest l.engine) (state_of g.S.Sink l.initial.out) (state_of g.S.Sink l.out)
    g.E.Ranked.share (g.E.Ranked.size l.initial.engine) (g.E.Ranked.calls l.initial.engine) (g.E.Ranked.size l.engine) (g.E.Ranked.calls l.engine) l.initial.steps l.steps
