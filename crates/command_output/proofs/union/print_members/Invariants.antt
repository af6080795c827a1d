use Rattle.std.proofs.Common.{map}
use Rattle.answer_print.specs.StyleView.{style_view}
use Rattle.bound_query.specs.WeighedQuery.{BoundQuery}
use Rattle.outer_io.specs.SinkState.{state_of}
use Rattle.anyk_model.specs.UnionOutput.{union_line_text}
use Rattle.command_output.proofs.UnionMembers.{HasPrinted}
use Rattle.command_output.proofs.union.print_members.Given as goal

abbrev pub invariant-loop-given : goal.invariant-loop-given
invariant-loop-given g l =
    let all = map (λ (q : BoundQuery). q.query) l.queries in
    HasPrinted g.E.Ranked.share all l.tables (union_line_text all l.tables (style_view l.style))
    l.initial.merge l._given l.merge (state_of g.S.Sink l.initial.out) (state_of g.S.Sink l.out) l.initial.steps
    l.steps
