use Rattle.command_output.proofs.GivenEnds.{HasTaken}
use Rattle.command_output.proofs.first_and_last.take_ends.Given as goal

abbrev pub invariant-loop-given : goal.invariant-loop-given
invariant-loop-given g l =
    HasTaken (g.E.Ranked.rest l.initial.engine) l._given (g.E.Ranked.rest l.engine) l.ends g.E.Ranked.share (g.E.Ranked.size l.initial.engine) (g.E.Ranked.calls l.initial.engine)
    (g.E.Ranked.size l.engine) (g.E.Ranked.calls l.engine) l.initial.steps l.steps
