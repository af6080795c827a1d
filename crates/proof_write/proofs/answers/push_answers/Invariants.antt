use Rattle.witness_key.specs.WitnessKey.{combinations_in}
use Rattle.proof_write.proofs.Given.{HasListed}
use Rattle.proof_write.proofs.answers.push_answers.Given as goal

abbrev pub invariant-loop-given : goal.invariant-loop-given
invariant-loop-given g l =
    HasListed (combinations_in l.query.query (g.E.Ranked.rest l.initial.engine)) l._given
    (combinations_in l.query.query (g.E.Ranked.rest l.engine)) l.initial.text.items l.text.items
