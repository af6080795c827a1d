use Rattle.std.proofs.Common.{◌≡◌, drop}
use Rattle.verdict.specs.Loading.{have_directions}
use Rattle.command_input.proofs.binding.have_directions.Given as goal

abbrev pub invariant-loop-key : goal.invariant-loop-key
invariant-loop-key l =
    have_directions (drop l.key l.a.query.order) (drop l.key l.b.query.order) ≡ have_directions l.a.query.order l.b.query.order
