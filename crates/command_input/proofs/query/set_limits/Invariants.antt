use Rattle.std.proofs.Common.{◌≡◌, ◌++◌, drop, take, map}
use Rattle.command_input.specs.Limits.{limited}
use Rattle.command_input.proofs.query.set_limits.Given as goal

abbrev pub invariant-loop-select : goal.invariant-loop-select
invariant-loop-select l = l.selects ≡ map (limited l.limit) (take l.select-index l.fn.selects) ++ drop l.select-index l.fn.selects
