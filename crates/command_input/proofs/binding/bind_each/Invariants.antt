use Rattle.command_input.proofs.BoundQueries.{IsBinding}
use Rattle.command_input.proofs.binding.bind_each.Given as goal

abbrev pub invariant-loop-select : goal.invariant-loop-select
invariant-loop-select l = IsBinding l.selects l.tables l.which l.select-index l.rest l.queries.items
