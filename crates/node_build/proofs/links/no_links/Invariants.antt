use Rattle.std.proofs.Common.{◌≤◌, ◌+◌}
use Rattle.node_build.proofs.links.no_links.Given as goal

abbrev pub invariant-loop-row : goal.invariant-loop-row
invariant-loop-row g l = l.steps ≤ l.initial.steps + l._row
