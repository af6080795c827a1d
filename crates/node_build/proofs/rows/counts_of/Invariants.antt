use Rattle.std.proofs.Common.{◌≡◌, length, map, take}
use Rattle.node_build.specs.Rows.{lists_of}
use Rattle.node_build.proofs.rows.counts_of.Given as goal

abbrev pub invariant-loop-list : goal.invariant-loop-list
invariant-loop-list l = l.counts.items ≡ map length (lists_of (take l.list-index l.rows))
