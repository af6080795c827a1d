use Rattle.std.proofs.Common.{◌≡◌, ◌++◌}
use Rattle.std.specs.Vec.Iter.{into_iter_items}
use Rattle.union_all.proofs.Begun.{HasBegun}
use Rattle.union_all.proofs.merge.begin.Given as goal

abbrev pub invariant-loop-engine : goal.invariant-loop-engine
invariant-loop-engine g l =
    (goal.iterator-loop-engine g).can_next l.engine-iterator
    × (goal.iterator-loop-engine g).is_finite l.engine-iterator
    × (l.yielded ++ into_iter_items l.engine-iterator ≡ l.fn.engines.items)
    × HasBegun g.E.Ranked.rest (λ e. record { calls = g.E.Ranked.calls e; due = g.E.Ranked.due e; size = g.E.Ranked.size e }) g.E.Ranked.due
    l.queries l.yielded l.branches.items l.initial.steps l.steps
