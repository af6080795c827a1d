use Rattle.std.proofs.Common.{◌≡◌, ◌++◌, drop, take, map}
use Rattle.query_bind.specs.Relabelling.{with_least}
use Rattle.query_bind.proofs.classes.relabel.Given as goal

abbrev pub invariant-loop-member : goal.invariant-loop-member
invariant-loop-member l = l.classes ≡ map (with_least l.new l.old) (take l.member-index l.fn.classes) ++ drop l.member-index l.fn.classes
