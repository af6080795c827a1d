use Rattle.proof_check.proofs.Beginnings.{AreAdded}
use Rattle.proof_check.proofs.prefixes.Prefixes.with_node.Given as goal

abbrev pub invariant-loop-i : goal.invariant-loop-i
invariant-loop-i l = AreAdded l.node l.places l.self.numbers.items l.i l.taken l.next.numbers.items l.next.starts.items
