use Rattle.command_output.specs.OpenCursors.{AreOthers}
use Rattle.command_output.proofs.open_cursors.cursor_of.Given as goal

abbrev pub invariant-loop-number : goal.invariant-loop-number
invariant-loop-number l = AreOthers l.cursors l.name l.number
