use Rattle.std.proofs.Common.{◌≤◌, flat_map}
use Rattle.std.specs.Io.KnownBytes.{Appends}
use Rattle.std.specs.List.{range_with_len}
use Rattle.refusals.specs.CycleText.{item_text}
use Rattle.refusals.proofs.line.write_items.Given as goal

abbrev pub invariant-loop-place : goal.invariant-loop-place
invariant-loop-place g l = record {
  sent : Appends (g.E.Sink.written l.initial.err) (g.E.Sink.written l.err) (flat_map (item_text l.core) (range_with_len 0 l.place));
  faults : g.E.Sink.faults l.initial.err ≤ g.E.Sink.faults l.err;
}
