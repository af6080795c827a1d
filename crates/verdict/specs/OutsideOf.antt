-- The outside of a call, from its shelf and its sinks.
use Rattle.std.specs.Prelude.{None}
use Rattle.outer_io.specs.declared.shelf.Shelf.{Ghosts as ShelfGhosts}
use Rattle.outer_io.specs.declared.sink.Sink.{Ghosts as SinkGhosts}
use Rattle.verdict.specs.Outcome.{Outside}

-- the files, the output and the errors
abbrev pub outside : {F S E : Type 0} → ShelfGhosts F → SinkGhosts S → SinkGhosts E → F → S → E
    → Outside
outside files output errors shelf out err = record {
  misses = files.misses shelf;
  read_faults = files.faults shelf;
  taken = files.taken shelf;
  output = output.written out;
  write_faults = output.faults out;
  errors = errors.written err;
  error_faults = errors.faults err;
}

-- the files and the output alone, before there are errors to write
abbrev pub outside_before : {F S : Type 0} → ShelfGhosts F → SinkGhosts S → F → S → Outside
outside_before files output shelf out = record {
  misses = files.misses shelf;
  read_faults = files.faults shelf;
  taken = files.taken shelf;
  output = output.written out;
  write_faults = output.faults out;
  errors = None;
  error_faults = 0;
}
