use Rattle.std.proofs.Common.{◌≤◌, ℕ, List, Err, take, drop, sym, take-append-drop}
use Rattle.std.specs.Io.KnownBytes.{Appends}
use Rattle.outer_io.specs.Counts.{Rose}
use Rattle.outer_io.specs.Printing.{IsPrintCause, Printed}
use Rattle.outer_io.specs.SinkState.{SinkState}
use Rattle.outer_io.specs.declared.fault.PrintFault.{PrintFault}
use Rattle.outer_io.specs.declared.fault.PrintFault.TheVariants as fault
use Rattle.outer_io.proofs.Prints.{written}
use Rattle.anyk_top.proofs.once.print_once.Goals as goal

failed : (before now : ℕ) (e : PrintFault) → Rose before now → IsPrintCause before now e
failed before now fault.Write rose = rose
failed before now fault.NoMemory rose = tt

-- a write that failed, whatever fault is told of it
cut_off : (old new : SinkState) (n : ℕ) (bytes : List ℕ) (e : PrintFault) → Appends old.written new.written (take n bytes)
    → Rose old.faults new.faults → old.faults ≤ new.faults → Printed old new bytes (Err e)
cut_off old new n bytes e part rose later = record {
  whole = tt;
  prefix = (take n bytes, part, (drop n bytes, sym (take-append-drop n bytes)));
  cause = failed old.faults new.faults e rose;
  later = later;
}

pub returns-in-Ok-clause-printed : goal.returns-in-Ok-clause-printed
returns-in-Ok-clause-printed g c = written _ _ _ c.in-Ok.ensures.all c.write_all.ensures.faults

pub returns-in-Err-clause-printed : goal.returns-in-Err-clause-printed
returns-in-Err-clause-printed g c =
    cut_off _ _ c.in-Err.field-0.taken _ _ c.in-Err.ensures.part c.in-Err.ensures.cause c.write_all.ensures.faults
