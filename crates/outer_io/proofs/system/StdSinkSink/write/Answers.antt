use Rattle.std.proofs.Common.{rules}
use Rattle.outer_io.proofs.Counting.{Rose-saturating}
use Rattle.outer_io.proofs.system.StdSinkSink.write.Goals as goal

pub returns-then-not-is_empty : goal.returns-then-not-is_empty
returns-then-not-is_empty g c = record {
  within = search rules;
  written = tt;
  failed = tt;
  stuck = λ _ _. Rose-saturating _ _ c.saturating_add-self.ensures;
  faults = search rules;
}

pub returns-in-Err : goal.returns-in-Err
returns-in-Err g c = record {
  within = tt;
  written = tt;
  failed = Rose-saturating _ _ c.saturating_add-self-in-Err.ensures;
  stuck = tt;
  faults = search rules;
}
