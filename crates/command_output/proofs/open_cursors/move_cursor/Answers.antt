use Rattle.std.proofs.Common.{refl}
use Rattle.command_output.proofs.open_cursors.move_cursor.Goals as goal

pub returns-in-Open : goal.returns-in-Open
returns-in-Open g c =
    record {
      held =
          λ members places held can quiet.
          let may = rw (c.in-Open.is, ← c.bytes.ensures.value) at can in
          rw (c.in-Open.is, ← c.bytes.ensures.value) (c.open.ensures.held places held may);
      only = c.open.ensures.only;
    }

pub returns-in-Fork : goal.returns-in-Fork
returns-in-Fork g c =
    record {
      held =
          λ members places held can quiet.
          let may = rw (c.in-Fork.is, ← c.bytes-in-Fork.ensures.value, ← c.bytes-in-Fork-2.ensures.value) at can in
          rw (c.in-Fork.is, ← c.bytes-in-Fork.ensures.value, ← c.bytes-in-Fork-2.ensures.value) (c.fork.ensures.held places held may.0 may.1);
      only = c.fork.ensures.only;
    }

pub returns-in-Rewind : goal.returns-in-Rewind
returns-in-Rewind g c =
    record {
      held =
          λ members places held can quiet.
          let may = rw (c.in-Rewind.is, ← c.bytes-in-Rewind.ensures.value) at can in
          rw (c.in-Rewind.is, ← c.bytes-in-Rewind.ensures.value) (c.rewind.ensures.held places held may);
      only = c.rewind.ensures.only;
    }

pub returns-in-Close : goal.returns-in-Close
returns-in-Close g c =
    record {
      held =
          λ members places held can quiet.
          let may = rw (c.in-Close.is, ← c.bytes-in-Close.ensures.value) at can in
          rw (c.in-Close.is, ← c.bytes-in-Close.ensures.value) (c.close.ensures.held places held may);
      only = c.close.ensures.only;
    }

pub returns-in-Next : goal.returns-in-Next
returns-in-Next g c =
    record {
      held = λ members places held can quiet. absurd (rw c.in-Next.is at quiet);
      only = refl;
    }
