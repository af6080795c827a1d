use Rattle.std.proofs.Common.{◌≡◌, drop, find}
use Rattle.std.specs.Str.{bytes_eq}
use Rattle.std.specs.String.{string_bytes}
use Rattle.command_input.proofs.table_uses.entry_of.Given as goal

abbrev pub invariant-loop-entry : goal.invariant-loop-entry
invariant-loop-entry l =
    find (λ e. bytes_eq (string_bytes e.table) l.table) (drop l.entry-index l.named) ≡ find (λ e. bytes_eq (string_bytes e.table) l.table) l.named
