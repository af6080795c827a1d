use Rattle.std.proofs.Common.{◌≡◌, drop, position}
use Rattle.std.specs.List.{position_from}
use Rattle.std.specs.Str.{bytes_eq}
use Rattle.std.specs.String.{string_bytes}
use Rattle.command_input.proofs.table_uses.place_of.Given as goal

abbrev pub invariant-loop-place : goal.invariant-loop-place
invariant-loop-place l =
    position_from (λ e. bytes_eq (string_bytes e.table) l.table) l.place (drop l.place l.named) ≡ position (λ e. bytes_eq (string_bytes e.table) l.table) l.named
