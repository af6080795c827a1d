use Rattle.std.proofs.Common.{◌≡◌, ◌+◌, drop}
use Rattle.std.specs.List.{list_any, position_or_len}
use Rattle.std.specs.Str.{bytes_eq}
use Rattle.std.specs.String.{string_bytes}
use Rattle.command_input.proofs.table_uses.number_of.Given as goal

abbrev pub invariant-loop-place : goal.invariant-loop-place
invariant-loop-place l =
    (list_any (λ e. bytes_eq (string_bytes e.now.table) (string_bytes l.entry.table)) (drop l.place l.firsts.items)
    ≡ list_any (λ e. bytes_eq (string_bytes e.now.table) (string_bytes l.entry.table)) l.firsts.items)
    × (position_or_len (λ e. bytes_eq (string_bytes e.now.table) (string_bytes l.entry.table)) (drop l.place l.firsts.items) + l.place
    ≡ position_or_len (λ e. bytes_eq (string_bytes e.now.table) (string_bytes l.entry.table)) l.firsts.items)
