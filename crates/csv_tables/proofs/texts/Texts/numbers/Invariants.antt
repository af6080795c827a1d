use Rattle.std.proofs.Common.{◌≡◌, ◌+◌, ◌≤◌, length, take}
use Rattle.std.specs.Vec.{vec_capacity, vec_len}
use Rattle.table_store.specs.Values.{StandsFor, with_fields}
use Rattle.csv_tables.proofs.texts.Texts.numbers.Given as goal

abbrev pub invariant-loop-place : goal.invariant-loop-place
invariant-loop-place l =
    (l.self ≡ with_fields l.fn.self (take l.place l.fields))
    × StandsFor l.self l.cells.items (take l.place l.fields)
    × (vec_len l.cells + length l.fields ≤ vec_capacity l.cells + l.place)
