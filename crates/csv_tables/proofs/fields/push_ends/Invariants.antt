use Rattle.std.proofs.Common.{◌≡◌, ◌+◌, ◌≤◌, ◌++◌, length, take}
use Rattle.std.specs.List.{concat}
use Rattle.std.specs.Vec.{vec_capacity, vec_len}
use Rattle.csv.specs.Records.{fields_of, text_of}
use Rattle.csv_tables.specs.Fields.{ends_from}
use Rattle.csv_tables.proofs.Fronts.{Reaches}
use Rattle.csv_tables.proofs.fields.push_ends.Given as goal

abbrev pub invariant-loop-i : goal.invariant-loop-i
invariant-loop-i l =
    let front = concat (take l.i (fields_of l.row)) in
    (l.ends.items ≡ l.fn.ends.items ++ ends_from l.start (take l.i (fields_of l.row)))
    × (vec_len l.ends + length (fields_of l.row) ≤ vec_capacity l.ends + l.i)
    × (l.end ≡ l.start + length front)
    × (take (length front) (text_of l.row) ≡ front)
    × Reaches l.row.ends (text_of l.row) l.i (length front)
