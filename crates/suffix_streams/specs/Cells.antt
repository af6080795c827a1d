-- The cells that follow a cell.
use Rattle.std.specs.Prelude.{ℕ, Option, Some, None}
use Rattle.suffix_streams.specs.declared.cell.Cell.{Cell}

-- the same left part, with the entry after the right part
abbrev pub cell_down : Cell → Option ℕ → Option Cell
cell_down c (Some n) = Some (record { left = c.left; right = n })
cell_down c None = None
