-- The parts of a line.
use Rattle.std.specs.Prelude.{ℕ, ◌==◌, List, [], Option, Some, None}
use Rattle.std.specs.List.{slice_split}
use Rattle.std.specs.Borrow.{Bor}

-- the parts of a line between spaces
abbrev pub parts : List ℕ → List (List ℕ)
parts line = slice_split (λ b. b == 32) line

-- the parts of what is after a space
abbrev pub parts_after : Option (Bor (List ℕ)) → List (List ℕ)
parts_after None = []
parts_after (Some rest) = parts rest.now
