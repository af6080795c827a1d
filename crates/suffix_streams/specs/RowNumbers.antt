-- Row numbers to which those of a solution are added.
use Rattle.std.specs.Prelude.{◌≡◌, ℕ, ◌+◌, ◌^◌, ◌<◌, List, slice_index}
use Rattle.tdp_model.specs.KeyTuple.{KeyOf, slot_of}

-- each row number and that of the solution with this key fit 32 bits together
abbrev pub AreAddable : (d : ℕ) → List ℕ → KeyOf d 16 → Type 0
AreAddable d rows k = (i : ℕ) → i < 16 → slice_index rows i + slot_of d 16 i k < 2 ^ 32

-- the row numbers with those of the solution with this key
abbrev pub AreAdded : (d : ℕ) → List ℕ → KeyOf d 16 → List ℕ → Type 0
AreAdded d rows k sums = (i : ℕ) → i < 16
    → slice_index sums i ≡ slice_index rows i + slot_of d 16 i k
