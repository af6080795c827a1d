-- What is returned of a certificate that is valid.
use Rattle.std.specs.Prelude.{ℕ, List, length, map, take}
use Rattle.anyk_model.specs.Query.{Query}
pub use Rattle.proof_check.specs.Levels.{list_at}

-- the rows of each answer, one for each item
abbrev pub item_rows : Query → List (List ℕ) → List (List ℕ)
item_rows query found = map (take (length query.items)) found
