-- Keys that nodes give to a sum, and tables of a size for which such sums fit.
use Rattle.std.specs.Prelude.{◌≡◌, ◌⊎◌, ℕ, ◌≤◌, List, length}
use Rattle.std.specs.List.{AllByRecursion}
use Rattle.anyk_model.specs.Table.{Table, most_rows}
use Rattle.proof_model.specs.Problem.{Problem}

-- nothing, or the key of a row of node q
abbrev pub IsPart : {K : Type 0} → Problem K → ℕ → K → Type 0
IsPart t q k = (k ≡ t.none) ⊎ ((row : ℕ) × t.IsRow q row × (k ≡ t.key q row))

-- no table has more rows than a table may have
abbrev pub HaveFewRows : List Table → Type 0
HaveFewRows tables = AllByRecursion (λ (table : Table). length table.rows ≤ most_rows) tables
