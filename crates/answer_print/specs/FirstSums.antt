-- The sum of the first order key of a query.
use Rattle.std.specs.Prelude.{◌≡◌, ◌<◌, ℕ, ℤ, List, length}
use Rattle.anyk_model.specs.Table.{Table}
use Rattle.anyk_model.specs.Query.{Query, sum_of}
use Rattle.bound_query.specs.Weights.{key_at}

-- the sum over these rows of the first order key, of which there is one
abbrev pub IsFirstSum : Query → List Table → List ℕ → ℤ → Type 0
IsFirstSum query tables rows sum =
    (0 < length query.order) × (sum ≡ sum_of query tables rows (key_at query.order 0))
