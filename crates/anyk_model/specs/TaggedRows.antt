-- The members of a union of queries over the same tables, and their order. Each query is a branch,
-- and branches count from 0.
use Rattle.std.specs.Prelude.{◌≡◌, ◌⊎◌, ◌<◌, ℕ, ℤ, pos, List, [], ◌∷◌, ◌++◌, map, length, get_or, None}
use Rattle.std.specs.List.{AllByRecursion}
use Rattle.rankings.specs.Order as order
use Rattle.anyk_model.specs.Table.{Table}
use Rattle.anyk_model.specs.Query.{Query, IsWitness, rank_of}
use Rattle.anyk_model.specs.Ranking.{IsBefore}

-- a member: the number of its branch, and a row for each item of that branch
pub record Tagged : Type 0 where
  pub branch : ℕ
  pub rows : List ℕ

abbrev pub tagged : ℕ → List ℕ → Tagged
tagged b rows = record { branch = b; rows = rows }

-- the query of a branch, and past the last branch a query without items
abbrev pub branch_at : List Query → ℕ → Query
branch_at queries b = get_or queries b
    (record { items = []; equalities = []; order = []; list = []; limit = None })

-- a witness of one of the branches
abbrev pub IsTagged : List Query → List Table → Tagged → Type 0
IsTagged queries tables m = (m.branch < length queries)
    × IsWitness (branch_at queries m.branch) tables m.rows

-- the sums of a combination of branch b as they are compared
abbrev pub sums_of : List Query → List Table → ℕ → List ℕ → List ℤ
sums_of queries tables b rows = map (rank_of (branch_at queries b) tables rows)
    (branch_at queries b).order

-- the order of members: by their sums, then by the branch, and then by the row numbers
abbrev pub PrecedesTagged : List Query → List Table → Tagged → Tagged → Type 0
PrecedesTagged queries tables a b =
    IsBefore (sums_of queries tables a.branch a.rows) (sums_of queries tables b.branch b.rows)
    ⊎ ((sums_of queries tables a.branch a.rows ≡ sums_of queries tables b.branch b.rows)
    × IsBefore (map pos (a.branch ∷ a.rows)) (map pos (b.branch ∷ b.rows)))

-- the strictly ascending list of exactly the branches' witnesses
abbrev pub IsUnionRanking : List Query → List Table → List Tagged → Type 0
IsUnionRanking queries tables list = order.IsRanking Tagged (PrecedesTagged queries tables)
    (IsTagged queries tables) list

-- each branch has this many order keys
abbrev pub HaveKeys : ℕ → List Query → Type 0
HaveKeys keys queries = AllByRecursion (λ (q : Query). length q.order ≡ keys) queries

-- all that members are compared by, in one list
abbrev pub tagged_key : List Query → List Table → Tagged → List ℤ
tagged_key queries tables m = sums_of queries tables m.branch m.rows ++ map pos (m.branch ∷ m.rows)

-- any combination of branch c comes after this one of branch b, if it has these rows or later ones:
-- the sums decide, and the branches if the sums are equal
abbrev pub StandsBefore : List Query → List Table → ℕ → List ℕ → ℕ → List ℕ → Type 0
StandsBefore queries tables b rows c other =
    IsBefore (sums_of queries tables b rows) (sums_of queries tables c other)
    ⊎ ((sums_of queries tables b rows ≡ sums_of queries tables c other) × (b < c))
