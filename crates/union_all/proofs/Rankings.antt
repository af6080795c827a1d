-- The branches' own rankings are left of them.
use Rattle.std.proofs.Common.{ℕ, zero, suc, List, [], ◌∷◌, map, get_or, refl}
use Rattle.std.specs.List.{AllByRecursion}
use Rattle.anyk_model.specs.Table.{Table}
use Rattle.anyk_model.specs.Query.{IsCombination, IsWitness, Query, row_counts}
use Rattle.anyk_model.specs.Ranking.{Precedes, ranking_of}
use Rattle.anyk_model.proofs.Exists.{ranking_is}
use Rattle.rankings.specs.Order.{IsAscending, IsMember}
use Rattle.std.proofs.Common.{inl, inr}
use Rattle.anyk_model.specs.TaggedRows.{branch_at}
use Rattle.union_all.specs.Merge.{AreLeft}

-- each witness is a combination
members_fit : (query : Query) (tables : List Table) (list : List (List ℕ)) → ((rows : List ℕ) → IsMember rows list → IsWitness query tables rows)
    → AllByRecursion (IsCombination (row_counts query.items tables)) list
members_fit query tables [] sound = tt
members_fit query tables (rows ∷ list) sound = ((sound rows (inl refl)).0, members_fit query tables list (λ other m. sound other (inr m)))

module _ (tables : List Table) where
  rankings_ascend : (queries : List Query) (b : ℕ) → IsAscending (Precedes (branch_at queries b) tables) (get_or (map (λ query. ranking_of query tables) queries) b [])
  rankings_ascend [] b = tt
  rankings_ascend (q ∷ queries) zero = (ranking_is q tables).ascending
  rankings_ascend (q ∷ queries) (suc b) = rankings_ascend queries b

  rankings_fit : (queries : List Query) (b : ℕ)
      → AllByRecursion (IsCombination (row_counts (branch_at queries b).items tables)) (get_or (map (λ query. ranking_of query tables) queries) b [])
  rankings_fit [] b = tt
  rankings_fit (q ∷ queries) zero = members_fit q tables (ranking_of q tables) (ranking_is q tables).sound
  rankings_fit (q ∷ queries) (suc b) = rankings_fit queries b

pub rankings_left : (queries : List Query) (tables : List Table) → AreLeft queries tables (map (λ query. ranking_of query tables) queries)
rankings_left queries tables = record { ascending = rankings_ascend tables queries; combinations = rankings_fit tables queries }
