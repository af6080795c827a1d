-- The steps of the calls that give members of a union.
use Rattle.std.specs.Prelude.{◌≡◌, ◌≤◌, ◌+◌, ◌<◌, ℕ, Option, Some, List, [], ◌∷◌, ◌++◌, length, map, take}
use Rattle.std.specs.List.{AllByRecursion}
use Rattle.anyk_model.specs.Query.{IsCombination, Query, row_counts}
use Rattle.anyk_model.specs.Table.{Table}
use Rattle.bound_query.specs.Steps.{steps_for, whole_lines}
use Rattle.anyk_model.specs.TaggedRows.{Tagged, branch_at}
use Rattle.anyk_model.specs.Union.{members_in}
use Rattle.union_all.specs.Merge.{EngineView}

-- the most steps of the calls of each branch's engine for its members in the list; the first of
-- these branches has the number b
abbrev pub steps_from : (List ℕ → ℕ → ℕ) → List Tagged → ℕ → List EngineView → ℕ
steps_from share list b [] = 0
steps_from share list b (engine ∷ engines) =
    steps_for (λ n. share engine.size (engine.calls + n)) (members_in b list)
    + steps_from share list (b + 1) engines

abbrev pub union_steps : (List ℕ → ℕ → ℕ) → List EngineView → List Tagged → ℕ
union_steps share engines list = steps_from share list 0 engines

-- members are combinations of rows of their branches
pub record IsMember (queries : List Query) (tables : List Table) (m : Tagged) : Type 0 where
  pub branch : m.branch < length queries
  pub rows : IsCombination (row_counts (branch_at queries m.branch).items tables) m.rows

abbrev pub AreMembers : List Query → List Table → List Tagged → Type 0
AreMembers queries tables list = AllByRecursion (IsMember queries tables) list

-- The texts of members were written one by one, with calls between them. The steps of these calls
-- are within those of all the members, and within those of the members whose whole texts were
-- written and of one member more.
pub record UnionPaced (most : List Tagged → ℕ) (text : Tagged → List ℕ) (members : List Tagged)
    (old new : Option (List ℕ)) (before now : ℕ) : Type 0 where
  pub bounded : now ≤ before + most members
  pub prompt : (start part : List ℕ) → old ≡ Some start → new ≡ Some (start ++ part)
      → now ≤ before + most (take (whole_lines (map text members) part + 1) members)
