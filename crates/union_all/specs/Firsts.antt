-- The branch whose first combination is the first one of all that are left.
use Rattle.std.specs.Prelude.{◌≡◌, ◌≢◌, ◌<◌, ℕ, Option, None, Some, List, [], ◌∷◌, get_or, length, take}
use Rattle.anyk_model.specs.Table.{Table}
use Rattle.anyk_model.specs.Query.{Query}
use Rattle.anyk_model.specs.TaggedRows.{StandsBefore, Tagged, branch_at, tagged}
use Rattle.union_all.specs.declared.tagged.Tagged as stored

-- what contracts see of a stored member: its rows are those of the branch's items
abbrev pub tagged_view : List Query → stored.Tagged → Tagged
tagged_view queries t = tagged t.branch (take (length (branch_at queries t.branch).items) t.rows)

module _ (queries : List Query) (tables : List Table) (lists : List (List (List ℕ))) where
  -- the first combination of branch b stands before that of each other branch, of the first n
  -- branches
  pub record HasFirst (n b : ℕ) : Type 0 where
    pub inside : b < n
    pub rows : List ℕ
    pub later : List (List ℕ)
    pub is_first : get_or lists b [] ≡ rows ∷ later
    pub least : (c : ℕ) (other : List ℕ) (others : List (List ℕ)) → c < n → c ≢ b
        → get_or lists c [] ≡ other ∷ others → StandsBefore queries tables b rows c other

  -- this is that branch, or the first n branches have nothing left
  abbrev pub IsFirstBranch : ℕ → Option ℕ → Type 0
  IsFirstBranch n None = (c : ℕ) → c < n → get_or lists c [] ≡ []
  IsFirstBranch n (Some b) = HasFirst n b
