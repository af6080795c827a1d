-- What contracts see of a merge and of its branches.
use Rattle.std.specs.Prelude.{◌≡◌, ◌≢◌, ◌≤◌, ◌+◌, ℕ, Option, None, Some, List, [], ◌∷◌, ◌++◌, map, length, get_or, take}
use Rattle.std.specs.List.{All, AllByRecursion}
use Rattle.anyk_model.specs.Table.{Table}
use Rattle.anyk_model.specs.Query.{IsCombination, Query, row_counts}
use Rattle.bound_query.specs.WeighedQuery.{BoundQuery, Fits}
use Rattle.tdp_core.specs.AnswerView.{AnswerView, counted}
use Rattle.witness_key.specs.WitnessKey.{combinations_in}
use Rattle.anyk_model.specs.TaggedRows.{Tagged, branch_at}
use Rattle.anyk_model.specs.Union.{AreAscending}

-- an engine: the number of calls so far, the greatest number of steps of the next call, and what a
-- bound on the steps depends on beside the calls
pub record EngineView : Type 0 where
  pub calls : ℕ
  pub due : ℕ
  pub size : List ℕ

-- a branch: its query, the combinations that are left of it, and its engine
pub record BranchView : Type 0 where
  pub bound : BoundQuery
  pub left : List (List ℕ)
  pub engine : EngineView

-- a merge: the queries of its branches, the members that are left of their union, and the branches'
-- engines
pub record MergeView : Type 0 where
  pub queries : List Query
  pub rest : List Tagged
  pub engines : List EngineView

abbrev pub queries_of : List BranchView → List Query
queries_of branches = map (λ (b : BranchView). b.bound.query) branches

abbrev pub lists_of : List BranchView → List (List (List ℕ))
lists_of branches = map (λ (b : BranchView). b.left) branches

abbrev pub engines_of : List BranchView → List EngineView
engines_of branches = map (λ (b : BranchView). b.engine) branches

-- the combination of the first rows, one for each of n items, if there are rows
abbrev pub first_of : ℕ → Option (List ℕ) → List (List ℕ)
first_of n None = []
first_of n (Some rows) = take n rows ∷ []

-- the combinations that each branch's engine has left
abbrev pub rests_of : {E : Type 0} → (E → List AnswerView) → List Query → List E
    → List (List (List ℕ))
rests_of rest [] engines = []
rests_of rest (query ∷ queries) [] = []
rests_of rest (query ∷ queries) (engine ∷ engines) = combinations_in query (rest engine)
    ∷ rests_of rest queries engines

-- each branch has combinations of its rows left, in the order of its own ranking
pub record AreLeft (queries : List Query) (tables : List Table)
    (lists : List (List (List ℕ))) : Type 0 where
  pub ascending : AreAscending queries tables lists
  pub combinations : (b : ℕ)
      → AllByRecursion (IsCombination (row_counts (branch_at queries b).items tables))
      (get_or lists b [])

-- at most 8 branches, of queries that fit the tables
pub record AreBranches (tables : List Table) (branches : List BranchView) : Type 0 where
  pub few : length branches ≤ 8
  pub fit : All (λ (b : BranchView). Fits b.bound tables) branches
  pub left : AreLeft (queries_of branches) tables (lists_of branches)

-- # Calls of engines

-- one call was made
pub record HasCalled (old new : EngineView) : Type 0 where
  pub calls : new.calls ≡ counted old.calls
  pub size : new.size ≡ old.size

abbrev pub engine_at : List EngineView → ℕ → EngineView
engine_at engines b = get_or engines b (record { calls = 0; due = 0; size = [] })

-- each engine was called once
abbrev pub AreBegun : List EngineView → List EngineView → Type 0
AreBegun [] [] = Unit {0}
AreBegun [] (new ∷ news) = ⊥
AreBegun (old ∷ olds) [] = ⊥
AreBegun (old ∷ olds) (new ∷ news) = HasCalled old new × AreBegun olds news

module _ {E : Type 0} (rest : E → List AnswerView) (seen : E → EngineView) where
  -- there is a branch for each query, over the engine at its place, which was called once
  pub record HaveBegun (queries : List BoundQuery) (engines : List E)
      (branches : List BranchView) : Type 0 where
    pub bounds : map (λ (b : BranchView). b.bound) branches ≡ queries
    pub lists : lists_of branches
        ≡ rests_of rest (map (λ (q : BoundQuery). q.query) queries) engines
    pub called : AreBegun (map seen engines) (engines_of branches)

  -- one branch more: that of this query, over this engine, which was called once
  pub record HasGrown (query : BoundQuery) (engine : E) (old new : List BranchView) : Type 0 where
    pub branch : BranchView
    pub grown : new ≡ old ++ branch ∷ []
    pub bound : branch.bound ≡ query
    pub left : branch.left ≡ combinations_in query.query (rest engine)
    pub called : HasCalled (seen engine) branch.engine

-- The engine of branch b was called once, and no other. The steps that it took are within what it
-- had due, and within the most that its size and calls allow.
pub record IsCalled (most : List ℕ → ℕ → ℕ) (old new : MergeView) (b before now : ℕ) : Type 0 where
  pub queries : new.queries ≡ old.queries
  pub count : length new.engines ≡ length old.engines
  pub others : (c : ℕ) → c ≢ b → engine_at new.engines c ≡ engine_at old.engines c
  pub called : HasCalled (engine_at old.engines b) (engine_at new.engines b)
  pub cost : now ≤ before + (engine_at old.engines b).due
  pub share : now ≤ before + most (engine_at old.engines b).size (engine_at old.engines b).calls
