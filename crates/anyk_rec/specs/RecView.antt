-- The answers of a tree, as they are taken from its streams, to callers.
use Rattle.std.specs.Prelude.{◌≡◌, ℕ, ◌+◌, ◌<◌, ◌≤◌, Bool, nat_lt, Option, Some, None, IfSome, List, length, drop}
use Rattle.tdp_core.specs.AnswerView.{AnswerView, answers_of}
use Rattle.tdp_core.specs.TreeView.{group_count}
use Rattle.tdp_core.specs.WellFormed.{IsFormed}
use Rattle.tdp_model.specs.KeyTuple.{KeyOf}
use Rattle.suffix_streams.specs.Rankings.{group_list}
use Rattle.suffix_streams.specs.StreamsView.{StreamsView, entry_node, entry_group, entry_place}

-- the streams, how many members of the root's stream were given, and the number of calls so far,
-- which stays at its last value
pub record RecView (R : Type 0) : Type 0 where
  pub streams : StreamsView R
  pub given : ℕ
  pub calls : ℕ

-- the members of the root's ranking that were not given yet, as answers
abbrev pub rest_of : {R : Type 0} (d : ℕ) (key : R → KeyOf d 16) → RecView R → List AnswerView
rest_of d key r = answers_of d (drop r.given (group_list d key r.streams.tree 0 0))

-- an entry of the root's stream
pub record IsRootEntry {R : Type 0} (s : StreamsView R) (e : ℕ) : Type 0 where
  pub within : e < length s.entries
  pub node : entry_node s e ≡ 0
  pub group : entry_group s e ≡ 0

-- how many members were given, up to and with the last one
abbrev pub given_of : {R : Type 0} → StreamsView R → Option ℕ → ℕ
given_of s None = 0
given_of s (Some e) = entry_place s e + 1

-- an enumeration of the tree's answers; `live` says whether the tree has a solution
pub record IsRec {R : Type 0} (d : ℕ) (key : R → KeyOf d 16) (s : StreamsView R) (live : Bool)
    (last : Option ℕ) (calls : ℕ) : Type 0 where
  pub formed : IsFormed d key s.tree
  pub live_is : live ≡ nat_lt 0 (group_count s.tree 0)
  pub last_in : IfSome last (IsRootEntry s)
  pub few_calls : s.calls ≤ calls
