-- The streams of a tree as their callers see them.
use Rattle.std.specs.Prelude.{◌≡◌, ℕ, ◌+◌, ◌<◌, ◌≤◌, Option, Some, None, List, length, slice_index_or}
use Rattle.stream_store.specs.declared.linked.Linked.{Linked}
use Rattle.rankings.specs.Order.{IsRanking}
use Rattle.tdp_core.specs.TreeView.{NodeView, group_count}
use Rattle.tdp_core.specs.WellFormed.{IsFormed, IsTieFreeTree}
use Rattle.tdp_model.specs.KeyTuple.{KeyOf, key_below, key_none}
use Rattle.suffix_streams.specs.declared.stream.Found.{Found}
use Rattle.suffix_streams.specs.NodeStreamsView.{NodeStreamsView}
use Rattle.suffix_streams.specs.Rankings.{GroupSolution, group_list}
use Rattle.suffix_streams.specs.Frontiers.{AreFirst}
use Rattle.suffix_streams.specs.TreeStreams.{IsStreams, node_of, group_of, place_of, stream, node_size, product_of}

-- a tree, the entries of all streams in the order in which they were found, the data of each node,
-- and the number of calls so far, which stays at its last value
pub record StreamsView (R : Type 0) : Type 0 where
  pub tree : List (NodeView R)
  pub entries : List (Linked (Found R))
  pub nodes : List (NodeStreamsView R)
  pub calls : ℕ

module _ {R : Type 0} where
  -- the node, the group and the place in the group's ranking of an entry
  abbrev pub entry_node : StreamsView R → ℕ → ℕ
  entry_node s e = node_of s.entries e

  abbrev pub entry_group : StreamsView R → ℕ → ℕ
  entry_group s e = group_of s.entries e

  abbrev pub entry_place : StreamsView R → ℕ → ℕ
  entry_place s e = place_of s.entries e

  -- the number of entries of all streams of a node
  abbrev pub size_of_node : StreamsView R → ℕ → ℕ
  size_of_node s q = node_size s.entries q

module _ {R : Type 0} (d : ℕ) (key : R → KeyOf d 16) where
  -- the ranking of the group whose solution an entry stands for
  abbrev pub entry_ranking : StreamsView R → ℕ → List (KeyOf d 16)
  entry_ranking s e = group_list d key s.tree (entry_node s e) (entry_group s e)

  -- the key of the solution that an entry stands for
  abbrev pub entry_key : StreamsView R → ℕ → KeyOf d 16
  entry_key s e = slice_index_or (entry_ranking s e) (entry_place s e) (key_none d 16)

  -- each stream is a nonempty prefix of the ranking of its group's subtree solutions
  abbrev pub ArePrefixes : StreamsView R → Type 0
  ArePrefixes s =
      (q g : ℕ) (ks : List (KeyOf d 16)) → q < length s.tree → g < group_count s.tree q
      → IsRanking (KeyOf d 16) (key_below d 16) (GroupSolution d key s.tree q g) ks
      → AreFirst d key (stream s.entries q g) ks

  pub record IsStreamsView (s : StreamsView R) : Type 0 where
    pub formed : IsFormed d key s.tree
    pub tie_free : IsTieFreeTree s.tree
    pub streams : IsStreams d key s.tree s.entries s.nodes
    pub few : (v r c : ℕ) → length (product_of s.nodes v r c).frontier ≤ s.calls + 1

-- the entries stay, each with its node, group and place
pub record AreKept {R : Type 0} (old new : StreamsView R) : Type 0 where
  pub longer : length old.entries ≤ length new.entries
  pub nodes : (e : ℕ) → e < length old.entries → entry_node new e ≡ entry_node old e
  pub groups : (e : ℕ) → e < length old.entries → entry_group new e ≡ entry_group old e
  pub places : (e : ℕ) → e < length old.entries → entry_place new e ≡ entry_place old e

-- entry n follows entry e in the ranking of their group
pub record IsNextEntry {R : Type 0} (s : StreamsView R) (e n : ℕ) : Type 0 where
  pub within : n < length s.entries
  pub node : entry_node s n ≡ entry_node s e
  pub group : entry_group s n ≡ entry_group s e
  pub place : entry_place s n ≡ entry_place s e + 1

-- entry e stands for a member of the ranking of its group
abbrev pub IsEntry : {R : Type 0} (d : ℕ) (key : R → KeyOf d 16) → StreamsView R → ℕ → Type 0
IsEntry d key s e = entry_place s e < length (entry_ranking d key s e)

-- the entry after entry e, or none if e stands for the last member of the ranking
abbrev pub Follows : {R : Type 0} (d : ℕ) (key : R → KeyOf d 16) → StreamsView R → ℕ → Option ℕ
    → Type 0
Follows d key s e (Some n) = IsNextEntry s e n × IsEntry d key s n
Follows d key s e None = length (entry_ranking d key s e) ≡ entry_place s e + 1
