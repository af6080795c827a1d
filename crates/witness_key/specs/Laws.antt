-- What the rows of the nodes of a join tree make.
use Rattle.std.specs.Prelude.{◌≡◌, ◌↔◌, ℕ, ◌<◌, List, length, map, slice_index}
use Rattle.hyper_graph.specs.Graph.{Hypergraph}
use Rattle.hyper_graph.specs.JoinTrees.{IsJoinTree}
use Rattle.tdp_model.specs.KeyTuple.{KeyOf, key_add, key_none}
use Rattle.tdp_model.specs.TreeProblem.{sum_from}
use Rattle.rank_key.specs.Keys.{row_key}
use Rattle.anyk_model.specs.Table.{Table}
use Rattle.anyk_model.specs.Query.{IsCombination, IsWitness, Query, row_counts}
use Rattle.bound_query.specs.Classes.{Agree, Passes}
use Rattle.bound_query.specs.Graph.{IsGraphOf}
use Rattle.bound_query.specs.NamedPlaces.{NamesExist}
use Rattle.bound_query.specs.Weights.{part_of}
use Rattle.witness_key.specs.WitnessKey.{witness_key}

-- the rows of each node and of its parent agree
abbrev pub AgreeAlongLinks : Query → List Table → (atoms parents rows : List ℕ) → Type 0
AgreeAlongLinks query tables atoms parents rows =
    (k : ℕ) → 0 < k → k < length atoms
    → Agree query tables rows (slice_index atoms k) (slice_index atoms (slice_index parents k))

-- a combination is a witness exactly if its rows pass, and agree along each link of a join tree
abbrev pub LinksMakeWitnesses : Type 0
LinksMakeWitnesses =
    (query : Query) (tables : List Table) (graph : Hypergraph) (atoms parents rows : List ℕ)
    → NamesExist query tables → IsGraphOf query graph → IsJoinTree graph atoms parents
    → IsWitness query tables rows
    ↔ (IsCombination (row_counts query.items tables) rows
    × ((i : ℕ) → i < length query.items → Passes query tables i (slice_index rows i))
    × AgreeAlongLinks query tables atoms parents rows)

-- the key of the row that a combination has of an item
abbrev pub item_key : (d : ℕ) → Query → List Table → List ℕ → ℕ → KeyOf d 16
item_key d query tables rows i =
    row_key d (map (part_of tables query.items i (slice_index rows i)) query.order) i
    (slice_index rows i)

-- the keys of the rows of the nodes add up to the key of the combination
abbrev pub KeysAddUp : Type 0
KeysAddUp =
    (query : Query) (tables : List Table) (graph : Hypergraph) (atoms parents rows : List ℕ) (d : ℕ)
    → NamesExist query tables → IsGraphOf query graph → IsJoinTree graph atoms parents
    → length rows ≡ length query.items
    → sum_from (key_add d 16) (key_none d 16)
    (λ q. item_key d query tables rows (slice_index atoms q)) (length atoms) 0
    ≡ witness_key d query tables rows
