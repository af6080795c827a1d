-- Trees whose ranking is that of a query's witnesses.
use Rattle.std.specs.Prelude.{◌≡◌, ℕ, List, map}
use Rattle.tdp_model.specs.KeyTuple.{KeyOf}
use Rattle.tdp_core.specs.TreeView.{NodeView}
use Rattle.tdp_core.specs.Solutions.{IsTreeRanking}
use Rattle.anyk_model.specs.Table.{Table}
use Rattle.anyk_model.specs.Query.{Query}
use Rattle.anyk_model.specs.Ranking.{ranking_of}
use Rattle.witness_key.specs.WitnessKey.{witness_key}

-- the keys of the tree's solutions are those of the witnesses
abbrev pub RanksWitnesses : {R : Type 0} (d : ℕ) (key : R → KeyOf d 16) → Query → List Table
    → List (NodeView R) → Type 0
RanksWitnesses d key query tables tree =
    (all : List (KeyOf d 16)) → IsTreeRanking tree d key all
    → all ≡ map (witness_key d query tables) (ranking_of query tables)
