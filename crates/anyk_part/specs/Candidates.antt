-- What the candidates are to a caller: regions of the solutions that are left, each with its least
-- key.
use Rattle.std.specs.Prelude.{◌≡◌, ℕ, ◌<◌, List}
use Rattle.tdp_model.specs.KeyTuple.{KeyOf, key_below, key_add, key_none}
use Rattle.tdp_model.specs.Regions.{in_region, in_regions}
use Rattle.tdp_model.specs.Remains.{AtMost, Remains}
use Rattle.tdp_model.specs.TreeProblem.{rows_key}
use Rattle.tdp_core.specs.TreeView.{NodeView, rank}
use Rattle.anyk_part.specs.Regions.{RankedRegion, regions, followers, rest_keys}

module _ {R : Type 0} (d : ℕ) (key : R → KeyOf d 16) (t : List (NodeView R)) where
  -- the key of a solution: the sum of its rows' keys
  abbrev pub key_of_rows : List ℕ → KeyOf d 16
  key_of_rows = rows_key (key_add d 16) (key_none d 16) (rank t d key)

  -- No solution is in two of the regions, no two solutions in them have one key, and `rest_keys` is
  -- the ranking of the keys of the solutions in them.
  abbrev pub HoldTheRest : List (RankedRegion R) → Type 0
  HoldTheRest cs = Remains (List ℕ) (KeyOf d 16) (key_below d 16) key_of_rows
      (in_regions (followers t) (regions cs)) (rest_keys d key t (regions cs))

  -- the candidate's rank is the least key of the solutions in its region
  pub record HasLeastRank (c : RankedRegion R) : Type 0 where
    pub had : (s : List ℕ) × (0 < in_region (followers t) c.region s) × (key_of_rows s ≡ key c.rank)
    pub least : (s : List ℕ) → 0 < in_region (followers t) c.region s
        → AtMost (key_below d 16) (key c.rank) (key_of_rows s)
