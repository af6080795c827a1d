-- Trees whose rows are in groups that have no order yet.
use Rattle.std.specs.Prelude.{◌≡◌, ℕ, ◌<◌, List, [], length}
use Rattle.tdp_model.specs.KeyTuple.{KeyOf}
use Rattle.tdp_core.specs.TreeView.{NodeView, node_at}
use Rattle.tdp_core.specs.WellFormed.{IsLaidOut}

-- A tree that is laid out, without the least keys, which are not known yet.
pub record IsGrouped {R : Type 0} (d : ℕ) (key : R → KeyOf d 16)
    (t : List (NodeView R)) : Type 0 where
  pub laid_out : IsLaidOut d key t
  pub open laid_out use *
  pub no_best : (v : ℕ) → v < length t → (node_at t v).best ≡ []
