-- A live tree as the theory of ranked enumeration has it.
use Rattle.std.proofs.Common.{ℕ, ◌<◌, List, length}
use Rattle.tdp_model.specs.KeyTuple.{KeyOf, key_below, key_add, key_none}
use Rattle.tdp_model.specs.StagedProblem.{IsStaged}
use Rattle.tdp_model.specs.TreeProblem.{IsTree}
use Rattle.tdp_model.proofs.KeyTuples.{tuple_keys}
use Rattle.tdp_model.proofs.TreeStaged.{other_of, tree_staged}
use Rattle.tdp_core.specs.TreeView.{NodeView, parent, rows, group_count, group, rank, best}
use Rattle.tdp_core.specs.WellFormed.{IsFormed}
use Rattle.tdp_core.proofs.TreeFacts.{tree_of}
use Rattle.anyk_part.specs.Regions.{followers, Reached, least}

module _ {R : Type 0} (d : ℕ) (key : R → KeyOf d 16) (t : List (NodeView R)) (formed : IsFormed d key t) (live : 0 < group_count t 0) where
  abbrev pub tree : IsTree (KeyOf d 16) (key_below d 16) (key_add d 16) (key_none d 16) (length t) (parent t) (rank t d key) (group t) (best t d key) (λ v r. r < rows t v)
  tree = tree_of d key t formed live

  -- the bound without what the row at the position adds to it
  abbrev pub other : ℕ → List ℕ → KeyOf d 16
  other n pre = other_of (key_below d 16) (key_add d 16) (key_none d 16) (tuple_keys d 16) (length t) (parent t) (rank t d key) (group t) (best t d key) (λ v r. r < rows t v) tree n pre

  -- a tree is answered one row after the other
  pub staged : IsStaged (KeyOf d 16) (key_below d 16) (followers t) (least d key t) (Reached t)
  staged = tree_staged (key_below d 16) (key_add d 16) (key_none d 16) (tuple_keys d 16) (length t) (parent t) (rank t d key) (group t) (best t d key) (λ v r. r < rows t v) tree
