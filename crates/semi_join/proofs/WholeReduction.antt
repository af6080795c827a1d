-- What is computed node by node is the reduction of the raw tree.
use Rattle.std.proofs.Common.{ℕ, List, length}
use Rattle.tdp_model.specs.KeyTuple.{KeyOf}
use Rattle.tdp_core.specs.RawView.{RawView, IsRawFormed}
use Rattle.tdp_core.specs.TreeView.{NodeView}
use Rattle.semi_join.specs.ReducedTrees.{IsReduced}
use Rattle.semi_join.proofs.FromLast.{AreReducedLast}
use Rattle.semi_join.proofs.Descends.{later_of}
use Rattle.semi_join.proofs.Ascending.{kept_ascends}
use Rattle.semi_join.proofs.KeptParts.{kept_at, exact, node_of, all_shapes}
use Rattle.semi_join.proofs.NamedGroups.{named_members, shared_group}
use Rattle.semi_join.proofs.KeptSolutions.{solution_kept, solutions_apart, solution_from, key_kept, tie_free_kept_lem}
use Rattle.semi_join.proofs.FormedParts.{formed_parts}

pub whole_reduction : {R : Type 0} (d : ℕ) (key : R → KeyOf d 16) (raw : RawView R) (parts : List (NodeView R)) → IsRawFormed d key raw → AreReducedLast raw (length raw.shapes) parts → IsReduced d key raw parts
whole_reduction d key raw parts formed last = record {
  shapes = all_shapes raw parts last;
  kept = kept_at raw;
  exact = exact raw formed.shaped;
  ascending = λ v h. kept_ascends raw v (later_of raw v);
  rows = λ v h. (node_of raw parts last v h).rows;
  one_group = shared_group raw formed.shaped parts last;
  to_child = named_members raw formed.shaped parts last;
  solutions = solution_kept raw formed.shaped parts last;
  one_to_one = solutions_apart raw formed.shaped parts last;
  onto = solution_from raw formed.shaped parts last;
  same_key = key_kept raw formed.shaped parts last d key;
  formed = formed_parts d key raw formed parts last;
  tie_free = tie_free_kept_lem raw formed.shaped parts last;
}
