-- The faults that are told of a certificate.
use Rattle.std.specs.Prelude.{◌≡◌, suc, List, Ok, Err}
use Rattle.tdp_model.specs.NodeRows.{most_node_rows}
use Rattle.anyk_model.specs.Table.{Table}
use Rattle.anyk_model.specs.Query.{Query}
use Rattle.join_tree.specs.declared.tree.JoinTree.{JoinTree}
use Rattle.bound_query.specs.Shape.{IsShape, Shape, too_many_rows}
use Rattle.proof_model.specs.Certificate.{Certificate}
use Rattle.proof_model.specs.declared.fault.ProofFault.{ProofFault}
use Rattle.proof_model.specs.declared.fault.ProofFault.TheVariants as fault
use Rattle.proof_model.specs.Problem.{Problem}
use Rattle.proof_model.specs.QueryProblem.{problem_in}
use Rattle.proof_model.specs.Valid.{Flaw, IsFirstFlaw, answer_at, bound_at}
use Rattle.proof_model.specs.Valid.{no_solution, bound_twice, weak, no_answer, not_in_order, wrong_count, missed}

-- how a flaw is told: bounds and answers by their lines, nodes by their numbers, from 1
abbrev pub fault_of : {K : Type 0} → Problem K → Certificate → Flaw → ProofFault
fault_of t c (no_solution i) = fault.BadBound (bound_at t c i).line
fault_of t c (bound_twice i) = fault.BoundTwice (bound_at t c i).line
fault_of t c (weak v) = fault.Weak (suc v)
fault_of t c (no_answer i) = fault.BadAnswer (answer_at t c i).line
fault_of t c (not_in_order i) = fault.Order (answer_at t c i).line
fault_of t c wrong_count = fault.Count
fault_of t c missed = fault.Missed

module _ (query : Query) (tables : List Table) (join : JoinTree) (c : Certificate) where
  -- there are few enough node rows, and the fault tells the first flaw of the certificate
  abbrev pub TellsFirst : ProofFault → Type 0
  TellsFirst told =
      (shape : Shape) × IsShape query tables (Ok shape) × (f : Flaw)
      × (told ≡ fault_of (problem_in query tables join) c f)
      × IsFirstFlaw (problem_in query tables join) c query.limit f

  -- the fault that may be returned if a certificate is checked: memory ran out, there are too many
  -- node rows, or the certificate has this flaw
  abbrev pub TellsFlaw : ProofFault → Type 0
  TellsFlaw fault.NoMemory = Unit {0}
  TellsFlaw fault.BadHeader = ⊥
  TellsFlaw (fault.BadLine n) = ⊥
  TellsFlaw (fault.TooManyRows most) = (most ≡ most_node_rows)
      × IsShape query tables (Err too_many_rows)
  TellsFlaw (fault.BadBound n) = TellsFirst (fault.BadBound n)
  TellsFlaw (fault.BoundTwice n) = TellsFirst (fault.BoundTwice n)
  TellsFlaw (fault.Weak n) = TellsFirst (fault.Weak n)
  TellsFlaw (fault.BadAnswer n) = TellsFirst (fault.BadAnswer n)
  TellsFlaw (fault.Order n) = TellsFirst (fault.Order n)
  TellsFlaw fault.Count = TellsFirst fault.Count
  TellsFlaw fault.Missed = TellsFirst fault.Missed
