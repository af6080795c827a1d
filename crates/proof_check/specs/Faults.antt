-- The faults of bound lines.
use Rattle.std.specs.Prelude.{◌≡◌, ◌⊎◌, ℕ, List}
use Rattle.anyk_model.specs.Table.{Table}
use Rattle.anyk_model.specs.Query.{Query}
use Rattle.join_tree.specs.declared.tree.JoinTree.{JoinTree}
use Rattle.proof_model.specs.Certificate.{Certificate}
use Rattle.proof_model.specs.declared.fault.ProofFault.{ProofFault}
use Rattle.proof_model.specs.declared.fault.ProofFault.TheVariants as fault
use Rattle.proof_model.specs.Faults.{fault_of}
use Rattle.proof_model.specs.QueryProblem.{problem_in}
use Rattle.proof_model.specs.Valid.{IsFirstFlaw, bound_twice, no_solution}

module _ (query : Query) (tables : List Table) (join : JoinTree) (c : Certificate) where
  -- memory ran out, or this is the first line that is no solution
  abbrev pub TellsBadBound : ProofFault → Type 0
  TellsBadBound told =
      (told ≡ fault.NoMemory)
      ⊎ ((i : ℕ) × (told ≡ fault_of (problem_in query tables join) c (no_solution i))
      × IsFirstFlaw (problem_in query tables join) c query.limit (no_solution i))

  -- memory ran out, or this is the first line whose group has a line before it
  abbrev pub TellsBoundTwice : ProofFault → Type 0
  TellsBoundTwice told =
      (told ≡ fault.NoMemory)
      ⊎ ((i : ℕ) × (told ≡ fault_of (problem_in query tables join) c (bound_twice i))
      × IsFirstFlaw (problem_in query tables join) c query.limit (bound_twice i))
