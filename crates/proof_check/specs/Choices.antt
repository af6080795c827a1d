-- What is told of the open choices of a certificate.
use Rattle.std.specs.Prelude.{◌≡◌, ◌⊎◌, List}
use Rattle.anyk_model.specs.Table.{Table}
use Rattle.anyk_model.specs.Query.{Query}
use Rattle.join_tree.specs.declared.tree.JoinTree.{JoinTree}
use Rattle.proof_model.specs.Certificate.{Certificate}
use Rattle.proof_model.specs.declared.fault.ProofFault.{ProofFault}
use Rattle.proof_model.specs.declared.fault.ProofFault.TheVariants as fault
use Rattle.proof_model.specs.QueryProblem.{problem_in}
use Rattle.proof_model.specs.Valid.{Holds, IsPassed, OpenChoice, missed}

-- each way to leave the answers comes after the last one, and there is none if the certificate says
-- `end`
abbrev pub ArePassed : Query → List Table → JoinTree → Certificate → Type 0
ArePassed query tables join c =
    (o : OpenChoice (problem_in query tables join) c)
    → IsPassed (problem_in query tables join) c c.ended o

-- an unlisted answer may come before the last one
abbrev pub IsMissed : Query → List Table → JoinTree → Certificate → Type 0
IsMissed query tables join c = Holds (problem_in query tables join) c query.limit missed

-- the fault that may be returned: memory ran out, or an answer is missed
abbrev pub TellsMissed : Query → List Table → JoinTree → Certificate → ProofFault → Type 0
TellsMissed query tables join c told = (told ≡ fault.NoMemory)
    ⊎ ((told ≡ fault.Missed) × IsMissed query tables join c)
