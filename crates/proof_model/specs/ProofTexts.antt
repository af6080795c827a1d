-- The text that is written for a query.
use Rattle.std.specs.Prelude.{◌≡◌, ℕ, List, not, Ok}
use Rattle.anyk_model.specs.Table.{Table}
use Rattle.anyk_model.specs.Query.{Query}
use Rattle.anyk_model.specs.Output.{cut}
use Rattle.anyk_model.specs.Ranking.{ranking_of}
use Rattle.bound_query.specs.Shape.{IsShape, Shape}
use Rattle.bound_query.specs.Steps.{reaches}
use Rattle.proof_model.specs.Certificate.{Certificate}
use Rattle.proof_model.specs.Writing.{proof_text}
use Rattle.proof_model.specs.QueryProblem.{problem_of}
use Rattle.proof_model.specs.WrittenProofs.{IsWritten}

-- the text of the certificate for the query's ranking; it says `more` if the limit's number of
-- answers was given
abbrev pub IsProofText : Query → List Table → List ℕ → Type 0
IsProofText query tables text =
    (shape : Shape) × IsShape query tables (Ok shape) × (c : Certificate)
    × IsWritten (problem_of query tables shape.atoms shape.parents) c
    (cut query.limit (ranking_of query tables))
    × (c.ended ≡ not (reaches query.limit (ranking_of query tables)))
    × (text ≡ proof_text c)
