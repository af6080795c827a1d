-- What certificates show of a query.
use Rattle.std.specs.Prelude.{◌≡◌, ◌↔◌, ℕ, true, List, length, map, Ok}
use Rattle.anyk_model.specs.Table.{Table}
use Rattle.anyk_model.specs.Query.{IsWitness, Query}
use Rattle.anyk_model.specs.Output.{cut}
use Rattle.anyk_model.specs.Ranking.{ranking_of}
use Rattle.bound_query.specs.NamedPlaces.{NamesExist}
use Rattle.bound_query.specs.Shape.{HasTree}
use Rattle.witness_key.specs.WitnessKey.{witness_key}
use Rattle.proof_model.specs.Certificate.{AnswerLine, Certificate}
use Rattle.proof_model.specs.Reading.{proof_of}
use Rattle.proof_model.specs.Parts.{HaveFewRows}
use Rattle.proof_model.specs.Problem.{IsSolutionAt, key_at}
use Rattle.proof_model.specs.ProofTexts.{IsProofText}
use Rattle.proof_model.specs.QueryProblem.{problem_of}
use Rattle.proof_model.specs.Valid.{IsValid}

-- the rows of the answers, in their order
abbrev pub answer_rows : Certificate → List (List ℕ)
answer_rows c = map (λ (a : AnswerLine). a.rows) c.answers

-- a list of rows is a solution of the whole tree exactly if it is a witness, and has then the same
-- key
abbrev pub SolutionsAreWitnesses : Type 0
SolutionsAreWitnesses =
    (query : Query) (tables : List Table) (atoms parents : List ℕ) → NamesExist query tables
    → HasTree query atoms parents
    → (rows : List ℕ)
    → (IsSolutionAt (problem_of query tables atoms parents) 0 rows ↔ IsWitness query tables rows)
    × (IsWitness query tables rows
    → key_at (problem_of query tables atoms parents) 0 rows
    ≡ witness_key (length query.order) query tables rows)

-- the answers of a valid certificate are those that the limit leaves of the ranking, and all of it
-- if it says `end`
abbrev pub AnswersBeginRanking : Type 0
AnswersBeginRanking =
    (query : Query) (tables : List Table) (atoms parents : List ℕ) (c : Certificate)
    → NamesExist query tables → HasTree query atoms parents
    → IsValid (problem_of query tables atoms parents) c query.limit
    → (answer_rows c ≡ cut query.limit (ranking_of query tables))
    × (c.ended ≡ true → answer_rows c ≡ ranking_of query tables)

-- the text that is written for a query is a valid certificate
abbrev pub WrittenIsValid : Type 0
WrittenIsValid =
    (query : Query) (tables : List Table) (atoms parents text : List ℕ)
    → NamesExist query tables → HaveFewRows tables → HasTree query atoms parents
    → IsProofText query tables text
    → (c : Certificate) × (proof_of text ≡ Ok c)
    × IsValid (problem_of query tables atoms parents) c query.limit
