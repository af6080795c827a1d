-- What is known of an accepted input.
use Rattle.std.specs.Prelude.{ℕ, nat_lt, List, [], Bool, Option, get_or, length, map}
use Rattle.anyk_model.specs.Table.{Table}
use Rattle.anyk_model.specs.Query.{Query}
use Rattle.bound_query.specs.WeighedQuery.{BoundQuery}
use Rattle.bound_query.specs.Shape.{Shape}
use Rattle.session_script.specs.declared.step.Step.{Step}
use Rattle.proof_model.specs.Certificate.{Certificate}
use Rattle.anyk_model.specs.TaggedRows.{branch_at}
use Rattle.verdict.specs.Loading.{Loaded}

pub record AcceptedInput : Type 0 where
  -- the query of each branch, and one query if there are no branches
  pub queries : List Query
  pub tables : List Table
  -- the join tree of each, with the numbers of its node rows
  pub shapes : List Shape
  -- the item of which each row's best answer is asked for, if one is named
  pub best : Option ℕ
  -- the steps of the script, and none if there is no script
  pub steps : List Step
  -- the certificate, and the empty one if there is none
  pub proof : Certificate

-- the queries alone, without what was found when they were bound
abbrev pub queries_in : List BoundQuery → List Query
queries_in queries = map (λ (q : BoundQuery). q.query) queries

-- what was loaded, with its structure
abbrev pub found_of : Loaded → List Shape → AcceptedInput
found_of loaded shapes = record {
  queries = loaded.queries;
  tables = loaded.tables;
  shapes = shapes;
  best = loaded.best;
  steps = loaded.steps;
  proof = loaded.proof;
}

-- it has several branches
abbrev pub is_union : AcceptedInput → Bool
is_union found = nat_lt 1 (length found.queries)

-- the first query, which is the only one if there are no branches, and its structure
abbrev pub query_of : AcceptedInput → Query
query_of found = branch_at found.queries 0

abbrev pub structure_of : AcceptedInput → Shape
structure_of found = get_or found.shapes 0 (record { atoms = []; parents = []; node_rows = [] })
