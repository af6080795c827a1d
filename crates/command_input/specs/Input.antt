-- An input, as contracts see it.
use Rattle.std.specs.Prelude.{◌<◌, ◌≤◌, ℕ, List, [], length, Option, IfSome}
use Rattle.std.specs.List.{All, AllByRecursion}
use Rattle.anyk_model.specs.Table.{Table}
use Rattle.bound_query.specs.WeighedQuery.{BoundQuery, Fits}
use Rattle.proof_model.specs.Certificate.{Certificate}
use Rattle.session_script.specs.declared.step.Step.{Step}
use Rattle.session_script.specs.Script.{KeepsRules}
use Rattle.anyk_model.specs.TaggedRows.{HaveKeys}
use Rattle.verdict.specs.AcceptedInput.{queries_in}
use Rattle.verdict.specs.Loading.{Loaded}

pub record InputView : Type 0 where
  -- the query of each branch, and one query if there are no branches
  pub queries : List BoundQuery
  pub tables : List Table
  -- the item of which each row's best answer is asked for, if one is named
  pub best : Option ℕ
  -- the steps of the script, and none if there is no script
  pub steps : List Step
  -- the certificate, and the empty one if there is none
  pub proof : Certificate

-- the queries were bound to the tables and have as many order keys each, a query has the item if
-- one is named, and the steps keep the rules of scripts
pub record IsSound (input : InputView) : Type 0 where
  pub some : 1 ≤ length input.queries
  pub few : length input.queries ≤ 8
  pub fits : All (λ (q : BoundQuery). Fits q input.tables) input.queries
  pub keys : (keys : ℕ) × HaveKeys keys (queries_in input.queries)
  pub item : IfSome input.best
      (λ item. AllByRecursion (λ (q : BoundQuery). item < length q.query.items) input.queries)
  pub rules : KeepsRules [] input.steps

-- what is known of the input
abbrev pub loaded_of : InputView → Loaded
loaded_of input = record {
  queries = queries_in input.queries;
  tables = input.tables;
  best = input.best;
  steps = input.steps;
  proof = input.proof;
}
