-- What an engine over a plan has left before its first call.
use Rattle.std.specs.Prelude.{◌≡◌, ℕ, List, Option}
use Rattle.anyk_model.specs.Query.{Query}
use Rattle.anyk_model.specs.Table.{Table}
use Rattle.anyk_model.specs.BestList.{list_of}
use Rattle.tdp_core.specs.AnswerView.{AnswerView}
use Rattle.witness_key.specs.WitnessKey.{AreCombinations, combinations_in}

-- the list that is asked for of the query: its ranking, or the best answer of each row of the item
-- that is named
pub record IsAskedList (query : Query) (tables : List Table) (best : Option ℕ)
    (rest : List AnswerView) : Type 0 where
  pub list : combinations_in query rest ≡ list_of query tables best
  pub rows : AreCombinations query tables rest
