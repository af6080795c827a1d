-- The hypergraph of a query.
use Rattle.std.specs.Prelude.{◌≡◌, ◌↔◌, ◌==◌, ◌<◌, ◌^◌, ℕ, Bool, IsTrue, List, length, slice_index}
use Rattle.std.specs.List.{list_any}
use Rattle.hyper_graph.specs.Graph.{Hypergraph, IsGraph, HasVar, IsIn}
use Rattle.anyk_model.specs.Query.{Query, Column}
use Rattle.bound_query.specs.Classes.{AreVariables, HasVariable}
use Rattle.bound_query.specs.WeighedQuery.{variables_at}

-- the atoms are the items, and each variable has the items in which its class has a column
pub record IsGraphOf (query : Query) (graph : Hypergraph) : Type 0 where
  pub is_graph : IsGraph graph
  pub atoms : graph.atoms ≡ length query.items
  pub variables : List Column
  pub are_variables : AreVariables query.equalities variables
  pub numbered : length graph.vars ≡ length variables
  pub has : (v a : ℕ) → v < length variables
      → HasVar graph v a ↔ ((place : ℕ) × HasVariable query.equalities variables a v place)

-- whether a variable is among those of an item
abbrev pub has_number : List (ℕ × ℕ) → ℕ → Bool
has_number list number = list_any (λ (p : ℕ × ℕ). p.0 == number) list

-- the first n items that have a variable, as bits
pub record IsItemSet (lists : List (List (ℕ × ℕ))) (number n set : ℕ) : Type 0 where
  pub within : set < 2 ^ n
  pub members : (a : ℕ) → IsIn set a ↔ ((a < n) × IsTrue (has_number (variables_at lists a) number))

-- the items of each of the first n variables, if there are `items` items
pub record AreItemSets (lists : List (List (ℕ × ℕ))) (items n : ℕ) (sets : List ℕ) : Type 0 where
  pub count : length sets ≡ n
  pub each : (number : ℕ) → number < n → IsItemSet lists number items (slice_index sets number)
