-- The greatest number of steps of a run of a query.
use Rattle.std.specs.Prelude.{◌≡◌, ◌+◌, ◌*◌, ◌++◌, ◌≤◌, ℕ, List, Option, Some, Ok, drop, length, map}
use Rattle.anyk_model.specs.Table.{Table}
use Rattle.anyk_model.specs.Query.{Query, row_counts}
use Rattle.anyk_model.specs.Output.{Style, cut, header_text, line_text}
use Rattle.bound_query.specs.Report.{total_rows}
use Rattle.bound_query.specs.Shape.{IsShape, Shape}
use Rattle.bound_query.specs.KeyParts.{sum_of_all}
use Rattle.bound_query.specs.Steps.{calls_for, cost, whole_lines}

-- the bound for this many calls for answers
abbrev pub cost_over : Query → List Table → Shape → ℕ → ℕ
cost_over query tables shape calls = cost (length query.items) (total_rows query tables shape) calls

-- the number of whole records, after the header, in a part of the output over a list of
-- combinations
abbrev pub records_in : Query → List Table → List (List ℕ) → Style → List ℕ → ℕ
records_in query tables list style part =
    whole_lines (map (line_text query tables style) (cut query.limit list))
    (drop (length (header_text query tables style)) part)

-- no more steps than the preparation of the query's plan may take
abbrev pub IsPrepared : Query → List Table → ℕ → ℕ → Type 0
IsPrepared query tables before now =
    now ≤ before + 16 *
    (length query.items * length query.items * (1 + sum_of_all (row_counts query.items tables)))

-- no more steps than the bound for the calls that the whole output over the list asks for
abbrev pub KeepsBound : Query → List Table → List (List ℕ) → ℕ → ℕ → Type 0
KeepsBound query tables list before now =
    (shape : Shape) → IsShape query tables (Ok shape)
    → now ≤ before + cost_over query tables shape (calls_for query.limit list)

-- no more steps than for the whole records that were written, and one more
abbrev pub KeepsPace : Query → List Table → List (List ℕ) → Style → Option (List ℕ)
    → Option (List ℕ) → ℕ → ℕ → Type 0
KeepsPace query tables list style old new before now =
    (shape : Shape) → IsShape query tables (Ok shape) → (start part : List ℕ) → old ≡ Some start
    → new ≡ Some (start ++ part)
    → now ≤ before + cost_over query tables shape (records_in query tables list style part + 1)
