-- The greatest number of steps of a run over several queries.
use Rattle.std.specs.Prelude.{◌≡◌, ◌+◌, ◌++◌, ◌≤◌, ℕ, List, [], ◌∷◌, Option, Some, Ok, drop, length, map, take}
use Rattle.anyk_model.specs.Output.{Style}
use Rattle.anyk_model.specs.Table.{Table}
use Rattle.anyk_model.specs.Query.{Query}
use Rattle.bound_query.specs.Shape.{IsShape, Shape}
use Rattle.bound_query.specs.RunBounds.{cost_over}
use Rattle.bound_query.specs.Steps.{whole_lines}
use Rattle.anyk_model.specs.TaggedRows.{Tagged}
use Rattle.anyk_model.specs.Union.{members_in}
use Rattle.anyk_model.specs.UnionOutput.{union_header_text, union_line_text}

-- the sum over the branches, of which the first has the number b, of the bound for as many calls as
-- the branch has members in the list, and one more
abbrev pub union_cost : List Table → List Tagged → ℕ → List Query → List Shape → ℕ
union_cost tables list b [] shapes = 0
union_cost tables list b (query ∷ queries) [] = 0
union_cost tables list b (query ∷ queries) (shape ∷ shapes) =
    cost_over query tables shape (members_in b list + 1)
    + union_cost tables list (b + 1) queries shapes

-- the number of whole records, after the header, in a part of the output
abbrev pub union_records : List Query → List Table → List Tagged → Style → List ℕ → ℕ
union_records queries tables list style part =
    whole_lines (map (union_line_text queries tables style) list)
    (drop (length (union_header_text queries tables style)) part)

-- each query has the structure at its place
abbrev pub HaveShapes : List Table → List Query → List Shape → Type 0
HaveShapes tables [] [] = Unit {0}
HaveShapes tables [] (shape ∷ shapes) = ⊥
HaveShapes tables (query ∷ queries) [] = ⊥
HaveShapes tables (query ∷ queries) (shape ∷ shapes) = IsShape query tables (Ok shape)
    × HaveShapes tables queries shapes

-- no more steps than the bound for the members of the list
abbrev pub KeepsUnionBound : List Query → List Table → List Tagged → ℕ → ℕ → Type 0
KeepsUnionBound queries tables list before now =
    (shapes : List Shape) → HaveShapes tables queries shapes
    → now ≤ before + union_cost tables list 0 queries shapes

-- no more steps than the bound for the members whose records were written, and for one more
abbrev pub KeepsUnionPace : List Query → List Table → List Tagged → Style → Option (List ℕ)
    → Option (List ℕ) → ℕ → ℕ → Type 0
KeepsUnionPace queries tables list style old new before now =
    (shapes : List Shape) → HaveShapes tables queries shapes → (start part : List ℕ)
    → old ≡ Some start → new ≡ Some (start ++ part)
    → now ≤ before + union_cost tables
    (take (union_records queries tables list style part + 1) list) 0 queries shapes
