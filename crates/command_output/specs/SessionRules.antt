-- Steps that use only open cursors.
use Rattle.std.specs.Prelude.{◌≡◌, ℕ, List, [], ◌∷◌, None, IsSome}
use Rattle.session_script.specs.declared.step.Step.{Step}
use Rattle.session_script.specs.declared.step.Step.TheVariants.{Open, Next, Fork, Rewind, Close}
use Rattle.output_model.specs.Session.{Places, places_after}

-- the names that the step uses are open, and a name that it opens is not
abbrev pub CanStep : Places → Step → Type 0
CanStep places (Open name) = places name ≡ None
CanStep places (Next name count) = IsSome (places name)
CanStep places (Fork name new) = IsSome (places name) × (places new ≡ None)
CanStep places (Rewind name) = IsSome (places name)
CanStep places (Close name) = IsSome (places name)

-- the same holds for each step after it
abbrev pub CanFollow : List (List ℕ) → Places → List Step → Type 0
CanFollow members places [] = Unit {0}
CanFollow members places (step ∷ steps) = CanStep places step
    × CanFollow members (places_after members places step) steps

-- the step only opens, moves or closes a cursor
abbrev pub PrintsNothing : Step → Type 0
PrintsNothing (Open name) = Unit {0}
PrintsNothing (Next name count) = ⊥
PrintsNothing (Fork name new) = Unit {0}
PrintsNothing (Rewind name) = Unit {0}
PrintsNothing (Close name) = Unit {0}
