-- The structure of what was loaded, as a stage that reads no file.
use Rattle.std.proofs.Common.{◌≡◌, ◌+◌, ℕ, Bool, List, [], ◌∷◌, ◌++◌, length, Result, Ok, Err, refl, sym, subst, arith}
use Rattle.anyk_model.specs.Query.{Query}
use Rattle.anyk_model.specs.Table.{Table}
use Rattle.bound_query.specs.Shape.{Shape}
use Rattle.refusals.specs.Reason.{Reason}
use Rattle.verdict.specs.AcceptedInput.{found_of}
use Rattle.verdict.specs.Loading.{Loaded, are_several, told_branch}
use Rattle.verdict.specs.StageResults.{Pure}
use Rattle.verdict.specs.Stages.{followed, refused}
use Rattle.verdict.specs.UnionBound.{HaveShapes}
use Rattle.verdict.specs.Verdict.{AreStructures, IsFlawed, IsShaped}

-- each query has a structure
pub structures_found : (several : Bool) (number : ℕ) (tables : List Table) (queries : List Query) (shapes : List Shape)
    → HaveShapes tables queries shapes → AreStructures several number tables queries (Ok shapes)
structures_found several number tables [] [] h = refl
structures_found several number tables [] (shape ∷ shapes) h = absurd h
structures_found several number tables (query ∷ queries) [] h = absurd h
structures_found several number tables (query ∷ queries) (shape ∷ shapes) h =
    followed {a = shape} h.0 (followed {a = shapes} (structures_found several (number + 1) tables queries shapes h.1) refl)

-- these have one, and the next one has none
pub structures_refused : (several : Bool) (number place : ℕ) (tables : List Table) (before : List Query) (query : Query) (later : List Query) (shapes : List Shape)
    (reason : Reason) → HaveShapes tables before shapes → place ≡ number + length before → IsFlawed (told_branch several place) query tables reason
    → AreStructures several number tables (before ++ query ∷ later) (Err reason)
structures_refused several number place tables [] query later shapes reason h e flawed =
    let same : place ≡ number = omega (arith, e) in
    refused (subst (λ n. IsFlawed (told_branch several n) query tables reason) same flawed)
structures_refused several number place tables (first ∷ before) query later [] reason h e flawed = absurd h
structures_refused several number place tables (first ∷ before) query later (shape ∷ shapes) reason h e flawed =
    followed {a = shape} h.0
    (refused (structures_refused several (number + 1) place tables before query later shapes reason h.1 (omega (arith, e)) flawed))

abbrev Found : Result (List Shape) Reason → Result (List Shape) Reason → Type 0
Found a b = a ≡ b

same_found : {a b : List Shape} → Found (Ok a) (Ok b) → a ≡ b
same_found e = cc

-- the structures that were found are those of the queries
pub shapes_had : (several : Bool) (number : ℕ) (tables : List Table) (queries : List Query) (shapes : List Shape)
    → AreStructures several number tables queries (Ok shapes) → HaveShapes tables queries shapes
shapes_had several number tables [] shapes h = subst (HaveShapes tables []) (sym (same_found h)) tt
shapes_had several number tables (query ∷ queries) shapes (followed {a = shape} is (followed {a = others} more same)) =
    subst (HaveShapes tables (query ∷ queries)) (sym (same_found same)) (is, shapes_had several (number + 1) tables queries others more)

-- what was loaded has these structures
pub shapes_found : (loaded : Loaded) (shapes : List Shape) → HaveShapes loaded.tables loaded.queries shapes
    → Pure (IsShaped loaded) (Ok (found_of loaded shapes))
shapes_found loaded shapes h =
    followed {a = shapes} (structures_found (are_several loaded.queries) 1 loaded.tables loaded.queries shapes h) refl
