-- The steps of a preparation, as part of all steps.
use Rattle.std.proofs.Common.{◌≤◌, ◌+◌, ◌*◌, ℕ, List, [], ◌∷◌, length, arith}
use Rattle.std.specs.List.{sum_by}
use Rattle.std.proofs.lemmas.List.Sums.{sum_by-cons}
use Rattle.std.proofs.lemmas.Nat.{mul-le}
use Rattle.anyk_model.specs.Query.{Query, row_counts}
use Rattle.anyk_model.specs.Table.{Table}
use Rattle.plan_build.specs.Plans.{preparation_of}
use Rattle.bound_query.specs.KeyParts.{sum_of_all}
use Rattle.bound_query.specs.Shape.{Shape}
use Rattle.rank_key.specs.Bits.{bit_length}
use Rattle.bound_query.specs.Report.{total_rows}
use Rattle.bound_query.specs.RunBounds.{IsPrepared, cost_over}
use Rattle.anyk_model.specs.TaggedRows.{Tagged}
use Rattle.anyk_model.specs.Union.{members_in}
use Rattle.verdict.specs.UnionBound.{HaveShapes, union_cost}

prepared_cost : (l t b x : ℕ) → t ≤ b → 16 * (l * l * (1 + t)) ≤ 64 * (l * l) * (1 + b + x)
prepared_cost l t b x h = let more = mul-le (l * l) (1 + t) (l * l) (1 + b + x) (omega arith) (omega (arith, h)) in
    omega (arith, more)

pub prepared_over : (query : Query) (tables : List Table) (shape : Shape) (before now calls : ℕ)
    → IsPrepared query tables before now
    → now ≤ before + cost_over query tables shape calls
prepared_over query tables shape before now calls h =
    let l : ℕ = length query.items in
    let b : ℕ = total_rows query tables shape in
    let more = prepared_cost l (sum_of_all (row_counts query.items tables)) b
    (calls * (1 + bit_length (b + calls * l))) (omega arith) in
    omega (arith, h, more)

-- that of several queries, as part of the steps of their union
pub union_prepared : (tables : List Table) (list : List Tagged) (b : ℕ) (queries : List Query) (shapes : List Shape)
    → HaveShapes tables queries shapes
    → sum_by (preparation_of tables) queries ≤ union_cost tables list b queries shapes
union_prepared tables list b [] [] h = omega arith
union_prepared tables list b [] (shape ∷ shapes) h = absurd h
union_prepared tables list b (query ∷ queries) [] h = absurd h
union_prepared tables list b (query ∷ queries) (shape ∷ shapes) h =
    let sum = sum_by-cons (preparation_of tables) query queries in
    let own = prepared_over query tables shape 0 (preparation_of tables query) (members_in b list + 1) (omega arith) in
    let rest = union_prepared tables list (b + 1) queries shapes h.1 in
    omega (arith, sum, own, rest)
