-- The item of which each row's best answer is asked for.
use Rattle.std.proofs.Common.{◌≡◌, ◌<◌, ◌≤◌, ◌∷◌, [], ℕ, List, Option, Some, None, Result, Ok, Err, length, get_or, position, refl, sym, ap, subst, ◌∙◌, arith}
use Rattle.std.specs.List.{AllByRecursion}
use Rattle.std.specs.Str.{bytes_eq}
use Rattle.anyk_model.specs.Query.{Item, Query}
use Rattle.anyk_model.specs.Table.{Table}
use Rattle.bound_query.specs.WeighedQuery.{BoundQuery}
use Rattle.refusals.specs.Reason.{BranchShape, Reason, UnionBest}
use Rattle.verdict.specs.Loading.{SideInput, Loaded, best_in, known_item, loaded_in, odd_branch}
use Rattle.verdict.specs.StageResults.{Pure}
use Rattle.session_script.specs.Script.{unless}
use Rattle.verdict.specs.Stages.{Is, then_by}
use Rattle.verdict.specs.AcceptedInput.{queries_in}
use Rattle.command_input.proofs.AllItems.{pure_as}

-- ---- the item that has the alias

-- there are several branches
pub best_several : (alias : List ℕ) (queries : List BoundQuery) → 1 < length queries → Err UnionBest ≡ best_in (Some alias) (queries_in queries)
best_several alias [] many = absurd (omega arith)
best_several alias (query ∷ []) many = absurd (omega arith)
best_several alias (query ∷ other ∷ queries) many = refl

-- there is one
pub best_one : (alias : List ℕ) (queries : List BoundQuery) (query : BoundQuery) → 1 ≤ length queries → length queries ≤ 1 → query ≡ get_or queries 0 query
    → best_in (Some alias) (queries_in queries) ≡ known_item (position (λ (i : Item). bytes_eq i.alias alias) query.query.items)
best_one alias [] query some one is = absurd (omega arith)
best_one alias (first ∷ []) query some one is = ap (λ (q : BoundQuery). known_item (position (λ (i : Item). bytes_eq i.alias alias) q.query.items)) (sym is)
best_one alias (first ∷ other ∷ queries) query some one is = absurd (omega arith)

pub one_within : (queries : List BoundQuery) (query : BoundQuery) (item : ℕ) → 1 ≤ length queries → length queries ≤ 1 → query ≡ get_or queries 0 query
    → item < length query.query.items → AllByRecursion (λ (q : BoundQuery). item < length q.query.items) queries
one_within [] query item some one is inside = tt
one_within (first ∷ []) query item some one is inside =
    let same : length query.query.items ≡ length first.query.items = ap (λ (q : BoundQuery). length q.query.items) is in
    (omega (arith, inside, same), tt)
one_within (first ∷ other ∷ queries) query item some one is inside = absurd (omega arith)

-- ---- the item among queries of one shape

abbrev shaped_best : Option (List ℕ) → List Query → Result (Option ℕ) Reason
shaped_best alias queries = then_by (unless (odd_branch queries) queries) (best_in alias)

-- a branch is not of the first one's shape
pub shape_refused : (alias : Option (List ℕ)) (queries : List Query) (branch : ℕ) → Some (BranchShape branch) ≡ odd_branch queries
    → Pure (Is (shaped_best alias queries)) (Err (BranchShape branch))
shape_refused alias queries branch h =
    let P : Option Reason → Type 0 = λ o. Pure (Is (then_by (unless o queries) (best_in alias))) (Err (BranchShape branch)) in
    subst P h refl

-- all branches are of its shape
pub shaped : (alias : Option (List ℕ)) (queries : List Query) (r : Result (Option ℕ) Reason) → None ≡ odd_branch queries → r ≡ best_in alias queries
    → r ≡ shaped_best alias queries
shaped alias queries r one h = h ∙ ap (λ (o : Option Reason). then_by (unless o queries) (best_in alias)) one

-- ---- what was loaded

module _ (queries : List Query) (tables : List Table) (beside : SideInput) (alias : Option (List ℕ)) where
  abbrev loaded_with : List Query → Option ℕ → Result Loaded Reason
  loaded_with qs best = Ok (record { queries = qs; tables = tables; best = best; steps = beside.steps; proof = beside.proof })

  abbrev loaded_after : Option Reason → Result Loaded Reason
  loaded_after o = then_by (unless o queries) (λ qs. then_by (best_in alias qs) (loaded_with qs))

  -- no item has the alias, or there are several branches, or they are not of one shape
  pub item_refused : (e : Reason) → Pure (Is (shaped_best alias queries)) (Err e) → Pure (Is (loaded_in alias queries tables beside)) (Err e)
  item_refused e = pure_as (Is (shaped_best alias queries)) (Is (loaded_in alias queries tables beside)) e (by (odd_branch queries))
    where
      by : (o : Option Reason) → Err e ≡ then_by (unless o queries) (best_in alias) → Err e ≡ loaded_after o
      by None h = ap (λ (r : Result (Option ℕ) Reason). then_by r (loaded_with queries)) h
      by (Some x) h = let same : e ≡ x = cc in ap Err same

  -- an item has it, or no alias is named
  pub item_found : (best : Option ℕ) → Ok best ≡ shaped_best alias queries → Is (loaded_in alias queries tables beside) (loaded_with queries best)
  item_found best = by (odd_branch queries)
    where
      by : (o : Option Reason) → Ok best ≡ then_by (unless o queries) (best_in alias) → loaded_with queries best ≡ loaded_after o
      by None h = ap (λ (r : Result (Option ℕ) Reason). then_by r (loaded_with queries)) h
      by (Some x) h = cc

-- the branches are of one shape if an item was found
pub found_shaped : (alias : Option (List ℕ)) (queries : List Query) (best : Option ℕ) → Ok best ≡ shaped_best alias queries → odd_branch queries ≡ None
found_shaped alias queries best = by (odd_branch queries)
  where
    by : (o : Option Reason) → Ok best ≡ then_by (unless o queries) (best_in alias) → o ≡ None
    by None h = refl
    by (Some x) h = cc
