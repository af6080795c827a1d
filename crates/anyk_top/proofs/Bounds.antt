-- The steps of a command, if its input is accepted.
use Rattle.std.proofs.Common.{◌≡◌, ◌<◌, ◌≤◌, ◌+◌, ◌++◌, ℕ, Bool, true, false, if◌then◌else◌, List, [], ◌∷◌}
use Rattle.std.proofs.Common.{length, take, Option, Some, Result, Ok, refl, sym, subst, arith}
use Rattle.std.specs.List.{sum_by}
use Rattle.std.proofs.lemmas.Bool.{false≢true, lt-ltb, ltb-false}
use Rattle.std.proofs.lemmas.List.{length-map}
use Rattle.std.proofs.lemmas.List.Sums.{sum_by-cons}
use Rattle.anyk_model.specs.Output.{cut}
use Rattle.anyk_model.specs.Query.{Query}
use Rattle.anyk_model.specs.Table.{Table}
use Rattle.outer_io.specs.SinkState.{SinkState}
use Rattle.bound_query.specs.Shape.{Shape}
use Rattle.refusals.specs.Reason.{Reason}
use Rattle.output_model.specs.SessionCalls.{session_reach}
use Rattle.output_model.specs.SessionPieces.{pieces_in}
use Rattle.anyk_model.specs.TaggedRows.{Tagged, branch_at}
use Rattle.anyk_model.specs.Union.{union_of}
use Rattle.anyk_model.specs.UnionOutput.{union_output_of}
use Rattle.bound_query.specs.WeighedQuery.{BoundQuery}
use Rattle.command_input.specs.Input.{InputView, loaded_of}
use Rattle.plan_build.specs.Plans.{ArePrepared, preparation_of}
use Rattle.verdict.specs.Bound.{IsPaced, KeepsCommandBound, cost_of}
use Rattle.verdict.specs.AcceptedInput.{AcceptedInput, found_of, is_union, queries_in, query_of, structure_of}
use Rattle.verdict.specs.Loading.{are_several}
use Rattle.verdict.specs.Output.{answers_text, asked_list, members_of, style_of, tagged_of}
use Rattle.verdict.specs.Stages.{followed}
use Rattle.verdict.specs.UnionBound.{HaveShapes, union_cost, union_records}
use Rattle.verdict.specs.Verdict.{IsShaped}
use Rattle.verdict.specs.Words.{Command, Words, run, plan, session, load, prove, verify}
use Rattle.verdict.proofs.Structure.{shapes_had}
use Rattle.anyk_top.specs.Answering.{KeepsSteps}
use Rattle.anyk_top.proofs.EarlyPlans.{IsEarlyFor, input_prepared}
use Rattle.anyk_top.proofs.Prepared.{prepared_over, union_prepared}
use Rattle.command_input.specs.Planned.{HasOne}

-- ---- the steps of a preparation

at_most_one : (queries : List Query) (tables : List Table) → length queries ≤ 1
    → sum_by (preparation_of tables) queries ≤ preparation_of tables (branch_at queries 0)
at_most_one [] tables few = omega arith
at_most_one (query ∷ []) tables few = let sum = sum_by-cons (preparation_of tables) query [] in omega (arith, sum)
at_most_one (query ∷ other ∷ queries) tables few = absurd (omega (arith, few))

-- the steps of a run, whether it has several queries or not
run_prepared : (found : AcceptedInput) (list : List Tagged) (before now calls : ℕ)
    → HaveShapes found.tables found.queries found.shapes
    → ArePrepared found.queries found.tables before now
    → now ≤ before + (if is_union found then union_cost found.tables list 0 found.queries found.shapes else cost_of
    found calls)
run_prepared found list before now calls have h = by (is_union found) refl
  where
    by : (b : Bool) → is_union found ≡ b
        → now ≤ before + (if b then union_cost found.tables list 0 found.queries found.shapes else cost_of found calls)
    by true several = let more = union_prepared found.tables list 0 found.queries found.shapes have in
        omega (arith, h, more)
    by false one =
        let few = ltb-false 1 (length found.queries) one in
        let own = at_most_one found.queries found.tables (omega (arith, few)) in
        prepared_over (query_of found) found.tables (structure_of found) before now calls (omega (arith, h, own))

within_prepared : (command : Command) (found : AcceptedInput) (before now : ℕ)
    → HaveShapes found.tables found.queries found.shapes → IsEarlyFor command found before now
    → KeepsCommandBound command found before now
within_prepared (run words) found before now have h = run_prepared found (tagged_of found) before now _ have h
within_prepared (plan words) found before now have h =
    prepared_over (query_of found) found.tables (structure_of found) before now 0 h
within_prepared (session script words) found before now have h =
    let least = prepared_over (query_of found) found.tables (structure_of found) before now
    (session_reach (query_of found).limit (asked_list found) found.steps) h in
    omega (arith, least)
within_prepared (load number rows) found before now have h =
    prepared_over (query_of found) found.tables (structure_of found) before now _ h
within_prepared (prove words) found before now have h = tt
within_prepared (verify proof words) found before now have h = tt

paced_prepared : (command : Command) (found : AcceptedInput) (old new : Option (List ℕ)) (before now : ℕ)
    → HaveShapes found.tables found.queries found.shapes
    → IsEarlyFor command found before now → IsPaced command found old new before now
paced_prepared (run words) found old new before now have h =
    λ start part is_old is_new. run_prepared found _ before now _ have h
paced_prepared (plan words) found old new before now have h = tt
paced_prepared (session script words) found old new before now have h = λ start part is_old is_new.
    let least = prepared_over (query_of found) found.tables (structure_of found) before now
    (pieces_in (query_of found) found.tables (style_of words) (members_of found) found.steps part + 1) h in
    omega (arith, least)
paced_prepared (load number rows) found old new before now have h = tt
paced_prepared (prove words) found old new before now have h = tt
paced_prepared (verify proof words) found old new before now have h = tt

same_found : {a b : AcceptedInput} → ◌≡◌ {A = Result AcceptedInput Reason} (Ok a) (Ok b) → a ≡ b
same_found e = cc

-- the plans of an input were prepared, and nothing more was done
pub kept_early : (command : Command) (input : InputView) (found : AcceptedInput) (old new : SinkState) (before now : ℕ)
    → HasOne command input → ArePrepared (queries_in input.queries) input.tables before now
    → IsShaped (loaded_of input) (Ok found) → KeepsSteps command found old new before now
kept_early command input found old new before now one prepared (followed {a = shapes} are same) =
    let whole : AcceptedInput = found_of (loaded_of input) shapes in
    let have = shapes_had (are_several (queries_in input.queries)) 1 input.tables (queries_in input.queries) shapes are in
    let early = input_prepared command input shapes before now one prepared in
    subst (λ (f : AcceptedInput). KeepsSteps command f old new before now) (sym (same_found same)) (record {
      bounded = within_prepared command whole before now have early;
      paced = paced_prepared command whole old.written new.written before now have early;
    })

-- # Several queries

chosen : {A : Type 0} (b : Bool) (x y : A) → b ≡ true → (if b then x else y) ≡ x
chosen true x y e = refl
chosen false x y e = absurd (false≢true e)

are_union : (input : InputView) (shapes : List Shape) → 1 < length input.queries
    → is_union (found_of (loaded_of input) shapes) ≡ true
are_union input shapes more =
    let count = length-map input.queries (λ (q : BoundQuery). q.query) in
    lt-ltb 1 (length (queries_in input.queries)) (omega (arith, count, more))

pub several_output : (words : Words) (input : InputView) (shapes : List Shape) → 1 < length input.queries
    → answers_text words (found_of (loaded_of input) shapes)
    ≡ union_output_of (queries_in input.queries) input.tables (style_of words)
    (cut (branch_at (queries_in input.queries) 0).limit (union_of (queries_in input.queries) input.tables))
several_output words input shapes more =
    chosen (is_union (found_of (loaded_of input) shapes)) _ _ (are_union input shapes more)

pub several_within : (words : Words) (input : InputView) (shapes : List Shape) (before now : ℕ)
    → 1 < length input.queries
    → now ≤ before + union_cost input.tables (tagged_of (found_of (loaded_of input) shapes)) 0
    (queries_in input.queries) shapes
    → KeepsCommandBound (run words) (found_of (loaded_of input) shapes) before now
several_within words input shapes before now more h =
    subst (λ (most : ℕ). now ≤ before + most)
    (sym (chosen (is_union (found_of (loaded_of input) shapes)) _ _ (are_union input shapes more))) h

pub several_paced : (words : Words) (input : InputView) (shapes : List Shape) (old new : Option (List ℕ))
    (before now : ℕ) → 1 < length input.queries
    → ((start part : List ℕ) → old ≡ Some start → new ≡ Some (start ++ part) → now ≤ before + union_cost input.tables
    (take (union_records (queries_in input.queries) input.tables (tagged_of (found_of (loaded_of input) shapes))
    (style_of words) part + 1)
    (tagged_of (found_of (loaded_of input) shapes))) 0 (queries_in input.queries) shapes)
    → IsPaced (run words) (found_of (loaded_of input) shapes) old new before now
several_paced words input shapes old new before now more h = λ start part is_old is_new.
    subst (λ (most : ℕ). now ≤ before + most)
    (sym (chosen (is_union (found_of (loaded_of input) shapes)) _ _ (are_union input shapes more)))
    (h start part is_old is_new)
