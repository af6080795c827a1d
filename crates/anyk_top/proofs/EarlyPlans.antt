-- The steps of the preparation for an input that was read.
use Rattle.std.proofs.Common.{◌≡◌, ◌∙◌, ℕ, List, [], ◌∷◌, length, arith}
use Rattle.std.proofs.lemmas.List.{length-map}
use Rattle.std.proofs.lemmas.List.Sums.{sum_by-cons}
use Rattle.anyk_model.specs.Query.{Query}
use Rattle.anyk_model.specs.Table.{Table}
use Rattle.bound_query.specs.WeighedQuery.{BoundQuery}
use Rattle.bound_query.specs.Shape.{Shape}
use Rattle.anyk_model.specs.TaggedRows.{branch_at}
use Rattle.command_input.specs.Input.{InputView, loaded_of}
use Rattle.plan_build.specs.Plans.{ArePrepared, preparation_of}
use Rattle.bound_query.specs.RunBounds.{IsPrepared}
use Rattle.verdict.specs.AcceptedInput.{AcceptedInput, found_of, queries_in, query_of}
use Rattle.verdict.specs.Words.{Command, run, plan, session, load, prove, verify}
use Rattle.command_input.specs.Planned.{HasOne}

-- No more steps than the preparation of the plans of what is found may take: `run` may have several
-- queries, and each other command has one. Nothing is said of the steps of `prove` and `verify`.
abbrev pub IsEarlyFor : Command → AcceptedInput → ℕ → ℕ → Type 0
IsEarlyFor (run words) found before now = ArePrepared found.queries found.tables before now
IsEarlyFor (plan words) found before now = IsPrepared (query_of found) found.tables before now
IsEarlyFor (session script words) found before now = IsPrepared (query_of found) found.tables before now
IsEarlyFor (prove words) found before now = Unit {0}
IsEarlyFor (verify proof words) found before now = Unit {0}
IsEarlyFor (load number rows) found before now = IsPrepared (query_of found) found.tables before now

-- the preparation of the only query
one_prepared : (queries : List Query) (tables : List Table) (before now : ℕ) → length queries ≡ 1
    → ArePrepared queries tables before now
    → IsPrepared (branch_at queries 0) tables before now
one_prepared [] tables before now one h = absurd (omega (arith, one))
one_prepared (query ∷ []) tables before now one h =
    let sum = sum_by-cons (preparation_of tables) query [] in omega (arith, h, sum)
one_prepared (query ∷ other ∷ queries) tables before now one h = absurd (omega (arith, one))

count_queries : (input : InputView) → length input.queries ≡ 1 → length (queries_in input.queries) ≡ 1
count_queries input one = length-map input.queries (λ (q : BoundQuery). q.query) ∙ one

pub input_prepared : (command : Command) (input : InputView) (shapes : List Shape) (before now : ℕ) → HasOne command input
    → ArePrepared (queries_in input.queries) input.tables before now
    → IsEarlyFor command (found_of (loaded_of input) shapes) before now
input_prepared (run words) input shapes before now one h = h
input_prepared (plan words) input shapes before now one h =
    one_prepared (queries_in input.queries) input.tables before now (count_queries input one) h
input_prepared (session script words) input shapes before now one h =
    one_prepared (queries_in input.queries) input.tables before now (count_queries input one) h
input_prepared (prove words) input shapes before now one h = tt
input_prepared (verify proof words) input shapes before now one h = tt
input_prepared (load number rows) input shapes before now one h =
    one_prepared (queries_in input.queries) input.tables before now (count_queries input one) h
