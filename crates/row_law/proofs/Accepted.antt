-- The row is accepted, and the bound on its steps is a number.
use Rattle.std.proofs.Common.{◌≡◌, ◌≤◌, ◌+◌, ℕ, [], ◌∷◌, Some, None, Ok, refl, sym, arith}
use Rattle.rank_key.specs.Bits.{bit_length, bits_within}
use Rattle.query_parse.specs.Parse.{as_one_branch}
use Rattle.query_parse.proofs.OneQuery.{one_branch}
use Rattle.bound_query.specs.Steps.{calls_for, cost}
use Rattle.bound_query.proofs.Rising.{calls_few, cost_rises}
use Rattle.verdict.specs.Bound.{IsBounded}
use Rattle.verdict.specs.AcceptedInput.{AcceptedInput, found_of}
use Rattle.verdict.specs.Loading.{Loaded, no_certificate, with_steps}
use Rattle.verdict.specs.Output.{asked_list}
use Rattle.verdict.specs.Stages.{followed}
use Rattle.verdict.specs.Verdict.{IsLoaded, IsVerdict}
use Rattle.row_law.specs.Row.{query_text, row_asked, row_files}
use Rattle.row_law.proofs.Loaded.{row_bound, row_parsed, row_query, row_select, row_tabled, row_tables}
use Rattle.row_law.proofs.Shaped.{row_shape, row_shaped}

abbrev pub row_loaded : Loaded
row_loaded = record { queries = row_query ∷ []; tables = row_tables; best = None; steps = []; proof = no_certificate }

abbrev pub row_found : AcceptedInput
row_found = found_of row_loaded (row_shape ∷ [])

row_is_loaded : IsLoaded row_asked row_files (Ok row_loaded)
row_is_loaded =
    followed {a = query_text} refl (followed {a = row_select ∷ []} (followed {a = as_one_branch row_select} (one_branch query_text row_select row_parsed) refl)
    (followed {a = with_steps []} refl (followed {a = row_select ∷ []} refl
    (followed {a = row_tables} (sym row_tabled) (followed {a = row_query ∷ []} (sym row_bound) refl)))))

pub row_verdict : IsVerdict row_asked row_files (Ok row_found)
row_verdict =
    followed {a = row_loaded} row_is_loaded
    (followed {a = row_shape ∷ []} (followed {a = row_shape} row_shaped (followed {a = []} refl refl)) refl)

most_steps : cost 2 12 3 ≡ 7936
unfolding bit_length bits_within
most_steps = refl

pub row_bounded : (before now : ℕ) → IsBounded row_asked (Some row_files) before now → now ≤ before + 7936
row_bounded before now bounded =
    let within : now ≤ before + cost 2 12 (calls_for (Some 3) (asked_list row_found)) = bounded row_found row_verdict in
    let calls = calls_few 3 (asked_list row_found) in
    let most = cost_rises 2 12 12 (calls_for (Some 3) (asked_list row_found)) 3 (omega arith) calls in
    omega (arith, within, most, most_steps)
