-- The second row is accepted, and the bound on its steps is a number.
use Rattle.std.proofs.Common.{◌≡◌, ◌≤◌, ◌+◌, ◌∙◌, ℕ, List, [], ◌∷◌, Some, None, Ok, refl, sym, ap, arith}
use Rattle.std.specs.Prelude.{codes}
use Rattle.rankings.specs.Order.{put_in, ranked}
use Rattle.rank_key.specs.Bits.{bit_length, bits_within}
use Rattle.bound_query.specs.Steps.{cost}
use Rattle.anyk_model.specs.TaggedRows.{Tagged}
use Rattle.anyk_model.specs.Union.{members_in}
use Rattle.verdict.specs.Bound.{IsBounded}
use Rattle.verdict.specs.AcceptedInput.{AcceptedInput, found_of}
use Rattle.verdict.specs.Loading.{Loaded, no_certificate, with_steps}
use Rattle.verdict.specs.Output.{tagged_of}
use Rattle.verdict.specs.Stages.{followed}
use Rattle.verdict.specs.Verdict.{IsLoaded, IsVerdict}
use Rattle.row_law.specs.Row.{row_asked}
use Rattle.row_law.specs.UnionRow.{union_files, union_text}
use Rattle.row_law.proofs.Loaded.{column, row_tables}
use Rattle.row_law.proofs.Single.{single_shape, single_shaped}
use Rattle.row_law.proofs.UnionLoaded.{by_weight, union_bound, union_parsed, union_queries, union_select, union_selects, union_tabled}

abbrev union_loaded : Loaded
union_loaded = record { queries = union_queries; tables = row_tables; best = None; steps = []; proof = no_certificate }

abbrev pub union_found : AcceptedInput
union_found = found_of union_loaded (single_shape ∷ single_shape ∷ [])

union_is_loaded : IsLoaded row_asked union_files (Ok union_loaded)
union_is_loaded =
    followed {a = union_text} refl (followed {a = union_selects} (followed {a = union_select} union_parsed refl)
    (followed {a = with_steps []} refl (followed {a = union_selects} refl
    (followed {a = row_tables} (sym union_tabled) (followed {a = union_queries} (sym union_bound) refl)))))

pub union_verdict : IsVerdict row_asked union_files (Ok union_found)
union_verdict =
    let first = single_shaped 0 (codes "R") by_weight (column 0 0 ∷ []) (Some 4) row_tables refl in
    let second = single_shaped 1 (codes "S") by_weight (column 0 1 ∷ []) (Some 4) row_tables refl in
    followed {a = union_loaded} union_is_loaded
    (followed {a = single_shape ∷ single_shape ∷ []} (followed {a = single_shape} first
    (followed {a = single_shape ∷ []} (followed {a = single_shape} second (followed {a = []} refl refl)) refl)) refl)

abbrev members : List Tagged
members = tagged_of union_found

of_left : members_in 0 members ≡ 3
unfolding ranked put_in
of_left = refl

of_right : members_in 1 members ≡ 1
unfolding ranked put_in
of_right = refl

most_left : cost 1 6 4 ≡ 1728
unfolding bit_length bits_within
most_left = refl

most_right : cost 1 6 2 ≡ 1088
unfolding bit_length bits_within
most_right = refl

pub union_bounded : (before now : ℕ) → IsBounded row_asked (Some union_files) before now → now ≤ before + 2816
union_bounded before now bounded =
    let within : now ≤ before + (cost 1 6 (members_in 0 members + 1) + (cost 1 6 (members_in 1 members + 1) + 0)) = bounded union_found union_verdict in
    let left : cost 1 6 (members_in 0 members + 1) ≡ 1728 = ap (λ n. cost 1 6 (n + 1)) of_left ∙ most_left in
    let right : cost 1 6 (members_in 1 members + 1) ≡ 1088 = ap (λ n. cost 1 6 (n + 1)) of_right ∙ most_right in
    omega (arith, within, left, right)
