use Rattle.std.proofs.Common.{◌≡◌, ℕ, ◌<◌, None, Some, map, option_map, slice_index_or}
use Rattle.proof_check.specs.declared.open_places.OpenPlace.{OpenPlace}
use Rattle.proof_check.specs.Levels.{IsFirstPast}
use Rattle.proof_check.proofs.deviations.branches_leave_after.Given as goal

abbrev pub invariant-loop-number : goal.invariant-loop-number
invariant-loop-number g l =
    (n : ℕ) (b : OpenPlace g.row.R.Denot) → n < l.number → slice_index_or l.branches n None ≡ Some b
    → IsFirstPast g.R.Rank.KEYS g.R.Rank.key l.taken n (option_map g.R.Rank.key l.last) b (map (λ v. v.items) l.lists)
