use Rattle.std.proofs.Common.{◌≡◌, take}
use Rattle.std.specs.Ordering.{int_cmp}
use Rattle.std.specs.Cmp.Lexicographic.{slice_cmp}
use Rattle.std.specs.declared.cmp.Ordering.TheVariants.{Equal}
use Rattle.rank_key.proofs.fixed_rank.compare_sums.Given as goal

abbrev pub invariant-loop-place : goal.invariant-loop-place
invariant-loop-place l = slice_cmp int_cmp (take l.place l.a) (take l.place l.b) ≡ Equal
