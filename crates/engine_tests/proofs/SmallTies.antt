-- A small tree without ties.
use Rattle.std.proofs.Common.{zero, suc, refl, arith}
use Rattle.tdp_core.specs.WellFormed.{IsTieFreeTree}
use Rattle.engine_tests.proofs.SmallTree.{small_nodes}

module _ {R : Type 0} (top later sooner whole : R) where
  pub small_tie_free : IsTieFreeTree (small_nodes top later sooner whole)
  small_tie_free zero zero zero zero l a b e = refl
  small_tie_free zero zero zero (suc j) l a b e = absurd (omega arith)
  small_tie_free zero zero (suc i) j l a b e = absurd (omega arith)
  small_tie_free zero (suc g) i j l a b e = absurd (omega arith)
  small_tie_free (suc zero) zero zero zero l a b e = refl
  small_tie_free (suc zero) zero zero (suc zero) l a b e = absurd (omega arith)
  small_tie_free (suc zero) zero zero (suc (suc j)) l a b e = absurd (omega arith)
  small_tie_free (suc zero) zero (suc zero) zero l a b e = absurd (omega arith)
  small_tie_free (suc zero) zero (suc zero) (suc zero) l a b e = refl
  small_tie_free (suc zero) zero (suc zero) (suc (suc j)) l a b e = absurd (omega arith)
  small_tie_free (suc zero) zero (suc (suc i)) j l a b e = absurd (omega arith)
  small_tie_free (suc zero) (suc g) i j l a b e = absurd (omega arith)
  small_tie_free (suc (suc v)) g i j l a b e = absurd (omega arith)
