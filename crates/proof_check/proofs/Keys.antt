-- What is known of the key of an open choice before its last row is chosen.
use Rattle.std.proofs.Common.{ℕ, suc, cond, nat_le}
use Rattle.tdp_model.specs.TreeProblem.{sum_from}
use Rattle.proof_model.specs.Certificate.{Certificate}
use Rattle.proof_model.specs.Problem.{Problem}
use Rattle.proof_model.specs.Valid.{bound_key}

-- the last row is one of node p, and group q has the bound `below q`
module _ {K : Type 0} (t : Problem K) (c : Certificate) (p : ℕ) (rows below : ℕ → ℕ) where
  -- what node q gives before: its row's key, or its bound's key if an earlier row names its group
  abbrev pub base_term : ℕ → K
  base_term q =
      cond (nat_le (suc q) p) (t.key q (rows q))
      (cond (nat_le q p) t.none (cond (nat_le (suc (t.parent q)) p) (bound_key t c q (below q)) t.none))

  -- the sum of these
  abbrev pub base_key : K
  base_key = sum_from t.add t.none base_term t.nodes 0

  -- what node q gives to the key of the choice
  abbrev pub choice_term : ℕ → K
  choice_term q = cond (nat_le q p) (t.key q (rows q)) (cond (nat_le (t.parent q) p) (bound_key t c q (below q)) t.none)
