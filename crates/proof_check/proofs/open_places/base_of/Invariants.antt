use Rattle.std.proofs.Common.{◌≡◌, ℕ, ◌<◌, Some}
use Rattle.tdp_model.specs.KeyTuple.{key_add, key_none}
use Rattle.tdp_model.specs.TreeProblem.{sum_from}
use Rattle.proof_check.specs.Levels.{base_part}
use Rattle.proof_check.proofs.Known.{part_key}
use Rattle.proof_check.proofs.open_places.base_of.Given as goal

abbrev pub invariant-loop-at : goal.invariant-loop-at
invariant-loop-at g l = record {
  parts : (q : ℕ) → q < l.at → base_part l.join l.tree g.R.Rank.KEYS g.R.Rank.key l.node l.start q
      ≡ Some (part_key l.join l.tree g.R.Rank.KEYS g.R.Rank.key l.node l.start q);
  sum : g.R.Rank.key l.base ≡ sum_from (key_add g.R.Rank.KEYS 16) (key_none g.R.Rank.KEYS 16)
      (part_key l.join l.tree g.R.Rank.KEYS g.R.Rank.key l.node l.start) l.at 0;
}
