use Rattle.std.proofs.Common.{◌≡◌, ◌-◌, suc, slice_index, take}
use Rattle.proof_check.proofs.LowParts.{AreNamed, low_part}
use Rattle.proof_check.proofs.covering.low_bound.Given as goal

abbrev pub invariant-loop-child : goal.invariant-loop-child
invariant-loop-child g l =
    let up = slice_index (take l.join.count l.join.parent) in
    record {
      named : AreNamed g.R.Rank.KEYS g.R.Rank.key l.tree up l.node l.row (l.child - suc l.node);
      sum : g.R.Rank.key l.low ≡ low_part g.R.Rank.KEYS g.R.Rank.key l.tree up l.node l.row (l.child - suc l.node);
    }
