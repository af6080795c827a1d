use Rattle.std.proofs.Common.{◌≡◌, ◌+◌, ◌-◌, ◌*◌, ◌<◌, ◌≤◌, length}
use Rattle.rank_key.specs.Bits.{bit_length}
use Rattle.anyk_part.specs.Walks.{IsAt, IsDivision}
use Rattle.anyk_part.proofs.frontier.Frontier.divide.Given as goal

abbrev pub invariant-loop-walk : goal.invariant-loop-walk
invariant-loop-walk g l = record {
  at : IsAt g.R.Rank.KEYS g.R.Rank.key l.fn.tree l.fn.total l.walk l.chosen l.self.links.entries;
  division : IsDivision g.R.Rank.KEYS g.R.Rank.key l.fn.tree l.fn.start l.fn.self.links.entries l.fn.self.queue.entries l.walk l.self.links.entries l.self.queue.entries;
  below : l.walk.node < length l.fn.tree;
  count : l.last + 1 ≡ length l.fn.tree;
  room : 2 * (l.last + 1 - l.walk.node) ≤ l.self.queue.spare;
  link_room : l.last - l.walk.node ≤ l.self.links.spare;
  cost : l.steps ≤ l.fn.steps + (l.walk.node - l.fn.start.node) * (10 + 4 * bit_length (length l.fn.self.queue.entries + 2 * length l.fn.tree));
}

abbrev pub decreases-loop-walk : goal.decreases-loop-walk
decreases-loop-walk g l = l.last - l.walk.node
