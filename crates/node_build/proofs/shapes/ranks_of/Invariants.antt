use Rattle.std.proofs.Common.{◌≡◌, ◌≤◌, map, length, take}
use Rattle.std.specs.Vec.{vec_capacity}
use Rattle.node_build.specs.Sources.{rank_key_at}
use Rattle.node_build.proofs.shapes.ranks_of.Given as goal

abbrev pub invariant-loop-row : goal.invariant-loop-row
invariant-loop-row g l = record {
  ranks : map g.R.Rank.key l.ranks.items ≡ map (rank_key_at l.source g.R.Rank.KEYS l.node) (take l.row-index l.rows);
  long : l.ranks.len ≡ l.row-index;
  room : length l.rows ≤ vec_capacity l.ranks;
}
