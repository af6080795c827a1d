use Rattle.std.proofs.Common.{◌≡◌, ◌+◌, ◌*◌, get_or}
use Rattle.tdp_model.specs.KeyTuple.{key_none}
use Rattle.suffix_streams.specs.Rankings.{part_list}
use Rattle.suffix_streams.specs.TreeStreams.{AreFreshTo}
use Rattle.suffix_streams.proofs.reads.make_products.Given as goal

abbrev pub invariant-loop-child : goal.invariant-loop-child
invariant-loop-child g l = record {
  key : g.R.Rank.key l.rank ≡ get_or (part_list g.R.Rank.KEYS g.R.Rank.key l.fn.tree l.fn.node l.fn.row l.child) 0 (key_none g.R.Rank.KEYS 16);
  fresh : AreFreshTo g.R.Rank.KEYS g.R.Rank.key l.fn.tree l.fn.nodes l.fn.node l.fn.row l.child l.products.items;
  steps : l.steps ≡ l.fn.steps + 1 + 3 * l.child;
}
