use Rattle.std.proofs.Common.{◌+◌, slice_set, get_or, sym, subst}
use Rattle.tdp_core.specs.TreeView.{item, rank}
use Rattle.suffix_streams.specs.RowNumbers.{AreAdded}
use Rattle.suffix_streams.proofs.Rows.{own_added}
use Rattle.suffix_streams.proofs.walk.add_own_row.Goals as goal

pub returns : goal.returns
returns g c = record {
  added =
      subst (λ s. AreAdded g.R.Rank.KEYS c.args.numbers.now (rank c.args.tree.now g.R.Rank.KEYS g.R.Rank.key c.args.node c.args.row) (slice_set c.args.numbers.now s.item (get_or c.args.numbers.now s.item 0 + c.args.number))) (sym c.shape.ensures)
      (subst (λ n. AreAdded g.R.Rank.KEYS c.args.numbers.now (rank c.args.tree.now g.R.Rank.KEYS g.R.Rank.key c.args.node c.args.row)
      (slice_set c.args.numbers.now (item c.args.tree.now c.args.node) (get_or c.args.numbers.now (item c.args.tree.now c.args.node) 0 + n))) (sym c.requires.number)
      (own_added g.R.Rank.KEYS g.R.Rank.key c.args.tree.now c.requires.formed c.args.node c.args.row c.requires.node c.requires.row c.args.numbers.now c.told-numbers));
}
