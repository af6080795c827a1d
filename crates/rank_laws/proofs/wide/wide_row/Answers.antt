use Rattle.std.proofs.Common.{rules}
use Rattle.rank_key.proofs.HeldKeys.{wide_row_held}
use Rattle.rank_laws.proofs.wide.wide_row.Goals as goal

pub of_row-requires : goal.of_row-requires
of_row-requires g c = (
  search rules,
  (
    c.requires.sums,
    (
      c.requires.slot,
      wide_row_held g.row.N c.args.sums.now c.args.slot c.args.row c.ranges.row.fits,
    ),
  ),
)
