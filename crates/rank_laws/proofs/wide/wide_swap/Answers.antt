use Rattle.std.proofs.Common.{rules}
use Rattle.rank_key.proofs.HeldKeys.{wide_fits}
use Rattle.rank_laws.proofs.wide.wide_swap.Goals as goal

pub swap-requires : goal.swap-requires
swap-requires g c = (
  search rules,
  record {
    rest = c.requires.0;
    whole = c.requires.1;
    rest_fits = wide_fits g.row.N _ c.requires.2;
    swapped_fits = wide_fits g.row.N _ c.requires.3;
  },
)
