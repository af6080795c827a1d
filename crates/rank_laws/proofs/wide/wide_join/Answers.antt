use Rattle.std.proofs.Common.{rules}
use Rattle.rank_key.proofs.HeldKeys.{wide_fits}
use Rattle.rank_laws.proofs.wide.wide_join.Goals as goal

pub join-requires : goal.join-requires
join-requires g c = (search rules, wide_fits g.row.N _ c.requires)
