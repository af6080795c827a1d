use Rattle.std.proofs.Common.{arith}
use Rattle.node_build.proofs.Shaped.{caps_small}
use Rattle.plan_build.proofs.wide.fits_wide_ranks.Goals as goal

pub returns : goal.returns
returns g c = record {
  slots = omega (arith, c.items-items.ensures.items, c.items-items.ensures.limit);
  limit = caps_small c.args.query.now c.args.tables.now c.requires;
}
