use Rattle.plan_build.proofs.wide.prepare_wide.Goals as goal

pub prepare-requires : goal.prepare-requires
prepare-requires g c = record {
  fits = c.requires.fits;
  keys = c.requires.keys;
  slots = c.fits_wide_ranks.ensures.slots;
  limit = c.fits_wide_ranks.ensures.limit;
}
