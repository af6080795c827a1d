use Rattle.std.proofs.Common.{refl, arith}
use Rattle.query_tests.proofs.trees.reroots_a_path.Goals as goal

pub reroot-other-requires-clause-there : goal.reroot-other-requires-clause-there
reroot-other-requires-clause-there g c = (2, omega arith, refl)
