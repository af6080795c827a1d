use Rattle.std.proofs.Common.{refl}
use Rattle.tdp_core.proofs.named_groups.NamedGroups.new.Goals as goal

pub returns : goal.returns
returns c = refl
