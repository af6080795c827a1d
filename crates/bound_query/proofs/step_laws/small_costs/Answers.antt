use Rattle.std.proofs.Common.{refl}
use Rattle.rank_key.specs.Bits.{bit_length, bits_within}
use Rattle.bound_query.proofs.step_laws.small_costs.Goals as goal

pub returns-clause-none : goal.returns-clause-none
unfolding bit_length bits_within
returns-clause-none c = refl

pub returns-clause-few : goal.returns-clause-few
unfolding bit_length bits_within
returns-clause-few c = refl
