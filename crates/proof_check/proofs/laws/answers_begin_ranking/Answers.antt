use Rattle.proof_check.proofs.Ranked.{begins, ends}
use Rattle.proof_check.proofs.laws.answers_begin_ranking.Goals as goal

pub returns : goal.returns
returns c = λ query tables atoms parents proof within hung valid. (
  begins query tables atoms parents within hung proof valid,
  ends query tables atoms parents within hung proof valid,
)
