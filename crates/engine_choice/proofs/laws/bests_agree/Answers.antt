use Rattle.engine_choice.proofs.Bests.{bests_agree_lem}
use Rattle.engine_choice.proofs.laws.bests_agree.Goals as goal

pub returns : goal.returns
returns g c = λ query tables tree ks keys few formed apart ranks best. bests_agree_lem g.R.Rank.KEYS g.R.Rank.key tree formed apart query tables keys few ranks ks best
