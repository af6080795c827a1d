use Rattle.witness_key.proofs.Rankings.{rankings_agree_lem}
use Rattle.witness_key.proofs.key_laws.rankings_agree.Goals as goal

pub returns : goal.returns
returns c = λ d query tables keys few items ranking. rankings_agree_lem d query tables keys few items ranking
