use Rattle.witness_key.proofs.Combinations.{ranking_tells}
use Rattle.witness_key.proofs.key_laws.ranking_tells_combinations.Goals as goal

pub returns : goal.returns
returns c = λ d query tables few. ranking_tells d query tables few
