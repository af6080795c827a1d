use Rattle.witness_key.proofs.Combinations.{combinations_all, combinations_told}
use Rattle.witness_key.proofs.key_laws.answers_tell_combinations.Goals as goal

pub returns : goal.returns
returns c = λ d query tables list few all. (combinations_told d query tables few list all, combinations_all d query tables few list all)
