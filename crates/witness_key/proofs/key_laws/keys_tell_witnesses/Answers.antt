use Rattle.witness_key.proofs.Rankings.{keys_tell_witnesses_lem}
use Rattle.witness_key.proofs.key_laws.keys_tell_witnesses.Goals as goal

pub returns : goal.returns
returns c = λ d query tables a b items of_a of_b alike. keys_tell_witnesses_lem d query tables a b items of_a of_b alike
