use Rattle.witness_key.proofs.Rankings.{orders_agree}
use Rattle.witness_key.proofs.key_laws.both_orders_agree.Goals as goal

pub returns : goal.returns
returns c = λ d query tables a b keys items of_a of_b. orders_agree d query tables a b keys items of_a of_b
