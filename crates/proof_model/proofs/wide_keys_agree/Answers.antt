use Rattle.proof_model.proofs.Wider.{wide_add, wide_below}
use Rattle.proof_model.proofs.wide_keys_agree.Goals as goal

pub returns : goal.returns
returns c = λ few more e h a b. (wide_add few more e h a b, wide_below few more e h a b)
