use Rattle.proof_model.proofs.OneText.{one_text_lem}
use Rattle.proof_model.proofs.one_text.Goals as goal

pub returns : goal.returns
returns c = λ query tables a b x y. one_text_lem query tables a b x y
