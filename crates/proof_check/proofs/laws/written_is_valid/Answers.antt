use Rattle.proof_check.proofs.WrittenText.{text_valid}
use Rattle.proof_check.proofs.laws.written_is_valid.Goals as goal

pub returns : goal.returns
returns c = λ query tables atoms parents text within few hung found. text_valid query tables atoms parents within few
    hung text found
