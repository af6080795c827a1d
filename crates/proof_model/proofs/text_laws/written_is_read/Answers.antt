use Rattle.proof_model.proofs.RoundTrip.{written_read}
use Rattle.proof_model.proofs.text_laws.written_is_read.Goals as goal

pub returns : goal.returns
returns c = λ proof numbered. written_read proof numbered
