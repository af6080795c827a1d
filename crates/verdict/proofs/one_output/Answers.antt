use Rattle.std.proofs.Common.{◌∙◌, sym}
use Rattle.proof_model.proofs.OneText.{one_text_lem}
use Rattle.verdict.specs.AcceptedInput.{query_of}
use Rattle.verdict.specs.Laws.{OneOutput}
use Rattle.verdict.specs.Words.{run, plan, session, load, prove, verify}
use Rattle.verdict.proofs.one_output.Goals as goal

one : OneOutput
one (run words) found a b h k = h ∙ sym k
one (plan words) found a b h k = h ∙ sym k
one (session script words) found a b h k = h ∙ sym k
one (load number rows) found a b h k = h ∙ sym k
one (prove words) found a b h k = one_text_lem (query_of found) found.tables a b h k
one (verify proof words) found a b h k = h ∙ sym k

pub returns : goal.returns
returns c = one
