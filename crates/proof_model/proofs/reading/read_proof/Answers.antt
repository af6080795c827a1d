use Rattle.std.proofs.Common.{◌∙◌, sym}
use Rattle.std.specs.Str.Lines.{lines}
use Rattle.std.proofs.lemmas.Result.{MatchResult-weaker}
use Rattle.proof_model.specs.ProofView.{proof_view}
use Rattle.proof_model.proofs.RoundTrip.{read_written}
use Rattle.proof_model.proofs.Turns.{after_header}
use Rattle.proof_model.proofs.reading.read_proof.Goals as goal

pub returns-clause-written : goal.returns-clause-written
returns-clause-written c =
    let bytes = c.args.bytes.now in
    let same = after_header bytes c.in-Some.first.now (lines c.in-Some.rest.now) c.in-Some.ensures.value
    (sym c.is_header.ensures ∙ c.if-not-is_header.false) in
    MatchResult-weaker c.read_lines.result c.read_lines.ensures
    (λ proof e. (read_written bytes (proof_view proof) (same ∙ e)).1) (λ e _. tt)

pub returns-clause-numbered : goal.returns-clause-numbered
returns-clause-numbered c =
    let bytes = c.args.bytes.now in
    let same = after_header bytes c.in-Some.first.now (lines c.in-Some.rest.now) c.in-Some.ensures.value
    (sym c.is_header.ensures ∙ c.if-not-is_header.false) in
    MatchResult-weaker c.read_lines.result c.read_lines.ensures
    (λ proof e. (read_written bytes (proof_view proof) (same ∙ e)).0) (λ e _. tt)
