use Rattle.std.proofs.Common.{◌≡◌, ℕ, ◌+◌, inr, sym, ◌∙◌, ap, subst}
use Rattle.std.specs.Prelude.{Result, Ok, MatchResult}
use Rattle.std.specs.Str.Lines.{lines}
use Rattle.std.proofs.lemmas.Result.{err_from_is_err_and}
use Rattle.proof_model.specs.declared.fault.ProofFault.{ProofFault}
use Rattle.proof_model.specs.Certificate.{Certificate}
use Rattle.proof_model.specs.Reading.{Lines, IsProofFault, read_from}
use Rattle.proof_model.specs.ProofView.{lines_of, proof_view}
use Rattle.proof_model.proofs.Turns.{turn, no_turn, fails_so}
use Rattle.proof_model.proofs.reading.read_lines.Goals as goal

pub returns-in_err-put_line : goal.returns-in_err-put_line
returns-in_err-put_line c =
    let n = c.lines.number in
    let more = lines c.in-Some.after.now in
    let turned = turn n (lines_of c.lines.read)
    (lines c.lines.rest.now) c.in-Some.text.now more c.in-Some.ensures.value in
    let p = err_from_is_err_and c.from_residual.result c.from_residual.ensures.1 in
    rw (p.1, p.2) (fails_so _ _ _ (sym turned ∙ c.lines.invariant)
    (c.in_err-put_line.ensures more (λ after. read_from (n + 1) after more)))

pub returns-then-branch : goal.returns-then-branch
returns-then-branch c =
    let n = c.lines.number in
    let more = lines c.in-Some.after.now in
    let later : Lines → Result Certificate ProofFault = λ after. read_from (n + 1) after more in
    let turned = turn n (lines_of c.lines.read)
    (lines c.lines.rest.now) c.in-Some.text.now more c.in-Some.ensures.value in
    let last = rw (c.if-branch.true) at (c.in_ok-put_line.ensures more later) in
    subst (λ (all : Result Certificate ProofFault). MatchResult c.finished.result
    (λ proof. all ≡ Ok (proof_view proof)) (λ e. IsProofFault all e))
    (sym last ∙ sym turned ∙ c.lines.invariant) c.finished.ensures

pub lines-preserved : goal.lines-preserved
lines-preserved c =
    let n = c.lines.number in
    let more = lines c.in-Some.after.now in
    let later : Lines → Result Certificate ProofFault = λ after. read_from (n + 1) after more in
    let turned = turn n (lines_of c.lines.read)
    (lines c.lines.rest.now) c.in-Some.text.now more c.in-Some.ensures.value in
    let put = rw (c.if-branch.false) at (c.in_ok-put_line.ensures more later) in
    ap (λ (k : ℕ). read_from k (lines_of c.put_line.new.read) more) c.in_ok-number.ensures ∙ sym put ∙ sym turned
    ∙ c.lines.invariant

pub returns : goal.returns
returns c =
    inr (sym c.lines.invariant ∙ no_turn c.lines.number (lines_of c.lines.read)
    (lines c.lines.rest.now) c.in_default.ensures.value)
