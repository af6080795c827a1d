use Rattle.verdict.proofs.One.{one_verdict}
use Rattle.verdict.proofs.one_verdict.Goals as goal

pub returns : goal.returns
returns c = one_verdict
