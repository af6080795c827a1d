use Rattle.verdict.proofs.One.{one_loading}
use Rattle.verdict.proofs.one_loading.Goals as goal

pub returns : goal.returns
returns c = one_loading
