use Rattle.std.proofs.Common.{sym, ap}
use Rattle.tdp_core.proofs.tree.Tree.shape.Goals as goal

pub returns : goal.returns
returns g c = sym (ap (λ n. n.shape) c.parts.ensures.read)
