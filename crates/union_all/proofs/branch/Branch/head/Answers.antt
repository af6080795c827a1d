use Rattle.std.proofs.Common.{refl}
use Rattle.union_all.proofs.Heads.{head_told}
use Rattle.union_all.proofs.branch.Branch.head.Goals as goal

pub returns : goal.returns
returns g c = rw (← c.self.view_is) (head_told c.self.inside.query.now.query c.self.inside.head (g.E.Ranked.rest c.self.inside.engine) _ c.self.invariant refl)
