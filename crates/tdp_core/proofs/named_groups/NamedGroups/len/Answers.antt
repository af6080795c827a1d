use Rattle.std.proofs.Common.{length, ap, arith}
use Rattle.tdp_core.proofs.NamedPieces.{pieces_length}
use Rattle.tdp_core.proofs.named_groups.NamedGroups.len.Goals as goal

pub returns : goal.returns
returns c =
    let t = c.self.inside in
    omega (arith, pieces_length t.width t.count t.named.items, ap (λ v. length v.rows) c.self.view_is)
