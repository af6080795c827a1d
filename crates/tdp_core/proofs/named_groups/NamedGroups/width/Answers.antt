use Rattle.std.proofs.Common.{◌≡◌, ℕ, ◌<◌, [], length, get_or, subst, arith}
use Rattle.tdp_core.proofs.NamedPieces.{pieces_length, piece_width}
use Rattle.tdp_core.proofs.named_groups.NamedGroups.width.Goals as goal

pub returns-clause-each : goal.returns-clause-each
returns-clause-each c =
    let t = c.self.inside in
    subst (λ v. (r : ℕ) → r < length v.rows → length (get_or v.rows r []) ≡ t.width) c.self.view_is
    (λ r l. piece_width t.width t.count t.named.items c.self.invariant r (omega (arith, l, pieces_length t.width t.count t.named.items)))
