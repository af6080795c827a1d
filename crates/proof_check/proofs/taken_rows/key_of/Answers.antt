use Rattle.std.proofs.Common.{ℕ, ap, ◌∙◌, arith}
use Rattle.proof_check.proofs.PairKeys.{pair_made}
use Rattle.proof_check.proofs.taken_rows.key_of.Goals as goal

pub returns-in-Ok : goal.returns-in-Ok
returns-in-Ok c =
    record {
      key = pair_made c.in-Ok.number c.args.row (omega arith) ∙ ap (λ (n : ℕ). (n, c.args.row)) c.in-Ok.ensures.1;
      none = tt;
    }
