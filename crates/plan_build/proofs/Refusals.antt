-- What an error says that is handed on.
use Rattle.std.proofs.Common.{◌≡◌, Result, Ok, Err, sym, subst}
use Rattle.std.specs.Result.{IfErr, IsErrAnd}

pub handed_on : {T E : Type 0} (Q : E → Type 0) (r : Result T E) (e : E) → IsErrAnd r (λ x. x ≡ e) → Q e → IfErr r Q
handed_on Q (Ok x) e is told = tt
handed_on Q (Err x) e is told = subst Q (sym is) told
