-- Facts of a result.
use Rattle.std.proofs.Common.{◌≡◌, Result, Ok, Err, IfOk, OnOk, sym, subst}
use Rattle.std.specs.Result.{IfErr, IsErr, IsErrAnd}
use Rattle.std.proofs.lemmas.Result.{IfOk-from_err}

pub on_ok : {T E P : Type 0} (r : Result T E) → P → OnOk r P
on_ok (Ok x) p = p
on_ok (Err e) p = tt

pub on_ok_map : {T E P Q : Type 0} (r : Result T E) → (P → Q) → OnOk r P → OnOk r Q
on_ok_map (Ok x) f p = f p
on_ok_map (Err e) f p = tt

pub if_ok_map : {T E : Type 0} {P Q : T → Type 0} (r : Result T E) → ((x : T) → P x → Q x) → IfOk r P → IfOk r Q
if_ok_map (Ok x) f p = f x p
if_ok_map (Err e) f p = tt

-- nothing is asked after an error
pub failed : {T E : Type 0} (r : Result T E) (P : Type 0) → IsErr r → OnOk r P
failed r P e = IfOk-from_err r (λ _. P) e

-- what an error says that is handed on
pub handed_on : {T E : Type 0} (Q : E → Type 0) (r : Result T E) (e : E) → IsErrAnd r (λ x. x ≡ e) → Q e → IfErr r Q
handed_on Q (Ok x) e is told = tt
handed_on Q (Err x) e is told = subst Q (sym is) told
