-- What is handed on after a call, if the call went well.
use Rattle.std.proofs.Common.{◌≡◌, subst, sym, Result, Ok, Err, OnOk, IfOk}
use Rattle.std.specs.Result.{IsErr, result_and}
use Rattle.std.proofs.lemmas.Result.{IfOk-from_err}

-- what holds of a value after a call holds of what is handed on after it
pub handed : {T U E : Type 0} (s : Result T E) (r : Result U E) (x : T) (P : T → Type 0) → s ≡ result_and r (Ok x) → OnOk r (P x) → IfOk s P
handed s (Ok _) x P e h = subst (λ o. IfOk o P) (sym e) h
handed s (Err _) x P e h = subst (λ o. IfOk o P) (sym e) tt

-- nothing is asked after an error
pub failed : {T E : Type 0} (r : Result T E) (X : Type 0) → IsErr r → OnOk r X
failed r X e = IfOk-from_err r (λ _. X) e

-- what holds in any case holds after a call that went well
pub anyway : {T E : Type 0} (r : Result T E) (X : Type 0) → X → OnOk r X
anyway (Ok _) X x = x
anyway (Err _) X x = tt
