-- What stays as it was where memory is refused.
use Rattle.std.proofs.Common.{◌≡◌, ℕ, List, get_or, ap, ◌∙◌, Result, Ok, Err, OnErr, OnOk}
use Rattle.std.proofs.Math.ListN.{set}
use Rattle.std.specs.Result.{IsErr}
use Rattle.std.proofs.lemmas.List.{set-get_or}
use Rattle.std.proofs.lemmas.Result.{IfOk-from_err}

pub on_err : {A E P : Type 0} (r : Result A E) → P → OnErr r P
on_err (Ok x) p = tt
on_err (Err e) p = p

-- nothing is asked after an error
pub failed : {A E : Type 0} (r : Result A E) (P : Type 0) → IsErr r → OnOk r P
failed r P e = IfOk-from_err r (λ _. P) e

-- an element that is put back as it was read
pub put_back : {X : Type 0} (xs : List X) (v : ℕ) (x y : X) → x ≡ get_or xs v x → y ≡ x → set xs v y ≡ xs
put_back xs v x y read same = ap (set xs v) (same ∙ read) ∙ set-get_or xs v x
