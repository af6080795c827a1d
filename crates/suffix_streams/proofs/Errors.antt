-- What is asked of a result.
use Rattle.std.proofs.Common.{Result, Ok, Err, IfOk, OnOk, OnErr, IsErr}
use Rattle.std.proofs.lemmas.Bool.{false≢true}

pub none_given : {A E : Type 0} (P : A → Type 0) (r : Result A E) → IsErr r → IfOk r P
none_given P (Ok x) h = absurd (false≢true h)
none_given P (Err e) h = tt

pub none_done : {A E : Type 0} (P : Type 0) (r : Result A E) → IsErr r → OnOk r P
none_done P (Ok x) h = absurd (false≢true h)
none_done P (Err e) h = tt

pub ok_then : {A E P Q : Type 0} (r : Result A E) → (P → Q) → OnOk r P → OnOk r Q
ok_then (Ok x) f p = f p
ok_then (Err e) f p = tt

pub err_then : {A E P Q : Type 0} (r : Result A E) → (P → Q) → OnErr r P → OnErr r Q
err_then (Ok x) f p = tt
err_then (Err e) f p = f p
