-- An error that `?` hands on.
use Rattle.std.proofs.Common.{◌≡◌, Result, Ok, Err, ap, subst, sym}
use Rattle.std.specs.Prelude.{IsErrAnd}
use Rattle.refusals.specs.Reason.{Reason}
use Rattle.verdict.specs.StageResults.{Pure}
use Rattle.command_input.specs.StageViews.{used_as}
use Rattle.command_input.specs.declared.table_uses.UsesFault.{UsesFault}
use Rattle.command_input.specs.declared.table_uses.UsesFault.TheVariants.{NoMemory}

pub handed_on : {T E : Type 0} (r : Result T E) (x : E) → IsErrAnd r (λ y. y ≡ x) → r ≡ Err x
handed_on (Ok a) x h = absurd h
handed_on (Err y) x h = ap Err h

-- what holds of an error holds of the result that hands it on
pub handed_with : {T E : Type 0} (P : Result T E → Type 0) (r : Result T E) (x : E) → IsErrAnd r (λ y. y ≡ x) → P (Err x) → P r
handed_with P (Ok a) x h p = absurd h
handed_with {E = E} P (Err y) x h p = subst (λ (z : E). P (Err z)) (sym h) p

-- memory was refused while tables were looked up
pub uses_memory : {A B : Type 0} (G : Result B Reason → Type 0) (b : B) (r : Result A UsesFault) → IsErrAnd r (λ e. e ≡ NoMemory) → Pure G (used_as b r)
uses_memory G b (Ok a) gives = absurd gives
uses_memory G b (Err fault) gives = rw gives tt
