-- Errors that are handed on, and texts that are printed.
use Rattle.std.proofs.Common.{◌≡◌, ℕ, List, Result, Ok, Err, sym, subst}
use Rattle.std.specs.Prelude.{IfErr, IsErrAnd}
use Rattle.outer_io.specs.declared.fault.PrintFault.{PrintFault}
use Rattle.outer_io.specs.Printing.{Printed}
use Rattle.outer_io.specs.SinkState.{SinkState}

-- what holds of an error holds of the result that hands it on
pub handed_on : {A E : Type 0} (P : Result A E → Type 0) (r : Result A E) (e : E) → IsErrAnd r (λ x. x ≡ e) → P (Err e) → P r
handed_on P (Ok done) e h p = absurd h
handed_on {E = E} P (Err x) e h p = subst (λ (y : E). P (Err y)) (sym h) p

-- an error of memory that is handed on is one
pub memory_refused : {A E : Type 0} (m : E) (r : Result A E) → IsErrAnd r (λ x. x ≡ m) → IfErr r (λ x. x ≡ m)
memory_refused m (Ok done) h = tt
memory_refused m (Err x) h = h

-- the text that was printed is this one
pub printed_as : (old new : SinkState) (text told : List ℕ) (r : Result (Unit {0}) PrintFault) → text ≡ told → Printed old new text r → Printed old new told r
printed_as old new text told r is h = subst (λ (t : List ℕ). Printed old new t r) is h
