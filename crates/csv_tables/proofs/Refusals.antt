-- The refusals of records: which fault tells which flaw.
use Rattle.std.proofs.Common.{Result, Ok, Err, IfErr, OnOk, inl, option_map, ◌≡◌, Option, Some, None, refl, subst, sym}
use Rattle.std.specs.Option.{option_or}
use Rattle.std.specs.Result.{IsErr, IsErrAnd}
use Rattle.anyk_model.specs.Table.{Flaw}
use Rattle.csv_tables.specs.Faults.{IsTableFault, fault_of, refusal}
use Rattle.csv_tables.specs.declared.fault.TableFault.{TableFault}
use Rattle.csv_tables.specs.declared.fault.TableFault.TheVariants as fault

pub option_or_some : (a b : Option Flaw) (fault : TableFault) → option_map fault_of a ≡ Some fault → option_map fault_of (option_or a b) ≡ Some fault
option_or_some None b fault e = cc
option_or_some (Some flaw) b fault e = e

-- what a test for a flaw that was passed or failed says
pub refusal_none : (flaw : Option Flaw) → Ok tt ≡ refusal flaw → flaw ≡ None
refusal_none None e = refl
refusal_none (Some flaw) e = cc

pub flaw_tells : (flaw : Option Flaw) (fault : TableFault) → Err fault ≡ refusal flaw → option_map fault_of flaw ≡ Some fault
flaw_tells None fault e = cc
flaw_tells (Some flaw) fault e = cc

-- what an exit of a `?` says: nothing of a value, and of the error that it tells the flaw
pub none_on_ok : {T E : Type 0} (r : Result T E) (P : Type 0) → IsErr r → OnOk r P
none_on_ok (Ok x) P e = absurd cc
none_on_ok (Err y) P e = tt

pub memory_tells : {T : Type 0} (r : Result T TableFault) (flaw : Option Flaw) → IsErrAnd r (λ e. e ≡ fault.NoMemory) → IfErr r (IsTableFault flaw)
memory_tells (Ok x) flaw e = tt
memory_tells (Err y) flaw e = inl e

pub same_tells : {T : Type 0} (r : Result T TableFault) (x : TableFault) (flaw : Option Flaw) → IsErrAnd r (λ e. e ≡ x) → IsTableFault flaw x → IfErr r (IsTableFault flaw)
same_tells (Ok y) x flaw e h = tt
same_tells (Err y) x flaw e h = subst (IsTableFault flaw) (sym e) h
