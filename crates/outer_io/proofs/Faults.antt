-- The errors that a function hands on.
use Rattle.std.proofs.Common.{◌≡◌, Result, Ok, Err}
use Rattle.std.specs.Result.{IsErrAnd, IsErrOf}
use Rattle.outer_io.specs.declared.reading.FileFault.{FileFault}
use Rattle.outer_io.specs.declared.reading.FileFault.TheVariants.{Missing, Failed, TooLarge}
use Rattle.outer_io.specs.declared.shelf.ShelfFault.{ShelfFault}
use Rattle.outer_io.specs.declared.shelf.ShelfFault.TheVariants as shelf

-- the error is the one that it was made
pub only : {T : Type 0} (r : Result T FileFault) (x k : FileFault) → IsErrAnd r (λ e. e ≡ k) → IsErrOf r x → x ≡ k
only (Ok n) x k p e = absurd p
only (Err y) x k p e = cc

-- a value is no error
pub not_err : {T P : Type 0} (n : T) (x : FileFault) → IsErrOf (Ok n) x → P
not_err n x e = cc

-- one error is not another
pub missing_failed : {T P : Type 0} → IsErrOf {T = T} (Err Missing) Failed → P
missing_failed e = cc

pub missing_large : {T P : Type 0} → IsErrOf {T = T} (Err Missing) TooLarge → P
missing_large e = cc

pub failed_missing : {T P : Type 0} → IsErrOf {T = T} (Err Failed) Missing → P
failed_missing e = cc

pub failed_large : {T P : Type 0} → IsErrOf {T = T} (Err Failed) TooLarge → P
failed_large e = cc

pub large_missing : {T P : Type 0} → IsErrOf {T = T} (Err TooLarge) Missing → P
large_missing e = cc

pub large_failed : {T P : Type 0} → IsErrOf {T = T} (Err TooLarge) Failed → P
large_failed e = cc

-- ---- the errors of a shelf

pub opened_not_err : {T P : Type 0} (n : T) (x : ShelfFault) → IsErrOf (Ok n) x → P
opened_not_err n x e = cc

pub shelf_missing_failed : {T P : Type 0} → IsErrOf {T = T} (Err shelf.Missing) shelf.Failed → P
shelf_missing_failed e = cc

pub shelf_failed_missing : {T P : Type 0} → IsErrOf {T = T} (Err shelf.Failed) shelf.Missing → P
shelf_failed_missing e = cc
