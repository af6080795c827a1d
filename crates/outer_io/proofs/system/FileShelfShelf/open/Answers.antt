use Rattle.std.proofs.Common.{refl, rules}
use Rattle.std.proofs.Math.Nat.{le_refl}
use Rattle.outer_io.specs.declared.shelf.ShelfFault.TheVariants.{Failed, Missing}
use Rattle.outer_io.proofs.Counting.{Rose-saturating}
use Rattle.outer_io.proofs.Faults.{opened_not_err, shelf_failed_missing, shelf_missing_failed}
use Rattle.outer_io.proofs.system.FileShelfShelf.open.Goals as goal

pub returns-in-Ok : goal.returns-in-Ok
returns-in-Ok c = record {
  files = refl;
  opened = tt;
  closed = tt;
  lacks = λ _. tt;
  missing = opened_not_err tt Missing;
  failed = opened_not_err tt Failed;
  misses = le_refl _;
  faults = le_refl _;
  taken = refl;
}

pub returns-in-Err : goal.returns-in-Err
returns-in-Err c = record {
  files = refl;
  opened = tt;
  closed = tt;
  lacks = λ _. tt;
  missing = λ _. Rose-saturating _ _ c.saturating_add-self.ensures;
  failed = shelf_missing_failed;
  misses = search rules;
  faults = le_refl _;
  taken = refl;
}

pub returns-in-Err-2 : goal.returns-in-Err-2
returns-in-Err-2 c = record {
  files = refl;
  opened = tt;
  closed = tt;
  lacks = λ _. tt;
  missing = shelf_failed_missing;
  failed = λ _. Rose-saturating _ _ c.saturating_add-self-in-Err-2.ensures;
  misses = le_refl _;
  faults = search rules;
  taken = refl;
}
