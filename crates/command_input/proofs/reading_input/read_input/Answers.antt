use Rattle.std.proofs.Common.{◌≡◌, None, Result, Ok, Err, IfOk, length, refl}
use Rattle.command_input.specs.Input.{InputView}
use Rattle.refusals.specs.declared.refusal.Refusal.{Refusal}
use Rattle.command_input.proofs.reading_input.read_input.Goals as goal

-- nothing is asked of the number of queries
any_count : (r : Result InputView Refusal) → IfOk r (λ input. Unit {0})
any_count (Ok input) = tt
any_count (Err refusal) = tt

both : (r : Result InputView Refusal) → IfOk r (λ input. length input.queries ≡ 1) → IfOk r (λ input. input.best ≡ None)
    → IfOk r (λ input. (length input.queries ≡ 1) × (input.best ≡ None))
both (Ok input) one none = (one, none)
both (Err refusal) one none = tt

pub returns-in-Run : goal.returns-in-Run
returns-in-Run g c = record {
  looked = rw c.in-Run.is (rw c.text_of.ensures at c.read_files_of.ensures.looked);
  untouched = rw c.in-Run.is tt;
  alone = rw c.in-Run.is (any_count c.read_files_of.result);
}

pub returns-in-Plan : goal.returns-in-Plan
returns-in-Plan g c = record {
  looked = rw c.in-Plan.is c.read_files_of-in-Plan.ensures.looked;
  untouched = rw c.in-Plan.is tt;
  alone = rw c.in-Plan.is (c.read_files_of-in-Plan.ensures.alone refl);
}

pub returns-in-Session : goal.returns-in-Session
returns-in-Session g c = record {
  looked = rw c.in-Session.is (rw (c.as_str.ensures.value, c.text_of-in-Session.ensures) at c.read_files_of-in-Session.ensures.looked);
  untouched = rw c.in-Session.is tt;
  alone = rw c.in-Session.is (c.read_files_of-in-Session.ensures.alone refl);
}

pub returns-in-Load : goal.returns-in-Load
returns-in-Load g c = record {
  looked = rw c.in-Load.is (c.generate_input.ensures.made, refl);
  untouched = rw c.in-Load.is refl;
  alone = rw c.in-Load.is c.generate_input.ensures.alone;
}

pub returns-in-Prove : goal.returns-in-Prove
returns-in-Prove g c = record {
  looked = rw c.in-Prove.is c.read_files_of-in-Prove.ensures.looked;
  untouched = rw c.in-Prove.is tt;
  alone = rw c.in-Prove.is (both c.read_files_of-in-Prove.result (c.read_files_of-in-Prove.ensures.alone refl) (c.read_files_of-in-Prove.ensures.unnamed refl));
}

pub returns-in-Verify : goal.returns-in-Verify
returns-in-Verify g c = record {
  looked = rw c.in-Verify.is (rw c.as_str-in-Verify.ensures.value at c.read_files_of-in-Verify.ensures.looked);
  untouched = rw c.in-Verify.is tt;
  alone = rw c.in-Verify.is (both c.read_files_of-in-Verify.result (c.read_files_of-in-Verify.ensures.alone refl) (c.read_files_of-in-Verify.ensures.unnamed refl));
}
