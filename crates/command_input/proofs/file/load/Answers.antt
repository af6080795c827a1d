use Rattle.std.proofs.Common.{Err, ap, arith}
use Rattle.command_input.proofs.Files.{loaded_fits, refused_load}
use Rattle.command_input.proofs.Telling.{file_told}
use Rattle.command_input.proofs.file.load.Goals as goal

pub returns-in-Err : goal.returns-in-Err
returns-in-Err g c = record {
  staged =
      let e = c.in-Err.ensures in
      rw c.file_refusal.ensures
      (refused_load _ _ c.args.name.now c.in-Err.fault (λ h. e.lacks (ap Err h)) (λ h. e.long (ap Err h)) (λ h. e.missing (ap Err h)) (λ h. e.failed (ap Err h))
      (λ h. e.too_large (ap Err h)) e.files e.misses e.faults e.taken);
  tells = rw c.file_refusal.ensures (file_told c.args.name.now c.in-Err.fault);
  short = tt;
}

pub returns-in-Ok : goal.returns-in-Ok
returns-in-Ok g c = record {
  staged =
      let e = c.in-Ok.ensures in record {
        fits = loaded_fits _ c.args.name.now c.in-Ok.bytes.items e.bytes (let v = c.in-Ok.bytes in let short = e.short in omega (arith, short));
        caused = tt;
        files = e.files;
        misses = e.misses;
        faults = e.faults;
        taken = e.taken;
      };
  tells = tt;
  short = let v = c.in-Ok.bytes in let short = c.in-Ok.ensures.short in omega (arith, short);
}
