use Rattle.std.proofs.Common.{◌≡◌, Err, rules}
use Rattle.proof_model.specs.ProofTexts.{IsProofText}
use Rattle.outer_io.specs.declared.fault.PrintFault.TheVariants as fault
use Rattle.outer_io.proofs.Prints.{appends_nothing, none_printed, printed_some}
use Rattle.anyk_top.proofs.certificate.print_proof.Goals as goal

pub returns-in_err-text : goal.returns-in_err-text
returns-in_err-text g c = record {
  printed = λ tables plan fits is same.
      let e : c.from_residual.result ≡ Err fault.NoMemory = search rules in
      rw e (none_printed (IsProofText c.args.query.now.query tables) _);
  silent = let e : c.from_residual.result ≡ Err fault.NoMemory = search rules in rw e (appends_nothing _);
}

pub returns : goal.returns
returns g c = record {
  printed = λ tables plan fits is same.
      printed_some (IsProofText c.args.query.now.query tables) _ _ c.in_ok-text.text.items _
      (c.in_ok-text.ensures.written tables plan fits is same) (rw c.deref.ensures.value at c.print_once.ensures.printed);
  silent = c.print_once.ensures.silent;
}
