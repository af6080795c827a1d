use Rattle.std.proofs.Common.{◌∙◌, [], List, Result, Ok, Err, sym, ap, subst}
use Rattle.proof_model.specs.Certificate.{Certificate}
use Rattle.proof_model.specs.ProofView.{proof_view}
use Rattle.session_script.specs.declared.step.Step.{Step}
use Rattle.refusals.specs.Reason.{Reason}
use Rattle.refusals.specs.RefusalReasons.{reason_of}
use Rattle.verdict.specs.Faults.{of_proof, of_script}
use Rattle.verdict.specs.Loading.{SideInput, proof_said, steps_said, told_proof, told_steps, with_proof, with_steps}
use Rattle.verdict.specs.Stages.{Is, then_by}
use Rattle.verdict.specs.StageResults.{Pure}
use Rattle.command_input.specs.InputFiles.{aside_view, beside_said}
use Rattle.command_input.proofs.Asides.{no_steps, said_refused}
use Rattle.command_input.proofs.Faults.{proof_refused, script_refused}
use Rattle.command_input.proofs.side_input.said_beside.Goals as goal

abbrev read : List Step → Certificate → Result SideInput Reason
read steps proof = Ok (record { steps = steps; proof = proof })

pub returns-in-Nothing : goal.returns-in-Nothing
returns-in-Nothing c = record {
  said =
      rw c.in-Nothing.is
      (ap (λ s. read s (proof_view c.no_proof.result)) c.new.ensures.items ∙ ap (read []) c.no_proof.ensures);
  rules = rw c.new.ensures.items no_steps;
}

pub returns-in-Ok : goal.returns-in-Ok
returns-in-Ok c = record {
  said =
      rw c.in-Script.is
      (ap (read c.in-Ok.script.items) c.no_proof-in-Ok.ensures
      ∙ sym (ap (λ r. then_by (told_steps r) (λ steps. Ok (with_steps steps))) c.in-Ok.ensures.value));
  rules = c.in-Ok.ensures.keeps_rules;
}

pub returns-in-Err : goal.returns-in-Err
returns-in-Err c = record {
  said =
      let bytes = c.args.bytes.now in
      let refused = script_refused bytes c.in-Err.fault c.in-Err.ensures.value in
      subst (λ a. Pure (Is (beside_said (aside_view a) bytes)) (Err (reason_of c.script_refusal.result))) (sym c.in-Script.is)
      (subst (λ e. Pure (Is (then_by (steps_said bytes) (λ steps. Ok (with_steps steps)))) (Err e)) (sym c.script_refusal.ensures)
      (said_refused with_steps (steps_said bytes) (of_script c.in-Err.fault) refused));
  rules = tt;
}

pub returns-in-Ok-read_proof : goal.returns-in-Ok-read_proof
returns-in-Ok-read_proof c = record {
  said =
      rw c.in-Certificate.is
      (ap (λ s. read s (proof_view c.in-Ok-read_proof.proof)) c.new-in-Ok-read_proof.ensures.items
      ∙ sym (ap (λ r. then_by (told_proof r) (λ proof. Ok (with_proof proof))) c.in-Ok-read_proof.ensures.read));
  rules = rw c.new-in-Ok-read_proof.ensures.items no_steps;
}

pub returns-in-Err-read_proof : goal.returns-in-Err-read_proof
returns-in-Err-read_proof c = record {
  said =
      let bytes = c.args.bytes.now in
      let refused = proof_refused bytes c.in-Err-read_proof.fault c.in-Err-read_proof.ensures.read in
      subst (λ a. Pure (Is (beside_said (aside_view a) bytes)) (Err (reason_of c.proof_refusal.result))) (sym c.in-Certificate.is)
      (subst (λ e. Pure (Is (then_by (proof_said bytes) (λ proof. Ok (with_proof proof)))) (Err e)) (sym c.proof_refusal.ensures)
      (said_refused with_proof (proof_said bytes) (of_proof c.in-Err-read_proof.fault) refused));
  rules = tt;
}
