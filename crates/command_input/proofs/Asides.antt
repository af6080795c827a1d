-- The script or the certificate, if there is one.
use Rattle.std.proofs.Common.{◌≡◌, ℕ, List, [], Some, None, Result, Ok, Err, refl, sym, ap, ◌∙◌, arith}
use Rattle.outer_io.specs.Files.{Files}
use Rattle.refusals.specs.Reason as reason
use Rattle.refusals.specs.Reason.{Reason}
use Rattle.session_script.specs.Script.{KeepsRules}
use Rattle.verdict.specs.Loading.{SideInput, beside_in, file_in, proof_said, steps_said, with_proof, with_steps}
use Rattle.verdict.specs.StageResults.{NoTurn, Pure, Shelved, Staged}
use Rattle.verdict.specs.Stages.{Is, then_by}
use Rattle.verdict.specs.Words.{SideFile, aside_name, certificate, nothing, script}
use Rattle.verdict.proofs.Staging.{found_within, pure_staged, refusal_within, wider_staged}
use Rattle.command_input.specs.InputFiles.{beside_said}

-- a script without a step
pub no_steps : KeepsRules [] []
no_steps = omega arith

-- what a part says, and what is known then
module _ {A : Type 0} (with : A → SideInput) where
  pub said_refused : (x : Result A Reason) (e : Reason) → Pure (Is x) (Err e) → Pure (Is (then_by x (λ a. Ok (with a)))) (Err e)
  said_refused x reason.NoMemory h = tt
  said_refused x (reason.NoFile file) h = h
  said_refused x (reason.ReadFault file) h = h
  said_refused x (reason.TooLarge file) h = h
  said_refused x reason.WriteFault h = h
  said_refused x reason.Usage h = h
  said_refused x e h = ap (λ (r : Result A Reason). then_by r (λ a. Ok (with a))) h

-- ---- the file, and then what its bytes say

-- none is named
pub beside_none : (aside : SideFile) (bytes : List ℕ) (s : Shelved) (r : Result SideInput Reason) → None ≡ aside_name aside → Pure (Is (beside_said aside bytes)) r
    → Staged (λ files. Is (beside_in files aside)) (λ files file. aside_name aside ≡ Some file) s s r
beside_none nothing bytes s r none h =
    wider_staged (λ files. Is (Ok (with_steps []))) (λ files. Is (Ok (with_steps []))) NoTurn (λ files file. None ≡ Some file) s s r
    (λ files given. given) (λ files file no_turn. absurd no_turn) (pure_staged (Is (Ok (with_steps []))) s r h)
beside_none (script name) bytes s r none h = cc
beside_none (certificate name) bytes s r none h = cc

said_after : (aside : SideFile) (name : List ℕ) → Some name ≡ aside_name aside → (files : Files) → beside_in files aside ≡ then_by (file_in files name) (beside_said aside)
said_after nothing name is files = cc
said_after (script file) name is files = let same : name ≡ file = cc in by (file_in files file) ∙ sym (ap (λ (n : List ℕ). then_by (file_in files n) (beside_said (script file))) same)
  where
    by : (r : Result (List ℕ) Reason) → then_by (then_by r steps_said) (λ steps. Ok (with_steps steps)) ≡ then_by r (beside_said (script file))
    by (Ok bytes) = refl
    by (Err e) = refl
said_after (certificate file) name is files = let same : name ≡ file = cc in by (file_in files file) ∙ sym (ap (λ (n : List ℕ). then_by (file_in files n) (beside_said (certificate file))) same)
  where
    by : (r : Result (List ℕ) Reason) → then_by (then_by r proof_said) (λ proof. Ok (with_proof proof)) ≡ then_by r (beside_said (certificate file))
    by (Ok bytes) = refl
    by (Err e) = refl

module _ (aside : SideFile) (name : List ℕ) (is : Some name ≡ aside_name aside) where
  abbrev IsAside : Files → List ℕ → Type 0
  IsAside files file = aside_name aside ≡ Some file

  -- its file was refused
  pub beside_unread : (old new : Shelved) (e : Reason) → Staged (λ files. Is (file_in files name)) (λ files file. file ≡ name) old new (Err e)
      → Staged (λ files. Is (beside_in files aside)) IsAside old new (Err e)
  beside_unread old new e s =
      refusal_within (λ files. Is (file_in files name)) (λ files file. file ≡ name) (λ files. Is (beside_in files aside)) IsAside old new e
      (λ files h. ap (λ (r : Result (List ℕ) Reason). then_by r (beside_said aside)) h ∙ sym (said_after aside name is files))
      (λ files file same. sym is ∙ ap Some (sym same)) s

  -- its file was read
  pub beside_read : (bytes : List ℕ) (old new : Shelved) (r : Result SideInput Reason)
      → Staged (λ files. Is (file_in files name)) (λ files file. file ≡ name) old new (Ok bytes)
      → Pure (Is (beside_said aside bytes)) r → Staged (λ files. Is (beside_in files aside)) IsAside old new r
  beside_read bytes old new r s said =
      found_within (λ files. Is (file_in files name)) (λ files file. file ≡ name) (λ files. Is (beside_said aside bytes)) NoTurn
      (λ files. Is (beside_in files aside)) IsAside old new new bytes r
      (λ files given h. h ∙ ap (λ (x : Result (List ℕ) Reason). then_by x (beside_said aside)) given ∙ sym (said_after aside name is files))
      (λ files file given no_turn. absurd no_turn) s
      (pure_staged (Is (beside_said aside bytes)) new r said)
