-- The steps of a command, before it does anything, and if its input is accepted.
use Rattle.std.proofs.Common.{◌≡◌, ℕ, List, Option, Some, None, Ok, subst, arith}
use Rattle.outer_io.specs.Files.{Files}
use Rattle.verdict.specs.AcceptedInput.{AcceptedInput}
use Rattle.verdict.specs.Bound.{IsBounded, IsPaced, IsPrompt, KeepsCommandBound}
use Rattle.verdict.specs.Verdict.{IsVerdict}
use Rattle.verdict.specs.Words.{Asked, Command, no_command, a_command, run, plan, session, load, prove, verify}
use Rattle.verdict.proofs.One.{one_verdict}
use Rattle.verdict.proofs.Printed.{Accepts}

-- known files have one verdict
found_is : (command : Command) (files : Files) (found other : AcceptedInput) → Accepts command (Some files) found
    → IsVerdict (a_command command) files (Ok other) → found ≡ other
found_is command files found other accepts verdict = let e =
    one_verdict (a_command command) files (Ok found) (Ok other) accepts verdict in cc

-- no step was taken
within_still : (command : Command) (found : AcceptedInput) (n : ℕ) → KeepsCommandBound command found n n
within_still (run words) found n = omega arith
within_still (plan words) found n = omega arith
within_still (session script words) found n = omega arith
within_still (load number rows) found n = omega arith
within_still (prove words) found n = tt
within_still (verify proof words) found n = tt

pub bounded_still : (asked : Asked) (told : Option Files) (n : ℕ) → IsBounded asked told n n
bounded_still no_command told n = tt
bounded_still (a_command command) None n = tt
bounded_still (a_command command) (Some files) n = λ found verdict. within_still command found n

paced_still : (command : Command) (found : AcceptedInput) (old new : Option (List ℕ)) (n : ℕ)
    → IsPaced command found old new n n
paced_still (run words) found old new n = λ start part is_old is_new. omega arith
paced_still (plan words) found old new n = tt
paced_still (session script words) found old new n = λ start part is_old is_new. omega arith
paced_still (load number rows) found old new n = tt
paced_still (prove words) found old new n = tt
paced_still (verify proof words) found old new n = tt

pub prompt_still : (asked : Asked) (told : Option Files) (old new : Option (List ℕ)) (n : ℕ)
    → IsPrompt asked told old new n n
prompt_still no_command told old new n = tt
prompt_still (a_command command) None old new n = tt
prompt_still (a_command command) (Some files) old new n = λ found verdict. paced_still command found old new n

-- the steps for the input that is accepted
pub bounded_found : (command : Command) (told : Option Files) (found : AcceptedInput) (before now : ℕ)
    → Accepts command told found → KeepsCommandBound command found before now
    → IsBounded (a_command command) told before now
bounded_found command None found before now accepts h = tt
bounded_found command (Some files) found before now accepts h = λ other verdict.
    subst (λ f. KeepsCommandBound command f before now) (found_is command files found other accepts verdict) h

pub prompt_found : (command : Command) (told : Option Files) (found : AcceptedInput) (old new : Option (List ℕ))
    (before now : ℕ) → Accepts command told found
    → IsPaced command found old new before now → IsPrompt (a_command command) told old new before now
prompt_found command None found old new before now accepts h = tt
prompt_found command (Some files) found old new before now accepts h = λ other verdict.
    subst (λ f. IsPaced command f old new before now) (found_is command files found other accepts verdict) h
