-- How a call ended, from the results of its parts.
use Rattle.std.proofs.Common.{◌≡◌, ℕ, List, Option, Result, Ok, Err, inl, inr, refl, sym, subst, ap, ◌∙◌}
use Rattle.outer_io.specs.Files.{Files}
use Rattle.outer_io.specs.declared.writing.Unwritten.{Unwritten}
use Rattle.refusals.specs.declared.refusal.Refusal.{Refusal}
use Rattle.refusals.specs.Reason as reason
use Rattle.refusals.specs.Reason.{Reason, line_of, status_of}
use Rattle.refusals.specs.RefusalReasons.{reason_of}
use Rattle.outer_io.specs.SinkText.{Sent}
use Rattle.outer_io.specs.SinkState.{SinkState}
use Rattle.verdict.specs.Execution.{IsExecuted}
use Rattle.verdict.specs.Outcome.{GotNothing, HasLine, IsCaused, IsCut, IsCutShort, Outcome, Outside}
use Rattle.verdict.specs.Words.{Asked, Command, no_command, a_command, run, plan, session, load, prove, verify}
use Rattle.verdict.proofs.Complete.{silent_cut}
use Rattle.verdict.proofs.Whole.{done_outcome, ended_outcome}
use Rattle.cmd_words.specs.declared.fault.WordsFault.{WordsFault}
use Rattle.cmd_words.specs.declared.fault.WordsFault.TheVariants as fault
use Rattle.anyk_top.specs.CommandLine.{IsEarly, rejected_as}
use Rattle.anyk_top.specs.Endings.{Finished, HasSent}

-- ---- the line of a refusal

-- the sink for errors
abbrev pub errors_of : Outside → SinkState
errors_of outside = record { written = outside.errors; faults = outside.error_faults }

line_sent : (old new : Outside) (line : List ℕ) (r : Result (Unit {0}) Unwritten) → Sent (errors_of old) (errors_of new) line r → HasLine old new line
line_sent old new line (Ok done) sent = record { prefix = sent.prefix; whole = λ no_fault. sent.whole }
line_sent old new line (Err e) sent = record { prefix = sent.prefix; whole = λ no_fault. absurd (no_fault sent.cause) }

has_line : (old new : Outside) (line : List ℕ) → HasSent (errors_of old) (errors_of new) line → HasLine old new line
has_line old new line h = line_sent old new line h.result h.sent

-- ---- how a command ends

abbrev Same : Asked → Asked → Type 0
Same a b = a ≡ b

differ_none : {A : Type 0} {k : Command} → Same (a_command k) no_command → A
differ_none h = cc

-- the outside with another sink for errors
abbrev with_errors : Outside → SinkState → Outside
with_errors outside errors = record outside { errors = errors.written; error_faults = errors.faults }

caused_same : (asked : Asked) (old new : Outside) (e e' : SinkState) (a : Reason) → IsCaused asked old new a → IsCaused asked (with_errors old e) (with_errors new e') a
caused_same asked old new e e' (reason.NoFile name) h = h
caused_same asked old new e e' (reason.ReadFault name) h = h
caused_same asked old new e e' (reason.TooLarge name) h = h
caused_same asked old new e e' reason.WriteFault h = h
caused_same asked old new e e' a h = tt

short_same : (asked : Asked) (told : Option Files) (old new : Outside) (e e' : SinkState)
    → IsCutShort asked told old new → IsCutShort asked told (with_errors old e) (with_errors new e')
short_same no_command told old new e e' h = h
short_same (a_command (run words)) told old new e e' h = h
short_same (a_command (plan words)) told old new e e' h = h
short_same (a_command (session script words)) told old new e e' h = h
short_same (a_command (load number rows)) told old new e e' h = h
short_same (a_command (prove words)) told old new e e' h = h
short_same (a_command (verify proof words)) told old new e e' h = h

cut_same : (asked : Asked) (told : Option Files) (old new : Outside) (e e' : SinkState) (a : Reason)
    → IsCut asked told old new a → IsCut asked told (with_errors old e) (with_errors new e') a
cut_same no_command told old new e e' reason.WriteFault h = h
cut_same (a_command command) told old new e e' reason.WriteFault h = h
cut_same asked told old new e e' reason.NoMemory h = short_same asked told old new e e' h
cut_same asked told old new e e' a h = h

pub command_outcome : (command : Command) (told : Option Files) (old new : Outside) (e e' : SinkState) (before now : ℕ) (r : Result (Unit {0}) Refusal)
    (status : ℕ) → IsExecuted command told old new before now r → Finished e e' r status
    → Outcome (a_command command) told (with_errors old e) (with_errors new e') status
command_outcome command told old new e e' before now (Ok done) status h (zero, quiet) =
    let P : ℕ → Type 0 = Outcome (a_command command) told (with_errors old e) (with_errors new e') in
    subst P (sym zero) (done_outcome (a_command command) told (with_errors old e) (with_errors new e') h.done quiet)
command_outcome command told old new e e' before now (Err refusal) status h (is, sent) =
    let P : ℕ → Type 0 = Outcome (a_command command) told (with_errors old e) (with_errors new e') in
    subst P (sym is) (ended_outcome (a_command command) told (with_errors old e) (with_errors new e') (reason_of refusal)
    (record {
      fits = h.fits;
      caused = caused_same (a_command command) old new e e' (reason_of refusal) h.caused;
      cut = cut_same (a_command command) told old new e e' (reason_of refusal) h.cut;
      line = has_line (with_errors old e) (with_errors new e') (line_of (reason_of refusal)) sent;
    })
    (λ none. differ_none none))

-- ---- how a call ends if its arguments are not a command

early_reason : (asked : Asked) (told : Option Files) (old new : Outside) (f : WordsFault) → IsEarly asked f → GotNothing old new → HasLine old new (line_of (rejected_as f))
    → Outcome asked told old new (status_of (rejected_as f))
early_reason asked told old new fault.Usage early nothing line =
    ended_outcome asked told old new reason.Usage (record { fits = early; caused = tt; cut = nothing; line = line }) (λ h. inl refl)
early_reason asked told old new fault.NoMemory early nothing line =
    ended_outcome asked told old new reason.NoMemory (record { fits = tt; caused = tt; cut = silent_cut asked told old new nothing; line = line }) (λ h. inr refl)

pub early_outcome : (asked : Asked) (told : Option Files) (old new : Outside) (f : WordsFault) (refusal : Refusal) (status : ℕ) → IsEarly asked f
    → reason_of refusal ≡ rejected_as f → GotNothing old new → Finished (errors_of old) (errors_of new) (Err refusal) status → Outcome asked told old new status
early_outcome asked told old new f refusal status early same nothing (is, sent) =
    let P : ℕ → Type 0 = Outcome asked told old new in
    let Q : Reason → Type 0 = λ a. HasLine old new (line_of a) in
    subst P (sym (is ∙ ap status_of same)) (early_reason asked told old new f early nothing
    (subst Q same (has_line old new (line_of (reason_of refusal)) sent)))
