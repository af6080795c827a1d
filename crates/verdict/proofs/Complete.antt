-- Since there is at most one verdict, a call that ended as stated is complete in both directions.
use Rattle.std.proofs.Common.{◌≡◌, ◌⊎◌, Option, Some, None, Result, Ok, Err, inl, inr, ap, sym, refl}
use Rattle.outer_io.specs.Counts.{Rose}
use Rattle.outer_io.specs.Files.{Files}
use Rattle.refusals.specs.Reason as reason
use Rattle.refusals.specs.Reason.{Reason, status_of}
use Rattle.verdict.specs.Words.{Asked, no_command, a_command, run, plan, session, load, prove, verify}
use Rattle.verdict.specs.AcceptedInput.{AcceptedInput}
use Rattle.verdict.specs.Outcome.{Outside, Ended, GotAccepted, GotNothing, IsComplete, IsReason, IsCaused, IsCut, IsCutShort, IsDoneWhereAccepted, IsRefusedWhereRefused, IsUnwrittenWhereRefused}
use Rattle.verdict.specs.Verdict.{IsVerdict}
use Rattle.verdict.proofs.One.{one_verdict, usage_verdict}

no_both : {A B : Type 0} {a : A} {b : Reason} → ◌≡◌ {A = Result A Reason} (Ok a) (Err b) → B
no_both e = cc

same_refusal : {a b : Reason} → ◌≡◌ {A = Result AcceptedInput Reason} (Err a) (Err b) → a ≡ b
same_refusal e = cc

-- a complete output is written only if the input is accepted
pub complete_only : (asked : Asked) (told : Option Files) (old new : Outside)
    → IsComplete asked told old new → IsRefusedWhereRefused asked told old new 0
complete_only asked None old new h = tt
complete_only no_command (Some files) old new h = absurd h
complete_only (a_command command) (Some files) old new (found, accepted, text, is_output, written) =
    λ refusal is_refused no_fault. no_both (one_verdict (a_command command) files _ _ accepted is_refused)

-- the refusal of a call that ended with it is the verdict's
done_by : (asked : Asked) (files : Files) (old new : Outside) (a : Reason) → IsReason asked (Some files) a → IsCaused asked old new a
    → (found : AcceptedInput) → IsVerdict asked files (Ok found) → (Rose old.read_faults new.read_faults → ⊥) → (Rose old.write_faults new.write_faults → ⊥)
    → (status_of a ≡ 0) ⊎ (status_of a ≡ 12)
done_by asked files old new reason.Usage fits caused found accepted read write = no_both (usage_verdict files asked (Ok found) fits accepted)
done_by asked files old new (reason.ReadFault name) fits caused found accepted read write = absurd (read caused.0)
done_by asked files old new reason.WriteFault fits caused found accepted read write = absurd (write caused)
done_by asked files old new reason.NoMemory fits caused found accepted read write = inr refl
done_by asked files old new a fits caused found accepted read write = no_both (one_verdict asked files _ _ accepted fits)

-- a call that ended with a reason is done if it must be
pub done_only : (asked : Asked) (told : Option Files) (old new : Outside) (a : Reason)
    → Ended asked told old new a → IsDoneWhereAccepted asked told old new (status_of a)
done_only asked None old new a h = tt
done_only asked (Some files) old new a h = done_by asked files old new a h.fits h.caused

refused_by : (asked : Asked) (files : Files) (old new : Outside) (a : Reason) → IsReason asked (Some files) a → IsCaused asked old new a
    → (refusal : Reason) → IsVerdict asked files (Err refusal) → (Rose old.read_faults new.read_faults → ⊥)
    → (status_of a ≡ status_of refusal) ⊎ (status_of a ≡ 12)
refused_by asked files old new reason.Usage fits caused refusal is_refused read =
    inl (ap status_of (sym (same_refusal (usage_verdict files asked (Err refusal) fits is_refused))))
refused_by asked files old new (reason.ReadFault name) fits caused refusal is_refused read = absurd (read caused.0)
refused_by asked files old new reason.WriteFault fits caused refusal is_refused read = no_both (one_verdict asked files _ _ fits.1 is_refused)
refused_by asked files old new reason.NoMemory fits caused refusal is_refused read = inr refl
refused_by asked files old new a fits caused refusal is_refused read = inl (ap status_of (same_refusal (one_verdict asked files _ _ fits is_refused)))

-- and its status is the refusal's, if the input is refused
pub refused_only : (asked : Asked) (told : Option Files) (old new : Outside) (a : Reason)
    → Ended asked told old new a → IsRefusedWhereRefused asked told old new (status_of a)
refused_only asked None old new a h = tt
refused_only asked (Some files) old new a h = refused_by asked files old new a h.fits h.caused

-- if the output got a part of what an accepted input gives, the verdict is not a refusal
accepted_alone : {A : Type 0} (asked : Asked) (files : Files) (old new : Outside) → GotAccepted asked (Some files) old new
    → (refusal : Reason) → IsVerdict asked files (Err refusal) → A
accepted_alone no_command files old new h refusal is_refused = absurd h
accepted_alone (a_command command) files old new (found, accepted, text, is_output, got) refusal is_refused =
    no_both (one_verdict (a_command command) files _ _ accepted is_refused)

-- a complete output is written only if the verdict is not a refusal
pub complete_unrefused : (asked : Asked) (told : Option Files) (old new : Outside)
    → IsComplete asked told old new → IsUnwrittenWhereRefused asked told old new
complete_unrefused asked None old new h = tt
complete_unrefused no_command (Some files) old new h = absurd h
complete_unrefused (a_command command) (Some files) old new (found, accepted, text, is_output, written) =
    λ refusal is_refused. no_both (one_verdict (a_command command) files _ _ accepted is_refused)

-- the same for either of two
nothing_got : (asked : Asked) (files : Files) (old new : Outside) → GotNothing old new ⊎ GotAccepted asked (Some files) old new
    → (refusal : Reason) → IsVerdict asked files (Err refusal) → GotNothing old new
nothing_got asked files old new (inl nothing) refusal is_refused = nothing
nothing_got asked files old new (inr accepted) refusal is_refused = accepted_alone asked files old new accepted refusal is_refused

short_by : (asked : Asked) (files : Files) (old new : Outside) → IsCutShort asked (Some files) old new
    → (refusal : Reason) → IsVerdict asked files (Err refusal) → GotNothing old new
short_by no_command files old new cut refusal is_refused = cut
short_by (a_command (run words)) files old new cut refusal is_refused = nothing_got (a_command (run words)) files old new cut refusal is_refused
short_by (a_command (plan words)) files old new cut refusal is_refused = cut
short_by (a_command (session script words)) files old new cut refusal is_refused = nothing_got (a_command (session script words)) files old new cut refusal is_refused
short_by (a_command (load number rows)) files old new cut refusal is_refused = cut
short_by (a_command (prove words)) files old new cut refusal is_refused = cut
short_by (a_command (verify proof words)) files old new cut refusal is_refused = nothing_got (a_command (verify proof words)) files old new cut refusal is_refused

unwritten_by : (asked : Asked) (files : Files) (old new : Outside) (a : Reason) → IsCut asked (Some files) old new a
    → (refusal : Reason) → IsVerdict asked files (Err refusal) → GotNothing old new
unwritten_by asked files old new reason.WriteFault cut refusal is_refused = accepted_alone asked files old new cut refusal is_refused
unwritten_by asked files old new reason.NoMemory cut refusal is_refused = short_by asked files old new cut refusal is_refused
unwritten_by asked files old new a cut refusal is_refused = cut

-- if the input is refused, a call that ended with a reason has written nothing
pub unwritten_only : (asked : Asked) (told : Option Files) (old new : Outside) (a : Reason)
    → Ended asked told old new a → IsUnwrittenWhereRefused asked told old new
unwritten_only asked None old new a h = tt
unwritten_only asked (Some files) old new a h = unwritten_by asked files old new a h.cut

-- nothing was written when memory ran out
pub silent_cut : (asked : Asked) (told : Option Files) (old new : Outside) → GotNothing old new → IsCutShort asked told old new
silent_cut no_command told old new nothing = nothing
silent_cut (a_command (run words)) told old new nothing = inl nothing
silent_cut (a_command (plan words)) told old new nothing = nothing
silent_cut (a_command (session script words)) told old new nothing = inl nothing
silent_cut (a_command (load number rows)) told old new nothing = nothing
silent_cut (a_command (prove words)) told old new nothing = nothing
silent_cut (a_command (verify proof words)) told old new nothing = inl nothing
