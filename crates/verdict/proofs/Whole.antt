-- The whole contract of a call, from how it ended.
use Rattle.std.proofs.Common.{◌≡◌, ◌⊎◌, ◌==◌, [], Option, Some, None, inl, refl, true, arith}
use Rattle.std.specs.List.{list_any}
use Rattle.std.specs.Io.KnownBytes.{Appends}
use Rattle.outer_io.specs.Files.{Files}
use Rattle.refusals.specs.Reason as reason
use Rattle.refusals.specs.Reason.{Reason, status_of}
use Rattle.verdict.specs.Words.{Command, Asked, no_command, a_command, run, plan, session, load, prove, verify}
use Rattle.verdict.specs.Outcome.{Outside, Outcome, Ended, IsReason, IsComplete, IsDoneWhereAccepted, IsUntouched, statuses}
use Rattle.verdict.proofs.Complete.{complete_only, complete_unrefused, done_only, refused_only, unwritten_only}

known_status : (asked : Asked) (told : Option Files) (a : Reason) → IsReason asked told a → list_any (λ s. s == status_of a) statuses ≡ true
known_status asked told reason.NoMemory fits = refl
known_status asked told a fits = refl

not_done : {A : Type 0} (a : Reason) → status_of a ≡ 0 → A
not_done reason.Usage e = absurd (omega (arith, e))
not_done a e = absurd (omega (arith, e))

-- a call that ended with a reason
pub ended_outcome : (asked : Asked) (told : Option Files) (old new : Outside) (a : Reason) → Ended asked told old new a
    → (asked ≡ no_command → (status_of a ≡ 2) ⊎ (status_of a ≡ 12)) → Outcome asked told old new (status_of a)
ended_outcome asked told old new a h usage = record {
  known = known_status asked told a h.fits;
  done = λ e. not_done a e;
  quiet = λ e. not_done a e;
  refused = λ _. (a, refl, h);
  usage = usage;
  accepted = done_only asked told old new a h;
  exact = refused_only asked told old new a h;
  unwritten = unwritten_only asked told old new a h;
}

abbrev Same : Asked → Asked → Type 0
Same a b = a ≡ b

differ_none : {A : Type 0} {k : Command} → Same (a_command k) no_command → A
differ_none h = cc

complete_command : {A : Type 0} (asked : Asked) (told : Option Files) (old new : Outside) → IsComplete asked told old new → asked ≡ no_command → A
complete_command no_command told old new h e = absurd h
complete_command (a_command command) told old new h e = differ_none e

zero_accepted : (asked : Asked) (told : Option Files) (old new : Outside) → IsDoneWhereAccepted asked told old new 0
zero_accepted asked None old new = tt
zero_accepted asked (Some files) old new = λ found accepted read write. inl refl

-- a call that is done
pub done_outcome : (asked : Asked) (told : Option Files) (old new : Outside) → IsComplete asked told old new
    → Appends old.errors new.errors [] → Outcome asked told old new 0
done_outcome asked told old new h quiet = record {
  known = refl;
  done = λ _. h;
  quiet = λ _. quiet;
  refused = λ not_zero. absurd (not_zero refl);
  usage = λ e. complete_command asked told old new h e;
  accepted = zero_accepted asked told old new;
  exact = complete_only asked told old new h;
  unwritten = complete_unrefused asked told old new h;
}

-- no file was opened
pub untouched_still : {F : Type 0} (asked : Asked) (shelf : F) → IsUntouched asked shelf shelf
untouched_still no_command shelf = refl
untouched_still (a_command (run words)) shelf = tt
untouched_still (a_command (plan words)) shelf = tt
untouched_still (a_command (session script words)) shelf = tt
untouched_still (a_command (load number rows)) shelf = refl
untouched_still (a_command (prove words)) shelf = tt
untouched_still (a_command (verify proof words)) shelf = tt
