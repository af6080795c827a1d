-- One file, as reading it gives it.
use Rattle.std.proofs.Common.{◌≡◌, ◌≤◌, ◌<◌, ℕ, List, Option, Some, None, Ok, Err, refl, sym, ◌∙◌, arith, ap}
use Rattle.std.proofs.lemmas.Bool.Decides.{nat_tests}
use Rattle.outer_io.specs.Counts.{Rose, RoseAbove}
use Rattle.outer_io.specs.Files.{Files, HasFile, LacksFile, IsNoShortFile}
use Rattle.outer_io.specs.declared.reading.FileFault.{FileFault}
use Rattle.outer_io.specs.declared.reading.FileFault.TheVariants as file
use Rattle.std.specs.Prelude.{length}
use Rattle.refusals.specs.Reason as reason
use Rattle.verdict.specs.Loading.{file_in, file_with, most_bytes, short_enough}
use Rattle.verdict.specs.StageResults.{IsStageOf, Causes, Shelved, Staged}
use Rattle.verdict.specs.Stages.{Is}
use Rattle.command_input.specs.StageViews.{file_reason}

pub short_bytes : (name bytes : List ℕ) → length bytes ≤ most_bytes → short_enough name bytes ≡ Ok bytes
short_bytes name bytes h = grind (arith, nat_tests)

long_bytes : (name bytes : List ℕ) → most_bytes < length bytes → short_enough name bytes ≡ Err (reason.TooLarge name)
long_bytes name bytes h = grind (arith, nat_tests)

-- a file that was read whole
pub loaded_fits : (told : Option Files) (name bytes : List ℕ) → HasFile told name (Some bytes) → length bytes ≤ most_bytes
    → IsStageOf (λ files. Is (file_in files name)) (λ files other. other ≡ name) told (Ok bytes)
loaded_fits None name bytes h short = tt
loaded_fits (Some files) name bytes h short = sym (ap (file_with name) (sym h.0) ∙ short_bytes name bytes short)

-- a file that was not read whole
refused_fits : (told : Option Files) (name : List ℕ) (fault : FileFault) → (fault ≡ file.Missing → LacksFile told name) → (fault ≡ file.TooLarge → IsNoShortFile most_bytes told name)
    → IsStageOf {A = List ℕ} (λ files. Is (file_in files name)) (λ files other. other ≡ name) told (Err (file_reason name fault))
refused_fits None name file.Missing lacks long = tt
refused_fits None name file.Failed lacks long = tt
refused_fits None name file.TooLarge lacks long = tt
refused_fits None name file.NoMemory lacks long = tt
refused_fits (Some files) name file.Missing lacks long = sym (ap (file_with name) (lacks refl))
refused_fits (Some files) name file.Failed lacks long = refl
refused_fits (Some files) name file.TooLarge lacks long =
    let h = long refl in sym (ap (file_with name) h.1 ∙ long_bytes name h.0 h.2)
refused_fits (Some files) name file.NoMemory lacks long = tt

refused_cause : (old new : Shelved) (name : List ℕ) (fault : FileFault) → (fault ≡ file.Missing → Rose old.misses new.misses) → (fault ≡ file.Failed → Rose old.faults new.faults)
    → (fault ≡ file.TooLarge → RoseAbove most_bytes old.taken new.taken) → Causes {A = List ℕ} old new (Err (file_reason name fault))
refused_cause old new name file.Missing missing failed too_large = missing refl
refused_cause old new name file.Failed missing failed too_large = failed refl
refused_cause old new name file.TooLarge missing failed too_large = too_large refl
refused_cause old new name file.NoMemory missing failed too_large = tt

pub refused_load : (old new : Shelved) (name : List ℕ) (fault : FileFault) → (fault ≡ file.Missing → LacksFile old.files name) → (fault ≡ file.TooLarge → IsNoShortFile most_bytes old.files name)
    → (fault ≡ file.Missing → Rose old.misses new.misses) → (fault ≡ file.Failed → Rose old.faults new.faults)
    → (fault ≡ file.TooLarge → RoseAbove most_bytes old.taken new.taken)
    → new.files ≡ old.files → old.misses ≤ new.misses → old.faults ≤ new.faults → old.taken ≤ new.taken
    → Staged (λ files. Is (file_in files name)) (λ files other. other ≡ name) old new (Err (file_reason name fault))
refused_load old new name fault lacks long missing failed too_large same misses faults taken = record {
  fits = refused_fits old.files name fault lacks long;
  caused = refused_cause old new name fault missing failed too_large;
  files = same;
  misses = misses;
  faults = faults;
  taken = taken;
}
