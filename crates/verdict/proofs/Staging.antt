-- Stages one after another: what they state together.
use Rattle.std.proofs.Common.{◌≡◌, ◌≤◌, ℕ, List, Option, Some, None, Result, Ok, Err, inl, inr, refl, subst, arith, ◌∙◌}
use Rattle.outer_io.specs.Counts.{RoseAbove}
use Rattle.outer_io.specs.Files.{Files}
use Rattle.outer_io.proofs.Counting.{Rose-after}
use Rattle.refusals.specs.Reason as reason
use Rattle.refusals.specs.Reason.{Reason}
use Rattle.verdict.specs.StageResults.{Shelved, IsStageOf, Causes, Pure, Staged, NoTurn, EitherTurn, first_turn, second_turn}
use Rattle.verdict.specs.Loading.{most_bytes}
use Rattle.verdict.specs.Stages.{Then, refused, followed}

-- a refusal of a stage is one of a wider stage
pub wider_fits : {A B : Type 0} (G : Files → Result A Reason → Type 0) (T : Files → List ℕ → Type 0) (H : Files → Result B Reason → Type 0) (U : Files → List ℕ → Type 0)
    (told : Option Files) (e : Reason)
    → ((files : Files) → told ≡ Some files → G files (Err e) → H files (Err e))
    → ((files : Files) (name : List ℕ) → told ≡ Some files → T files name → U files name)
    → IsStageOf G T told (Err e) → IsStageOf H U told (Err e)
wider_fits G T H U None reason.NoMemory gives turns h = tt
wider_fits G T H U None (reason.ReadFault name) gives turns h = tt
wider_fits G T H U None reason.WriteFault gives turns h = h
wider_fits G T H U None reason.Usage gives turns h = h
wider_fits G T H U None e gives turns h = tt
wider_fits G T H U (Some files) reason.NoMemory gives turns h = tt
wider_fits G T H U (Some files) (reason.ReadFault name) gives turns h = turns files name refl h
wider_fits G T H U (Some files) reason.WriteFault gives turns h = h
wider_fits G T H U (Some files) reason.Usage gives turns h = h
wider_fits G T H U (Some files) e gives turns h = gives files refl h

-- what a stage found fits if the files are known
found_fits : {A : Type 0} (G : Files → Result A Reason → Type 0) (T : Files → List ℕ → Type 0) (told : Option Files) (a : A)
    → IsStageOf G T told (Ok a) → (files : Files) → told ≡ Some files → G files (Ok a)
found_fits G T told a h files e = let P : Option Files → Type 0 = λ t. IsStageOf G T t (Ok a) in subst P e h

RoseAbove-after : (n a b c : ℕ) → a ≤ b → RoseAbove n b c → RoseAbove n a c
RoseAbove-after n a b c h (inl more) = inl (omega (arith, h, more))
RoseAbove-after n a b c h (inr last) = inr last

-- a cause of a later stage, whose counts began no lower
later_cause : {A : Type 0} (old mid new : Shelved) (r : Result A Reason) → old.misses ≤ mid.misses → old.faults ≤ mid.faults → old.taken ≤ mid.taken
    → Causes mid new r → Causes old new r
later_cause old mid new (Ok a) m f t h = tt
later_cause old mid new (Err (reason.NoFile name)) m f t h = Rose-after _ _ _ m h
later_cause old mid new (Err (reason.ReadFault name)) m f t h = Rose-after _ _ _ f h
later_cause old mid new (Err (reason.TooLarge name)) m f t h = RoseAbove-after most_bytes _ _ _ t h
later_cause old mid new (Err e) m f t h = tt

same_cause : (A B : Type 0) (old new : Shelved) (e : Reason) → Causes {A = A} old new (Err e) → Causes {A = B} old new (Err e)
same_cause A B old new (reason.NoFile name) h = h
same_cause A B old new (reason.ReadFault name) h = h
same_cause A B old new (reason.TooLarge name) h = h
same_cause A B old new e h = tt

-- a stage that refuses, as part of a wider stage
pub refusal_within : {A B : Type 0} (G : Files → Result A Reason → Type 0) (T : Files → List ℕ → Type 0) (K : Files → Result B Reason → Type 0) (V : Files → List ℕ → Type 0)
    (old new : Shelved) (e : Reason) → ((files : Files) → G files (Err e) → K files (Err e)) → ((files : Files) (name : List ℕ) → T files name → V files name)
    → Staged G T old new (Err e) → Staged K V old new (Err e)
refusal_within {A} {B} G T K V old new e gives turns s = record {
  fits = wider_fits G T K V old.files e (λ files is h. gives files h) (λ files name is h. turns files name h) s.fits;
  caused = same_cause A B old new e s.caused;
  files = s.files;
  misses = s.misses;
  faults = s.faults;
  taken = s.taken;
}

-- a stage that finds a, and the stage that follows, as parts of a wider stage
pub found_within : {A B : Type 0} (G : Files → Result A Reason → Type 0) (T : Files → List ℕ → Type 0) (H : Files → Result B Reason → Type 0) (U : Files → List ℕ → Type 0)
    (K : Files → Result B Reason → Type 0) (V : Files → List ℕ → Type 0) (old mid new : Shelved) (a : A) (r : Result B Reason)
    → ((files : Files) → G files (Ok a) → H files r → K files r) → ((files : Files) (name : List ℕ) → G files (Ok a) → U files name → V files name)
    → Staged G T old mid (Ok a) → Staged H U mid new r → Staged K V old new r
found_within {A} {B} G T H U K V old mid new a r gives turns s t =
    let P : Option Files → Type 0 = λ told. IsStageOf H U told r in
    record {
      fits = by_result old.files r s.fits (subst P s.files t.fits) gives;
      caused = later_cause old mid new r s.misses s.faults s.taken t.caused;
      files = t.files ∙ s.files;
      misses = let first = s.misses in let second = t.misses in omega (arith, first, second);
      faults = let first = s.faults in let second = t.faults in omega (arith, first, second);
      taken = let first = s.taken in let second = t.taken in omega (arith, first, second);
    }
  where
    by_result : (told : Option Files) (r : Result B Reason) → IsStageOf G T told (Ok a) → IsStageOf H U told r
        → ((files : Files) → G files (Ok a) → H files r → K files r) → IsStageOf K V told r
    by_result None (Ok b) g h more = tt
    by_result (Some files) (Ok b) g h more = more files g h
    by_result told (Err e) g h more =
        wider_fits H U K V told e (λ files is k. more files (found_fits G T told a g files is) k)
        (λ files name is k. turns files name (found_fits G T told a g files is) k) h

-- a stage that refuses, and would be followed by another
pub refusal_then : {A B : Type 0} (G : Files → Result A Reason → Type 0) (T : Files → List ℕ → Type 0) (H : A → Files → Result B Reason → Type 0) (U : A → Files → List ℕ → Type 0)
    (old new : Shelved) (e : Reason) → Staged G T old new (Err e) → Staged (λ files. Then (G files) (λ a. H a files)) (EitherTurn G T U) old new (Err e)
refusal_then G T H U old new e =
    refusal_within G T (λ files. Then (G files) (λ a. H a files)) (EitherTurn G T U) old new e (λ files h. refused h) (λ files name h. first_turn h)

-- a stage that finds a, and the stage that follows
pub found_then : {A B : Type 0} (G : Files → Result A Reason → Type 0) (T : Files → List ℕ → Type 0) (H : A → Files → Result B Reason → Type 0) (U : A → Files → List ℕ → Type 0)
    (old mid new : Shelved) (a : A) (r : Result B Reason) → Staged G T old mid (Ok a) → Staged (H a) (U a) mid new r
    → Staged (λ files. Then (G files) (λ a. H a files)) (EitherTurn G T U) old new r
found_then G T H U old mid new a r =
    found_within G T (H a) (U a) (λ files. Then (G files) (λ a. H a files)) (EitherTurn G T U) old mid new a r
    (λ files g h. followed g h) (λ files name g h. second_turn g h)

-- ---- stages that read no file

pure_fits : {A : Type 0} (G : Result A Reason → Type 0) (told : Option Files) (r : Result A Reason) → Pure G r → IsStageOf (λ files. G) NoTurn told r
pure_fits G None (Ok a) h = tt
pure_fits G (Some files) (Ok a) h = h
pure_fits G told (Err reason.NoMemory) h = tt
pure_fits G told (Err (reason.NoFile name)) h = absurd h
pure_fits G told (Err (reason.ReadFault name)) h = absurd h
pure_fits G told (Err (reason.TooLarge name)) h = absurd h
pure_fits G told (Err reason.WriteFault) h = h
pure_fits G told (Err reason.Usage) h = h
pure_fits G None (Err e) h = tt
pure_fits G (Some files) (Err e) h = h

pure_causes : {A : Type 0} (G : Result A Reason → Type 0) (s : Shelved) (r : Result A Reason) → Pure G r → Causes s s r
pure_causes G s (Ok a) h = tt
pure_causes G s (Err (reason.NoFile name)) h = absurd h
pure_causes G s (Err (reason.ReadFault name)) h = absurd h
pure_causes G s (Err (reason.TooLarge name)) h = absurd h
pure_causes G s (Err e) h = tt

pub pure_staged : {A : Type 0} (G : Result A Reason → Type 0) (s : Shelved) (r : Result A Reason) → Pure G r → Staged (λ files. G) NoTurn s s r
pure_staged G s r h = record {
  fits = pure_fits G s.files r h;
  caused = pure_causes G s r h;
  files = refl;
  misses = omega arith;
  faults = omega arith;
  taken = omega arith;
}

-- what a stage gives, if another gives at least that
pub wider_staged : {A : Type 0} (G K : Files → Result A Reason → Type 0) (T V : Files → List ℕ → Type 0) (old new : Shelved) (r : Result A Reason)
    → ((files : Files) → G files r → K files r) → ((files : Files) (name : List ℕ) → T files name → V files name) → Staged G T old new r → Staged K V old new r
wider_staged {A} G K T V old new r gives turns s = record {
  fits = by_result old.files r s.fits gives;
  caused = s.caused;
  files = s.files;
  misses = s.misses;
  faults = s.faults;
  taken = s.taken;
}
  where
    by_result : (told : Option Files) (r : Result A Reason) → IsStageOf G T told r → ((files : Files) → G files r → K files r) → IsStageOf K V told r
    by_result None (Ok a) h more = tt
    by_result (Some files) (Ok a) h more = more files h
    by_result told (Err e) h more = wider_fits G T K V told e (λ files is k. more files k) (λ files name is k. turns files name k) h

-- ---- two stages that read no file, one after another

pub pure_refused : {A B : Type 0} (G : Result A Reason → Type 0) (H : A → Result B Reason → Type 0) (e : Reason) → Pure G (Err e) → Pure (Then G H) (Err e)
pure_refused G H reason.NoMemory h = tt
pure_refused G H (reason.NoFile name) h = h
pure_refused G H (reason.ReadFault name) h = h
pure_refused G H (reason.TooLarge name) h = h
pure_refused G H reason.WriteFault h = h
pure_refused G H reason.Usage h = h
pure_refused G H e h = refused h

pub pure_found : {A B : Type 0} (G : Result A Reason → Type 0) (H : A → Result B Reason → Type 0) (a : A) (r : Result B Reason) → G (Ok a) → Pure (H a) r → Pure (Then G H) r
pure_found G H a (Ok b) g h = followed g h
pure_found G H a (Err reason.NoMemory) g h = tt
pure_found G H a (Err (reason.NoFile name)) g h = h
pure_found G H a (Err (reason.ReadFault name)) g h = h
pure_found G H a (Err (reason.TooLarge name)) g h = h
pure_found G H a (Err reason.WriteFault) g h = h
pure_found G H a (Err reason.Usage) g h = h
pure_found G H a (Err e) g h = followed g h
