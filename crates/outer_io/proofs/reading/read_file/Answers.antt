use Rattle.std.proofs.Common.{◌≡◌, ◌<◌, ◌≤◌, ◌⊎◌, inl, inr, refl, subst, arith, ℕ, List, length, Option, Some, None, IfSome, Vec, Global, vec_len, Result, IfOk, Ok, Err, ap, ◌∙◌, sym}
use Rattle.std.proofs.Math.Nat.{le_of_eq, le_trans}
use Rattle.std.proofs.lemmas.Result.{IfOk-weaker}
use Rattle.outer_io.specs.Files.{Files, bytes_of, HasFile, HasLongFile, IsNoShortFile, LacksFile}
use Rattle.outer_io.specs.Counts.{RoseAbove}
use Rattle.outer_io.specs.declared.reading.FileFault.{FileFault}
use Rattle.outer_io.specs.declared.reading.FileFault.TheVariants.{Missing, Failed, TooLarge, NoMemory}
use Rattle.std.specs.Result.{IsErrOf}
use Rattle.outer_io.proofs.Counting.{Rose-after}
use Rattle.outer_io.proofs.Faults.{missing_failed, missing_large, failed_missing, failed_large}
use Rattle.outer_io.proofs.Moving.{closed-told, opened-told, told-trans}
use Rattle.outer_io.proofs.reading.read_file.Goals as goal

-- no file of the name is a long one
lacks_long : {P : Type 0} (n : ℕ) (files : Option Files) (name : List ℕ) → LacksFile files name → HasLongFile n files name → P
lacks_long n None name lacks long = let e = long.2 in cc
lacks_long n (Some all) name lacks long = let e = long.2 in let same = long.3 in cc

-- a file that was read to its end
whole : (files : Option Files) (name : List ℕ) (rest : Option (List ℕ)) (bytes : List ℕ) → HasFile files name rest → IfSome rest (λ all. bytes ≡ all) → HasFile files name (Some bytes)
whole None name rest bytes has read = tt
whole (Some all) name None bytes has read = let h = has.1 in cc
whole (Some all) name (Some xs) bytes has read = (ap Some read ∙ has.0, refl)

-- more was read than a file may have
too_long : (n : ℕ) (files : Option Files) (name : List ℕ) (rest : Option (List ℕ)) → HasFile files name rest → IfSome rest (λ all. n < length all) → IsNoShortFile n files name
too_long n None name rest has long = tt
too_long n (Some all) name None has long = let h = has.1 in cc
too_long n (Some all) name (Some xs) has long = (xs, sym has.0, long)

-- a long file is not read, but if the shelf failed
refused : {P : Type 0} (n : ℕ) (files : Option Files) (name : List ℕ) (r : Result (Vec ℕ Global) FileFault) → IfOk r (λ bytes. HasFile files name (Some bytes.items))
    → IfOk r (λ bytes. vec_len bytes ≤ n) → (IsErrOf r Missing → ⊥) → (IsErrOf r Failed → P) → HasLongFile n files name → (P → ⊥)
    → IsErrOf r TooLarge ⊎ IsErrOf r NoMemory
refused n None name r has short held failed long none = let e = long.2 in cc
refused n (Some all) name (Ok bytes) has short held failed long none =
    let e : Some bytes.items ≡ Some long.1 = has.0 ∙ ap (λ f. bytes_of f name) (let h = long.2 in cc) ∙ long.3 in
    let same : bytes.items ≡ long.1 = cc in
    absurd (omega (arith, bytes.ok.0, short, ap length same, long.4))
refused n (Some all) name (Err Missing) has short held failed long none = absurd (held refl)
refused n (Some all) name (Err Failed) has short held failed long none = absurd (none (failed refl))
refused n (Some all) name (Err TooLarge) has short held failed long none = inl refl
refused n (Some all) name (Err NoMemory) has short held failed long none = inr refl

pub returns-in-Ok : goal.returns-in-Ok
returns-in-Ok g c =
    let open' = c.in-Ok.ensures in
    let read = c.read_to_end.ensures in
    let rest = g.F.Shelf.rest c.open.new.self in
    let r = c.read_to_end.result in
    let bytes = IfOk-weaker r _ _ (λ bytes. whole _ _ rest bytes.items open'.opened) read.bytes in
    record {
      files = read.files ∙ open'.files;
      told = told-trans _ rest _ (opened-told _ _ rest open'.opened) read.told;
      bytes = bytes;
      short = read.short;
      lacks = λ h. absurd (read.held h);
      missing = λ h. absurd (read.held h);
      failed = λ h. Rose-after _ _ _ open'.faults (read.failed h);
      too_large = λ h. subst (λ n. RoseAbove 67108864 n (g.F.Shelf.taken c.read_to_end.new.shelf)) open'.taken (read.too_large h);
      long = λ h. too_long _ _ _ rest open'.opened (read.long h);
      always = refused _ _ _ r bytes read.short read.held (λ h. Rose-after _ _ _ open'.faults (read.failed h));
      misses = le_trans open'.misses read.misses;
      faults = le_trans open'.faults read.faults;
      taken = subst (λ n. n ≤ g.F.Shelf.taken c.read_to_end.new.shelf) open'.taken read.taken;
    }

pub returns-in-Err-Missing : goal.returns-in-Err-Missing
returns-in-Err-Missing g c =
    let open' = c.open.ensures in
    let is = c.in-Err-Missing.is ∙ ap Err c.in-Err-Missing.field-0-is in
    record {
      files = open'.files;
      told = closed-told c.open.result _ _ _ is open'.closed;
      bytes = tt;
      short = tt;
      lacks = λ _. open'.lacks is;
      missing = λ _. open'.missing is;
      failed = missing_failed;
      too_large = missing_large;
      long = missing_large;
      always = λ long _. lacks_long _ _ _ (open'.lacks is) long;
      misses = open'.misses;
      faults = open'.faults;
      taken = le_of_eq (sym open'.taken);
    }

pub returns-in-Err-Failed : goal.returns-in-Err-Failed
returns-in-Err-Failed g c =
    let open' = c.open.ensures in
    let is = c.in-Err-Failed.is ∙ ap Err c.in-Err-Failed.field-0-is in
    record {
      files = open'.files;
      told = closed-told c.open.result _ _ _ is open'.closed;
      bytes = tt;
      short = tt;
      lacks = failed_missing;
      missing = failed_missing;
      failed = λ _. open'.failed is;
      too_large = failed_large;
      long = failed_large;
      always = λ _ none. absurd (none (open'.failed is));
      misses = open'.misses;
      faults = open'.faults;
      taken = le_of_eq (sym open'.taken);
    }
