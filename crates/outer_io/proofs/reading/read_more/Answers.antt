use Rattle.std.proofs.Common.{◌≡◌, ◌≤◌, ◌+◌, ℕ, List, vec_len, ◌++◌, refl, ap, ◌∙◌, sym, subst, take, drop, length}
use Rattle.std.proofs.Math.Nat.{le_refl}
use Rattle.std.proofs.Math.Seq.{take-append_seam}
use Rattle.std.proofs.lemmas.Result.{IfOk-from_err}
use Rattle.std.specs.Io.KnownBytes.{Consumes}
use Rattle.outer_io.specs.declared.reading.FileFault.TheVariants.{Missing, Failed, TooLarge, NoMemory}
use Rattle.outer_io.proofs.Faults.{only, not_err}
use Rattle.outer_io.proofs.Moving.{same-told}
use Rattle.outer_io.proofs.reading.read_more.Goals as goal

-- the elements of a vector whose slice was written to
written : (new old : List ℕ) (len : ℕ) → length new ≡ len → take len (new ++ drop (length new) old) ≡ new
written new old len e = ap (λ n. take n (new ++ drop (length new) old)) (sym e) ∙ take-append_seam new _

pub returns-in_err-make_room : goal.returns-in_err-make_room
returns-in_err-make_room g c =
    let r = c.from_residual.result in
    let e = c.from_residual.ensures in
    record {
      files = refl;
      told = same-told _;
      front = c.make_room.ensures.front;
      fits = IfOk-from_err r (λ n. c.args.filled + n ≤ vec_len c.make_room.new.bytes) e.0;
      read = IfOk-from_err r (λ n. Consumes (g.F.Shelf.rest c.args.shelf.now) (g.F.Shelf.rest c.args.shelf.now) (take n (drop c.args.filled c.make_room.new.bytes.items))) e.0;
      end = IfOk-from_err r _ e.0;
      held = λ h. let k : Missing ≡ NoMemory = only r Missing NoMemory e.1 h in cc;
      short = λ h. let k : TooLarge ≡ NoMemory = only r TooLarge NoMemory e.1 h in cc;
      failed = λ h. let k : Failed ≡ NoMemory = only r Failed NoMemory e.1 h in cc;
      misses = le_refl _;
      faults = le_refl _;
      taken = le_refl _;
      taken_by = IfOk-from_err r _ e.0;
      taken_fits = IfOk-from_err r _ e.0;
    }

pub returns-in_err-read_at : goal.returns-in_err-read_at
returns-in_err-read_at g c =
    let r = c.from_residual-in_err-read_at.result in
    let e = c.from_residual-in_err-read_at.ensures in
    let slice = c.as_mut_slice.ensures in
    let read = c.in_err-read_at.ensures in
    let items = written c.read_at.new.bytes c.make_room.new.bytes.items c.make_room.new.bytes.len (c.read_at.auto.bytes ∙ slice.len) in
    record {
      files = read.files;
      told = read.told;
      front = ap (take c.args.filled) items ∙ read.front ∙ ap (take c.args.filled) slice.value ∙ c.in_ok-make_room.ensures.front;
      fits = IfOk-from_err r (λ n. c.args.filled + n ≤ c.make_room.new.bytes.len) e.0;
      read = IfOk-from_err r (λ n. Consumes (g.F.Shelf.rest c.args.shelf.now) (g.F.Shelf.rest c.read_at.new.shelf) (take n (drop c.args.filled (take c.make_room.new.bytes.len (c.read_at.new.bytes ++ drop (length c.read_at.new.bytes) c.make_room.new.bytes.items))))) e.0;
      end = IfOk-from_err r _ e.0;
      held = λ h. let k : Missing ≡ Failed = only r Missing Failed e.1 h in cc;
      short = λ h. let k : TooLarge ≡ Failed = only r TooLarge Failed e.1 h in cc;
      failed = λ _. read.failed;
      misses = read.misses;
      faults = read.faults;
      taken = read.taken;
      taken_by = IfOk-from_err r _ e.0;
      taken_fits = IfOk-from_err r _ e.0;
    }

pub returns : goal.returns
returns g c =
    let slice = c.as_mut_slice.ensures in
    let read = c.in_ok-read_at.ensures in
    let n = c.in_ok-read_at.field-0 in
    let items = written c.read_at.new.bytes c.make_room.new.bytes.items c.make_room.new.bytes.len (c.read_at.auto.bytes ∙ slice.len) in
    record {
      files = read.files;
      told = read.told;
      front = ap (take c.args.filled) items ∙ read.front ∙ ap (take c.args.filled) slice.value ∙ c.in_ok-make_room.ensures.front;
      fits = subst (λ m. c.args.filled + n ≤ m) (c.read_at.auto.bytes ∙ slice.len) read.fits;
      read = subst (λ l. Consumes (g.F.Shelf.rest c.args.shelf.now) (g.F.Shelf.rest c.read_at.new.shelf) (take n (drop c.args.filled l))) (sym items) read.read;
      end = read.end;
      held = not_err n Missing;
      short = not_err n TooLarge;
      failed = not_err n Failed;
      misses = read.misses;
      faults = read.faults;
      taken = read.taken;
      taken_by = read.taken_by;
      taken_fits = read.taken_fits;
    }
