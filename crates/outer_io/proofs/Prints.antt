-- Texts that are printed one after another.
use Rattle.std.proofs.Common.{◌≤◌, ℕ, List, [], ◌++◌, Option, Some, None, Result, Ok, Err, OnOk, IfErr, inl, inr, refl, sym, ap, ◌∙◌, append_assoc, append-nil, take, drop, take-append-drop, arith}
use Rattle.std.specs.Io.KnownBytes.{Appends}
use Rattle.std.proofs.KnownBytes.{Appends-trans}
use Rattle.outer_io.specs.Counts.{Rose}
use Rattle.outer_io.proofs.Counting.{Rose-after}
use Rattle.outer_io.specs.declared.fault.PrintFault.{PrintFault}
use Rattle.outer_io.specs.declared.fault.PrintFault.TheVariants as fault
use Rattle.outer_io.specs.Printing.{GotBeginning, IsBroken, IsPrintCause, Printed, PrintedSome}
use Rattle.outer_io.specs.SinkState.{SinkState}

pub appends_nothing : (x : Option (List ℕ)) → Appends x x []
appends_nothing None = tt
appends_nothing (Some xs) = sym (append-nil xs)

-- one call of `write_all`
pub written : (old new : SinkState) (bytes : List ℕ) → Appends old.written new.written bytes → old.faults ≤ new.faults → Printed old new bytes (Ok tt)
written old new bytes all later = record { whole = all; prefix = (bytes, all, ([], sym (append-nil bytes))); cause = tt; later = later }

pub unwritten : (old new : SinkState) (n : ℕ) (bytes : List ℕ) → Appends old.written new.written (take n bytes) → Rose old.faults new.faults → old.faults ≤ new.faults
    → Printed old new bytes (Err fault.Write)
unwritten old new n bytes part cause later = record {
  whole = tt;
  prefix = (take n bytes, part, (drop n bytes, sym (take-append-drop n bytes)));
  cause = cause;
  later = later;
}

-- memory ran out before anything was printed
pub unprinted : (s : SinkState) (text : List ℕ) → Printed s s text (Err fault.NoMemory)
unprinted s text = record { whole = tt; prefix = ([], appends_nothing s.written, (text, refl)); cause = tt; later = omega arith }

later_cause : (m n k : ℕ) (e : PrintFault) → m ≤ n → IsPrintCause n k e → IsPrintCause m k e
later_cause m n k fault.Write h cause = Rose-after m n k h cause
later_cause m n k fault.NoMemory h cause = tt

-- a text after one that was printed whole
pub printed_then : (a b c : SinkState) (xs ys : List ℕ) (r : Result (Unit {0}) PrintFault)
    → Appends a.written b.written xs → a.faults ≤ b.faults → Printed b c ys r → Printed a c (xs ++ ys) r
printed_then a b c xs ys r first earlier second = record {
  whole = by_whole r second.whole;
  prefix = let part = second.prefix in
      (xs ++ part.0, Appends-trans a.written b.written c.written xs part.0 first part.1, (part.2.0, ap (λ l. xs ++ l) part.2.1 ∙ sym (append_assoc xs part.0 part.2.0)));
  cause = by_cause r second.cause;
  later = let up = second.later in omega (arith, up, earlier);
}
  where
    by_whole : (r : Result (Unit {0}) PrintFault) → OnOk r (Appends b.written c.written ys) → OnOk r (Appends a.written c.written (xs ++ ys))
    by_whole (Ok x) rest = Appends-trans a.written b.written c.written xs ys first rest
    by_whole (Err e) rest = tt

    by_cause : (r : Result (Unit {0}) PrintFault) → IfErr r (IsPrintCause b.faults c.faults)
        → IfErr r (IsPrintCause a.faults c.faults)
    by_cause (Ok x) cause = tt
    by_cause (Err e) cause = later_cause a.faults b.faults c.faults e earlier cause

-- a text after one that was cut short is not printed
pub printed_stopped : (a b : SinkState) (xs ys : List ℕ) (e : PrintFault) → Printed a b xs (Err e) → Printed a b (xs ++ ys) (Err e)
printed_stopped a b xs ys e first = record {
  whole = tt;
  prefix = let part = first.prefix in (part.0, part.1, (part.2.0 ++ ys, ap (λ l. l ++ ys) part.2.1 ∙ append_assoc part.0 part.2.0 ys));
  cause = first.cause;
  later = first.later;
}

-- ---- a text that is known by what is said of it

module _ (IsText : List ℕ → Type 0) where
  broken : (old new : SinkState) (e : PrintFault) → GotBeginning IsText old new → IsBroken IsText old new e
  broken old new fault.NoMemory got = inr got
  broken old new fault.Write got = got

  -- a text that is such a text was printed
  pub printed_some : (old new : SinkState) (text : List ℕ) (r : Result (Unit {0}) PrintFault) → IsText text → Printed old new text r
      → PrintedSome IsText old new r
  printed_some old new text (Ok done) is printed =
      record { whole = (text, is, printed.whole); part = tt; cause = tt; later = printed.later }
  printed_some old new text (Err e) is printed = record {
    whole = tt;
    part = broken old new e (text, is, printed.prefix);
    cause = printed.cause;
    later = printed.later;
  }

  -- memory ran out before anything was printed
  pub none_printed : (s : SinkState) → PrintedSome IsText s s (Err fault.NoMemory)
  none_printed s = record { whole = tt; part = inl (appends_nothing s.written); cause = tt; later = omega arith }
