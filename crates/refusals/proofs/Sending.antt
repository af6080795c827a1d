-- A text that is sent in pieces.
use Rattle.std.proofs.Common.{◌≤◌, ℕ, List, [], ◌++◌, Result, Ok, Err, OnOk, OnErr, IfErr, sym, ap, ◌∙◌, append_assoc, append-nil, take, drop, take-append-drop, arith}
use Rattle.std.specs.Io.KnownBytes.{Appends}
use Rattle.std.proofs.KnownBytes.{Appends-trans}
use Rattle.outer_io.specs.Counts.{Rose}
use Rattle.outer_io.specs.declared.writing.Unwritten.{Unwritten}
use Rattle.outer_io.proofs.Counting.{Rose-after}
use Rattle.outer_io.specs.SinkText.{Sent}
use Rattle.outer_io.specs.SinkState.{SinkState}

-- what one call of `write_all` does
pub Sent-written : (old new : SinkState) (bytes : List ℕ) (r : Result (Unit {0}) Unwritten) → OnOk r (Appends old.written new.written bytes)
    → IfErr r (λ e. Appends old.written new.written (take e.taken bytes)) → OnErr r (Rose old.faults new.faults) → old.faults ≤ new.faults → Sent old new bytes r
Sent-written old new bytes (Ok x) all part cause later = record {
  whole = all;
  prefix = (bytes, all, ([], sym (append-nil bytes)));
  cause = tt;
  later = later;
}
Sent-written old new bytes (Err e) all part cause later = record {
  whole = tt;
  prefix = (take e.taken bytes, part, (drop e.taken bytes, sym (take-append-drop e.taken bytes)));
  cause = cause;
  later = later;
}

-- a text after one that was sent whole
pub Sent-then : {E : Type 0} (a b c : SinkState) (xs ys : List ℕ) (r : Result (Unit {0}) E)
    → Appends a.written b.written xs → a.faults ≤ b.faults → Sent b c ys r → Sent a c (xs ++ ys) r
Sent-then a b c xs ys r first earlier second = record {
  whole = elim r as (λ r. OnOk r (Appends b.written c.written ys) → OnOk r (Appends a.written c.written (xs ++ ys))) [
    | Ok x ↦ λ rest. Appends-trans a.written b.written c.written xs ys first rest
    | Err e ↦ λ _. tt
  ] second.whole;
  prefix = let part = second.prefix in
      (xs ++ part.0, Appends-trans a.written b.written c.written xs part.0 first part.1, (part.2.0, ap (λ l. xs ++ l) part.2.1 ∙ sym (append_assoc xs part.0 part.2.0)));
  cause = elim r as (λ r. OnErr r (Rose b.faults c.faults) → OnErr r (Rose a.faults c.faults)) [
    | Ok x ↦ λ _. tt
    | Err e ↦ λ rose. Rose-after a.faults b.faults c.faults earlier rose
  ] second.cause;
  later = let up = second.later in omega (arith, up, earlier);
}

-- a text after one that was cut short is not sent
pub Sent-stopped : {E : Type 0} (a b : SinkState) (xs ys : List ℕ) (e : E) → Sent a b xs (Err e) → Sent a b (xs ++ ys) (Err e)
Sent-stopped a b xs ys e first = record {
  whole = tt;
  prefix = let part = first.prefix in (part.0, part.1, (part.2.0 ++ ys, ap (λ l. l ++ ys) part.2.1 ∙ append_assoc part.0 part.2.0 ys));
  cause = first.cause;
  later = first.later;
}
