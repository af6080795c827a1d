-- A text that is printed piece by piece.
use Rattle.std.proofs.Common.{◌≡◌, ◌≤◌, ℕ, List, [], ◌++◌, Result, Ok, Err, IfErr, refl, sym, ap, subst, ◌∙◌, append_assoc, append-nil, arith}
use Rattle.std.specs.Io.KnownBytes.{Appends}
use Rattle.std.proofs.KnownBytes.{Appends-trans}
use Rattle.outer_io.specs.declared.fault.PrintFault.{PrintFault}
use Rattle.outer_io.specs.declared.fault.PrintFault.TheVariants as fault
use Rattle.outer_io.specs.Printing.{IsPrintCause, Printed}
use Rattle.outer_io.specs.SinkState.{SinkState}
use Rattle.outer_io.proofs.Prints.{appends_nothing, printed_stopped, printed_then}

-- this much of the whole text is left, and what is before it was printed
pub record HasLeft (whole left : List ℕ) (old now : SinkState) : Type 0 where
  pub part : List ℕ
  pub sent : Appends old.written now.written part
  pub split : whole ≡ part ++ left
  pub later : old.faults ≤ now.faults

pub left_whole : (whole : List ℕ) (s : SinkState) → HasLeft whole whole s s
left_whole whole s = record { part = []; sent = appends_nothing s.written; split = refl; later = omega arith }

module _ (whole left : List ℕ) (old mid now : SinkState) (so_far : HasLeft whole left old mid) where
  splits : (text rest : List ℕ) → left ≡ text ++ rest → whole ≡ (so_far.part ++ text) ++ rest
  splits text rest e = so_far.split ∙ ap (λ (l : List ℕ). so_far.part ++ l) e ∙ sym (append_assoc so_far.part text rest)

  -- the next piece was printed
  pub left_more : (text rest : List ℕ) → left ≡ text ++ rest → Appends mid.written now.written text → mid.faults ≤ now.faults → HasLeft whole rest old now
  left_more text rest e one later = record {
    part = so_far.part ++ text;
    sent = Appends-trans old.written mid.written now.written so_far.part text so_far.sent one;
    split = splits text rest e;
    later = let first = so_far.later in omega (arith, first, later);
  }

  -- the next piece was cut short
  pub left_stopped : (text rest : List ℕ) (e : PrintFault) → left ≡ text ++ rest → Printed mid now text (Err e) → Printed old now whole (Err e)
  left_stopped text rest e is one =
      let P : List ℕ → Type 0 = λ l. Printed old now l (Err e) in
      subst P (sym (splits text rest is))
      (printed_stopped old now (so_far.part ++ text) rest e
      (printed_then old mid now so_far.part text (Err e) so_far.sent so_far.later one))

  -- the last piece was printed
  pub left_last : (r : Result (Unit {0}) PrintFault) → Printed mid now left r → Printed old now whole r
  left_last r one =
      let P : List ℕ → Type 0 = λ l. Printed old now l r in
      subst P (sym so_far.split) (printed_then old mid now so_far.part left r so_far.sent so_far.later one)

-- nothing is left
pub left_none : (whole left : List ℕ) (old now : SinkState) → HasLeft whole left old now → left ≡ [] → Printed old now whole (Ok tt)
left_none whole left old now h e =
    let all : whole ≡ h.part = h.split ∙ ap (λ (l : List ℕ). h.part ++ l) e ∙ append-nil h.part in
    let P : List ℕ → Type 0 = λ l. Appends old.written now.written l in
    let sent = subst P (sym all) h.sent in
    record { whole = sent; prefix = (whole, sent, ([], sym (append-nil whole))); cause = tt; later = h.later }

-- memory ran out before the next piece
pub left_unprinted : (whole left : List ℕ) (old now : SinkState) → HasLeft whole left old now
    → Printed old now whole (Err fault.NoMemory)
left_unprinted whole left old now h = record { whole = tt; prefix = (h.part, h.sent, (left, h.split)); cause = tt; later = h.later }

-- ---- steps that print nothing

pub printed_nothing : (s : SinkState) (r : Result (Unit {0}) PrintFault) → IfErr r (λ e. e ≡ fault.NoMemory) → Printed s s [] r
printed_nothing s (Ok done) memory = record {
  whole = appends_nothing s.written;
  prefix = ([], appends_nothing s.written, ([], refl));
  cause = tt;
  later = omega arith;
}
printed_nothing s (Err e) memory = record {
  whole = tt;
  prefix = ([], appends_nothing s.written, ([], refl));
  cause = subst (IsPrintCause s.faults s.faults) (sym memory) tt;
  later = omega arith;
}
