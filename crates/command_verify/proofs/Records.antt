-- Records that are printed one after another.
use Rattle.std.proofs.Common.{◌≡◌, ◌≤◌, ◌<◌, ◌+◌, ◌∷◌, ◌++◌, [], ℕ, List, length, take, drop, get_or, Ok, Err, sym, ap, subst, ◌∙◌, arith, append-nil, take-append-drop}
use Rattle.std.proofs.lemmas.Grind.{flat_map-append}
use Rattle.std.proofs.lemmas.List.{take_all, take_more}
use Rattle.std.specs.List.{flat_map}
use Rattle.std.specs.Io.KnownBytes.{Appends}
use Rattle.std.proofs.KnownBytes.{Appends-trans}
use Rattle.outer_io.specs.declared.fault.PrintFault.{PrintFault}
use Rattle.outer_io.specs.Printing.{Printed}
use Rattle.outer_io.specs.SinkState.{SinkState}
use Rattle.outer_io.proofs.Prints.{printed_stopped, printed_then, written}

module _ {A : Type 0} (f : A → List ℕ) (list : List A) where
  -- the records of the first i members were printed
  pub record HasPrinted (i : ℕ) (old now : SinkState) : Type 0 where
    pub sent : Appends old.written now.written (flat_map f (take i list))
    pub later : old.faults ≤ now.faults

  pub all_printed : (i : ℕ) (old now : SinkState) → length list ≤ i → HasPrinted i old now → Printed old now (flat_map f list) (Ok tt)
  all_printed i old now end h =
      written old now (flat_map f list) (subst (λ (l : List A). Appends old.written now.written (flat_map f l)) (take_all i list end) h.sent) h.later

  module _ (i : ℕ) (d : A) (inside : i < length list) where
    -- the next member
    abbrev next : A
    next = get_or list i d

    more_text : flat_map f (take (i + 1) list) ≡ flat_map f (take i list) ++ f next
    more_text = ap (flat_map f) (take_more list i d inside) ∙ flat_map-append f (take i list) (next ∷ [])
        ∙ ap (λ (l : List ℕ). flat_map f (take i list) ++ l) (append-nil (f next))

    whole_text : flat_map f list ≡ (flat_map f (take i list) ++ f next) ++ flat_map f (drop (i + 1) list)
    whole_text = sym (ap (flat_map f) (take-append-drop (i + 1) list)) ∙ flat_map-append f (take (i + 1) list) (drop (i + 1) list)
        ∙ ap (λ (l : List ℕ). l ++ flat_map f (drop (i + 1) list)) more_text

    -- the record of the next member was printed
    pub one_more : (old mid now : SinkState) → HasPrinted i old mid → Appends mid.written now.written (f next) → mid.faults ≤ now.faults
        → HasPrinted (i + 1) old now
    one_more old mid now h one later = record {
      sent = subst (λ (text : List ℕ). Appends old.written now.written text) (sym more_text)
          (Appends-trans old.written mid.written now.written (flat_map f (take i list)) (f next) h.sent one);
      later = let before = h.later in omega (arith, before, later);
    }

    -- it was cut short
    pub cut_short : (old mid now : SinkState) (e : PrintFault) → HasPrinted i old mid → Printed mid now (f next) (Err e)
        → Printed old now (flat_map f list) (Err e)
    cut_short old mid now e h one =
        subst (λ (text : List ℕ). Printed old now text (Err e)) (sym whole_text)
        (printed_stopped old now (flat_map f (take i list) ++ f next) (flat_map f (drop (i + 1) list)) e
        (printed_then old mid now (flat_map f (take i list)) (f next) (Err e) h.sent h.later one))
