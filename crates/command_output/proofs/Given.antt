-- Answers that an engine gave one by one, each printed.
use Rattle.std.proofs.Common.{◌≡◌, ◌≤◌, ◌<◌, ◌+◌, ◌∷◌, ◌++◌, [], ℕ, zero, suc, List, length, map, take, drop, get_or, IfSome, Option, Some, None, Ok, Err, sym, ap, subst, ◌∙◌, arith, append-nil, take-append-drop, inl, inr}
use Rattle.std.proofs.lemmas.Bool.{cases_lt}
use Rattle.std.proofs.lemmas.Grind.{flat_map-append}
use Rattle.std.proofs.lemmas.List.{drop_all, drop_more, take-take, take_all, take_more}
use Rattle.std.specs.List.{AllByRecursion, flat_map}
use Rattle.std.specs.Io.KnownBytes.{Appends}
use Rattle.std.proofs.KnownBytes.{Appends-trans}
use Rattle.anyk_model.specs.Output.{cut}
use Rattle.outer_io.specs.declared.fault.PrintFault.{PrintFault}
use Rattle.outer_io.specs.declared.fault.PrintFault.TheVariants as fault
use Rattle.bound_query.proofs.Calls.{HasCalled}
use Rattle.outer_io.specs.Printing.{Printed}
use Rattle.outer_io.specs.SinkState.{SinkState}
use Rattle.outer_io.proofs.Prints.{printed_stopped, printed_then}

-- the first i of a list were given and printed, the engine has the others left, and P holds for
-- what is left
pub record HasGiven {A B : Type 0} (P : B → Type 0) (f : A → List ℕ) (seen : B → A) (list : List A) (i : ℕ) (left : List B) (old now : SinkState) : Type 0 where
  pub rest : map seen left ≡ drop i list
  pub all : AllByRecursion P left
  pub within : i ≤ length list
  pub sent : Appends old.written now.written (flat_map f (take i list))
  pub later : old.faults ≤ now.faults

-- the answers so far, and the calls for them
pub record HasPrinted {A B : Type 0} (P : B → Type 0) (f : A → List ℕ) (seen : B → A) (list : List A) (i : ℕ) (left : List B) (old now : SinkState)
    (share : List ℕ → ℕ → ℕ) (size : List ℕ) (calls : ℕ) (size_now : List ℕ) (calls_now started spent : ℕ) : Type 0 where
  pub given : HasGiven P f seen list i left old now
  pub called : HasCalled share size calls i size_now calls_now started spent

module _ {A B : Type 0} (P : B → Type 0) (f : A → List ℕ) (seen : B → A) (list : List A) (i : ℕ) where
  -- an answer was given, so a member was left
  pub one_left : (left : List B) (b : B) (rest : List B) → map seen left ≡ drop i list → left ≡ b ∷ rest → i < length list
  one_left left b rest h e = elim (cases_lt i (length list)) [ inl inside ↦ inside | inr end ↦ none (drop_all i list end) ]
    where
      none : drop i list ≡ [] → i < length list
      none empty = let impossible : seen b ∷ map seen rest ≡ [] = sym (ap (map seen) e) ∙ h ∙ empty in cc

  -- none was given, so none was left
  pub none_left : (left : List B) → map seen left ≡ drop i list → left ≡ [] → length list ≤ i
  none_left left h e = elim (cases_lt i (length list)) [ inl inside ↦ some inside | inr end ↦ end ]
    where
      some : i < length list → length list ≤ i
      some inside = by list i inside (sym h ∙ ap (map seen) e)
        where
          by : (xs : List A) (i : ℕ) → i < length xs → drop i xs ≡ [] → length xs ≤ i
          by [] i inside empty = omega arith
          by (x ∷ xs) zero inside empty = cc
          by (x ∷ xs) (suc i) inside empty = let h = by xs i (omega arith) empty in omega (arith, h)

  -- what holds for all that is left holds for the answer that is given
  pub first_left : (left : List B) (b : B) (rest : List B) → AllByRecursion P left → left ≡ b ∷ rest → P b
  first_left left b rest all e = let both : AllByRecursion P (b ∷ rest) = subst (AllByRecursion P) e all in both.0

  module _ (x : A) (b : B) (left rest : List B) (h : map seen left ≡ drop i list) (e : left ≡ b ∷ rest) where
    abbrev member : A
    member = get_or list i x

    split : seen b ∷ map seen rest ≡ member ∷ drop (i + 1) list
    split = sym (ap (map seen) e) ∙ h ∙ drop_more list i x (one_left left b rest h e)

    given_is : seen b ≡ member
    given_is = let s : seen b ∷ map seen rest ≡ member ∷ drop (i + 1) list = split in cc

    rest_is : map seen rest ≡ drop (i + 1) list
    rest_is = let s : seen b ∷ map seen rest ≡ member ∷ drop (i + 1) list = split in cc

    more_text : flat_map f (take (i + 1) list) ≡ flat_map f (take i list) ++ f member
    more_text = ap (flat_map f) (take_more list i x (one_left left b rest h e)) ∙ flat_map-append f (take i list) (member ∷ [])
        ∙ ap (λ (l : List ℕ). flat_map f (take i list) ++ l) (append-nil (f member))

    pub given_more : (old mid now : SinkState) → HasGiven P f seen list i left old mid → Appends mid.written now.written (f (seen b)) → mid.faults ≤ now.faults
        → HasGiven P f seen list (i + 1) rest old now
    given_more old mid now g one later = record {
      rest = rest_is;
      all = let both : AllByRecursion P (b ∷ rest) = subst (AllByRecursion P) e g.all in both.1;
      within = let inside = one_left left b rest h e in omega (arith, inside);
      sent = subst (λ (text : List ℕ). Appends old.written now.written text) (sym more_text)
          (Appends-trans old.written mid.written now.written (flat_map f (take i list)) (f member) g.sent (subst (λ (a : A). Appends mid.written now.written (f a)) given_is one));
      later = let first = g.later in omega (arith, first, later);
    }

    -- the text of the members within a limit past i begins with those up to i and the next one
    part_of : (limit : Option ℕ) → IfSome limit (λ n. i < n) → (more : List ℕ) × (flat_map f (cut limit list) ≡ (flat_map f (take i list) ++ f member) ++ more)
    part_of None low = (
      flat_map f (drop (i + 1) list),
      sym (ap (flat_map f) (take-append-drop (i + 1) list)) ∙ flat_map-append f (take (i + 1) list) (drop (i + 1) list)
          ∙ ap (λ (l : List ℕ). l ++ flat_map f (drop (i + 1) list)) more_text,
    )
    part_of (Some n) low =
        let chosen = take n list in (
          flat_map f (drop (i + 1) chosen),
          sym (ap (flat_map f) (take-append-drop (i + 1) chosen)) ∙ flat_map-append f (take (i + 1) chosen) (drop (i + 1) chosen)
              ∙ ap (λ (l : List ℕ). l ++ flat_map f (drop (i + 1) chosen)) (ap (flat_map f) (take-take (i + 1) n list (omega arith)) ∙ more_text),
        )

    -- the record of the next member was cut short
    pub cut_short : (limit : Option ℕ) (old mid now : SinkState) (e : PrintFault) → IfSome limit (λ n. i < n)
        → HasGiven P f seen list i left old mid → Printed mid now (f (seen b)) (Err e) → Printed old now (flat_map f (cut limit list)) (Err e)
    cut_short limit old mid now e low g one =
        let parts = part_of limit low in
        subst (λ (text : List ℕ). Printed old now text (Err e)) (sym parts.1)
        (printed_stopped old now (flat_map f (take i list) ++ f member) parts.0 e
        (printed_then old mid now (flat_map f (take i list)) (f member) (Err e) g.sent g.later
        (subst (λ (a : A). Printed mid now (f a) (Err e)) given_is one)))

  -- the text of the members up to i is at the front of that of the members within a limit of at
  -- least i
  front_of : (limit : Option ℕ) → IfSome limit (λ n. i ≤ n) → (more : List ℕ) × (flat_map f (cut limit list) ≡ flat_map f (take i list) ++ more)
  front_of None low =
      (flat_map f (drop i list), sym (ap (flat_map f) (take-append-drop i list)) ∙ flat_map-append f (take i list) (drop i list))
  front_of (Some n) low =
      let chosen = take n list in (
        flat_map f (drop i chosen),
        sym (ap (flat_map f) (take-append-drop i chosen)) ∙ flat_map-append f (take i chosen) (drop i chosen)
            ∙ ap (λ (l : List A). flat_map f l ++ flat_map f (drop i chosen)) (take-take i n list low),
      )

  -- memory ran out before the next record
  pub stopped_short : (limit : Option ℕ) (left : List B) (old now : SinkState) → IfSome limit (λ n. i ≤ n)
      → HasGiven P f seen list i left old now → Printed old now (flat_map f (cut limit list)) (Err fault.NoMemory)
  stopped_short limit left old now low g = record {
    whole = tt;
    prefix = (flat_map f (take i list), g.sent, front_of limit low);
    cause = tt;
    later = g.later;
  }

  all_text : (limit : Option ℕ) → IfSome limit (λ n. i ≤ n) → length list ≤ i → take i list ≡ cut limit list
  all_text None low end = take_all i list end
  all_text (Some n) low end = take_all i list end ∙ sym (take_all n list (omega arith))

  -- the engine has none left
  pub printed_all : (limit : Option ℕ) (left : List B) (old now : SinkState) → IfSome limit (λ n. i ≤ n) → left ≡ []
      → HasGiven P f seen list i left old now → Printed old now (flat_map f (cut limit list)) (Ok tt)
  printed_all limit left old now low empty g =
      let same = ap (flat_map f) (all_text limit low (none_left left g.rest empty)) in
      let all = subst (λ (text : List ℕ). Appends old.written now.written text) same g.sent in
      record { whole = all; prefix = (flat_map f (cut limit list), all, ([], sym (append-nil (flat_map f (cut limit list))))); cause = tt; later = g.later }

  -- the limit is reached
  pub printed_limit : (limit : Option ℕ) (left : List B) (old now : SinkState) → limit ≡ Some i
      → HasGiven P f seen list i left old now → Printed old now (flat_map f (cut limit list)) (Ok tt)
  printed_limit limit left old now reached g =
      let all = subst (λ (o : Option ℕ). Appends old.written now.written (flat_map f (cut o list))) (sym reached) g.sent in
      record { whole = all; prefix = (flat_map f (cut limit list), all, ([], sym (append-nil (flat_map f (cut limit list))))); cause = tt; later = g.later }
