-- How far a cursor has been driven.
use Rattle.std.proofs.Common.{◌≡◌, ℕ, zero, suc, ◌+◌, ◌-◌, ◌^◌, ◌<◌, ◌≤◌, false, min, Option, Some, None, Err, unwrap_or, List, [], ◌∷◌, length, get_or, refl, sym, ap, ◌∙◌, add-zero, arith}
use Rattle.std.proofs.Math.ListN.{set}
use Rattle.std.proofs.lemmas.List.{get_or-set_same, set-set, set-get_or}
use Rattle.cursor_set.specs.declared.cursor_id.CursorFault.{CursorFault}
use Rattle.cursor_set.specs.declared.cursor_id.CursorFault.TheVariants.{Unknown, TooMany, NoMemory}
use Rattle.cursor_set.specs.CursorSet.{CursorSet, Keeps, place_of}
use Rattle.tdp_core.specs.AnswerView.{counted}
use Rattle.cursor_set.specs.Faults.{RefusesNext, refused_after}
use Rattle.std.proofs.lemmas.Option.{same_Some}

-- the place of an open cursor
abbrev pub start_of : CursorSet → ℕ → ℕ
start_of s number = unwrap_or (place_of s number) 0

-- the cursor has moved on by `given`, and nothing else has changed that a cursor sees
pub record IsDriven (old new : CursorSet) (number given : ℕ) : Type 0 where
  pub open' : place_of old number ≡ Some (start_of old number)
  pub places : new.places ≡ set old.places number (Some (start_of old number + given))
  pub kept : Keeps old new

pub start_is : (s : CursorSet) (number place : ℕ) → place_of s number ≡ Some place → start_of s number ≡ place
start_is s number place e = ap (λ o. unwrap_or o 0) e

pub in_range : (places : List (Option ℕ)) (number place : ℕ) → get_or places number None ≡ Some place → number < length places
in_range [] number place e = let never : ⊥ = cc in absurd never
in_range (p ∷ places) zero place e = omega arith
in_range (p ∷ places) (suc number) place e = let below = in_range places number place e in omega arith

Keeps-twice : (old now new : CursorSet) → Keeps old now → Keeps now new → Keeps old new
Keeps-twice old now new h k =
    record { answers = k.answers ∙ h.answers; known = omega arith; ended = λ e. k.ended (h.ended e); size = k.size ∙ h.size }

-- at the start
pub IsDriven-none : (s : CursorSet) (number place : ℕ) → place_of s number ≡ Some place → IsDriven s s number 0
IsDriven-none s number place e =
    let is : place_of s number ≡ Some (start_of s number) = e ∙ ap Some (sym (start_is s number place e)) in
    record {
      open' = is;
      places = sym (set-get_or s.places number None) ∙ ap (λ o. set s.places number o) (is ∙ ap Some (sym (add-zero (start_of s number))));
      kept = record { answers = refl; known = omega arith; ended = λ h. h; size = refl };
    }

-- where the cursor stands now
pub IsDriven-place : (old new : CursorSet) (number given : ℕ) → IsDriven old new number given → place_of new number ≡ Some (start_of old number + given)
IsDriven-place old new number given d =
    ap (λ l. get_or l number None) d.places ∙ get_or-set_same old.places number (Some (start_of old number + given)) None (in_range old.places number (start_of old number) d.open')

-- after one more answer
pub IsDriven-more : (old now new : CursorSet) (number given place : ℕ) → IsDriven old now number given → place_of now number ≡ Some place → new.places ≡ set now.places number (Some (place + 1)) → Keeps now new → IsDriven old new number (given + 1)
IsDriven-more old now new number given place d at moved k =
    let here : start_of old number + given ≡ place = same_Some _ _ (sym (IsDriven-place old now number given d) ∙ at) in
    record {
      open' = d.open';
      places = moved ∙ ap (λ l. set l number (Some (place + 1))) d.places ∙ set-set old.places number (Some (start_of old number + given)) (Some (place + 1)) ∙ ap (λ n. set old.places number (Some n)) (omega (arith, here));
      kept = Keeps-twice old now new d.kept k;
    }

-- after a call that moved nothing
pub IsDriven-same : (old now new : CursorSet) (number given : ℕ) → IsDriven old now number given → new.places ≡ now.places → Keeps now new → IsDriven old new number given
IsDriven-same old now new number given d same k =
    record { open' = d.open'; places = same ∙ d.places; kept = Keeps-twice old now new d.kept k }

-- a refused call stood behind all that was found, and the end was not seen
pub refused_at : (s : CursorSet) (number place : ℕ) (e : CursorFault) → RefusesNext s number e → place_of s number ≡ Some place → (s.known ≤ place) × (s.ended ≡ false)
refused_at s number place (Unknown id) h at = let never : ⊥ = cc in absurd never
refused_at s number place TooMany h at = absurd h
refused_at s number place NoMemory h at = rw at at h

-- the count of refused calls, at the start
pub counted_none : (n : ℕ) → n < 2 ^ 64 → n ≡ min (n + 0) (2 ^ 64 - 1)
counted_none n h = omega arith

-- a refused call is counted
pub refused_counted : (A : Type 0) (s : CursorSet) (number place n : ℕ) (e : CursorFault) → RefusesNext s number e → place_of s number ≡ Some place → refused_after {A = A} (Err e) n ≡ counted n
refused_counted A s number place n (Unknown id) h at = let never : ⊥ = cc in absurd never
refused_counted A s number place n TooMany h at = absurd h
refused_counted A s number place n NoMemory h at = refl

-- where the cursor stands, by the place at which it was
pub IsDriven-moved : (old new : CursorSet) (number given place : ℕ) → IsDriven old new number given → place_of old number ≡ Some place → new.places ≡ set old.places number (Some (place + given))
IsDriven-moved old new number given place d at =
    d.places ∙ ap (λ n. set old.places number (Some (n + given))) (start_is old number place at)

-- a cursor that stands at the end has passed all that was left
pub IsDriven-end : (old now : CursorSet) (number given place : ℕ) → IsDriven old now number given → place_of old number ≡ Some place → place_of now number ≡ Some (length now.answers) → place + given ≡ length old.answers
IsDriven-end old now number given place d at end =
    let here : start_of old number + given ≡ length now.answers = same_Some _ _ (sym (IsDriven-place old now number given d) ∙ end) in
    ap (λ n. n + given) (sym (start_is old number place at)) ∙ here ∙ ap length d.kept.answers
