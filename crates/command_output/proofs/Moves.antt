-- Cursors that are opened, moved and closed.
use Rattle.std.proofs.Common.{◌≡◌, ◌≢◌, ◌<◌, ℕ, List, Bool, true, false, Option, Some, None, IsSome, map, option_map, is_none, length, set, get_or, zero, suc, [], ◌∷◌, refl, sym, ap, subst, ◌∙◌, inl, inr, arith}
use Rattle.std.specs.Prelude.{position}
use Rattle.std.specs.Str.{bytes_eq}
use Rattle.std.proofs.lemmas.Bool.{false≢true, cases_eq, cond-false, cond-true}
use Rattle.std.proofs.lemmas.List.{get_or-map, get_or-set_other, get_or-set_same, length-map, map-set}
use Rattle.std.proofs.lemmas.List.Quantifiers.{position-Some}
use Rattle.cursor_set.specs.CursorSet.{CursorSet}
use Rattle.output_model.specs.Session.{Places, with_cursor}
use Rattle.command_output.specs.declared.open_cursors.OpenCursor.{OpenCursor}
use Rattle.command_output.specs.OpenCursors.{AreOthers, HasCursor, IsAt, HoldsCursors, is_named}
use Rattle.command_output.proofs.Names.{name_differs, name_same, same_name}

abbrev pub Cursor : Type 0
Cursor = Option OpenCursor

abbrev pub place_of_cursor : Cursor → Option ℕ
place_of_cursor cursor = option_map (λ (c : OpenCursor). c.place) cursor

abbrev pub Is : Cursor → Cursor → Type 0
Is a b = a ≡ b

pub some_same : {a b : OpenCursor} → Is (Some a) (Some b) → a ≡ b
some_same e = cc

pub none_some : {A : Type 0} {c : OpenCursor} → Is None (Some c) → A
none_some e = cc

pub no_place : {A : Type 0} {p : ℕ} → ◌≡◌ {A = Option ℕ} None (Some p) → A
no_place e = cc

-- a set of which only the places are others
pub only_places : (old new : CursorSet) (places : List (Option ℕ)) → new ≡ record old { places = places } → new ≡ record old { places = new.places }
only_places old new places e = e ∙ ap (λ (p : List (Option ℕ)). record old { places = p }) (sym (ap (λ (s : CursorSet). s.places) e))

-- one cursor replaces what was there, with the one name that it has before or after
module _ (old new : CursorSet) (cursors : List Cursor) (places : Places) (number : ℕ) (name : List ℕ) (now : Cursor) (held : HoldsCursors old cursors places)
    (within : number < length cursors) (only : (j : ℕ) (c : OpenCursor) → IsAt cursors j c → c.name.now ≡ name → j ≡ number)
    (here : (c : OpenCursor) → IsAt cursors number c → c.name.now ≡ name) (named : (c : OpenCursor) → Is now (Some c) → c.name.now ≡ name)
    (moved : new.places ≡ set old.places number (place_of_cursor now)) where
  at_number : (c : OpenCursor) → IsAt (set cursors number now) number c → Is now (Some c)
  at_number c at = sym (get_or-set_same cursors number now None within) ∙ at

  at_other : (j : ℕ) (c : OpenCursor) → j ≢ number → IsAt (set cursors number now) j c → IsAt cursors j c
  at_other j c other at = sym (get_or-set_other cursors number j now None other) ∙ at

  other_at : (j : ℕ) (c : OpenCursor) → j ≢ number → IsAt cursors j c → IsAt (set cursors number now) j c
  other_at j c other at = get_or-set_other cursors number j now None other ∙ at

  placed_after : (j : ℕ) (c : OpenCursor) → IsAt (set cursors number now) j c → with_cursor places name (place_of_cursor now) c.name.now ≡ Some c.place
  placed_after j c at = elim (cases_eq j number) [ inl same ↦ at_it same | inr other ↦ at_another other ]
    where
      at_it : j ≡ number → with_cursor places name (place_of_cursor now) c.name.now ≡ Some c.place
      at_it same =
          let is : Is now (Some c) = at_number c (subst (λ (k : ℕ). IsAt (set cursors number now) k c) same at) in
          cond-true (bytes_eq c.name.now name) (place_of_cursor now) (places c.name.now) (name_same c.name.now name (named c is))
          ∙ ap place_of_cursor is

      at_another : j ≢ number → with_cursor places name (place_of_cursor now) c.name.now ≡ Some c.place
      at_another other =
          let before = at_other j c other at in
          cond-false (bytes_eq c.name.now name) (place_of_cursor now) (places c.name.now)
          (name_differs c.name.now name (λ same. other (only j c before same)))
          ∙ held.placed j c before

  known_after : (wanted : List ℕ) (place : ℕ) → with_cursor places name (place_of_cursor now) wanted ≡ Some place
      → (j : ℕ) × (c : OpenCursor) × IsAt (set cursors number now) j c × (c.name.now ≡ wanted)
  known_after wanted place known = by (bytes_eq wanted name) refl
    where
      new_one : (cursor : Cursor) → Is now cursor → place_of_cursor cursor ≡ Some place → wanted ≡ name
          → (j : ℕ) × (c : OpenCursor) × IsAt (set cursors number now) j c × (c.name.now ≡ wanted)
      new_one None is e same = no_place e
      new_one (Some c) is e same = (number, c, get_or-set_same cursors number now None within ∙ is, named c is ∙ sym same)

      old_one : wanted ≢ name → (j : ℕ) × (c : OpenCursor) × IsAt cursors j c × (c.name.now ≡ wanted)
          → (j : ℕ) × (c : OpenCursor) × IsAt (set cursors number now) j c × (c.name.now ≡ wanted)
      old_one differs (j, c, at, is) =
          let other : j ≢ number = λ same. differs (sym is ∙ here c (subst (λ (k : ℕ). IsAt cursors k c) same at)) in
          (j, c, other_at j c other at, is)

      by : (t : Bool) → bytes_eq wanted name ≡ t → (j : ℕ) × (c : OpenCursor) × IsAt (set cursors number now) j c × (c.name.now ≡ wanted)
      by true e = new_one now refl (sym (cond-true (bytes_eq wanted name) (place_of_cursor now) (places wanted) e) ∙ known) (same_name wanted name e)
      by false e =
          old_one (λ same. let t : true ≡ false = sym (name_same wanted name same) ∙ e in cc)
          (held.known wanted place (sym (cond-false (bytes_eq wanted name) (place_of_cursor now) (places wanted) e) ∙ known))

  distinct_after : (i j : ℕ) (a b : OpenCursor) → IsAt (set cursors number now) i a → IsAt (set cursors number now) j b → a.name.now ≡ b.name.now → i ≡ j
  distinct_after i j a b at bt same = elim (cases_eq i number) [
    | inl first ↦ elim (cases_eq j number) [
      | inl second ↦ first ∙ sym second
      | inr other ↦
          let is = named a (at_number a (subst (λ (k : ℕ). IsAt (set cursors number now) k a) first at)) in
          absurd (other (only j b (at_other j b other bt) (sym same ∙ is)))
    ]
    | inr other ↦ elim (cases_eq j number) [
      | inl second ↦
          let is = named b (at_number b (subst (λ (k : ℕ). IsAt (set cursors number now) k b) second bt)) in
          absurd (other (only i a (at_other i a other at) (same ∙ is)))
      | inr another ↦ held.distinct i j a b (at_other i a other at) (at_other j b another bt) same
    ]
  ]

  pub held_put : HoldsCursors new (set cursors number now) (with_cursor places name (place_of_cursor now))
  held_put = record {
    same = moved ∙ ap (λ (l : List (Option ℕ)). set l number (place_of_cursor now)) held.same ∙ sym (map-set place_of_cursor cursors number now);
    placed = placed_after;
    known = known_after;
    distinct = distinct_after;
  }

-- ---- a new cursor

module _ (old new : CursorSet) (cursors : List Cursor) (places : Places) (number : ℕ) (held : HoldsCursors old cursors places)
    (free : position is_none old.places ≡ Some number) where
  places_long : length old.places ≡ length cursors
  places_long = ap length held.same ∙ length-map cursors place_of_cursor

  free_within : number < length cursors
  free_within = let h = (position-Some is_none old.places number None free).0 in omega (arith, h, places_long)

  free_none : (c : OpenCursor) → IsAt cursors number c → ⊥
  free_none c at = by (get_or old.places number None) (position-Some is_none old.places number None free).1 taken
    where
      taken : get_or old.places number None ≡ Some c.place
      taken = ap (λ (l : List (Option ℕ)). get_or l number None) held.same ∙ get_or-map place_of_cursor cursors number None None free_within ∙ ap place_of_cursor at

      by : (o : Option ℕ) → is_none o ≡ true → o ≡ Some c.place → ⊥
      by None e is = no_place is
      by (Some p) e is = cc

  pub held_new : (c : OpenCursor) → places c.name.now ≡ None → new.places ≡ set old.places number (Some c.place)
      → HoldsCursors new (set cursors number (Some c)) (with_cursor places c.name.now (Some c.place))
  held_new c closed moved =
      held_put old new cursors places number c.name.now (Some c) held free_within
      (λ j d at is. no_place (sym closed ∙ sym (ap places is) ∙ held.placed j d at))
      (λ d at. absurd (free_none d at)) (λ d is. ap (λ (e : OpenCursor). e.name.now) (sym (some_same is))) moved

-- ---- a cursor that is open

pub inside_at : (cursors : List Cursor) (number : ℕ) (c : OpenCursor) → IsAt cursors number c → number < length cursors
inside_at [] number c at = none_some at
inside_at (x ∷ xs) zero c at = omega arith
inside_at (x ∷ xs) (suc number) c at = let h = inside_at xs number c at in omega (arith, h)

named_is : (name : List ℕ) (c : OpenCursor) → c.name.now ≡ name → is_named name (Some c) ≡ true
named_is name c is = name_same c.name.now name is

-- if no cursor has the name, it is not open
pub unknown_closed : {A : Type 0} (set : CursorSet) (cursors : List Cursor) (places : Places) (name : List ℕ) → length cursors ≡ 64 → AreOthers cursors name 64
    → HoldsCursors set cursors places → IsSome (places name) → A
unknown_closed {A} s cursors places name long others held opened = by (places name) refl opened
  where
    by : (o : Option ℕ) → places name ≡ o → IsSome o → A
    by None e h = let t : false ≡ true = h in cc
    by (Some place) e h =
        let (number, c, at, is) = held.known name place e in
        let within = inside_at cursors number c at in
        absurd (false≢true (sym (others number (omega (arith, within, long))) ∙ ap (is_named name) at ∙ named_is name c is))

-- its place in the set is its own place
pub same_place : (in_set : List (Option ℕ)) (cursors : List Cursor) (number : ℕ) (name : List ℕ) (place : ℕ) → in_set ≡ map place_of_cursor cursors
    → HasCursor cursors number name place → get_or in_set number None ≡ Some place
same_place in_set cursors number name place same found =
    ap (λ (l : List (Option ℕ)). get_or l number None) same ∙ get_or-map place_of_cursor cursors number None None found.within
    ∙ ap place_of_cursor found.at ∙ ap Some found.there

module _ (old new : CursorSet) (cursors : List Cursor) (places : Places) (number : ℕ) (name : List ℕ) (place : ℕ) (held : HoldsCursors old cursors places)
    (found : HasCursor cursors number name place) where
  pub place_held : get_or old.places number None ≡ Some place
  place_held = same_place old.places cursors number name place held.same found

  pub place_named : places name ≡ Some place
  place_named = ap places (sym found.is) ∙ held.placed number found.cursor found.at ∙ ap Some found.there

  held_moved : (now : Cursor) → ((d : OpenCursor) → Is now (Some d) → d.name.now ≡ name) → new.places ≡ set old.places number (place_of_cursor now)
      → HoldsCursors new (set cursors number now) (with_cursor places name (place_of_cursor now))
  held_moved now named moved =
      held_put old new cursors places number name now held found.within
      (λ j d dt same. held.distinct j number d found.cursor dt found.at (same ∙ sym found.is))
      (λ d dt. ap (λ (e : OpenCursor). e.name.now) (some_same (sym dt ∙ found.at)) ∙ found.is) named moved

  -- it gets another place, or is closed
  pub held_at : (now : OpenCursor) → now.name.now ≡ name → new.places ≡ set old.places number (Some now.place)
      → HoldsCursors new (set cursors number (Some now)) (with_cursor places name (Some now.place))
  held_at now is moved = held_moved (Some now) (λ d same. ap (λ (e : OpenCursor). e.name.now) (sym (some_same same)) ∙ is) moved

  pub held_closed : new.places ≡ set old.places number None → HoldsCursors new (set cursors number None) (with_cursor places name None)
  held_closed moved = held_moved None (λ d same. none_some same) moved

  -- a new cursor gets its place
  pub held_forked : (copy : ℕ) (now : OpenCursor) → position is_none old.places ≡ Some copy → places now.name.now ≡ None → now.place ≡ place
      → new.places ≡ set old.places copy (get_or old.places number None) → HoldsCursors new (set cursors copy (Some now)) (with_cursor places now.name.now (places name))
  held_forked copy now free closed there moved =
      let P : Option ℕ → Type 0 = λ p. HoldsCursors new (set cursors copy (Some now)) (with_cursor places now.name.now p) in
      let here : ◌≡◌ {A = Option ℕ} (Some place) (Some now.place) = ap Some (sym there) in
      subst P (sym (place_named ∙ here))
      (held_new old new cursors places copy held free now closed (moved ∙ ap (λ (p : Option ℕ). set old.places copy p) (place_held ∙ here)))
