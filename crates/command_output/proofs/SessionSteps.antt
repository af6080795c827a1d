-- Steps that were taken one by one.
use Rattle.std.proofs.Common.{◌≡◌, ◌+◌, ◌<◌, ◌≤◌, ℕ, List, [], ◌∷◌, ◌++◌, Option, Some, None, Ok, Err, map, length, drop, get_or, unwrap_or, replicate, sym, ap, subst, ◌∙◌, arith}
use Rattle.std.specs.Prelude.{take}
use Rattle.std.proofs.lemmas.List.{drop_all, drop_more, get_or-replicate, length-replicate}
use Rattle.cursor_set.specs.CursorSet.{CursorSet}
use Rattle.outer_io.specs.declared.fault.PrintFault.{PrintFault}
use Rattle.outer_io.specs.Printing.{Printed}
use Rattle.outer_io.specs.SinkState.{SinkState}
use Rattle.session_script.specs.declared.step.Step.{Step}
use Rattle.session_script.specs.declared.step.Step.TheVariants.{Next}
use Rattle.output_model.specs.SessionPieces.{next_pieces, step_pieces}
use Rattle.output_model.specs.Session.{Places, next_text, no_cursors, place_in, places_after, step_text, steps_text, with_cursor}
use Rattle.command_output.specs.declared.open_cursors.OpenCursor.{OpenCursor}
use Rattle.command_output.specs.OpenCursors.{IsAt, HoldsCursors}
use Rattle.command_output.specs.SessionRules.{CanFollow, CanStep}
use Rattle.command_output.proofs.Left.{HasLeft, left_more, left_none, left_stopped}
use Rattle.command_output.proofs.Moves.{Cursor, inside_at, no_place, none_some, place_of_cursor}

-- ---- before the first step

absent : {A : Type 0} (cursors : List Cursor) (k : ℕ) (c : OpenCursor) → cursors ≡ replicate 64 None → IsAt cursors k c → A
absent cursors k c none at =
    let few : k < 64 = omega (arith, inside_at cursors k c at, ap length none, length-replicate {A = Cursor} 64 None) in
    none_some (sym (get_or-replicate {A = Cursor} 64 k None None few) ∙ ap (λ (l : List Cursor). get_or l k None) (sym none) ∙ at)

pub none_held : (set : CursorSet) (cursors : List Cursor) → cursors ≡ replicate 64 None → set.places ≡ replicate 64 None → HoldsCursors set cursors no_cursors
none_held set cursors none same = record {
  same = same ∙ ap (map place_of_cursor) (sym none);
  placed = λ k c at. absent cursors k c none at;
  known = λ name place e. no_place e;
  distinct = λ i j a b at bt same. absent cursors i a none at;
}

-- ---- one step

-- this many steps were taken, and what the other steps print is left
pub record HasTaken (line : List ℕ → List ℕ → List ℕ) (members : List (List ℕ)) (script : List Step) (i : ℕ) (places : Places) (set : CursorSet)
    (cursors : List Cursor) (old now : SinkState) : Type 0 where
  pub held : HoldsCursors set cursors places
  pub rules : CanFollow members places (drop i script)
  pub left : HasLeft (steps_text line members no_cursors script) (steps_text line members places (drop i script)) old now

module _ (line : List ℕ → List ℕ → List ℕ) (members : List (List ℕ)) (script : List Step) (i : ℕ) (step : Step) (inside : i < length script) (here : get_or script i step ≡ step)
    (places : Places) where
  split : drop i script ≡ step ∷ drop (i + 1) script
  split = drop_more script i step inside ∙ ap (λ (s : Step). s ∷ drop (i + 1) script) here

  pub can_step : CanFollow members places (drop i script) → CanStep places step × CanFollow members (places_after members places step) (drop (i + 1) script)
  can_step rules = let P : List Step → Type 0 = CanFollow members places in subst P split rules

  text_split : steps_text line members places (drop i script)
      ≡ step_text line members places step ++ steps_text line members (places_after members places step) (drop (i + 1) script)
  text_split = ap (steps_text line members places) split

  pub taken_more : (set set' : CursorSet) (cursors cursors' : List Cursor) (old mid now : SinkState)
      → (t : HasTaken line members script i places set cursors old mid) → HoldsCursors set' cursors' (places_after members places step)
      → Printed mid now (step_text line members places step) (Ok tt) → HasTaken line members script (i + 1) (places_after members places step) set' cursors' old now
  taken_more set set' cursors cursors' old mid now t held printed = record {
    held = held;
    rules = (can_step t.rules).1;
    left = left_more (steps_text line members no_cursors script) (steps_text line members places (drop i script)) old mid now t.left
        (step_text line members places step) (steps_text line members (places_after members places step) (drop (i + 1) script)) text_split
        printed.whole printed.later;
  }

  pub taken_stopped : (set : CursorSet) (cursors : List Cursor) (old mid now : SinkState) (e : PrintFault)
      → (t : HasTaken line members script i places set cursors old mid) → Printed mid now (step_text line members places step) (Err e)
      → Printed old now (steps_text line members no_cursors script) (Err e)
  taken_stopped set cursors old mid now e t printed =
      left_stopped (steps_text line members no_cursors script) (steps_text line members places (drop i script)) old mid now t.left
      (step_text line members places step) (steps_text line members (places_after members places step) (drop (i + 1) script)) e text_split printed

-- all steps were taken
pub taken_all : (line : List ℕ → List ℕ → List ℕ) (members : List (List ℕ)) (script : List Step) (i : ℕ) (places : Places) (set : CursorSet) (cursors : List Cursor)
    (old now : SinkState) → length script ≤ i → HasTaken line members script i places set cursors old now
    → Printed old now (steps_text line members no_cursors script) (Ok tt)
taken_all line members script i places set cursors old now end t =
    left_none (steps_text line members no_cursors script) (steps_text line members places (drop i script)) old now t.left
    (ap (steps_text line members places) (drop_all i script end))

-- ---- the step `next`

-- what holds of its cursor's place holds of the place by the cursor's name
at_place : (P : ℕ → Type 0) (places : Places) (name : List ℕ) (place : ℕ) → places name ≡ Some place → P place → P (place_in places name)
at_place P places name place at h = subst P (ap (λ (o : Option ℕ). unwrap_or o 0) (sym at)) h

-- what it prints, by its cursor's place
pub next_told : (P : List ℕ → Type 0) (line : List ℕ → List ℕ → List ℕ) (members : List (List ℕ)) (places : Places) (name : List ℕ) (place count : ℕ)
    → places name ≡ Some place → P (next_text (line name) (name ++ 10 ∷ []) (drop place members) count) → P (step_text line members places (Next name count))
next_told P line members places name place count at h = at_place (λ p. P (next_text (line name) (name ++ 10 ∷ []) (drop p members) count)) places name place at h

-- its pieces
pub next_in_pieces : (P : List (List ℕ) → Type 0) (line : List ℕ → List ℕ → List ℕ) (members : List (List ℕ)) (places : Places) (name : List ℕ) (place count : ℕ)
    → places name ≡ Some place → P (next_pieces (line name) (name ++ 10 ∷ []) (drop place members) count) → P (step_pieces line members places (Next name count))
next_in_pieces P line members places name place count at h =
    at_place (λ p. P (next_pieces (line name) (name ++ 10 ∷ []) (drop p members) count)) places name place at h

-- the places of the cursors after it
pub next_after : (P : Places → Type 0) (members : List (List ℕ)) (places : Places) (name : List ℕ) (place now count : ℕ) → places name ≡ Some place
    → now ≡ place + length (take count (drop place members)) → P (with_cursor places name (Some now)) → P (places_after members places (Next name count))
next_after P members places name place now count at is h =
    let A : ℕ → Type 0 = λ n. P (with_cursor places name (Some n)) in
    let B : ℕ → Type 0 = λ p. P (with_cursor places name (Some (p + length (take count (drop p members))))) in
    subst B (ap (λ (o : Option ℕ). unwrap_or o 0) (sym at)) (subst A is h)
