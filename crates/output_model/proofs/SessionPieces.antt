-- The text of a session is its header and its pieces, one after another, and each piece takes at
-- most one call.
use Rattle.std.proofs.Common.{◌≡◌, ◌+◌, ◌<◌, ◌≤◌, ◌++◌, ℕ, zero, suc, List, [], ◌∷◌, Bool, true, false, nat_lt, if◌then◌else◌, length, drop, refl, sym, ap, ◌∙◌, append-nil, arith}
use Rattle.std.specs.Prelude.{min}
use Rattle.std.specs.List.{concat}
use Rattle.std.proofs.lemmas.Bool.Decides.{nat_tests}
use Rattle.std.proofs.lemmas.List.Folds.{concat-append}
use Rattle.session_script.specs.declared.step.Step.{Step}
use Rattle.session_script.specs.declared.step.Step.TheVariants.{Open, Next, Fork, Rewind, Close}
use Rattle.anyk_model.specs.Table.{Table}
use Rattle.anyk_model.specs.Query.{Query}
use Rattle.anyk_model.specs.Output.{Style, header_text, line_text}
use Rattle.output_model.specs.Session.{Places, next_text, no_cursors, place_in, places_after, session_text, step_text, steps_text, with_name}
use Rattle.output_model.specs.SessionCalls.{calls_among, calls_of_step}
use Rattle.output_model.specs.SessionPieces.{next_pieces, session_pieces, step_pieces, steps_pieces}

-- ---- the text

pub next_joined : (line : List ℕ → List ℕ) (ending : List ℕ) (members : List (List ℕ)) (count : ℕ)
    → next_text line ending members count ≡ concat (next_pieces line ending members count)
next_joined line ending members zero = refl
next_joined line ending [] (suc count) = sym (append-nil ending)
next_joined line ending (member ∷ members) (suc count) =
    ap (λ (text : List ℕ). line member ++ text) (next_joined line ending members count)

pub step_joined : (line : List ℕ → List ℕ → List ℕ) (members : List (List ℕ)) (places : Places) (step : Step)
    → step_text line members places step ≡ concat (step_pieces line members places step)
step_joined line members places (Open name) = refl
step_joined line members places (Next name count) = next_joined (line name) _ (drop (place_in places name) members) count
step_joined line members places (Fork name new) = refl
step_joined line members places (Rewind name) = refl
step_joined line members places (Close name) = refl

pub steps_joined : (line : List ℕ → List ℕ → List ℕ) (members : List (List ℕ)) (places : Places) (steps : List Step)
    → steps_text line members places steps ≡ concat (steps_pieces line members places steps)
steps_joined line members places [] = refl
steps_joined line members places (step ∷ steps) =
    let later = places_after members places step in
    ap (λ (text : List ℕ). text ++ steps_text line members later steps) (step_joined line members places step)
    ∙ ap (λ (text : List ℕ). concat (step_pieces line members places step) ++ text) (steps_joined line members later steps)
    ∙ sym (concat-append (step_pieces line members places step) (steps_pieces line members later steps))

pub session_joined : (query : Query) (tables : List Table) (style : Style) (members : List (List ℕ)) (script : List Step)
    → session_text query tables style members script
    ≡ header_text query tables (with_name style []) ++ concat (session_pieces query tables style members script)
session_joined query tables style members script =
    ap (λ (text : List ℕ). header_text query tables (with_name style []) ++ text)
    (steps_joined (λ name. line_text query tables (with_name style name)) members no_cursors script)

-- ---- the calls

-- a step calls for no more members than are asked for, and for one more than are left at most
few_called : (ends : Bool) (left count : ℕ) → (calls_among ends left count ≤ count) × (calls_among ends left count ≤ left + 1)
few_called false left count = (omega arith, omega arith)
few_called true left count = by (nat_lt left count) refl
  where
    by : (b : Bool) → nat_lt left count ≡ b
        → (min count left + (if b then 1 else 0) ≤ count) × (min count left + (if b then 1 else 0) ≤ left + 1)
    by true e = let less : left < count = grind (arith, nat_tests) in (omega (arith, less), omega (arith, less))
    by false e = (omega arith, omega arith)

length_next : (line : List ℕ → List ℕ) (ending : List ℕ) (members : List (List ℕ)) (count : ℕ)
    → length (next_pieces line ending members count) ≡ min count (length members + 1)
length_next line ending members zero = omega arith
length_next line ending [] (suc count) = omega arith
length_next line ending (member ∷ members) (suc count) =
    let h = length_next line ending members count in omega (arith, h)

pub next_called : (ends : Bool) (line : List ℕ → List ℕ) (ending : List ℕ) (members : List (List ℕ)) (count : ℕ)
    → calls_among ends (length members) count ≤ length (next_pieces line ending members count)
next_called ends line ending members count =
    let (few, near) = few_called ends (length members) count in
    let long = length_next line ending members count in
    omega (arith, few, near, long)

pub step_called : (ends : Bool) (line : List ℕ → List ℕ → List ℕ) (members : List (List ℕ)) (places : Places) (step : Step)
    → calls_of_step ends members places step ≤ length (step_pieces line members places step)
step_called ends line members places (Open name) = omega arith
step_called ends line members places (Next name count) =
    next_called ends (line name) _ (drop (place_in places name) members) count
step_called ends line members places (Fork name new) = omega arith
step_called ends line members places (Rewind name) = omega arith
step_called ends line members places (Close name) = omega arith
