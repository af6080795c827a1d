-- What the steps of every script keep.
use Rattle.std.proofs.Common.{◌≡◌, ℕ, ◌+◌, ◌<◌, ◌≤◌, List, [], ◌∷◌, length, Option, Some, None, Result, Ok, Err, Bool, true, false, cond, leb, not, refl, ap, arith, length-append}
use Rattle.std.specs.Option.{option_or}
use Rattle.std.specs.Str.{bytes_eq}
use Rattle.std.proofs.lemmas.Bool.{leb-false}
use Rattle.session_script.specs.declared.step.Step.{Step}
use Rattle.session_script.specs.declared.step.Step.TheVariants.{Open, Next, Fork, Rewind, Close}
use Rattle.session_script.specs.declared.script_fault.ScriptFault.{ScriptFault}
use Rattle.session_script.specs.declared.script_fault.ScriptFault.TheVariants.{UnknownCursor, CursorExists, TooManyOpen}
use Rattle.session_script.specs.Words.{is_skipped, step_of}
use Rattle.session_script.specs.Forms.{Says, SayEach, said_lines}
use Rattle.session_script.proofs.Said.{sound}
use Rattle.session_script.specs.Script.{is_open, names_without, names_after, known_fault, new_fault, fault_of, unless, turn_by, turn, onto, then_onto, steps_from, IsAllowed, KeepsRules}

known_by : (b : Bool) (e : ScriptFault) → cond b None (Some e) ≡ None → b ≡ true
known_by true e h = refl
known_by false e h = absurd cc

known : (line : ℕ) (names : List (List ℕ)) (name : List ℕ) → known_fault line names name ≡ None → is_open names name ≡ true
unfolding known_fault
known line names name h = known_by (is_open names name) (UnknownCursor line) h

new_by : (b many : Bool) (e f : ScriptFault) → cond b (Some e) (cond many (Some f) None) ≡ None → (b ≡ false) × (many ≡ false)
new_by true many e f h = absurd cc
new_by false true e f h = absurd cc
new_by false false e f h = (refl, refl)

fresh : (line : ℕ) (names : List (List ℕ)) (name : List ℕ) → new_fault line names name ≡ None → (is_open names name ≡ false) × (length names < 64)
unfolding new_fault
fresh line names name h =
    let b = new_by (is_open names name) (leb 64 (length names)) (CursorExists line) (TooManyOpen line) h in
    (b.0, omega (arith, leb-false _ _ b.1))

both_none : (a b : Option ScriptFault) → option_or a b ≡ None → (a ≡ None) × (b ≡ None)
both_none (Some e) b h = absurd cc
both_none None b h = (refl, h)

kept_or_not : (b : Bool) (x : List ℕ) (xs : List (List ℕ)) (n : ℕ) → length xs ≤ n → length (cond b (x ∷ xs) xs) ≤ n + 1
kept_or_not true x xs n h = omega arith
kept_or_not false x xs n h = omega arith

fewer : (name : List ℕ) (names : List (List ℕ)) → length (names_without name names) ≤ length names
fewer name [] = omega arith
fewer name (x ∷ names) = omega (arith, kept_or_not (not (bytes_eq x name)) x (names_without name names) (length names) (fewer name names))

-- a step that breaks no rule fits, and leaves no more than 64 names open
fit : (line : ℕ) (names : List (List ℕ)) (step : Step) → length names ≤ 64 → fault_of line names step ≡ None → IsAllowed names step × (length (names_after step names) ≤ 64)
unfolding fault_of
fit line names (Open name) few h = let f = fresh line names name h in (f.0, omega (arith, length-append names (name ∷ [])))
fit line names (Next name count) few h = (known line names name h, few)
fit line names (Fork name new) few h =
    let b = both_none (known_fault line names name) (new_fault line names new) h in
    let f = fresh line names new b.1 in
    ((known line names name b.0, f.0), omega (arith, length-append names (new ∷ [])))
fit line names (Rewind name) few h = (known line names name h, few)
fit line names (Close name) few h = (known line names name h, omega (arith, fewer name names))

-- what a whole answer is made of
record Went (r : Result Step ScriptFault) (go : Step → Result (List Step) ScriptFault) (steps : List Step) : Type 0 where
  first : Step
  more : List Step
  said : r ≡ Ok first
  others : go first ≡ Ok more
  whole : steps ≡ first ∷ more

onto_ok : (step : Step) (r : Result (List Step) ScriptFault) (steps : List Step) → onto (step ∷ []) r ≡ Ok steps → (more : List Step) × (r ≡ Ok more) × (steps ≡ step ∷ more)
onto_ok step (Ok more) steps h = (more, refl, cc)
onto_ok step (Err e) steps h = absurd cc

went : (r : Result Step ScriptFault) (go : Step → Result (List Step) ScriptFault) (steps : List Step) → then_onto r go ≡ Ok steps → Went r go steps
went (Ok step) go steps h = let o = onto_ok step (go step) steps h in record { first = step; more = o.0; said = refl; others = o.1; whole = o.2 }
went (Err e) go steps h = absurd cc

unless_ok : (o : Option ScriptFault) (s step : Step) → unless o s ≡ Ok step → (o ≡ None) × (s ≡ step)
unless_ok None s step h = (refl, cc)
unless_ok (Some e) s step h = absurd cc

turn_by_ok : (line : ℕ) (names : List (List ℕ)) (o : Option Step) (step : Step) → turn_by line names o ≡ Ok step → fault_of line names step ≡ None
turn_by_ok line names None step h = absurd cc
turn_by_ok line names (Some s) step h = let u = unless_ok (fault_of line names s) s step h in rw (u.1) at u.0

turn_ok : (line : ℕ) (names : List (List ℕ)) (text : List ℕ) (step : Step) → turn line names text ≡ Ok step → fault_of line names step ≡ None
unfolding turn
turn_ok line names text step h = turn_by_ok line names (step_of text) step h

kept_by : (line : ℕ) (names : List (List ℕ)) (text : List ℕ) (more : List (List ℕ)) (steps : List Step) (skipped : Bool) → length names ≤ 64
    → ((others : List (List ℕ)) (rest : List Step) → length others ≤ 64 → steps_from (line + 1) others more ≡ Ok rest → KeepsRules others rest)
    → cond skipped (steps_from (line + 1) names more) (then_onto (turn line names text) (λ step. steps_from (line + 1) (names_after step names) more)) ≡ Ok steps
    → KeepsRules names steps
kept_by line names text more steps true few ih h = ih names steps few h
kept_by line names text more steps false few ih h =
    let w = went (turn line names text) (λ step. steps_from (line + 1) (names_after step names) more) steps h in
    let f = fit line names w.first few (turn_ok line names text w.first w.said) in
    rw (w.whole) (few, f.0, ih (names_after w.first names) w.more f.1 w.others)

pub kept : (line : ℕ) (names : List (List ℕ)) (lines : List (List ℕ)) (steps : List Step) → length names ≤ 64 → steps_from line names lines ≡ Ok steps → KeepsRules names steps
unfolding steps_from
kept line names [] [] few h = few
kept line names [] (s ∷ steps) few h = absurd cc
kept line names (text ∷ more) steps few h = kept_by line names text more steps (is_skipped text) few (λ others rest m e. kept (line + 1) others more rest m e) h

-- ---- what the lines say

turn_by_said : (line : ℕ) (names : List (List ℕ)) (o : Option Step) (step : Step) → turn_by line names o ≡ Ok step → o ≡ Some step
turn_by_said line names None step h = absurd cc
turn_by_said line names (Some s) step h = let u = unless_ok (fault_of line names s) s step h in ap (λ (x : Step). Some x) u.1

pub turn_said : (line : ℕ) (names : List (List ℕ)) (text : List ℕ) (step : Step) → turn line names text ≡ Ok step → Says text step
unfolding turn
turn_said line names text step h = sound text step (turn_by_said line names (step_of text) step h)

say_by : (line : ℕ) (names : List (List ℕ)) (text : List ℕ) (more : List (List ℕ)) (steps : List Step) (skipped : Bool)
    → ((others : List (List ℕ)) (rest : List Step) → steps_from (line + 1) others more ≡ Ok rest → SayEach (said_lines more) rest)
    → cond skipped (steps_from (line + 1) names more) (then_onto (turn line names text) (λ step. steps_from (line + 1) (names_after step names) more)) ≡ Ok steps
    → SayEach (cond (not skipped) (text ∷ said_lines more) (said_lines more)) steps
say_by line names text more steps true ih h = ih names steps h
say_by line names text more steps false ih h =
    let w = went (turn line names text) (λ step. steps_from (line + 1) (names_after step names) more) steps h in
    rw (w.whole) (turn_said line names text w.first w.said, ih (names_after w.first names) w.more w.others)

pub say_each : (line : ℕ) (names : List (List ℕ)) (lines : List (List ℕ)) (steps : List Step) → steps_from line names lines ≡ Ok steps → SayEach (said_lines lines) steps
unfolding steps_from
say_each line names [] [] h = tt
say_each line names [] (s ∷ steps) h = absurd cc
say_each line names (text ∷ more) steps h = say_by line names text more steps (is_skipped text) (λ others rest e. say_each (line + 1) others more rest e) h
