-- The line that is told as bad says no step, and each line before it says one.
use Rattle.std.proofs.Common.{◌≡◌, ℕ, ◌+◌, List, [], ◌∷◌, length, Option, Some, None, Result, Ok, Err, Bool, true, false, cond, leb, refl, ap, ◌⊎◌, inl, inr, arith}
use Rattle.std.specs.Option.{option_or}
use Rattle.session_script.specs.declared.step.Step.{Step}
use Rattle.session_script.specs.declared.step.Step.TheVariants.{Open, Next, Fork, Rewind, Close}
use Rattle.session_script.specs.declared.script_fault.ScriptFault.{ScriptFault}
use Rattle.session_script.specs.declared.script_fault.ScriptFault.TheVariants.{BadLine, UnknownCursor, CursorExists, TooManyOpen}
use Rattle.session_script.specs.Words.{is_skipped, step_of}
use Rattle.session_script.specs.Forms.{Says, SayEach, IsBadLine, NamesBadLine, said_lines}
use Rattle.session_script.specs.Script.{is_open, names_after, known_fault, new_fault, fault_of, unless, turn_by, turn, onto, then_onto, steps_from, IsScriptFault}
use Rattle.session_script.proofs.Said.{said_by}
use Rattle.session_script.proofs.Kept.{turn_said}

-- ---- no rule on cursors tells a bad line

known_tells : (b : Bool) (e : ScriptFault) (n : ℕ) → cond b None (Some e) ≡ Some (BadLine n) → e ≡ BadLine n
known_tells true e n h = absurd cc
known_tells false e n h = cc

known_other : (line : ℕ) (names : List (List ℕ)) (name : List ℕ) (n : ℕ) → known_fault line names name ≡ Some (BadLine n) → ⊥
unfolding known_fault
known_other line names name n h = let e = known_tells (is_open names name) (UnknownCursor line) n h in absurd cc

new_by : (b many : Bool) (line n : ℕ) → cond b (Some (CursorExists line)) (cond many (Some (TooManyOpen line)) None) ≡ Some (BadLine n) → ⊥
new_by true many line n h = absurd cc
new_by false true line n h = absurd cc
new_by false false line n h = absurd cc

new_other : (line : ℕ) (names : List (List ℕ)) (name : List ℕ) (n : ℕ) → new_fault line names name ≡ Some (BadLine n) → ⊥
unfolding new_fault
new_other line names name n h = new_by (is_open names name) (leb 64 (length names)) line n h

first_is : (a b : Option ScriptFault) (e : ScriptFault) → option_or a b ≡ Some e → (a ≡ Some e) ⊎ (b ≡ Some e)
first_is (Some d) b e h = inl h
first_is None b e h = inr h

either : (A B : Type 0) → A ⊎ B → (A → ⊥) → (B → ⊥) → ⊥
either A B (inl a) f g = f a
either A B (inr b) f g = g b

rule_other : (line : ℕ) (names : List (List ℕ)) (step : Step) (n : ℕ) → fault_of line names step ≡ Some (BadLine n) → ⊥
unfolding fault_of
rule_other line names (Open name) n h = new_other line names name n h
rule_other line names (Next name count) n h = known_other line names name n h
rule_other line names (Fork name new) n h = either _ _ (first_is (known_fault line names name) (new_fault line names new) (BadLine n) h) (known_other line names name n) (new_other line names new n)
rule_other line names (Rewind name) n h = known_other line names name n h
rule_other line names (Close name) n h = known_other line names name n h

unless_err : (o : Option ScriptFault) (step : Step) (e : ScriptFault) → unless o step ≡ Err e → o ≡ Some e
unless_err None step e h = absurd cc
unless_err (Some d) step e h = cc

-- a bad line says nothing, and is told by its own number
record SaysNone (line : ℕ) (o : Option Step) (n : ℕ) : Type 0 where
  number : n ≡ line
  none : o ≡ None

turn_by_bad : (line : ℕ) (names : List (List ℕ)) (o : Option Step) (n : ℕ) → turn_by line names o ≡ Err (BadLine n) → SaysNone line o n
turn_by_bad line names None n h = record { number = cc; none = refl }
turn_by_bad line names (Some step) n h = absurd (rule_other line names step n (unless_err (fault_of line names step) step (BadLine n) h))

turn_bad : (line : ℕ) (names : List (List ℕ)) (text : List ℕ) (n : ℕ) → turn line names text ≡ Err (BadLine n) → SaysNone line (step_of text) n
unfolding turn
turn_bad line names text n h = turn_by_bad line names (step_of text) n h

-- ---- the lines before it

-- The line behind so many others is bad, and the first has this number.
record BadFrom (first : ℕ) (lines : List (List ℕ)) (n : ℕ) : Type 0 where
  count : ℕ
  number : n ≡ count + first
  bad : IsBadLine lines (count + 1)

one_more : (first : ℕ) (text : List ℕ) (more : List (List ℕ)) (n : ℕ) (b : BadFrom (first + 1) more n) (steps : List Step) → SayEach (said_lines (text ∷ b.bad.before)) steps → BadFrom first (text ∷ more) n
one_more first text more n b steps say =
    let number : n ≡ b.count + (first + 1) = b.number in
    let place : b.count + 1 ≡ length b.bad.before + 1 = b.bad.place in
    record {
      count = b.count + 1;
      number = omega arith;
      bad = record {
        before = text ∷ b.bad.before;
        line = b.bad.line;
        after = b.bad.after;
        parts = ap (λ (ls : List (List ℕ)). text ∷ ls) b.bad.parts;
        place = omega arith;
        is_read = b.bad.is_read;
        says_none = b.bad.says_none;
        steps = steps;
        others_say = say;
      };
    }

one_further : (first : ℕ) (text : List ℕ) (more : List (List ℕ)) (n : ℕ) → is_skipped text ≡ true → BadFrom (first + 1) more n → BadFrom first (text ∷ more) n
one_further first text more n skipped b = one_more first text more n b b.bad.steps (rw skipped b.bad.others_say)

one_said : (first : ℕ) (text : List ℕ) (more : List (List ℕ)) (step : Step) (n : ℕ) → is_skipped text ≡ false → Says text step → BadFrom (first + 1) more n → BadFrom first (text ∷ more) n
one_said first text more step n read says b = one_more first text more n b (step ∷ b.bad.steps) (rw read (says, b.bad.others_say))

bad_here : (first : ℕ) (text : List ℕ) (more : List (List ℕ)) (n : ℕ) → is_skipped text ≡ false → SaysNone first (step_of text) n → BadFrom first (text ∷ more) n
bad_here first text more n read none = record {
  count = 0;
  number = (let is : n ≡ first = none.number in omega arith);
  bad = record { before = []; line = text; after = more; parts = refl; place = refl; is_read = read; says_none = said_by text None none.none; steps = []; others_say = tt };
}

onto_err : (step : Step) (r : Result (List Step) ScriptFault) (e : ScriptFault) → onto (step ∷ []) r ≡ Err e → r ≡ Err e
onto_err step (Ok more) e h = absurd cc
onto_err step (Err d) e h = cc

bad_by_turn : (first : ℕ) (names : List (List ℕ)) (text : List ℕ) (more : List (List ℕ)) (n : ℕ) (turned : Result Step ScriptFault)
    → ((others : List (List ℕ)) → steps_from (first + 1) others more ≡ Err (BadLine n) → BadFrom (first + 1) more n)
    → is_skipped text ≡ false → turn first names text ≡ turned → then_onto turned (λ step. steps_from (first + 1) (names_after step names) more) ≡ Err (BadLine n) → BadFrom first (text ∷ more) n
bad_by_turn first names text more n (Ok step) ih read e h =
    one_said first text more step n read (turn_said first names text step e) (ih (names_after step names) (onto_err step (steps_from (first + 1) (names_after step names) more) (BadLine n) h))
bad_by_turn first names text more n (Err d) ih read e h = bad_here first text more n read (turn_bad first names text n (let same : turn first names text ≡ Err (BadLine n) = cc in same))

bad_by : (first : ℕ) (names : List (List ℕ)) (text : List ℕ) (more : List (List ℕ)) (n : ℕ) (skipped : Bool)
    → ((others : List (List ℕ)) → steps_from (first + 1) others more ≡ Err (BadLine n) → BadFrom (first + 1) more n) → is_skipped text ≡ skipped
    → cond skipped (steps_from (first + 1) names more) (then_onto (turn first names text) (λ step. steps_from (first + 1) (names_after step names) more)) ≡ Err (BadLine n)
    → BadFrom first (text ∷ more) n
bad_by first names text more n true ih e h = one_further first text more n e (ih names h)
bad_by first names text more n false ih e h = bad_by_turn first names text more n (turn first names text) ih e refl h

bad_from : (first : ℕ) (names lines : List (List ℕ)) (n : ℕ) → steps_from first names lines ≡ Err (BadLine n) → BadFrom first lines n
unfolding steps_from
bad_from first names [] n h = absurd cc
bad_from first names (text ∷ more) n h = bad_by first names text more n (is_skipped text) (λ others e. bad_from (first + 1) others more n e) refl h

bad_line : (lines : List (List ℕ)) (n : ℕ) → BadFrom 1 lines n → IsBadLine lines n
bad_line lines n b = rw (b.number) b.bad

-- ---- what a fault names

fails_bad : (lines : List (List ℕ)) (n : ℕ) → IsScriptFault (steps_from 1 [] lines) (BadLine n) → IsBadLine lines n
fails_bad lines n (inl no_memory) = absurd cc
fails_bad lines n (inr h) = bad_line lines n (bad_from 1 [] lines n h)

pub names_bad : (lines : List (List ℕ)) (e : ScriptFault) → IsScriptFault (steps_from 1 [] lines) e → NamesBadLine lines e
names_bad lines (BadLine n) h = fails_bad lines n h
names_bad lines _ h = tt
