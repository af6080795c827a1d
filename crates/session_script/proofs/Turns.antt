-- One line after another.
use Rattle.std.proofs.Common.{◌≡◌, ℕ, ◌+◌, ◌<◌, List, [], ◌∷◌, ◌++◌, length, None, Result, Ok, Err, true, false, refl, ap, sym, ◌∙◌, arith, append_assoc, eqb, inl, inr}
use Rattle.std.proofs.lemmas.List.{append-nil}
use Rattle.std.proofs.lemmas.List.Splits.{length-slice_split}
use Rattle.text_lines.specs.Parts.{parts}
use Rattle.session_script.specs.declared.step.Step.{Step}
use Rattle.session_script.specs.declared.script_fault.ScriptFault.{ScriptFault}
use Rattle.session_script.specs.Words.{is_skipped, step_of_parts, step_of}
use Rattle.session_script.specs.Script.{names_after, turn, onto, steps_from, IsScriptFault}

pub skip_turn : (n : ℕ) (names : List (List ℕ)) (text : List ℕ) (more : List (List ℕ)) → is_skipped text ≡ true → steps_from n names (text ∷ more) ≡ steps_from (n + 1) names more
unfolding steps_from
skip_turn n names text more h = rw h refl

onto_onto : (steps : List Step) (step : Step) (r : Result (List Step) ScriptFault) → onto steps (onto (step ∷ []) r) ≡ onto (steps ++ step ∷ []) r
onto_onto steps step (Ok more) = ap (λ (s : List Step). Ok s) (sym (append_assoc steps (step ∷ []) more))
onto_onto steps step (Err e) = refl

pub step_turn : (n : ℕ) (names : List (List ℕ)) (text : List ℕ) (more : List (List ℕ)) (steps : List Step) (step : Step) → is_skipped text ≡ false → turn n names text ≡ Ok step
    → onto steps (steps_from n names (text ∷ more)) ≡ onto (steps ++ step ∷ []) (steps_from (n + 1) (names_after step names) more)
unfolding steps_from
step_turn n names text more steps step h e = rw (h, e) (onto_onto steps step (steps_from (n + 1) (names_after step names) more))

pub fault_turn : (n : ℕ) (names : List (List ℕ)) (text : List ℕ) (more : List (List ℕ)) (steps : List Step) (e : ScriptFault) → is_skipped text ≡ false → turn n names text ≡ Err e
    → onto steps (steps_from n names (text ∷ more)) ≡ Err e
unfolding steps_from
fault_turn n names text more steps e h f = rw (h, f) refl

four_parts : (w a b : List ℕ) (others : List (List ℕ)) → 0 < length others → step_of_parts (w ∷ a ∷ b ∷ others) ≡ None
unfolding step_of_parts
four_parts w a b [] h = absurd (omega arith)
four_parts w a b (x ∷ others) h = refl

pub too_many_parts : (w a b rest : List ℕ) → step_of_parts (w ∷ a ∷ b ∷ parts rest) ≡ None
too_many_parts w a b rest = four_parts w a b (parts rest) (omega (arith, length-slice_split (λ x. eqb x 32) rest))

-- a line whose turn fails
pub failing : (n : ℕ) (names : List (List ℕ)) (text : List ℕ) (more lines : List (List ℕ)) (steps : List Step) (all : Result (List Step) ScriptFault) (e : ScriptFault) → is_skipped text ≡ false → lines ≡ text ∷ more
    → onto steps (steps_from n names lines) ≡ all → IsScriptFault (turn n names text) e → IsScriptFault all e
failing n names text more lines steps all e h v is (inl no_memory) = inl no_memory
failing n names text more lines steps all e h v is (inr f) = inr (sym is ∙ ap (λ (ls : List (List ℕ)). onto steps (steps_from n names ls)) v ∙ fault_turn n names text more steps e h f)

pub last_turn : (n : ℕ) (names lines : List (List ℕ)) (steps : List Step) (all : Result (List Step) ScriptFault) → lines ≡ [] → onto steps (steps_from n names lines) ≡ all → all ≡ Ok steps
unfolding steps_from
last_turn n names lines steps all v is = sym is ∙ ap (λ (ls : List (List ℕ)). onto steps (steps_from n names ls)) v ∙ ap (λ (s : List Step). Ok s) (append-nil steps)

pub three_cuts : (line w l a k b j : List ℕ) → parts line ≡ w ∷ parts l → parts l ≡ a ∷ parts k → parts k ≡ b ∷ parts j → step_of line ≡ None
three_cuts line w l a k b j e f g =
    ap step_of_parts (e ∙ ap (λ (ps : List (List ℕ)). w ∷ ps) (f ∙ ap (λ (ps : List (List ℕ)). a ∷ ps) g)) ∙ too_many_parts w a b j
