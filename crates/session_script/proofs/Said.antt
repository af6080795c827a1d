-- A line is read as the step that it says.
use Rattle.std.proofs.Common.{◌≡◌, ℕ, List, [], ◌∷◌, ◌++◌, length, Option, Some, None, Bool, true, false, cond, ◌&&◌, eqb, leb, refl, sym, ap, subst, ◌∙◌, ◌⊎◌, inl, inr, ⊎_elim}
use Rattle.std.specs.Prelude.{codes, option_and_then}
use Rattle.std.specs.List.{list_all, slice_split, join_with_byte}
use Rattle.std.specs.Str.{bytes_eq}
use Rattle.std.specs.Char.{is_ascii_digit}
use Rattle.std.proofs.lemmas.Bool.{eqb-true, false≢true, and_parts}
use Rattle.std.proofs.lemmas.Slice.Eq.{bytes_eq-Decides}
use Rattle.std.proofs.lemmas.List.Splits.{join_with_byte-slice_split}
use Rattle.text_lines.specs.Parts.{parts}
use Rattle.session_script.specs.declared.step.Step.{Step}
use Rattle.session_script.specs.declared.step.Step.TheVariants.{Open, Next, Fork, Rewind, Close}
use Rattle.session_script.specs.Names.{is_name_byte, is_name, name_of}
use Rattle.session_script.specs.Words.{is_count, decimal_value, count_of, one_name_step, next_step, fork_step, two_part_step, step_of_parts, step_of}
use Rattle.session_script.specs.Forms.{Says, opens, moves, forks, rewinds, closes, IsSaid}

differs : (p : ℕ → Bool) (b k : ℕ) → p b ≡ true → p k ≡ false → (t : Bool) → eqb b k ≡ t → t ≡ false
differs p b k passes fails true e = absurd (false≢true (sym fails ∙ ap p (sym (eqb-true b k e)) ∙ passes))
differs p b k passes fails false e = refl

-- no space is among bytes that pass a test which a space fails
one_part : (p : ℕ → Bool) → p 32 ≡ false → (text : List ℕ) → list_all p text ≡ true → slice_split (λ b. eqb b 32) text ≡ text ∷ []
one_part p no_space [] h = refl
one_part p no_space (b ∷ bs) h =
    let t = and_parts (p b) (list_all p bs) h in
    rw (differs p b 32 t.0 no_space (eqb b 32) refl, one_part p no_space bs t.1) refl

two_parts : (p : ℕ → Bool) → p 32 ≡ false → (text more : List ℕ) → list_all p text ≡ true → slice_split (λ b. eqb b 32) (text ++ 32 ∷ more) ≡ text ∷ slice_split (λ b. eqb b 32) more
two_parts p no_space [] more h = refl
two_parts p no_space (b ∷ bs) more h =
    let t = and_parts (p b) (list_all p bs) h in
    rw (differs p b 32 t.0 no_space (eqb b 32) refl, two_parts p no_space bs more t.1) refl

name_bytes : (name : List ℕ) → is_name name ≡ true → list_all is_name_byte name ≡ true
name_bytes name h = (and_parts (leb (length name) 32) (list_all is_name_byte name) (and_parts (leb 1 (length name)) (leb (length name) 32 && list_all is_name_byte name) h).1).1

count_bytes : (digits : List ℕ) → is_count digits ≡ true → list_all is_ascii_digit digits ≡ true
count_bytes digits h = (and_parts (leb (length digits) 9) (list_all is_ascii_digit digits) (and_parts (leb 1 (length digits)) (leb (length digits) 9 && list_all is_ascii_digit digits) h).1).1

name_is : (name : List ℕ) → is_name name ≡ true → name_of name ≡ Some name
name_is name h = rw h refl

count_is : (digits : List ℕ) → is_count digits ≡ true → count_of digits ≡ Some (decimal_value digits)
count_is digits h = rw h refl

-- what a line says is read
pub complete : (line : List ℕ) (step : Step) → Says line step → step_of line ≡ Some step
unfolding step_of_parts one_name_step two_part_step next_step fork_step
complete _ _ (opens {name = name} h) = rw (one_part is_name_byte refl name (name_bytes name h), name_is name h) refl
complete _ _ (moves {name = name} digits h k) = rw (two_parts is_name_byte refl name digits (name_bytes name h), one_part is_ascii_digit refl digits (count_bytes digits k), name_is name h, count_is digits k) refl
complete _ _ (forks {name = name} {new = new} h k) = rw (two_parts is_name_byte refl name new (name_bytes name h), one_part is_name_byte refl new (name_bytes new k), name_is name h, name_is new k) refl
complete _ _ (rewinds {name = name} h) = rw (one_part is_name_byte refl name (name_bytes name h), name_is name h) refl
complete _ _ (closes {name = name} h) = rw (one_part is_name_byte refl name (name_bytes name h), name_is name h) refl

-- ---- what is read is said

option_both : {A B : Type 0} (o : Option A) (f : A → Option B) (y : B) → option_and_then f o ≡ Some y → (x : A) × (o ≡ Some x) × (f x ≡ Some y)
option_both None f y e = absurd cc
option_both (Some x) f y e = (x, refl, e)

named : (b : Bool) (text name : List ℕ) → cond b (Some text) None ≡ Some name → (b ≡ true) × (text ≡ name)
named true text name e = (refl, cc)
named false text name e = absurd cc

counted : (b : Bool) (n m : ℕ) → cond b (Some n) None ≡ Some m → (b ≡ true) × (n ≡ m)
counted true n m e = (refl, cc)
counted false n m e = absurd cc

-- the first case that holds
chosen : (b : Bool) (x other : Option Step) (y : Step) → cond b x other ≡ Some y → ((b ≡ true) × (x ≡ Some y)) ⊎ (other ≡ Some y)
chosen true x other y e = inl (refl, e)
chosen false x other y e = inr e

step_as : (line : List ℕ) (x y : Step) → Some x ≡ Some y → Says line x → Says line y
step_as line x y e h = let same : x ≡ y = cc in subst (λ (s : Step). Says line s) same h

said_as : (word wanted text : List ℕ) (x step : Step) → word ≡ wanted → Some x ≡ Some step → Says (wanted ++ 32 ∷ text) x → Says (word ++ 32 ∷ text) step
said_as word wanted text x step e f h = subst (λ (w : List ℕ). Says (w ++ 32 ∷ text) step) (sym e) (step_as (wanted ++ 32 ∷ text) x step f h)

-- a line of two parts
one_name_said : (word text : List ℕ) (step : Step) → one_name_step word text ≡ Some step → Says (word ++ 32 ∷ text) step
unfolding one_name_step
one_name_said word text step e =
    let o = option_both (name_of text) _ step e in
    let n = named (is_name text) text o.0 o.1 in
    let h : is_name o.0 ≡ true = rw n.1 at n.0 in
    subst (λ (t : List ℕ). Says (word ++ 32 ∷ t) step) (sym n.1) (
    ⊎_elim (λ w. said_as word (codes "open") o.0 (Open o.0) step ((bytes_eq-Decides word (codes "open")).0 w.0) w.1 (opens h)) (λ f.
    ⊎_elim (λ w. said_as word (codes "rewind") o.0 (Rewind o.0) step ((bytes_eq-Decides word (codes "rewind")).0 w.0) w.1 (rewinds h)) (λ g.
    ⊎_elim (λ w. said_as word (codes "close") o.0 (Close o.0) step ((bytes_eq-Decides word (codes "close")).0 w.0) w.1 (closes h)) (λ k. absurd cc)
    (chosen (bytes_eq word (codes "close")) (Some (Close o.0)) None step g))
    (chosen (bytes_eq word (codes "rewind")) (Some (Rewind o.0)) _ step f))
    (chosen (bytes_eq word (codes "open")) (Some (Open o.0)) _ step o.2))

next_said : (text digits : List ℕ) (step : Step) → next_step text digits ≡ Some step → Says (codes "next " ++ (text ++ 32 ∷ digits)) step
unfolding next_step
next_said text digits step e =
    let o = option_both (name_of text) _ step e in
    let n = named (is_name text) text o.0 o.1 in
    let d = option_both (count_of digits) _ step o.2 in
    let m = counted (is_count digits) (decimal_value digits) d.0 d.1 in
    let whole : Some (Next text (decimal_value digits)) ≡ Some step = ap (λ (t : List ℕ). Some (Next t (decimal_value digits))) n.1 ∙ ap (λ (k : ℕ). Some (Next o.0 k)) m.1 ∙ d.2 in
    step_as (codes "next " ++ (text ++ 32 ∷ digits)) (Next text (decimal_value digits)) step whole (moves digits n.0 m.0)

fork_said : (text new : List ℕ) (step : Step) → fork_step text new ≡ Some step → Says (codes "fork " ++ (text ++ 32 ∷ new)) step
unfolding fork_step
fork_said text new step e =
    let o = option_both (name_of text) _ step e in
    let n = named (is_name text) text o.0 o.1 in
    let d = option_both (name_of new) _ step o.2 in
    let m = named (is_name new) new d.0 d.1 in
    let whole : Some (Fork text new) ≡ Some step = ap (λ (t : List ℕ). Some (Fork t new)) n.1 ∙ ap (λ (k : List ℕ). Some (Fork o.0 k)) m.1 ∙ d.2 in
    step_as (codes "fork " ++ (text ++ 32 ∷ new)) (Fork text new) step whole (forks n.0 m.0)

two_parts_said : (word first second : List ℕ) (step : Step) → two_part_step word first second ≡ Some step → Says (word ++ 32 ∷ (first ++ 32 ∷ second)) step
unfolding two_part_step
two_parts_said word first second step e =
    ⊎_elim (λ w. rw ((bytes_eq-Decides word (codes "next")).0 w.0) (next_said first second step w.1)) (λ f.
    ⊎_elim (λ w. rw ((bytes_eq-Decides word (codes "fork")).0 w.0) (fork_said first second step w.1)) (λ g. absurd cc)
    (chosen (bytes_eq word (codes "fork")) (fork_step first second) None step f))
    (chosen (bytes_eq word (codes "next")) (next_step first second) _ step e)

parts_said : (ps : List (List ℕ)) (step : Step) → step_of_parts ps ≡ Some step → Says (join_with_byte 32 ps) step
unfolding step_of_parts
parts_said [] step e = absurd cc
parts_said (w ∷ []) step e = absurd cc
parts_said (w ∷ a ∷ []) step e = one_name_said w a step e
parts_said (w ∷ a ∷ b ∷ []) step e = two_parts_said w a b step e
parts_said (w ∷ a ∷ b ∷ c ∷ more) step e = absurd cc

pub sound : (line : List ℕ) (step : Step) → step_of line ≡ Some step → Says line step
sound line step e = subst (λ (l : List ℕ). Says l step) (join_with_byte-slice_split 32 line) (parts_said (parts line) step e)

pub said_by : (line : List ℕ) (o : Option Step) → step_of line ≡ o → IsSaid line o
said_by line None e = λ step h. absurd (let f = complete line step h in cc)
said_by line (Some step) e = sound line step e

pub said_of : (line : List ℕ) (o : Option Step) → o ≡ step_of line → IsSaid line o
said_of line o e = said_by line o (sym e)
