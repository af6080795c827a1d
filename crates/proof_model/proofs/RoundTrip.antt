-- What is written is read as it was, and what is read has the lines that are written of it.
use Rattle.std.proofs.Common.{◌≡◌, ◌⊎◌, ℕ, ◌+◌, Bool, true, false, cond, eqb, List, [], ◌∷◌, ◌++◌, map, length}
use Rattle.std.proofs.Common.{refl, sym, ap, ◌∙◌, subst, inl, inr, arith, append_assoc, length-append, rules}
use Rattle.std.specs.Prelude.{Option, None, Some, Result, Ok, Err, codes, decimal}
use Rattle.std.specs.List.{flat_map}
use Rattle.std.specs.Str.{bytes_eq}
use Rattle.std.specs.Str.Lines.{lines}
use Rattle.std.proofs.lemmas.Bool.{cond-true, eq-eqb, eqb-true}
use Rattle.std.proofs.lemmas.List.{append-nil}
use Rattle.std.proofs.lemmas.Slice.Eq.{bytes_eq-Decides}
use Rattle.proof_model.specs.declared.fault.ProofFault.{ProofFault}
use Rattle.proof_model.specs.declared.fault.ProofFault.TheVariants.{BadHeader, BadLine}
use Rattle.proof_model.specs.Certificate.{BoundLine, AnswerLine, Certificate}
use Rattle.proof_model.specs.Forms.{LineForm, bound, answer, last, line_of}
use Rattle.proof_model.specs.NumberedProofs.{AreBoundsFrom, AreAnswersFrom, IsNumbered}
use Rattle.proof_model.specs.Reading.{Lines, at_last, by_line, certificate_of, no_lines, proof_of, proof_of_lines}
use Rattle.proof_model.specs.Reading.{read_from, with_answer, with_bound}
use Rattle.proof_model.specs.Writing.{answer_text, bound_text, last_text, proof_text, spaced}
use Rattle.proof_model.proofs.FormTexts.{IsForm, above, form_read, form_said, form_text, lines_form, lines_line}
use Rattle.proof_model.proofs.Turns.{turn}

abbrev bound_words : BoundLine → List ℕ
bound_words b = form_text (bound b.node b.rows)

abbrev answer_words : AnswerLine → List ℕ
answer_words a = form_text (answer a.rows)

abbrev texts_of : List BoundLine → List (List ℕ)
texts_of bounds = map bound_words bounds

abbrev listed_of : List AnswerLine → List (List ℕ)
listed_of answers = map answer_words answers

-- the lines of a certificate
abbrev all_lines : Certificate → List (List ℕ)
all_lines c = codes "anyk-proof 1" ∷ (texts_of c.bounds ++ (listed_of c.answers ++ form_text (last c.ended) ∷ []))

-- ---- the lines of the text

ends : (a b rest : List ℕ) → (a ++ (b ++ 10 ∷ [])) ++ rest ≡ (a ++ b) ++ 10 ∷ rest
ends a b rest =
    append_assoc a (b ++ 10 ∷ []) rest ∙ ap (λ (t : List ℕ). a ++ t) (append_assoc b (10 ∷ []) rest)
    ∙ sym (append_assoc a b (10 ∷ rest))

bound_ends : (node : ℕ) (rows rest : List ℕ) → bound_text node rows ++ rest ≡ form_text (bound node rows) ++ 10 ∷ rest
bound_ends node rows rest = ap (λ (t : List ℕ). codes "bound " ++ t) (ends (decimal node) (spaced rows) rest)

answer_ends : (rows rest : List ℕ) → answer_text rows ++ rest ≡ form_text (answer rows) ++ 10 ∷ rest
answer_ends rows rest = ap (λ (t : List ℕ). codes "answer" ++ t) (append_assoc (spaced rows) (10 ∷ []) rest)

lines_bounds : (n : ℕ) (bs : List BoundLine) (rest : List ℕ) → AreBoundsFrom n bs
    → lines (flat_map (λ (b : BoundLine). bound_text b.node b.rows) bs ++ rest) ≡ texts_of bs ++ lines rest
lines_bounds n [] rest h = refl
lines_bounds n (b ∷ bs) rest h =
    let others = flat_map (λ (x : BoundLine). bound_text x.node x.rows) bs in
    ap lines (append_assoc (bound_text b.node b.rows) others rest ∙ bound_ends b.node b.rows (others ++ rest))
    ∙ lines_form (bound b.node b.rows) (others ++ rest) (h.1, h.2)
    ∙ ap (λ (ls : List (List ℕ)). bound_words b ∷ ls) (lines_bounds (n + 1) bs rest h.3)

lines_answers : (n : ℕ) (xs : List AnswerLine) (rest : List ℕ) → AreAnswersFrom n xs
    → lines (flat_map (λ (a : AnswerLine). answer_text a.rows) xs ++ rest) ≡ listed_of xs ++ lines rest
lines_answers n [] rest h = refl
lines_answers n (a ∷ xs) rest h =
    let others = flat_map (λ (x : AnswerLine). answer_text x.rows) xs in
    ap lines (append_assoc (answer_text a.rows) others rest ∙ answer_ends a.rows (others ++ rest))
    ∙ lines_form (answer a.rows) (others ++ rest) h.1
    ∙ ap (λ (ls : List (List ℕ)). answer_words a ∷ ls) (lines_answers (n + 1) xs rest h.2)

lines_last : (ended : Bool) → lines (last_text ended) ≡ form_text (last ended) ∷ []
lines_last true = refl
lines_last false = refl

lines_header : (rest : List ℕ) → lines (codes "anyk-proof 1\n" ++ rest) ≡ codes "anyk-proof 1" ∷ lines rest
lines_header rest = lines_line (codes "anyk-proof 1") rest (above 31 (codes "anyk-proof 1") refl)

pub text_lines : (c : Certificate) → IsNumbered c → lines (proof_text c) ≡ all_lines c
text_lines c h =
    lines_header (flat_map (λ (b : BoundLine). bound_text b.node b.rows) c.bounds
    ++ (flat_map (λ (a : AnswerLine). answer_text a.rows) c.answers ++ last_text c.ended))
    ∙ ap (λ (ls : List (List ℕ)). codes "anyk-proof 1" ∷ ls)
    (lines_bounds 2 c.bounds (flat_map (λ (a : AnswerLine). answer_text a.rows) c.answers ++ last_text c.ended) h.0
    ∙ ap (λ (ls : List (List ℕ)). texts_of c.bounds ++ ls)
    (lines_answers (2 + length c.bounds) c.answers (last_text c.ended) h.1
    ∙ ap (λ (ls : List (List ℕ)). listed_of c.answers ++ ls) (lines_last c.ended)))

-- ---- what is written is read

-- with more bounds
abbrev more_bounds : Lines → List BoundLine → Lines
more_bounds read bs = record { bounds = read.bounds ++ bs; answers = read.answers }

abbrev more_answers : Lines → List AnswerLine → Lines
more_answers read xs = record { bounds = read.bounds; answers = read.answers ++ xs }

read_bound : (n : ℕ) (read : Lines) (b : BoundLine) (more : List (List ℕ)) → b.line ≡ n → IsForm (bound b.node b.rows)
    → length read.answers ≡ 0
    → read_from n read (bound_words b ∷ more) ≡ read_from (n + 1) (more_bounds read (b ∷ [])) more
read_bound n read b more at h none =
    let later : Lines → Result Certificate ProofFault = λ after. read_from (n + 1) after more in
    turn n read (bound_words b ∷ more) (bound_words b) more refl
    ∙ ap (λ (o : Option LineForm). by_line n read o more later) (form_read (bound b.node b.rows) h)
    ∙ cond-true (eqb (length read.answers) 0) (later (with_bound n read b.node b.rows)) (Err (BadLine n))
    (eq-eqb (length read.answers) 0 none)
    ∙ ap (λ (k : ℕ). later (more_bounds read (record { line = k; node = b.node; rows = b.rows } ∷ []))) (sym at)

read_answer : (n : ℕ) (read : Lines) (a : AnswerLine) (more : List (List ℕ)) → a.line ≡ n → IsForm (answer a.rows)
    → read_from n read (answer_words a ∷ more) ≡ read_from (n + 1) (more_answers read (a ∷ [])) more
read_answer n read a more at h =
    let later : Lines → Result Certificate ProofFault = λ after. read_from (n + 1) after more in
    turn n read (answer_words a ∷ more) (answer_words a) more refl
    ∙ ap (λ (o : Option LineForm). by_line n read o more later) (form_read (answer a.rows) h)
    ∙ ap (λ (k : ℕ). later (more_answers read (record { line = k; rows = a.rows } ∷ []))) (sym at)

read_bounds : (n : ℕ) (read : Lines) (bs : List BoundLine) (more : List (List ℕ)) → AreBoundsFrom n bs
    → length read.answers ≡ 0
    → read_from n read (texts_of bs ++ more) ≡ read_from (n + length bs) (more_bounds read bs) more
read_bounds n read [] more h none =
    let e : n ≡ n + 0 = omega arith in
    ap (λ (k : ℕ). read_from k read more) e
    ∙ ap (λ (bs : List BoundLine). read_from (n + 0) (record { bounds = bs; answers = read.answers }) more)
    (sym (append-nil read.bounds))
read_bounds n read (b ∷ bs) more h none =
    let e : n + 1 + length bs ≡ n + length (b ∷ bs) = omega arith in
    read_bound n read b (texts_of bs ++ more) h.0 (h.1, h.2) none
    ∙ read_bounds (n + 1) (more_bounds read (b ∷ [])) bs more h.3 none
    ∙ ap (λ (k : ℕ). read_from k (more_bounds (more_bounds read (b ∷ [])) bs) more) e
    ∙ ap (λ (xs : List BoundLine). read_from (n + length (b ∷ bs))
    (record { bounds = xs; answers = read.answers }) more) (append_assoc read.bounds (b ∷ []) bs)

read_answers : (n : ℕ) (read : Lines) (xs : List AnswerLine) (more : List (List ℕ)) → AreAnswersFrom n xs
    → read_from n read (listed_of xs ++ more) ≡ read_from (n + length xs) (more_answers read xs) more
read_answers n read [] more h =
    let e : n ≡ n + 0 = omega arith in
    ap (λ (k : ℕ). read_from k read more) e
    ∙ ap (λ (xs : List AnswerLine). read_from (n + 0) (record { bounds = read.bounds; answers = xs }) more)
    (sym (append-nil read.answers))
read_answers n read (a ∷ xs) more h =
    let e : n + 1 + length xs ≡ n + length (a ∷ xs) = omega arith in
    read_answer n read a (listed_of xs ++ more) h.0 h.1
    ∙ read_answers (n + 1) (more_answers read (a ∷ [])) xs more h.2
    ∙ ap (λ (k : ℕ). read_from k (more_answers (more_answers read (a ∷ [])) xs) more) e
    ∙ ap (λ (ys : List AnswerLine). read_from (n + length (a ∷ xs))
    (record { bounds = read.bounds; answers = ys }) more) (append_assoc read.answers (a ∷ []) xs)

read_last : (n : ℕ) (read : Lines) (ended : Bool)
    → read_from n read (form_text (last ended) ∷ []) ≡ Ok (certificate_of read ended)
read_last n read ended =
    turn n read (form_text (last ended) ∷ []) (form_text (last ended)) [] refl
    ∙ ap (λ (o : Option LineForm). by_line n read o [] (λ after. read_from (n + 1) after []))
    (form_read (last ended) tt)

pub written_read : (c : Certificate) → IsNumbered c → proof_of (proof_text c) ≡ Ok c
written_read c h =
    ap proof_of_lines (text_lines c h)
    ∙ read_bounds 2 no_lines c.bounds (listed_of c.answers ++ form_text (last c.ended) ∷ []) h.0 refl
    ∙ read_answers (2 + length c.bounds) (more_bounds no_lines c.bounds) c.answers (form_text (last c.ended) ∷ []) h.1
    ∙ read_last (2 + length c.bounds + length c.answers)
    (more_answers (more_bounds no_lines c.bounds) c.answers) c.ended

-- ---- what is read is written

-- what the lines from number n on add to what was read
record Adds (n : ℕ) (read : Lines) (ls : List (List ℕ)) (c : Certificate) : Type 0 where
  bounds : List BoundLine
  answers : List AnswerLine
  all_bounds : c.bounds ≡ read.bounds ++ bounds
  all_answers : c.answers ≡ read.answers ++ answers
  are_bounds : AreBoundsFrom n bounds
  are_answers : AreAnswersFrom (n + length bounds) answers
  are_lines : ls ≡ texts_of bounds ++ (listed_of answers ++ form_text (last c.ended) ∷ [])
  apart : (length read.answers ≡ 0) ⊎ (bounds ≡ [])

last_ok : (n : ℕ) (proof c : Certificate) (more : List (List ℕ)) → at_last n proof more ≡ Ok c
    → (more ≡ []) × (proof ≡ c)
last_ok n proof c [] h = (refl, cc)
last_ok n proof c (text ∷ more) h = absurd cc

bound_ok : (none : Bool) (n : ℕ) (r : Result Certificate ProofFault) (c : Certificate)
    → cond none r (Err (BadLine n)) ≡ Ok c → (none ≡ true) × (r ≡ Ok c)
bound_ok true n r c h = (refl, h)
bound_ok false n r c h = absurd cc

add_last : (n : ℕ) (read : Lines) (text : List ℕ) (more : List (List ℕ)) (c : Certificate) (ended : Bool)
    → text ≡ form_text (last ended)
    → at_last n (certificate_of read ended) more ≡ Ok c → Adds n read (text ∷ more) c
add_last n read text more c ended is h =
    let o = last_ok n (certificate_of read ended) c more h in
    subst (λ d. Adds n read (text ∷ more) d) o.1 (record {
      bounds = [];
      answers = [];
      all_bounds = sym (append-nil read.bounds);
      all_answers = sym (append-nil read.answers);
      are_bounds = tt;
      are_answers = tt;
      are_lines = λ i. is i ∷ o.0 i;
      apart = inr refl;
    })

add_bound : (n : ℕ) (read : Lines) (text : List ℕ) (more : List (List ℕ)) (c : Certificate) (node : ℕ) (rows : List ℕ)
    → text ≡ form_text (bound node rows) → IsForm (bound node rows) → length read.answers ≡ 0
    → Adds (n + 1) (with_bound n read node rows) more c → Adds n read (text ∷ more) c
add_bound n read text more c node rows is form none r =
    let b : BoundLine = record { line = n; node = node; rows = rows } in
    let e : n + 1 + length r.bounds ≡ n + length (b ∷ r.bounds) = omega arith in
    record {
      bounds = b ∷ r.bounds;
      answers = r.answers;
      all_bounds = r.all_bounds ∙ append_assoc read.bounds (b ∷ []) r.bounds;
      all_answers = r.all_answers;
      are_bounds = (refl, form.0, form.1, r.are_bounds);
      are_answers = subst (λ k. AreAnswersFrom k r.answers) e r.are_answers;
      are_lines = λ i. is i ∷ r.are_lines i;
      apart = inl none;
    }

none_after : (answers : List AnswerLine) (a : AnswerLine) (bs : List BoundLine)
    → (length (answers ++ a ∷ []) ≡ 0) ⊎ (bs ≡ []) → bs ≡ []
none_after answers a bs (inl z) = absurd (omega (arith, length-append answers (a ∷ []), z))
none_after answers a bs (inr e) = e

add_answer : (n : ℕ) (read : Lines) (text : List ℕ) (more : List (List ℕ)) (c : Certificate) (rows : List ℕ)
    → text ≡ form_text (answer rows) → IsForm (answer rows)
    → Adds (n + 1) (with_answer n read rows) more c → Adds n read (text ∷ more) c
add_answer n read text more c rows is form r =
    let a : AnswerLine = record { line = n; rows = rows } in
    let none : r.bounds ≡ [] = none_after read.answers a r.bounds r.apart in
    let at : n + 1 + length r.bounds ≡ n + 1 = ap (λ (bs : List BoundLine). n + 1 + length bs) none
    ∙ (let z : n + 1 + 0 ≡ n + 1 = omega arith in z) in
    let first : n ≡ n + 0 = omega arith in
    let later : more ≡ listed_of r.answers ++ form_text (last c.ended) ∷ [] =
    r.are_lines ∙ ap (λ (bs : List BoundLine). texts_of bs ++ (listed_of r.answers ++ form_text
    (last c.ended) ∷ [])) none in
    record {
      bounds = [];
      answers = a ∷ r.answers;
      all_bounds = r.all_bounds ∙ ap (λ (bs : List BoundLine). read.bounds ++ bs) none;
      all_answers = r.all_answers ∙ append_assoc read.answers (a ∷ []) r.answers;
      are_bounds = tt;
      are_answers = subst (λ k. AreAnswersFrom k (a ∷ r.answers)) first
          (refl, form, subst (λ k. AreAnswersFrom k r.answers) at r.are_answers);
      are_lines = λ i. is i ∷ later i;
      apart = inr refl;
    }

add_by : (n : ℕ) (read : Lines) (text : List ℕ) (more : List (List ℕ)) (c : Certificate) (o : Option LineForm)
    → ((after : Lines) → read_from (n + 1) after more ≡ Ok c → Adds (n + 1) after more c)
    → line_of text ≡ o → by_line n read o more (λ after. read_from (n + 1) after more) ≡ Ok c
    → Adds n read (text ∷ more) c
add_by n read text more c None ih e h = absurd cc
add_by n read text more c (Some (last ended)) ih e h =
    add_last n read text more c ended (form_said text (last ended) e).1 h
add_by n read text more c (Some (bound node rows)) ih e h =
    let s = form_said text (bound node rows) e in
    let o = bound_ok (eqb (length read.answers) 0) n (read_from (n + 1) (with_bound n read node rows) more) c h in
    add_bound n read text more c node rows s.1 s.0 (eqb-true (length read.answers) 0 o.0)
    (ih (with_bound n read node rows) o.1)
add_by n read text more c (Some (answer rows)) ih e h =
    let s = form_said text (answer rows) e in
    add_answer n read text more c rows s.1 s.0 (ih (with_answer n read rows) h)

no_end : (n : ℕ) (read : Lines) (c : Certificate) → read_from n read [] ≡ Ok c → Adds n read [] c
unfolding read_from
no_end n read c h = absurd cc

adds : (ls : List (List ℕ)) (n : ℕ) (read : Lines) (c : Certificate) → read_from n read ls ≡ Ok c → Adds n read ls c
adds [] n read c h = no_end n read c h
adds (text ∷ more) n read c h =
    add_by n read text more c (line_of text) (λ after e. adds more (n + 1) after c e) refl
    (sym (turn n read (text ∷ more) text more refl) ∙ h)

header_ok : (same : Bool) (r : Result Certificate ProofFault) (c : Certificate) → cond same r (Err BadHeader) ≡ Ok c
    → (same ≡ true) × (r ≡ Ok c)
header_ok true r c h = (refl, h)
header_ok false r c h = absurd cc

header_is : (first : List ℕ) → bytes_eq first (codes "anyk-proof 1") ≡ true → first ≡ codes "anyk-proof 1"
header_is first h = search (rules, bytes_eq-Decides)

pub lines_read : (ls : List (List ℕ)) (c : Certificate) → proof_of_lines ls ≡ Ok c → IsNumbered c × (ls ≡ all_lines c)
lines_read [] c h = absurd cc
lines_read (first ∷ more) c h =
    let o = header_ok (bytes_eq first (codes "anyk-proof 1")) (read_from 2 no_lines more) c h in
    let r = adds more 2 no_lines c o.1 in
    let all : more ≡ texts_of c.bounds ++ (listed_of c.answers ++ form_text (last c.ended) ∷ []) =
    r.are_lines
    ∙ ap (λ (bs : List BoundLine). texts_of bs ++ (listed_of r.answers ++ form_text (last c.ended) ∷ []))
    (sym r.all_bounds)
    ∙ ap (λ (xs : List AnswerLine). texts_of c.bounds ++ (listed_of xs ++ form_text (last c.ended) ∷ []))
    (sym r.all_answers) in (
      (
        subst (AreBoundsFrom 2) (sym r.all_bounds) r.are_bounds,
        subst (λ bs. AreAnswersFrom (2 + length bs) c.answers) (sym r.all_bounds)
            (subst (AreAnswersFrom (2 + length r.bounds)) (sym r.all_answers) r.are_answers),
      ),
      λ i. (header_is first o.0) i ∷ all i,
    )

-- so the lines are those of the text that is written
pub read_written : (bytes : List ℕ) (c : Certificate) → proof_of bytes ≡ Ok c
    → IsNumbered c × (lines (proof_text c) ≡ lines bytes)
read_written bytes c h =
    let r = lines_read (lines bytes) c h in
    (r.0, text_lines c r.0 ∙ sym r.1)
