-- The text of a line, and what it says.
use Rattle.std.proofs.Common.{◌≡◌, ◌⊎◌, ℕ, ◌-◌, ◌<◌, Bool, true, false, cond, eqb, ltb, List, [], ◌∷◌, ◌++◌, map}
use Rattle.std.proofs.Common.{length}
use Rattle.std.proofs.Common.{get_or, refl, sym, ap, ◌∙◌, subst, inl, inr, arith}
use Rattle.std.specs.Prelude.{Option, None, Some, option_and_then, decimal, codes, if◌then◌else◌, slice_index}
use Rattle.std.specs.List.{list_all, All, AllByRecursion, join_with_byte, slice_split}
use Rattle.std.specs.Str.{bytes_eq}
use Rattle.std.specs.Str.Lines.{lines, lines_of_parts, strip_carriage_return}
use Rattle.std.proofs.lemmas.Bool.{cond-false, ltb-true, ne_eqb}
use Rattle.std.proofs.lemmas.List.{append-nil, length-map}
use Rattle.std.proofs.lemmas.List.Elements.{All-append, All-cons, All-get_or, All-nil, All-weaker}
use Rattle.std.proofs.lemmas.List.Splits.{slice_split_at, slice_split_none, length-slice_split}
use Rattle.std.proofs.lemmas.List.Splits.{join_with_byte-slice_split}
use Rattle.std.proofs.lemmas.List.Sums.{AllPass-from_list_all}
use Rattle.std.proofs.lemmas.Slice.Eq.{bytes_eq-Decides}
use Rattle.text_lines.specs.Parts.{parts}
use Rattle.text_lines.proofs.Cuts.{lines_cut}
use Rattle.proof_model.specs.Forms.{LineForm, bound, answer, last, bound_line, answer_line, numbers_line, numbers_of}
use Rattle.proof_model.specs.Forms.{line_of, line_of_parts}
use Rattle.proof_model.specs.NumberedProofs.{IsShort, AreRows}
use Rattle.proof_model.specs.Writing.{spaced}
use Rattle.proof_model.proofs.Numbers.{ink_decimal, numbers_written, numbers_read}
use Rattle.proof_model.proofs.Turns.{many_parts}

abbrev pub form_text : LineForm → List ℕ
form_text (bound node rows) = codes "bound" ++ spaced (node ∷ rows)
form_text (answer rows) = codes "answer" ++ spaced rows
form_text (last ended) = if ended then codes "end" else codes "more"

-- a line with rows has at least one, and its numbers are short
abbrev pub IsForm : LineForm → Type 0
IsForm (bound node rows) = IsShort node × AreRows rows
IsForm (answer rows) = AreRows rows
IsForm (last ended) = Unit {0}

-- ---- the parts of a line that is written

pub parts_spaced : (w : List ℕ) (ns : List ℕ) → All (λ b. 32 < b) w → AllByRecursion IsShort ns
    → parts (w ++ spaced ns) ≡ w ∷ map decimal ns
parts_spaced w [] ink h =
    ap parts (append-nil w)
    ∙ slice_split_none (λ b. eqb b 32) w
    (All-weaker (λ b. 32 < b) (λ b. eqb b 32 ≡ false) (λ b l. ne_eqb b 32 (λ e. omega (arith, e, l))) w ink)
parts_spaced w (n ∷ ns) ink h =
    slice_split_at (λ b. eqb b 32) w 32 (decimal n ++ spaced ns)
    (All-weaker (λ b. 32 < b) (λ b. eqb b 32 ≡ false) (λ b l. ne_eqb b 32 (λ e. omega (arith, e, l))) w ink) refl
    ∙ ap (λ (ps : List (List ℕ)). w ∷ ps) (parts_spaced (decimal n) ns (ink_decimal n h.0) h.1)

joined : (w : List ℕ) (ns : List ℕ) → join_with_byte 32 (w ∷ map decimal ns) ≡ w ++ spaced ns
joined w [] = sym (append-nil w)
joined w (n ∷ ns) = ap (λ (t : List ℕ). w ++ 32 ∷ t) (joined (decimal n) ns)

word_line : (w : List ℕ) (ns : List ℕ) → All (λ b. 32 < b) w → AllByRecursion IsShort ns → 0 < length ns
    → line_of (w ++ spaced ns) ≡ numbers_line w (map decimal ns)
word_line w ns ink h some =
    ap line_of_parts (parts_spaced w ns ink h)
    ∙ many_parts w (map decimal ns) (omega (arith, length-map ns decimal, some))

-- all bytes of a text are greater than n
pub above : (n : ℕ) (w : List ℕ) → list_all (λ b. ltb n b) w ≡ true → All (λ b. n < b) w
above n w h =
    All-weaker (λ b. ltb n b ≡ true) (λ b. n < b) (λ b e. ltb-true n b e) w (AllPass-from_list_all (λ b. ltb n b) w h)

ink_bound : All (λ b. 32 < b) (codes "bound")
ink_bound = above 32 (codes "bound") refl

ink_answer : All (λ b. 32 < b) (codes "answer")
ink_answer = above 32 (codes "answer") refl

bound_again : (node : ℕ) (rows : List ℕ) → 0 < length rows → bound_line (node ∷ rows) ≡ Some (bound node rows)
bound_again node [] h = absurd (omega arith)
bound_again node (r ∷ rows) h = refl

answer_again : (rows : List ℕ) → 0 < length rows → answer_line rows ≡ Some (answer rows)
answer_again [] h = absurd (omega arith)
answer_again (r ∷ rows) h = refl

last_again : (ended : Bool) → line_of (form_text (last ended)) ≡ Some (last ended)
unfolding line_of_parts
last_again true = refl
last_again false = refl

-- what is written is read
pub form_read : (f : LineForm) → IsForm f → line_of (form_text f) ≡ Some f
form_read (bound node rows) h =
    word_line (codes "bound") (node ∷ rows) ink_bound (h.0, h.1.1) (omega arith)
    ∙ ap (λ (o : Option (List ℕ)). option_and_then bound_line o) (numbers_written (node ∷ rows) (h.0, h.1.1))
    ∙ bound_again node rows h.1.0
form_read (answer rows) h =
    word_line (codes "answer") rows ink_answer h.1 h.0
    ∙ ap (λ (o : Option (List ℕ)). option_and_then answer_line o) (numbers_written rows h.1)
    ∙ answer_again rows h.0
form_read (last ended) h = last_again ended

-- ---- what is read is written

last_by : (more over : Bool) (f : LineForm)
    → cond more (Some (last false)) (cond over (Some (last true)) None) ≡ Some f
    → ((more ≡ true) × (f ≡ last false)) ⊎ ((over ≡ true) × (f ≡ last true))
last_by true over f h = inl (refl, cc)
last_by false true f h = inr (refl, cc)
last_by false false f h = absurd cc

record Numbers (first : Bool) (o : Option (List ℕ)) (form : List ℕ → Option LineForm) (f : LineForm) : Type 0 where
  is : first ≡ true
  numbers : List ℕ
  are : o ≡ Some numbers
  formed : form numbers ≡ Some f

numbers_by : (b a : Bool) (o : Option (List ℕ)) (f : LineForm)
    → cond b (option_and_then bound_line o) (cond a (option_and_then answer_line o) None) ≡ Some f
    → Numbers b o bound_line f ⊎ Numbers a o answer_line f
numbers_by true a (Some ns) f h = inl (record { is = refl; numbers = ns; are = refl; formed = h })
numbers_by true a None f h = absurd cc
numbers_by false true (Some ns) f h = inr (record { is = refl; numbers = ns; are = refl; formed = h })
numbers_by false true None f h = absurd cc
numbers_by false false o f h = absurd cc

bound_by : (ns : List ℕ) (f : LineForm) → bound_line ns ≡ Some f → AllByRecursion IsShort ns
    → IsForm f × (codes "bound" ++ spaced ns ≡ form_text f)
bound_by [] f h all = absurd cc
bound_by (n ∷ []) f h all = absurd cc
bound_by (n ∷ r ∷ rs) f h all =
    let e : bound n (r ∷ rs) ≡ f = cc in
    subst (λ g. IsForm g × (codes "bound" ++ spaced (n ∷ r ∷ rs) ≡ form_text g)) e
    ((all.0, (omega arith, all.1)), refl)

answer_by : (ns : List ℕ) (f : LineForm) → answer_line ns ≡ Some f → AllByRecursion IsShort ns
    → IsForm f × (codes "answer" ++ spaced ns ≡ form_text f)
answer_by [] f h all = absurd cc
answer_by (r ∷ rs) f h all =
    let e : answer (r ∷ rs) ≡ f = cc in
    subst (λ g. IsForm g × (codes "answer" ++ spaced (r ∷ rs) ≡ form_text g)) e ((omega arith, all), refl)

said_by : (ps : List (List ℕ)) (f : LineForm) → line_of_parts ps ≡ Some f
    → IsForm f × (join_with_byte 32 ps ≡ form_text f)
unfolding line_of_parts
said_by [] f h = absurd cc
said_by (w ∷ []) f h = elim (last_by (bytes_eq w (codes "more")) (bytes_eq w (codes "end")) f h) [
  | inl m ↦ subst (λ g. IsForm g × (w ≡ form_text g)) (sym m.1) (tt, (bytes_eq-Decides w (codes "more")).0 m.0)
  | inr m ↦ subst (λ g. IsForm g × (w ≡ form_text g)) (sym m.1) (tt, (bytes_eq-Decides w (codes "end")).0 m.0)
]
said_by (w ∷ p ∷ ps) f h =
    elim (numbers_by (bytes_eq w (codes "bound")) (bytes_eq w (codes "answer")) (numbers_of (p ∷ ps)) f h) [
      | inl m ↦
          let r = numbers_read (p ∷ ps) m.numbers m.are in
          let b = bound_by m.numbers f m.formed r.1 in (
            b.0,
            ap (λ (ts : List (List ℕ)). join_with_byte 32 (w ∷ ts)) r.0 ∙ joined w m.numbers
                ∙ ap (λ (v : List ℕ). v ++ spaced m.numbers) ((bytes_eq-Decides w (codes "bound")).0 m.is) ∙ b.1,
          )
      | inr m ↦
          let r = numbers_read (p ∷ ps) m.numbers m.are in
          let b = answer_by m.numbers f m.formed r.1 in (
            b.0,
            ap (λ (ts : List (List ℕ)). join_with_byte 32 (w ∷ ts)) r.0 ∙ joined w m.numbers
                ∙ ap (λ (v : List ℕ). v ++ spaced m.numbers) ((bytes_eq-Decides w (codes "answer")).0 m.is) ∙ b.1,
          )
    ]

pub form_said : (text : List ℕ) (f : LineForm) → line_of text ≡ Some f → IsForm f × (text ≡ form_text f)
form_said text f h =
    let s = said_by (parts text) f h in
    (s.0, sym (join_with_byte-slice_split 32 text) ∙ s.1)

-- ---- lines

clean_spaced : (ns : List ℕ) → AllByRecursion IsShort ns → All (λ b. 31 < b) (spaced ns)
clean_spaced [] h = All-nil (λ b. 31 < b)
clean_spaced (n ∷ ns) h =
    All-cons (λ b. 31 < b) 32 (decimal n ++ spaced ns) (omega arith)
    (All-append (λ b. 31 < b) (decimal n) (spaced ns)
    (All-weaker (λ b. 32 < b) (λ b. 31 < b) (λ b l. omega (arith, l)) (decimal n) (ink_decimal n h.0))
    (clean_spaced ns h.1))

clean_word : (w : List ℕ) (ns : List ℕ) → All (λ b. 32 < b) w → AllByRecursion IsShort ns
    → All (λ b. 31 < b) (w ++ spaced ns)
clean_word w ns ink h =
    All-append (λ b. 31 < b) w (spaced ns) (All-weaker (λ b. 32 < b) (λ b. 31 < b) (λ b l. omega (arith, l)) w ink)
    (clean_spaced ns h)

clean_last : (ended : Bool) → All (λ b. 31 < b) (form_text (last ended))
clean_last true = above 31 (codes "end") refl
clean_last false = above 31 (codes "more") refl

clean : (f : LineForm) → IsForm f → All (λ b. 31 < b) (form_text f)
clean (bound node rows) h = clean_word (codes "bound") (node ∷ rows) ink_bound (h.0, h.1.1)
clean (answer rows) h = clean_word (codes "answer") rows ink_answer h.1
clean (last ended) h = clean_last ended

kept : (x : List ℕ) → All (λ b. 31 < b) x → strip_carriage_return x ≡ x
kept [] h = refl
kept (b ∷ bs) h =
    let x : List ℕ = b ∷ bs in
    let at : 31 < get_or x (length x - 1) 0 = All-get_or (λ c. 31 < c) x (length x - 1) 0 (omega arith) h in
    cond-false _ _ _ (ne_eqb (slice_index x (length x - 1)) 13 (λ e. omega (arith, e, at)))

pub lines_line : (x rest : List ℕ) → All (λ b. 31 < b) x → lines (x ++ 10 ∷ rest) ≡ x ∷ lines rest
lines_line x rest h =
    ap lines_of_parts (slice_split_at (λ b. eqb b 10) x 10 rest
    (All-weaker (λ b. 31 < b) (λ b. eqb b 10 ≡ false) (λ b l. ne_eqb b 10 (λ e. omega (arith, e, l))) x h) refl)
    ∙ lines_cut x (slice_split (λ b. eqb b 10) rest) (omega (arith, length-slice_split (λ b. eqb b 10) rest))
    ∙ ap (λ (y : List ℕ). y ∷ lines rest) (kept x h)

pub lines_form : (f : LineForm) (rest : List ℕ) → IsForm f
    → lines (form_text f ++ 10 ∷ rest) ≡ form_text f ∷ lines rest
lines_form f rest h = lines_line (form_text f) rest (clean f h)
