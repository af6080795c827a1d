-- The history of texts of parts.
use Rattle.std.proofs.Common.{◌≡◌, ◌≤◌, ◌+◌, ◌-◌, ℕ, List, [], ◌∷◌, ◌++◌, length, map, Some, true, refl, ap, ◌∙◌, subst, append_assoc, append-nil, arith}
use Rattle.std.specs.List.{list_all}
use Rattle.std.specs.Char.{is_ascii_digit}
use Rattle.request_frames.specs.Frames.{value_of}
use Rattle.reply_parts.specs.Heads.{end_word, word_of}
use Rattle.reply_parts.specs.History.{start, body, after, items, greeting, history}
use Rattle.reply_parts.specs.Known.{more_of, told}
use Rattle.reply_parts.specs.Parts.{AreParts, none, output, errors, ending, IsPartHead}
use Rattle.reply_parts.specs.declared.mark.Mark.{Mark}
use Rattle.reply_parts.specs.declared.mark.Mark.TheVariants as mark
use Rattle.reply_parts.proofs.Digits.{after_part_head, items_part_head, after_end_head, items_end_head}
use Rattle.reply_parts.proofs.Reading.{after-append, items-append, after_body, items_body, items_in_head}
use Rattle.reply_parts.proofs.Telling.{known_there}

-- bytes that lead from a place to another, and what they give
pub record Leads (text given : List ℕ) : Type 0 where
  pub place : after start text ≡ start
  pub gives : items start text ≡ given

-- eight digits, one by one
eight_of : (P : List ℕ → Type 0) (ds : List ℕ) → length ds ≡ 8 → ((a b c d e f g h : ℕ) → P (a ∷ b ∷ c ∷ d ∷ e ∷ f ∷ g ∷ h ∷ [])) → P ds
eight_of P [] long each = absurd (omega (arith, long))
eight_of P (a ∷ []) long each = absurd (omega (arith, long))
eight_of P (a ∷ b ∷ []) long each = absurd (omega (arith, long))
eight_of P (a ∷ b ∷ c ∷ []) long each = absurd (omega (arith, long))
eight_of P (a ∷ b ∷ c ∷ d ∷ []) long each = absurd (omega (arith, long))
eight_of P (a ∷ b ∷ c ∷ d ∷ e ∷ []) long each = absurd (omega (arith, long))
eight_of P (a ∷ b ∷ c ∷ d ∷ e ∷ f ∷ []) long each = absurd (omega (arith, long))
eight_of P (a ∷ b ∷ c ∷ d ∷ e ∷ f ∷ g ∷ []) long each = absurd (omega (arith, long))
eight_of P (a ∷ b ∷ c ∷ d ∷ e ∷ f ∷ g ∷ h ∷ []) long each = each a b c d e f g h
eight_of P (a ∷ b ∷ c ∷ d ∷ e ∷ f ∷ g ∷ h ∷ i ∷ more) long each = absurd (omega (arith, long))

abbrev ReadsHead : Mark → List ℕ → Type 0
ReadsHead m ds = list_all is_ascii_digit ds ≡ true
    → (after start (word_of m ++ (ds ++ 10 ∷ [])) ≡ body (more_of m) (value_of ds)) × (items start (word_of m ++ (ds ++ 10 ∷ [])) ≡ [])

reads_head : (m : Mark) (ds : List ℕ) → length ds ≡ 8 → ReadsHead m ds
reads_head m ds long = eight_of (ReadsHead m) ds long (λ a b c d e f g h are. (after_part_head a b c d e f g h are m, items_part_head a b c d e f g h are m))

abbrev ReadsEnd : List ℕ → Type 0
ReadsEnd ds = list_all is_ascii_digit ds ≡ true
    → (after start (end_word ++ (ds ++ 10 ∷ [])) ≡ start) × (items start (end_word ++ (ds ++ 10 ∷ [])) ≡ (512 + value_of ds) ∷ [])

reads_end : (ds : List ℕ) → length ds ≡ 8 → ReadsEnd ds
reads_end ds long = eight_of ReadsEnd ds long (λ a b c d e f g h are. (after_end_head a b c d e f g h are, items_end_head a b c d e f g h are))

-- a head of a part and some of its bytes
after_part : (m : Mark) (head bytes : List ℕ) (size : ℕ) → IsPartHead (word_of m) head size → length bytes ≤ size
    → after start (head ++ bytes) ≡ body (more_of m) (size - length bytes)
after_part m head bytes size h fits =
    let r = reads_head m h.digits h.eight h.are_digits in
    after-append start head bytes ∙ ap (λ p. after p bytes) (ap (after start) h.parts ∙ r.0 ∙ ap (body (more_of m)) h.writes)
    ∙ after_body (more_of m) size (size - length bytes) bytes (omega (arith, fits))

items_part : (m : Mark) (head bytes : List ℕ) (size : ℕ) → IsPartHead (word_of m) head size → length bytes ≤ size
    → items start (head ++ bytes) ≡ map (λ b. b + more_of m) bytes
items_part m head bytes size h fits =
    let r = reads_head m h.digits h.eight h.are_digits in
    items-append start head bytes ∙ ap (λ l. l ++ items (after start head) bytes) (ap (items start) h.parts ∙ r.1)
    ∙ ap (λ p. items p bytes) (ap (after start) h.parts ∙ r.0 ∙ ap (body (more_of m)) h.writes) ∙ items_body (more_of m) size bytes fits

after_end : (head : List ℕ) (status : ℕ) → IsPartHead end_word head status → after start head ≡ start
after_end head status h = ap (after start) h.parts ∙ (reads_end h.digits h.eight h.are_digits).0

items_end : (head : List ℕ) (status : ℕ) → IsPartHead end_word head status → items start head ≡ (512 + status) ∷ []
items_end head status h = ap (items start) h.parts ∙ (reads_end h.digits h.eight h.are_digits).1 ∙ ap (λ n. (512 + n) ∷ []) h.writes

-- a text after one that leads back
leads_on : (front text given items_of : List ℕ) → Leads front given → Leads text items_of → Leads (front ++ text) (given ++ items_of)
leads_on front text given items_of first second = record {
  place = after-append start front text ∙ ap (λ p. after p text) first.place ∙ second.place;
  gives =
      items-append start front text ∙ ap (λ l. l ++ items (after start front) text) first.gives ∙ ap (λ p. given ++ items p text) first.place
      ∙ ap (λ l. given ++ l) second.gives;
}

whole_part : (m : Mark) (head bytes : List ℕ) → IsPartHead (word_of m) head (length bytes) → Leads (head ++ bytes) (map (λ b. b + more_of m) bytes)
whole_part m head bytes h = record {
  place = after_part m head bytes (length bytes) h (omega arith) ∙ ap (body (more_of m)) (none_left (length bytes));
  gives = items_part m head bytes (length bytes) h (omega arith);
}
  where
    none_left : (n : ℕ) → n - n ≡ 0
    none_left n = omega arith

as_they_are : (bytes : List ℕ) → map (λ b. b + 0) bytes ≡ bytes
as_they_are [] = refl
as_they_are (b ∷ bs) = let e : b + 0 ≡ b = omega arith in ap (λ x. x ∷ map (λ b. b + 0) bs) e ∙ ap (λ l. b ∷ l) (as_they_are bs)

-- whole parts
pub parts_lead : (text given : List ℕ) → AreParts text given → Leads text given
parts_lead _ _ none = record { place = refl; gives = refl }
parts_lead _ _ (output head bytes {text} {items = given} h more) =
    subst (λ l. Leads l (bytes ++ given)) (append_assoc head bytes text)
    (subst (λ l. Leads ((head ++ bytes) ++ text) (l ++ given)) (as_they_are bytes)
    (leads_on (head ++ bytes) text _ given (whole_part mark.Output head bytes h) (parts_lead text given more)))
parts_lead _ _ (errors head bytes {text} {items = given} h more) =
    subst (λ l. Leads l (map (λ b. b + 256) bytes ++ given)) (append_assoc head bytes text)
    (leads_on (head ++ bytes) text _ given (whole_part mark.Errors head bytes h) (parts_lead text given more))
parts_lead _ _ (ending head status {text} {items = given} h more) =
    leads_on head text ((512 + status) ∷ []) given (record { place = after_end head status h; gives = items_end head status h }) (parts_lead text given more)

-- ---- histories

-- that of whole parts
pub history-parts : (text given : List ℕ) → AreParts text given → history (Some (greeting ++ text)) ≡ Some given
history-parts text given parts = ap Some (parts_lead text given parts).gives

-- it is told
pub told-parts : (text given : List ℕ) → AreParts text given → told (Some (greeting ++ text)) ≡ Some given
told-parts text given parts = let lead = parts_lead text given parts in known_there start text lead.place ∙ ap Some lead.gives

after_parts : (text given more : List ℕ) → AreParts text given → items start (text ++ more) ≡ given ++ items start more
after_parts text given more parts =
    let lead = parts_lead text given parts in
    items-append start text more ∙ ap (λ l. l ++ items (after start text) more) lead.gives ∙ ap (λ p. given ++ items p more) lead.place

-- that of a text that breaks off in the bytes of a part
pub history-in_part : (text given : List ℕ) (m : Mark) (head bytes : List ℕ) (size : ℕ) → AreParts text given → IsPartHead (word_of m) head size → length bytes ≤ size
    → history (Some (greeting ++ (text ++ (head ++ bytes)))) ≡ Some (given ++ map (λ b. b + more_of m) bytes)
history-in_part text given m head bytes size parts h fits =
    ap Some (after_parts text given (head ++ bytes) parts ∙ ap (λ l. given ++ l) (items_part m head bytes size h fits))

-- that of a text that breaks off in a head
pub history-in_head : (text given front : List ℕ) → AreParts text given → length front ≤ 12 → history (Some (greeting ++ (text ++ front))) ≡ Some given
history-in_head text given front parts short =
    ap Some (after_parts text given front parts ∙ ap (λ l. given ++ l) (items_in_head [] front (omega (arith, short))) ∙ append-nil given)
