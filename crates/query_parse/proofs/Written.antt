-- A token that is written is the first token of the bytes.
use Rattle.std.proofs.Common.{◌≡◌, ℕ, suc, ◌+◌, ◌<◌, ◌≤◌, List, [], ◌∷◌, ◌++◌, length, take, drop, Bool, true, false, cond, ◌&&◌, not, eqb, leb, refl, sym, ap, subst, ◌∙◌, arith, append_assoc}
use Rattle.std.specs.List.{list_all, prefix_len}
use Rattle.std.specs.Char.{is_ascii_digit}
use Rattle.std.proofs.lemmas.List.{take_at, drop_at, length-append}
use Rattle.std.proofs.lemmas.Bool.{eqb-true, false≢true, leb-true, lt-leb, and_parts}
use Rattle.query_select.specs.declared.token.Kind.{Kind}
use Rattle.query_select.specs.declared.token.Kind.TheVariants as kind
use Rattle.query_select.specs.Lexeme.{Lexeme}
use Rattle.query_select.specs.Kinds.{same}
use Rattle.query_parse.specs.Grammar.{One, one}
use Rattle.query_select.specs.Tokens.{Scan, is_blank, is_letter, is_word_byte, kind_of_word, scan_of, tokens_from}
use Rattle.query_select.specs.Text.{is_bare, name_text_of}
use Rattle.query_parse.specs.Text.{doubled, constant_text}
use Rattle.query_select.proofs.SameKind.{same_true}
use Rattle.query_parse.proofs.NameScan.{quoted_scans}
use Rattle.query_parse.proofs.TextScan.{NoQuote, text_scans}
use Rattle.query_select.proofs.ScanLength.{letter_in_word, lexeme_of, tokens_at_token, tokens_at_blank}

-- The tokens of the bytes begin with one of this kind and body, and those of the rest follow it.
pub record Written (k : Kind) (body bytes rest : List ℕ) (at : ℕ) : Type 0 where
  pub token : Lexeme
  pub next : ℕ
  pub body_is : token.body ≡ body
  pub found : One k (tokens_from 0 at bytes) (tokens_from 0 next rest) token

-- no byte that passes is next
abbrev pub Stops : (ℕ → Bool) → List ℕ → Type 0
Stops p [] = Unit {0}
Stops p (c ∷ _) = p c ≡ false

-- What may follow any token of the text: nothing, a blank, a comma or a dot. Each of them ends each
-- token.
pub record Ends (rest : List ℕ) : Type 0 where
  pub word : Stops is_word_byte rest
  pub digits : Stops is_ascii_digit rest
  pub quote : Stops (λ b. eqb b 39) rest

pub scanned : (b : ℕ) (bs rest : List ℕ) (k : Kind) (body : List ℕ) (n : ℕ) → is_blank b ≡ false → scan_of (b ∷ bs) ≡ record { kind = k; body = body; len = n } → drop n (b ∷ bs) ≡ rest
    → (at : ℕ) → Written k body (b ∷ bs) rest at
scanned b bs rest k body n blank scan left at =
    let t : Lexeme = record { kind = k; at = at; body = body } in
    let tokens : tokens_from 0 at (b ∷ bs) ≡ t ∷ tokens_from 0 (at + n) rest =
    tokens_at_token at b bs blank ∙ ap (λ (s : Scan). lexeme_of at s ∷ tokens_from 0 (at + s.len) (drop s.len (b ∷ bs))) scan ∙ ap (λ (l : List ℕ). t ∷ tokens_from 0 (at + n) l) left in
    record { token = t; next = at + n; body_is = refl; found = subst (λ (ts : List Lexeme). One k ts (tokens_from 0 (at + n) rest) t) (sym tokens) (one refl) }

-- the same after a blank
pub after_blank : {k : Kind} {body bytes rest : List ℕ} → ((at : ℕ) → Written k body bytes rest at) → (at : ℕ) → Written k body (32 ∷ bytes) rest at
after_blank {k} {body} {bytes} {rest} w at =
    let t = w (at + 1) in
    record { token = t.token; next = t.next; body_is = t.body_is; found = subst (λ (ts : List Lexeme). One k ts (tokens_from 0 t.next rest) t.token) (sym (tokens_at_blank at 32 bytes refl)) t.found }

-- ---- words

pub differs : (p : ℕ → Bool) (b k : ℕ) → p b ≡ true → p k ≡ false → (t : Bool) → eqb b k ≡ t → t ≡ false
differs p b k yes_it_is no_it_is true e = absurd (false≢true (sym no_it_is ∙ ap p (sym (eqb-true b k e)) ∙ yes_it_is))
differs p b k yes_it_is no_it_is false e = refl

pub not_blank : (p : ℕ → Bool) (b : ℕ) → p b ≡ true → p 32 ≡ false → p 9 ≡ false → p 10 ≡ false → p 13 ≡ false → is_blank b ≡ false
not_blank p b h a c d e =
    let f = differs p b 32 h a (eqb b 32) refl in
    let g = differs p b 9 h c (eqb b 9) refl in
    let i = differs p b 10 h d (eqb b 10) refl in
    let j = differs p b 13 h e (eqb b 13) refl in
    rw (f, g, i, j) refl

front_is : (p : ℕ → Bool) (bs rest : List ℕ) → list_all p bs ≡ true → Stops p rest → prefix_len p (bs ++ rest) ≡ length bs
front_is p [] [] all stops = refl
front_is p [] (c ∷ rest) all stops = rw stops refl
front_is p (b ∷ bs) rest all stops = let h = and_parts (p b) (list_all p bs) all in rw (h.0, front_is p bs rest h.1 stops) (omega arith)

pub word_scans : (b : ℕ) (bs rest : List ℕ) → is_letter b ≡ true → list_all is_word_byte bs ≡ true → Stops is_word_byte rest
    → scan_of ((b ∷ bs) ++ rest) ≡ record { kind = kind_of_word (b ∷ bs); body = b ∷ bs; len = length (b ∷ bs) }
unfolding scan_of
word_scans b bs rest letter all stops =
    let all_pass : list_all is_word_byte (b ∷ bs) ≡ true = rw (letter_in_word b letter) all in
    let front : prefix_len is_word_byte ((b ∷ bs) ++ rest) ≡ suc (length bs) = front_is is_word_byte (b ∷ bs) rest all_pass stops in
    let word : take (suc (length bs)) ((b ∷ bs) ++ rest) ≡ b ∷ bs = take_at (b ∷ bs) rest (suc (length bs)) refl in
    rw (letter, front, word) refl

pub word_written : (b : ℕ) (bs rest : List ℕ) (k : Kind) → is_letter b ≡ true → list_all is_word_byte bs ≡ true → kind_of_word (b ∷ bs) ≡ k → Stops is_word_byte rest
    → (at : ℕ) → Written k (b ∷ bs) ((b ∷ bs) ++ rest) rest at
word_written b bs rest k letter all is stops =
    scanned b (bs ++ rest) rest k (b ∷ bs) (suc (length bs)) (not_blank is_letter b letter refl refl refl refl)
    (word_scans b bs rest letter all stops ∙ ap (λ (j : Kind). record { kind = j; body = b ∷ bs; len = suc (length bs) }) is) (drop_at (b ∷ bs) rest (suc (length bs)) refl)

-- ---- names

-- a name that can be written: it has no quote
abbrev pub HasNoQuote : List ℕ → Type 0
HasNoQuote name = list_all (λ x. not (eqb x 34)) name ≡ true

quoted_written : (name rest : List ℕ) → HasNoQuote name → (at : ℕ) → Written kind.Name name ((34 ∷ name ++ 34 ∷ []) ++ rest) rest at
quoted_written name rest plain =
    let whole : (34 ∷ name ++ 34 ∷ []) ++ rest ≡ 34 ∷ (name ++ 34 ∷ rest) = append_assoc (34 ∷ name) (34 ∷ []) rest in
    let left : drop (length name + 2) (34 ∷ (name ++ 34 ∷ rest)) ≡ rest =
    ap (drop (length name + 2)) (sym whole) ∙ drop_at (34 ∷ name ++ 34 ∷ []) rest (length name + 2) (omega (arith, length-append (34 ∷ name) (34 ∷ []))) in
    subst (λ (bs : List ℕ). (at : ℕ) → Written kind.Name name bs rest at) (sym whole)
    (scanned 34 (name ++ 34 ∷ rest) rest kind.Name name (length name + 2) refl (quoted_scans name rest plain) left)

name_by : (name rest : List ℕ) (b : Bool) → is_bare name ≡ b → HasNoQuote name → Ends rest → (at : ℕ) → Written kind.Name name ((cond b name (34 ∷ name ++ 34 ∷ [])) ++ rest) rest at
name_by [] rest true is plain ends = absurd (false≢true is)
name_by (b ∷ bs) rest true is plain ends =
    let h = and_parts (is_letter b) (list_all is_word_byte bs && same (kind_of_word (b ∷ bs)) kind.Name) is in
    let k = and_parts (list_all is_word_byte bs) (same (kind_of_word (b ∷ bs)) kind.Name) h.1 in
    word_written b bs rest kind.Name h.0 k.0 (same_true _ _ k.1) ends.word
name_by name rest false is plain ends = quoted_written name rest plain

pub name_written : (name rest : List ℕ) → HasNoQuote name → Ends rest → (at : ℕ) → Written kind.Name name (name_text_of name ++ rest) rest at
name_written name rest plain ends = name_by name rest (is_bare name) refl plain ends

-- ---- constants and numbers

no_quote_next : (rest : List ℕ) → Stops (λ b. eqb b 39) rest → NoQuote rest
no_quote_next [] h = tt
no_quote_next (c ∷ rest) h = h

pub constant_written : (bytes rest : List ℕ) → Ends rest → (at : ℕ) → Written kind.Text (doubled bytes) (constant_text bytes ++ rest) rest at
constant_written bytes rest ends =
    let whole : constant_text bytes ++ rest ≡ 39 ∷ (doubled bytes ++ 39 ∷ rest) = append_assoc (39 ∷ doubled bytes) (39 ∷ []) rest in
    let left : drop (length (doubled bytes) + 2) (39 ∷ (doubled bytes ++ 39 ∷ rest)) ≡ rest =
    ap (drop (length (doubled bytes) + 2)) (sym whole) ∙ drop_at (constant_text bytes) rest (length (doubled bytes) + 2) (omega (arith, length-append (39 ∷ doubled bytes) (39 ∷ []))) in
    subst (λ (bs : List ℕ). (at : ℕ) → Written kind.Text (doubled bytes) bs rest at) (sym whole)
    (scanned 39 (doubled bytes ++ 39 ∷ rest) rest kind.Text (doubled bytes) (length (doubled bytes) + 2) refl (text_scans bytes rest (no_quote_next rest ends.quote)) left)

digit_is_no_letter : (b : ℕ) → is_ascii_digit b ≡ true → is_letter b ≡ false
digit_is_no_letter b h =
    let r = and_parts (leb 48 b) (leb b 57) h in
    let small : b ≤ 57 = leb-true b 57 r.1 in
    let upper : leb 65 b ≡ false = lt-leb 65 b (omega arith) in
    let lower : leb 97 b ≡ false = lt-leb 97 b (omega arith) in
    let other = differs is_ascii_digit b 95 h refl (eqb b 95) refl in
    rw (upper, lower, other) refl

pub digits_scan_as : (b : ℕ) (bs rest : List ℕ) → list_all is_ascii_digit (b ∷ bs) ≡ true → Stops is_ascii_digit rest → scan_of ((b ∷ bs) ++ rest) ≡ record { kind = kind.Digits; body = b ∷ bs; len = length (b ∷ bs) }
unfolding scan_of
digits_scan_as b bs rest all stops =
    let h = and_parts (is_ascii_digit b) (list_all is_ascii_digit bs) all in
    let front : prefix_len is_ascii_digit ((b ∷ bs) ++ rest) ≡ suc (length bs) = front_is is_ascii_digit (b ∷ bs) rest all stops in
    let word : take (suc (length bs)) ((b ∷ bs) ++ rest) ≡ b ∷ bs = take_at (b ∷ bs) rest (suc (length bs)) refl in
    rw (digit_is_no_letter b h.0, front, word, h.0) refl

pub digits_written : (digits rest : List ℕ) → 0 < length digits → list_all is_ascii_digit digits ≡ true → Ends rest → (at : ℕ) → Written kind.Digits digits (digits ++ rest) rest at
digits_written [] rest some all ends = absurd (omega arith)
digits_written (b ∷ bs) rest some all ends =
    let h = and_parts (is_ascii_digit b) (list_all is_ascii_digit bs) all in
    scanned b (bs ++ rest) rest kind.Digits (b ∷ bs) (suc (length bs)) (not_blank is_ascii_digit b h.0 refl refl refl refl) (digits_scan_as b bs rest all ends.digits) (drop_at (b ∷ bs) rest (suc (length bs)) refl)

-- ---- signs

pub comma_written : (rest : List ℕ) (at : ℕ) → Written kind.Comma [] (44 ∷ rest) rest at
unfolding scan_of
comma_written rest = scanned 44 rest rest kind.Comma [] 1 refl refl refl

pub dot_written : (rest : List ℕ) (at : ℕ) → Written kind.Dot [] (46 ∷ rest) rest at
unfolding scan_of
dot_written rest = scanned 46 rest rest kind.Dot [] 1 refl refl refl

pub equals_written : (rest : List ℕ) (at : ℕ) → Written kind.Equals [] (61 ∷ rest) rest at
unfolding scan_of
equals_written rest = scanned 61 rest rest kind.Equals [] 1 refl refl refl

pub plus_written : (rest : List ℕ) (at : ℕ) → Written kind.Plus [] (43 ∷ rest) rest at
unfolding scan_of
plus_written rest = scanned 43 rest rest kind.Plus [] 1 refl refl refl

pub minus_written : (rest : List ℕ) (at : ℕ) → Written kind.Minus [] (45 ∷ rest) rest at
unfolding scan_of
minus_written rest = scanned 45 rest rest kind.Minus [] 1 refl refl refl

pub star_written : (rest : List ℕ) (at : ℕ) → Written kind.Star [] (42 ∷ rest) rest at
unfolding scan_of
star_written rest = scanned 42 rest rest kind.Star [] 1 refl refl refl
