-- A token takes at least one byte, and at most as many as there are. No token begins in bytes that
-- another one has taken.
use Rattle.std.proofs.Common.{◌≡◌, ℕ, zero, suc, ◌+◌, ◌-◌, ◌<◌, ◌≤◌, List, [], ◌∷◌, length, take, drop, get_or, Option, Some, None, Bool, true, false, cond, ◌||◌, eqb, refl, sym, ap, ◌∙◌, subst, arith, add-zero}
use Rattle.std.proofs.Math.Seq.{drop-cons}
use Rattle.std.proofs.lemmas.List.{drop-drop, length-drop, drop_all, take_all}
use Rattle.std.specs.List.{prefix_len, position}
use Rattle.std.specs.Int.{is_in_range}
use Rattle.std.specs.Char.{is_ascii_digit}
use Rattle.std.proofs.lemmas.List.Sums.{prefix_len-le-length}
use Rattle.std.proofs.lemmas.List.Quantifiers.{position-Some}
use Rattle.query_select.specs.declared.token.Kind.{Kind}
use Rattle.query_select.specs.declared.token.Kind.TheVariants as kind
use Rattle.query_select.specs.Lexeme.{Lexeme}
use Rattle.query_select.specs.Tokens.{is_letter, is_word_byte, closing, Scan, quoted_scan, word_scan, digits_scan, scan_of, is_blank, tokens_from}
use Rattle.query_select.proofs.Strings.{closing_within}

or_more : (a c d u : Bool) → ((a || c) || u) ≡ true → (((d || a) || c) || u) ≡ true
or_more true c true u e = refl
or_more true c false u e = refl
or_more false true true u e = refl
or_more false true false u e = refl
or_more false false true u e = refl
or_more false false false u e = e

pub letter_in_word : (b : ℕ) → is_letter b ≡ true → is_word_byte b ≡ true
letter_in_word b e = or_more (is_in_range 65 90 b) (is_in_range 97 122 b) (is_in_range 48 57 b) (eqb b 95) e

prefix_some : (p : ℕ → Bool) (b : ℕ) (bs : List ℕ) → p b ≡ true → 0 < prefix_len p (b ∷ bs)
prefix_some p b bs e = rw e (omega arith)

-- a token that takes at least one byte, and no more than n
abbrev Takes : ℕ → Scan → Type 0
Takes n s = (0 < s.len) × (s.len ≤ n)

quoted_takes : (k : Kind) (bs : List ℕ) (end : Option ℕ) → ((n : ℕ) → end ≡ Some n → n < length bs) → Takes (suc (length bs)) (quoted_scan k bs end)
quoted_takes k bs None h = (omega arith, omega arith)
quoted_takes k bs (Some n) h = (omega arith, omega (arith, h n refl))

choose : (b : Bool) (n : ℕ) (x y : Scan) → (b ≡ true → Takes n x) → (b ≡ false → Takes n y) → Takes n (cond b x y)
choose true n x y f g = f refl
choose false n x y f g = g refl

pub scan_takes : (b : ℕ) (bs : List ℕ) → Takes (suc (length bs)) (scan_of (b ∷ bs))
unfolding scan_of
scan_takes b bs =
    choose (is_letter b) (suc (length bs)) (word_scan (b ∷ bs)) _ (λ e. (prefix_some is_word_byte b bs (letter_in_word b e), prefix_len-le-length is_word_byte (b ∷ bs))) (λ _.
    choose (is_ascii_digit b) (suc (length bs)) (digits_scan (b ∷ bs)) _ (λ e. (prefix_some is_ascii_digit b bs e, prefix_len-le-length is_ascii_digit (b ∷ bs))) (λ _.
    choose (eqb b 34) (suc (length bs)) (quoted_scan kind.Name bs (position (λ x. eqb x 34) bs)) _ (λ _. quoted_takes kind.Name bs (position (λ x. eqb x 34) bs) (λ n e. (position-Some (λ x. eqb x 34) bs n 0 e).0)) (λ _.
    choose (eqb b 39) (suc (length bs)) (quoted_scan kind.Text bs (closing bs)) _ (λ _. quoted_takes kind.Text bs (closing bs) (λ n e. omega (arith, closing_within bs n e))) (λ _. (omega arith, omega arith)))))

pub tokens_behind : (n at : ℕ) (bs : List ℕ) → tokens_from n at bs ≡ tokens_from 0 (at + n) (drop n bs)
unfolding tokens_from
tokens_behind zero at bs = rw add-zero refl
tokens_behind (suc n) at [] = refl
tokens_behind (suc n) at (b ∷ bs) =
    let sum_is : (at + 1) + n ≡ at + suc n = omega arith in
    tokens_behind n (at + 1) bs ∙ ap (λ (k : ℕ). tokens_from 0 k (drop n bs)) sum_is

taken_token : (len at b : ℕ) (bs : List ℕ) → 0 < len → tokens_from (len - 1) (at + 1) bs ≡ tokens_from 0 (at + len) (drop len (b ∷ bs))
taken_token zero at b bs h = absurd (omega arith)
taken_token (suc m) at b bs h =
    let one_less : suc m - 1 ≡ m = omega arith in
    let sum_is : (at + 1) + m ≡ at + suc m = omega arith in
    ap (λ (k : ℕ). tokens_from k (at + 1) bs) one_less ∙ tokens_behind m (at + 1) bs ∙ ap (λ (k : ℕ). tokens_from 0 k (drop m bs)) sum_is

abbrev pub lexeme_of : ℕ → Scan → Lexeme
lexeme_of at s = record { kind = s.kind; at = at; body = s.body }

pub tokens_at_token : (at b : ℕ) (bs : List ℕ) → is_blank b ≡ false
    → tokens_from 0 at (b ∷ bs) ≡ lexeme_of at (scan_of (b ∷ bs)) ∷ tokens_from 0 (at + (scan_of (b ∷ bs)).len) (drop (scan_of (b ∷ bs)).len (b ∷ bs))
unfolding tokens_from
tokens_at_token at b bs e = rw e (ap (λ (ts : List Lexeme). lexeme_of at (scan_of (b ∷ bs)) ∷ ts) (taken_token (scan_of (b ∷ bs)).len at b bs (scan_takes b bs).0))

pub tokens_at_blank : (at b : ℕ) (bs : List ℕ) → is_blank b ≡ true → tokens_from 0 at (b ∷ bs) ≡ tokens_from 0 (at + 1) bs
unfolding tokens_from
tokens_at_blank at b bs e = rw e refl

-- a token at a place of the bytes, and the tokens after it
pub record TokenAt (bytes : List ℕ) (at : ℕ) (s : Scan) : Type 0 where
  pub some : 0 < s.len
  pub within : at + s.len ≤ length bytes
  pub tokens : tokens_from 0 at (drop at bytes) ≡ lexeme_of at s ∷ tokens_from 0 (at + s.len) (drop (at + s.len) bytes)

pub token_step : (bytes : List ℕ) (at : ℕ) (s : Scan) → at < length bytes → is_blank (get_or bytes at 0) ≡ false → s ≡ scan_of (take (length bytes - at) (drop at bytes)) → TokenAt bytes at s
token_step bytes at s lt e was =
    let is : s ≡ scan_of (drop at bytes) = was ∙ ap scan_of (take_all (length bytes - at) (drop at bytes) (omega (arith, length-drop at bytes))) in
    let front : drop at bytes ≡ get_or bytes at 0 ∷ drop (suc at) bytes = drop-cons bytes at 0 lt in
    let len_is : length (drop (suc at) bytes) + suc at ≡ length bytes = simp length-drop (omega arith) in
    let takes = scan_takes (get_or bytes at 0) (drop (suc at) bytes) in
    let s-is : scan_of (get_or bytes at 0 ∷ drop (suc at) bytes) ≡ s = ap scan_of (sym front) ∙ sym is in
    let found : TokenAt bytes at (scan_of (get_or bytes at 0 ∷ drop (suc at) bytes)) = record {
      some = takes.0;
      within = omega (arith, takes.1, len_is);
      tokens = ap (tokens_from 0 at) front ∙ tokens_at_token at (get_or bytes at 0) (drop (suc at) bytes) e
          ∙ ap (λ (xs : List ℕ). lexeme_of at (scan_of (get_or bytes at 0 ∷ drop (suc at) bytes)) ∷ tokens_from 0 (at + (scan_of (get_or bytes at 0 ∷ drop (suc at) bytes)).len) (drop (scan_of (get_or bytes at 0 ∷ drop (suc at) bytes)).len xs)) (sym front)
          ∙ ap (λ (xs : List ℕ). lexeme_of at (scan_of (get_or bytes at 0 ∷ drop (suc at) bytes)) ∷ tokens_from 0 (at + (scan_of (get_or bytes at 0 ∷ drop (suc at) bytes)).len) xs) (drop-drop (scan_of (get_or bytes at 0 ∷ drop (suc at) bytes)).len at bytes);
    } in
    subst (TokenAt bytes at) s-is found

pub blank_step : (bytes : List ℕ) (at : ℕ) → at < length bytes → is_blank (get_or bytes at 0) ≡ true → tokens_from 0 at (drop at bytes) ≡ tokens_from 0 (at + 1) (drop (at + 1) bytes)
blank_step bytes at lt e =
    let front : drop at bytes ≡ get_or bytes at 0 ∷ drop (suc at) bytes = drop-cons bytes at 0 lt in
    let next : suc at ≡ at + 1 = omega arith in
    ap (tokens_from 0 at) front ∙ tokens_at_blank at (get_or bytes at 0) (drop (suc at) bytes) e ∙ ap (λ (k : ℕ). tokens_from 0 (at + 1) (drop k bytes)) next

pub no_tokens_left : (bytes : List ℕ) (at : ℕ) → length bytes ≤ at → tokens_from 0 at (drop at bytes) ≡ []
unfolding tokens_from
no_tokens_left bytes at le = rw (drop_all at bytes le) refl
