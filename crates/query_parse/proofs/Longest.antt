-- A scan gives the longest token that begins the bytes, or a stray byte if none begins.
use Rattle.std.proofs.Common.{◌≡◌, ◌≢◌, ℕ, suc, ◌+◌, ◌<◌, ◌≤◌, List, [], ◌∷◌, ◌++◌, length, take, drop, Option, Some, None, Bool, true, false, cond, ◌||◌, not, eqb, ltb, refl, sym, ap, subst, ◌∙◌, inl, inr, arith, append_assoc, eq-eqb}
use Rattle.std.specs.List.{list_all, prefix_len, position}
use Rattle.std.specs.Char.{is_ascii_digit}
use Rattle.std.specs.Int.{is_in_range}
use Rattle.std.specs.Prelude.{codes}
use Rattle.std.proofs.lemmas.List.{take_at, take-append-drop, length-append, append-nil}
use Rattle.std.proofs.lemmas.List.Folds.{length-prefix_len}
use Rattle.std.proofs.lemmas.Bool.{eqb-true, ltb-true, ltb-false, and_parts}
use Rattle.query_select.specs.declared.token.Kind.{Kind}
use Rattle.query_select.specs.declared.token.Kind.TheVariants as kind
use Rattle.query_select.specs.Kinds.{same}
use Rattle.query_select.specs.Tokens.{is_blank, is_letter, is_word_byte, is_word, kind_of_word, kind_of_sign, closing, Scan, quoted_scan, word_scan, digits_scan, scan_of}
use Rattle.query_parse.specs.Text.{doubled}
use Rattle.query_parse.specs.TokenForms.{IsTokenForm, word, quoted_name, string, digits, sign, NoToken, IsLongestToken, IsLongestScan, ScansLongest}
use Rattle.query_select.proofs.SameKind.{same_true, same_self}
use Rattle.query_parse.proofs.NameScan.{prefix_ends, quoted_scans}
use Rattle.query_select.proofs.ScanLength.{letter_in_word}
use Rattle.query_parse.proofs.TextScan.{text_scans}
use Rattle.query_parse.proofs.Written.{word_scans, digits_scan_as}
use Rattle.query_select.proofs.Strings.{Found, found_of}
use Rattle.query_parse.proofs.Strings.{string_ends, closing_string}

-- ---- fronts that pass a test

one_more : (k : ℕ) → 1 + k ≡ suc k
one_more k = omega arith

passing_len : (p : ℕ → Bool) (b : ℕ) (bs : List ℕ) → p b ≡ true → prefix_len p (b ∷ bs) ≡ suc (prefix_len p bs)
passing_len p b bs e = rw e (one_more (prefix_len p bs))

stopped_len : (p : ℕ → Bool) (b : ℕ) (bs : List ℕ) → p b ≡ false → prefix_len p (b ∷ bs) ≡ 0
stopped_len p b bs e = rw e refl

-- a front whose bytes all pass is no longer than the front that passes
reaches : (p : ℕ → Bool) (bs more : List ℕ) → list_all p bs ≡ true → length bs ≤ prefix_len p (bs ++ more)
reaches p [] more all = omega arith
reaches p (b ∷ bs) more all =
    let h = and_parts (p b) (list_all p bs) all in
    let is : prefix_len p (b ∷ (bs ++ more)) ≡ suc (prefix_len p (bs ++ more)) = passing_len p b (bs ++ more) h.0 in
    omega (arith, is, reaches p bs more h.1)

reaches_in : (p : ℕ → Bool) (bytes other more : List ℕ) → bytes ≡ other ++ more → list_all p other ≡ true → length other ≤ prefix_len p bytes
reaches_in p bytes other more e all = rw e (reaches p other more all)

all_by : (p : ℕ → Bool) (b : ℕ) (bs : List ℕ) (t : Bool) → p b ≡ t → list_all p (take (prefix_len p bs) bs) ≡ true → list_all p (take (prefix_len p (b ∷ bs)) (b ∷ bs)) ≡ true
all_by p b bs true e h = rw (passing_len p b bs e, e) h
all_by p b bs false e h = rw (stopped_len p b bs e) refl

front_passes : (p : ℕ → Bool) (bs : List ℕ) → list_all p (take (prefix_len p bs) bs) ≡ true
front_passes p [] = refl
front_passes p (b ∷ bs) = all_by p b bs (p b) refl (front_passes p bs)

-- if the front that passes ends before the bytes do, a byte that does not pass follows it
record Cut (p : ℕ → Bool) (bs : List ℕ) (n : ℕ) : Type 0 where
  front : List ℕ
  next : ℕ
  more : List ℕ
  parts : bs ≡ front ++ next ∷ more
  passes : list_all p front ≡ true
  stops : p next ≡ false
  len : n ≡ length front

cut_more : (p : ℕ → Bool) (b : ℕ) (bs : List ℕ) → p b ≡ true → Cut p bs (prefix_len p bs) → Cut p (b ∷ bs) (prefix_len p (b ∷ bs))
cut_more p b bs e c = record {
  front = b ∷ c.front;
  next = c.next;
  more = c.more;
  parts = ap (λ (l : List ℕ). b ∷ l) c.parts;
  passes = rw e c.passes;
  stops = c.stops;
  len = passing_len p b bs e ∙ ap suc c.len;
}

cut_by : (p : ℕ → Bool) (b : ℕ) (bs : List ℕ) (t : Bool) → p b ≡ t → (prefix_len p bs < length bs → Cut p bs (prefix_len p bs)) → prefix_len p (b ∷ bs) < suc (length bs) → Cut p (b ∷ bs) (prefix_len p (b ∷ bs))
cut_by p b bs true e ih h = cut_more p b bs e (ih (omega (arith, passing_len p b bs e)))
cut_by p b bs false e ih h = record { front = []; next = b; more = bs; parts = refl; passes = refl; stops = e; len = stopped_len p b bs e }

cut : (p : ℕ → Bool) (bs : List ℕ) → prefix_len p bs < length bs → Cut p bs (prefix_len p bs)
cut p [] h = absurd (omega arith)
cut p (b ∷ bs) h = cut_by p b bs (p b) refl (cut p bs) h

weaker_all : (p q : ℕ → Bool) → ((b : ℕ) → p b ≡ true → q b ≡ true) → (bs : List ℕ) → list_all p bs ≡ true → list_all q bs ≡ true
weaker_all p q f [] all = refl
weaker_all p q f (b ∷ bs) all = let h = and_parts (p b) (list_all p bs) all in rw (f b h.0) (weaker_all p q f bs h.1)

first_of_four : (d a c u : Bool) → d ≡ true → (((d || a) || c) || u) ≡ true
first_of_four d a c u e = rw e refl

digit_in_word : (b : ℕ) → is_ascii_digit b ≡ true → is_word_byte b ≡ true
digit_in_word b e = first_of_four (is_in_range 48 57 b) (is_in_range 65 90 b) (is_in_range 97 122 b) (eqb b 95) e

-- ---- a token is not empty

pub first_byte : (k : Kind) (body front : List ℕ) → IsTokenForm k body front → (b : ℕ) × (bs : List ℕ) × (front ≡ b ∷ bs)
first_byte _ _ _ (word {b = b} {bs = bs} l a) = (b, bs, refl)
first_byte _ _ _ (quoted_name {name = name} n) = (34, name ++ 34 ∷ [], refl)
first_byte _ _ _ (string bytes) = (39, doubled bytes ++ 39 ∷ [], refl)
first_byte _ _ _ (digits {d = d} {ds = ds} l a) = (d, ds, refl)
first_byte _ _ _ (sign {b = b} s) = (b, [], refl)

pub no_token_in_nothing : NoToken []
no_token_in_nothing k body front rest parts form =
    let f = first_byte k body front form in
    let whole : [] ≡ (f.0 ∷ f.1) ++ rest = parts ∙ ap (λ (l : List ℕ). l ++ rest) f.2 in
    absurd cc

-- ---- by the first byte

-- the texts of tokens that begin these bytes have at most n bytes
abbrev NoLonger : List ℕ → ℕ → Type 0
NoLonger bytes n = (k : Kind) (body other more : List ℕ) → bytes ≡ other ++ more → IsTokenForm k body other → length other ≤ n

word_bound : (b : ℕ) (bs : List ℕ) → is_letter b ≡ true → NoLonger (b ∷ bs) (prefix_len is_word_byte (b ∷ bs))
word_bound b bs letter _ _ _ more e (word {b = c} {bs = cs} l a) =
    let all : list_all is_word_byte (c ∷ cs) ≡ true = rw (letter_in_word c l) a in
    reaches_in is_word_byte (b ∷ bs) (c ∷ cs) more e all
word_bound b bs letter _ _ _ more e (digits {d = d} {ds = ds} l a) =
    let all : list_all is_ascii_digit (d ∷ ds) ≡ true = rw l a in
    reaches_in is_word_byte (b ∷ bs) (d ∷ ds) more e (weaker_all is_ascii_digit is_word_byte digit_in_word (d ∷ ds) all)
word_bound b bs letter _ _ _ more e (quoted_name n) = let is : b ≡ 34 = cc in let wrong : false ≡ true = subst (λ (x : ℕ). is_letter x ≡ true) is letter in absurd cc
word_bound b bs letter _ _ _ more e (string bytes) = let is : b ≡ 39 = cc in let wrong : false ≡ true = subst (λ (x : ℕ). is_letter x ≡ true) is letter in absurd cc
word_bound b bs letter _ _ _ more e (sign s) = omega (arith, passing_len is_word_byte b bs (letter_in_word b letter))

digits_bound : (b : ℕ) (bs : List ℕ) → is_letter b ≡ false → is_ascii_digit b ≡ true → NoLonger (b ∷ bs) (prefix_len is_ascii_digit (b ∷ bs))
digits_bound b bs letter digit _ _ _ more e (word {b = c} l a) = let is : b ≡ c = cc in let yes : is_letter b ≡ true = rw is l in absurd cc
digits_bound b bs letter digit _ _ _ more e (digits {d = d} {ds = ds} l a) =
    let all : list_all is_ascii_digit (d ∷ ds) ≡ true = rw l a in
    reaches_in is_ascii_digit (b ∷ bs) (d ∷ ds) more e all
digits_bound b bs letter digit _ _ _ more e (quoted_name n) = let is : b ≡ 34 = cc in let wrong : false ≡ true = subst (λ (x : ℕ). is_ascii_digit x ≡ true) is digit in absurd cc
digits_bound b bs letter digit _ _ _ more e (string bytes) = let is : b ≡ 39 = cc in let wrong : false ≡ true = subst (λ (x : ℕ). is_ascii_digit x ≡ true) is digit in absurd cc
digits_bound b bs letter digit _ _ _ more e (sign s) = omega (arith, passing_len is_ascii_digit b bs digit)

-- ---- quoted names

abbrev no_quote : ℕ → Bool
no_quote b = not (eqb b 34)

is_quote : (b : ℕ) (t : Bool) → eqb b 34 ≡ t → not t ≡ false → b ≡ 34
is_quote b true e h = eqb-true b 34 e
is_quote b false e h = absurd cc

-- a text between two quotes, and what follows it
around : (q : ℕ) (inside more bs : List ℕ) → bs ≡ inside ++ q ∷ more → q ∷ bs ≡ (q ∷ inside ++ q ∷ []) ++ more
around q inside more bs e = ap (λ (l : List ℕ). q ∷ l) (e ∙ sym (append_assoc inside (q ∷ []) more))

within : (q : ℕ) (inside more bs : List ℕ) → q ∷ bs ≡ (q ∷ inside ++ q ∷ []) ++ more → bs ≡ inside ++ q ∷ more
within q inside more bs e = let tail : bs ≡ (inside ++ q ∷ []) ++ more = cc in tail ∙ append_assoc inside (q ∷ []) more

quoted_len : (q : ℕ) (inside : List ℕ) → length (q ∷ inside ++ q ∷ []) ≡ length inside + 2
quoted_len q inside = omega (arith, length-append inside (q ∷ []))

-- what the first byte rules out if it is a quote
not_word : (q c : ℕ) (bs cs more : List ℕ) → is_letter q ≡ false → q ∷ bs ≡ (c ∷ cs) ++ more → is_letter c ≡ true → ⊥
not_word q c bs cs more fails e l = let is : q ≡ c = cc in let yes : is_letter q ≡ true = rw is l in absurd cc

not_digits : (q c : ℕ) (bs cs more : List ℕ) → is_ascii_digit q ≡ false → q ∷ bs ≡ (c ∷ cs) ++ more → is_ascii_digit c ≡ true → ⊥
not_digits q c bs cs more fails e l = let is : q ≡ c = cc in let yes : is_ascii_digit q ≡ true = rw is l in absurd cc

not_sign : (q c : ℕ) (bs more : List ℕ) → kind_of_sign q ≡ kind.Stray → q ∷ bs ≡ (c ∷ []) ++ more → kind_of_sign c ≢ kind.Stray → ⊥
not_sign q c bs more fails e s = let is : c ≡ q = cc in s (ap kind_of_sign is ∙ fails)

not_quoted : (q r : ℕ) (bs inside more : List ℕ) → eqb q r ≡ false → q ∷ bs ≡ (r ∷ inside ++ r ∷ []) ++ more → ⊥
not_quoted q r bs inside more fails e = let is : q ≡ r = cc in let yes : eqb q r ≡ true = eq-eqb q r is in absurd cc

name_bound : (bs : List ℕ) → NoLonger (34 ∷ bs) (prefix_len no_quote bs + 2)
name_bound bs _ _ _ more e (word {b = c} {bs = cs} l a) = absurd (not_word 34 c bs cs more refl e l)
name_bound bs _ _ _ more e (digits {d = c} {ds = cs} l a) = absurd (not_digits 34 c bs cs more refl e l)
name_bound bs _ _ _ more e (quoted_name {name = name} n) =
    let parts : bs ≡ name ++ 34 ∷ more = within 34 name more bs e in
    let far : length name ≤ prefix_len no_quote bs = rw parts (reaches no_quote name (34 ∷ more) n) in
    omega (arith, quoted_len 34 name)
name_bound bs _ _ _ more e (string bytes) = absurd (not_quoted 34 39 bs (doubled bytes) more refl e)
name_bound bs _ _ _ more e (sign s) = omega arith

no_name : (bs : List ℕ) → length bs ≤ prefix_len no_quote bs → NoToken (34 ∷ bs)
no_name bs h _ _ _ more e (word {b = c} {bs = cs} l a) = not_word 34 c bs cs more refl e l
no_name bs h _ _ _ more e (digits {d = c} {ds = cs} l a) = not_digits 34 c bs cs more refl e l
no_name bs h _ _ _ more e (quoted_name {name = name} n) =
    let parts : bs ≡ name ++ 34 ∷ more = within 34 name more bs e in
    let far : prefix_len no_quote bs ≡ length name = rw parts (prefix_ends no_quote name 34 more n refl) in
    let long : length bs ≡ length name + suc (length more) = rw parts (length-append name (34 ∷ more)) in
    absurd (omega arith)
no_name bs h _ _ _ more e (string bytes) = not_quoted 34 39 bs (doubled bytes) more refl e
no_name bs h _ _ _ more e (sign {b = c} s) = not_sign 34 c bs more refl e s

-- a quoted token is the longest if its text begins the bytes and no text is longer
quoted_longest : (q : ℕ) (k : Kind) (bs inside more : List ℕ) (n : ℕ) → bs ≡ inside ++ q ∷ more → n ≡ length inside → IsTokenForm k inside (q ∷ inside ++ q ∷ []) → NoLonger (q ∷ bs) (n + 2)
    → IsLongestScan (q ∷ bs) (quoted_scan k bs (Some n))
quoted_longest q k bs inside more n parts len form bound =
    let body : inside ≡ take n bs = sym (ap (take n) parts ∙ take_at inside (q ∷ more) n (sym len)) in
    let size : n + 2 ≡ length (q ∷ inside ++ q ∷ []) = ap (λ (m : ℕ). m + 2) len ∙ sym (quoted_len q inside) in
    record {
      front = q ∷ inside ++ q ∷ [];
      rest = more;
      token = subst (λ (l : List ℕ). IsLongestToken (q ∷ bs) k l (q ∷ inside ++ q ∷ []) more) body
          (record { parts = around q inside more bs parts; form = form; longest = λ other_kind other_body other others e f. subst (λ (m : ℕ). length other ≤ m) size (bound other_kind other_body other others e f) });
      len = size;
    }

name_by : (bs : List ℕ) (t : Bool) → ltb (prefix_len no_quote bs) (length bs) ≡ t → ScansLongest (34 ∷ bs) (quoted_scan kind.Name bs (cond t (Some (prefix_len no_quote bs)) None))
name_by bs true e =
    let c = cut no_quote bs (ltb-true _ _ e) in
    let parts : bs ≡ c.front ++ 34 ∷ c.more = c.parts ∙ ap (λ (x : ℕ). c.front ++ x ∷ c.more) (is_quote c.next (eqb c.next 34) refl c.stops) in
    inr (quoted_longest 34 kind.Name bs c.front c.more (prefix_len no_quote bs) parts c.len (quoted_name c.passes) (name_bound bs))
name_by bs false e = inl (no_name bs (ltb-false _ _ e), refl)

name_scans : (bs : List ℕ) → ScansLongest (34 ∷ bs) (quoted_scan kind.Name bs (position (λ x. eqb x 34) bs))
name_scans bs = name_by bs (ltb (prefix_len no_quote bs) (length bs)) refl

-- ---- strings

some_is : (o : Option ℕ) (m n : ℕ) → o ≡ Some m → o ≡ Some n → m ≡ n
some_is o m n e f = let same : Some m ≡ Some n = sym e ∙ f in cc

string_found : (bs bytes more : List ℕ) → 39 ∷ bs ≡ (39 ∷ doubled bytes ++ 39 ∷ []) ++ more → Found (closing bs) (length (doubled bytes))
string_found bs bytes more e = rw (within 39 (doubled bytes) more bs e) (found_of (doubled bytes ++ 39 ∷ more) (length (doubled bytes)) (string_ends bytes more))

string_bound : (bs : List ℕ) (n : ℕ) → closing bs ≡ Some n → NoLonger (39 ∷ bs) (n + 2)
string_bound bs n h _ _ _ more e (word {b = c} {bs = cs} l a) = absurd (not_word 39 c bs cs more refl e l)
string_bound bs n h _ _ _ more e (digits {d = c} {ds = cs} l a) = absurd (not_digits 39 c bs cs more refl e l)
string_bound bs n h _ _ _ more e (quoted_name {name = name} m) = absurd (not_quoted 39 34 bs name more refl e)
string_bound bs n h _ _ _ more e (string bytes) =
    let f = string_found bs bytes more e in
    let below : length (doubled bytes) ≤ f.place = f.later in
    let same : f.place ≡ n = some_is (closing bs) f.place n f.is h in
    omega (arith, quoted_len 39 (doubled bytes))
string_bound bs n h _ _ _ more e (sign s) = omega arith

no_string : (bs : List ℕ) → closing bs ≡ None → NoToken (39 ∷ bs)
no_string bs h _ _ _ more e (word {b = c} {bs = cs} l a) = not_word 39 c bs cs more refl e l
no_string bs h _ _ _ more e (digits {d = c} {ds = cs} l a) = not_digits 39 c bs cs more refl e l
no_string bs h _ _ _ more e (quoted_name {name = name} m) = not_quoted 39 34 bs name more refl e
no_string bs h _ _ _ more e (string bytes) =
    let f = string_found bs bytes more e in
    let both : None ≡ Some f.place = sym h ∙ f.is in
    absurd cc
no_string bs h _ _ _ more e (sign {b = c} s) = not_sign 39 c bs more refl e s

string_by : (bs : List ℕ) (o : Option ℕ) → closing bs ≡ o → ScansLongest (39 ∷ bs) (quoted_scan kind.Text bs o)
string_by bs None e = inl (no_string bs e, refl)
string_by bs (Some n) e =
    let s = closing_string bs n e in
    inr (quoted_longest 39 kind.Text bs (doubled s.text) s.more n s.parts s.len (string s.text) (string_bound bs n e))

-- ---- words, digits and signs

front_longest : (p : ℕ → Bool) (b : ℕ) (bs : List ℕ) (k : Kind) → IsTokenForm k (take (prefix_len p (b ∷ bs)) (b ∷ bs)) (take (prefix_len p (b ∷ bs)) (b ∷ bs)) → NoLonger (b ∷ bs) (prefix_len p (b ∷ bs))
    → IsLongestScan (b ∷ bs) (record { kind = k; body = take (prefix_len p (b ∷ bs)) (b ∷ bs); len = prefix_len p (b ∷ bs) })
front_longest p b bs k form bound =
    let size : prefix_len p (b ∷ bs) ≡ length (take (prefix_len p (b ∷ bs)) (b ∷ bs)) = sym (length-prefix_len p (b ∷ bs)) in
    record {
      front = take (prefix_len p (b ∷ bs)) (b ∷ bs);
      rest = drop (prefix_len p (b ∷ bs)) (b ∷ bs);
      token = record {
        parts = sym (take-append-drop (prefix_len p (b ∷ bs)) (b ∷ bs));
        form = form;
        longest = λ other_kind other_body other others e f. subst (λ (m : ℕ). length other ≤ m) size (bound other_kind other_body other others e f);
      };
      len = size;
    }

word_front : (b : ℕ) (bs : List ℕ) → is_letter b ≡ true
    → IsTokenForm (kind_of_word (take (prefix_len is_word_byte (b ∷ bs)) (b ∷ bs))) (take (prefix_len is_word_byte (b ∷ bs)) (b ∷ bs)) (take (prefix_len is_word_byte (b ∷ bs)) (b ∷ bs))
word_front b bs l =
    subst (λ (n : ℕ). IsTokenForm (kind_of_word (take n (b ∷ bs))) (take n (b ∷ bs)) (take n (b ∷ bs))) (sym (passing_len is_word_byte b bs (letter_in_word b l))) (word l (front_passes is_word_byte bs))

digits_front : (b : ℕ) (bs : List ℕ) → is_ascii_digit b ≡ true → IsTokenForm kind.Digits (take (prefix_len is_ascii_digit (b ∷ bs)) (b ∷ bs)) (take (prefix_len is_ascii_digit (b ∷ bs)) (b ∷ bs))
digits_front b bs l =
    subst (λ (n : ℕ). IsTokenForm kind.Digits (take n (b ∷ bs)) (take n (b ∷ bs))) (sym (passing_len is_ascii_digit b bs l)) (digits l (front_passes is_ascii_digit bs))

-- the token that begins with no letter, digit or quote
record OnlySign (b : ℕ) (other : List ℕ) : Type 0 where
  short : length other ≤ 1
  known : kind_of_sign b ≢ kind.Stray

only_sign : (b : ℕ) (bs : List ℕ) → is_letter b ≡ false → is_ascii_digit b ≡ false → eqb b 34 ≡ false → eqb b 39 ≡ false
    → (k : Kind) (body other more : List ℕ) → b ∷ bs ≡ other ++ more → IsTokenForm k body other → OnlySign b other
only_sign b bs l d q r _ _ _ more e (word {b = c} {bs = cs} h a) = absurd (not_word b c bs cs more l e h)
only_sign b bs l d q r _ _ _ more e (digits {d = c} {ds = cs} h a) = absurd (not_digits b c bs cs more d e h)
only_sign b bs l d q r _ _ _ more e (quoted_name {name = name} m) = absurd (not_quoted b 34 bs name more q e)
only_sign b bs l d q r _ _ _ more e (string bytes) = absurd (not_quoted b 39 bs (doubled bytes) more r e)
only_sign b bs l d q r _ _ _ more e (sign {b = c} s) = record { short = omega arith; known = λ stray_kind. not_sign b c bs more stray_kind e s }

sign_by : (b : ℕ) (bs : List ℕ) → is_letter b ≡ false → is_ascii_digit b ≡ false → eqb b 34 ≡ false → eqb b 39 ≡ false
    → (t : Bool) → same (kind_of_sign b) kind.Stray ≡ t → ScansLongest (b ∷ bs) (record { kind = kind_of_sign b; body = []; len = 1 })
sign_by b bs l d q r true e =
    let is : kind_of_sign b ≡ kind.Stray = same_true _ _ e in
    inl (λ k body front rest parts form. (only_sign b bs l d q r k body front rest parts form).known is, rw is refl)
sign_by b bs l d q r false e =
    let known : kind_of_sign b ≢ kind.Stray = λ is. let yes : same (kind_of_sign b) kind.Stray ≡ true = rw is (same_self kind.Stray) in absurd cc in
    inr (record {
      front = b ∷ [];
      rest = bs;
      token = record { parts = refl; form = sign known; longest = λ k body other more parts form. (only_sign b bs l d q r k body other more parts form).short };
      len = omega arith;
    })

-- ---- any bytes

choose_scan : (t : Bool) (bytes : List ℕ) (x y : Scan) → (t ≡ true → ScansLongest bytes x) → (t ≡ false → ScansLongest bytes y) → ScansLongest bytes (cond t x y)
choose_scan true bytes x y f g = f refl
choose_scan false bytes x y f g = g refl

quote_at : (b q : ℕ) (bs : List ℕ) (s : Scan) → eqb b q ≡ true → ScansLongest (q ∷ bs) s → ScansLongest (b ∷ bs) s
quote_at b q bs s e h = rw (eqb-true b q e) h

pub scan_longest : (b : ℕ) (bs : List ℕ) → ScansLongest (b ∷ bs) (scan_of (b ∷ bs))
unfolding scan_of
scan_longest b bs =
    choose_scan (is_letter b) (b ∷ bs) (word_scan (b ∷ bs)) _ (λ l. inr (front_longest is_word_byte b bs _ (word_front b bs l) (word_bound b bs l))) (λ no_letter.
    choose_scan (is_ascii_digit b) (b ∷ bs) (digits_scan (b ∷ bs)) _ (λ d. inr (front_longest is_ascii_digit b bs _ (digits_front b bs d) (digits_bound b bs no_letter d))) (λ no_digit.
    choose_scan (eqb b 34) (b ∷ bs) (quoted_scan kind.Name bs (position (λ x. eqb x 34) bs)) _ (λ e. quote_at b 34 bs (quoted_scan kind.Name bs (position (λ x. eqb x 34) bs)) e (name_scans bs)) (λ no_name_quote.
    choose_scan (eqb b 39) (b ∷ bs) (quoted_scan kind.Text bs (closing bs)) _ (λ e. quote_at b 39 bs (quoted_scan kind.Text bs (closing bs)) e (string_by bs (closing bs) refl)) (λ no_string_quote.
    sign_by b bs no_letter no_digit no_name_quote no_string_quote (same (kind_of_sign b) kind.Stray) refl))))

-- a blank begins no token
pub blank_begins_none : (b : ℕ) (bs : List ℕ) → is_blank b ≡ true → NoToken (b ∷ bs)
blank_begins_none b bs h k body front rest parts form = blank_by (eqb b 32) (eqb b 9) (eqb b 10) (eqb b 13) refl refl refl refl h
  where
    at : (c : ℕ) → eqb b c ≡ true → is_letter c ≡ false → is_ascii_digit c ≡ false → eqb c 34 ≡ false → eqb c 39 ≡ false → kind_of_sign c ≡ kind.Stray → ⊥
    at c e l d q r s = (only_sign c bs l d q r k body front rest (ap (λ (x : ℕ). x ∷ bs) (sym (eqb-true b c e)) ∙ parts) form).known s

    blank_by : (t u v w : Bool) → eqb b 32 ≡ t → eqb b 9 ≡ u → eqb b 10 ≡ v → eqb b 13 ≡ w → (((t || u) || v) || w) ≡ true → ⊥
    blank_by true u v w e f g i j = at 32 e refl refl refl refl refl
    blank_by false true v w e f g i j = at 9 f refl refl refl refl refl
    blank_by false false true w e f g i j = at 10 g refl refl refl refl refl
    blank_by false false false true e f g i j = at 13 i refl refl refl refl refl
    blank_by false false false false e f g i j = absurd cc

-- ---- a text that is the token of one kind stands for the same bytes

step_sign : (P : ℕ → Type 0) (b n : ℕ) (k others : Kind) (t : Bool) → P n → (others ≢ kind.Stray → P b) → eqb b n ≡ t → cond t k others ≢ kind.Stray → P b
step_sign P b n k others true here next e h = subst P (sym (eqb-true b n e)) here
step_sign P b n k others false here next e h = next h

-- what holds for each sign
each_sign : (P : ℕ → Type 0) → P 44 → P 46 → P 61 → P 43 → P 45 → P 42 → P 59 → (b : ℕ) → kind_of_sign b ≢ kind.Stray → P b
each_sign P comma dot equals plus minus star semicolon b h =
    step_sign P b 44 kind.Comma _ (eqb b 44) comma (λ h1. step_sign P b 46 kind.Dot _ (eqb b 46) dot (λ h2. step_sign P b 61 kind.Equals _ (eqb b 61) equals (λ h3.
    step_sign P b 43 kind.Plus _ (eqb b 43) plus (λ h4. step_sign P b 45 kind.Minus _ (eqb b 45) minus (λ h5. step_sign P b 42 kind.Star _ (eqb b 42) star (λ h6.
    step_sign P b 59 kind.Semicolon kind.Stray (eqb b 59) semicolon (λ h7. absurd (h7 refl)) refl h6) refl h5) refl h4) refl h3) refl h2) refl h1) refl h

abbrev ScansAsItself : ℕ → Type 0
ScansAsItself b = scan_of (b ∷ []) ≡ record { kind = kind_of_sign b; body = []; len = 1 }

sign_scans : (b : ℕ) → kind_of_sign b ≢ kind.Stray → ScansAsItself b
unfolding scan_of
sign_scans b h = each_sign ScansAsItself refl refl refl refl refl refl refl b h

pub form_scans : (k : Kind) (body front : List ℕ) → IsTokenForm k body front → scan_of front ≡ record { kind = k; body = body; len = length front }
form_scans _ _ _ (word {b = b} {bs = bs} l a) = ap scan_of (sym (append-nil (b ∷ bs))) ∙ word_scans b bs [] l a tt
form_scans _ _ _ (quoted_name {name = name} n) = quoted_scans name [] n ∙ ap (λ (m : ℕ). record { kind = kind.Name; body = name; len = m }) (sym (quoted_len 34 name))
form_scans _ _ _ (string bytes) = text_scans bytes [] tt ∙ ap (λ (m : ℕ). record { kind = kind.Text; body = doubled bytes; len = m }) (sym (quoted_len 39 (doubled bytes)))
form_scans _ _ _ (digits {d = d} {ds = ds} l a) = ap scan_of (sym (append-nil (d ∷ ds))) ∙ digits_scan_as d ds [] (rw l a) tt
form_scans _ _ _ (sign {b = b} s) = sign_scans b s ∙ ap (λ (m : ℕ). record { kind = kind_of_sign b; body = []; len = m }) (omega arith)

-- ---- no token is stray

known_by : (t : Bool) (x y : Kind) → x ≢ kind.Stray → y ≢ kind.Stray → cond t x y ≢ kind.Stray
known_by true x y f g = f
known_by false x y f g = g

word_known : (w : List ℕ) → kind_of_word w ≢ kind.Stray
unfolding kind_of_word
word_known w =
    known_by (is_word w (codes "select")) kind.Select _ (λ e. absurd cc) (
    known_by (is_word w (codes "from")) kind.From _ (λ e. absurd cc) (
    known_by (is_word w (codes "where")) kind.Where _ (λ e. absurd cc) (
    known_by (is_word w (codes "and")) kind.And _ (λ e. absurd cc) (
    known_by (is_word w (codes "order")) kind.Order _ (λ e. absurd cc) (
    known_by (is_word w (codes "by")) kind.By _ (λ e. absurd cc) (
    known_by (is_word w (codes "limit")) kind.Limit _ (λ e. absurd cc) (
    known_by (is_word w (codes "asc")) kind.Asc _ (λ e. absurd cc) (
    known_by (is_word w (codes "desc")) kind.Desc _ (λ e. absurd cc) (
    known_by (is_word w (codes "as")) kind.As _ (λ e. absurd cc) (
    known_by (is_word w (codes "join")) kind.Join _ (λ e. absurd cc) (
    known_by (is_word w (codes "inner")) kind.Inner _ (λ e. absurd cc) (
    known_by (is_word w (codes "on")) kind.On _ (λ e. absurd cc) (
    known_by (is_word w (codes "union")) kind.Union _ (λ e. absurd cc) (
    known_by (is_word w (codes "all")) kind.All _ (λ e. absurd cc) (λ e. absurd cc)))))))))))))))

pub token_known : (k : Kind) (body front : List ℕ) → IsTokenForm k body front → k ≢ kind.Stray
token_known _ _ _ (word {b = b} {bs = bs} l a) = word_known (b ∷ bs)
token_known _ _ _ (quoted_name n) = λ e. absurd cc
token_known _ _ _ (string bytes) = λ e. absurd cc
token_known _ _ _ (digits l a) = λ e. absurd cc
token_known _ _ _ (sign s) = s
