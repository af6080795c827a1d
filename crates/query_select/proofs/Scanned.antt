-- The token at the front of some bytes, by its first byte.
use Rattle.std.proofs.Common.{◌≡◌, ℕ, ◌-◌, ◌<◌, ◌==◌, List, [], ◌∷◌, length, take, drop, get_or, Option, Bool, cond, true, false, sym, ap, ◌∙◌, arith}
use Rattle.std.proofs.lemmas.List.{length-take, take_all}
use Rattle.std.proofs.lemmas.List.Sums.{prefix_len-le-length}
use Rattle.std.specs.List.{prefix_len, position}
use Rattle.std.specs.Char.{is_ascii_digit}
use Rattle.query_select.specs.declared.token.Kind.{Kind}
use Rattle.query_select.specs.declared.token.Kind.TheVariants as kind
use Rattle.query_select.specs.Tokens.{closing, is_letter, is_word_byte, kind_of_word, Scan, digits_scan, quoted_scan, scan_of}

pub word_scanned : (bytes : List ℕ) (n : ℕ) (k : Kind) → 0 < length bytes → is_letter (get_or bytes 0 0) ≡ true
    → n ≡ prefix_len is_word_byte bytes → k ≡ kind_of_word (take n bytes)
    → ◌≡◌ {A = Scan} (record { kind = k; body = take n bytes; len = length (take n bytes) }) (scan_of bytes)
unfolding scan_of
word_scanned [] n k some letter is named = absurd (omega arith)
word_scanned (b ∷ bs) n k some letter is named =
    let long : length (take n (b ∷ bs)) ≡ prefix_len is_word_byte (b ∷ bs) = omega (arith, length-take n (b ∷ bs), is, prefix_len-le-length is_word_byte (b ∷ bs)) in
    let known : k ≡ kind_of_word (take (prefix_len is_word_byte (b ∷ bs)) (b ∷ bs)) = named ∙ ap (λ (m : ℕ). kind_of_word (take m (b ∷ bs))) is in
    rw letter (λ i. record { kind = known i; body = take (is i) (b ∷ bs); len = long i })

chosen : (t : Bool) (x y z : Scan) → t ≡ true → z ≡ x → z ≡ cond t x y
chosen t x y z e is = is ∙ sym (ap (λ (b : Bool). cond b x y) e)

pub digits_scanned : (bytes : List ℕ) (n : ℕ) → 0 < length bytes → is_letter (get_or bytes 0 0) ≡ false → is_ascii_digit (get_or bytes 0 0) ≡ true
    → n ≡ prefix_len is_ascii_digit bytes
    → ◌≡◌ {A = Scan} (record { kind = kind.Digits; body = take n bytes; len = length (take n bytes) }) (scan_of bytes)
unfolding scan_of
digits_scanned [] n some letter digit is = absurd (omega arith)
digits_scanned (b ∷ bs) n some letter digit is =
    let long : length (take n (b ∷ bs)) ≡ prefix_len is_ascii_digit (b ∷ bs) = omega (arith, length-take n (b ∷ bs), is, prefix_len-le-length is_ascii_digit (b ∷ bs)) in
    rw letter (chosen (is_ascii_digit b) (digits_scan (b ∷ bs)) _ _ digit (λ i. record { kind = kind.Digits; body = take (is i) (b ∷ bs); len = long i }))

-- the bytes after the first one
rest_is : (b : ℕ) (bs : List ℕ) → take (length (b ∷ bs) - 1) (drop 1 (b ∷ bs)) ≡ bs
rest_is b bs = take_all (length (b ∷ bs) - 1) bs (omega arith)

pub name_scanned : (bytes : List ℕ) (end : Option ℕ) (s : Scan) → 0 < length bytes → is_letter (get_or bytes 0 0) ≡ false → is_ascii_digit (get_or bytes 0 0) ≡ false
    → get_or bytes 0 0 ≡ 34 → end ≡ position (λ x. x == 34) (take (length bytes - 1) (drop 1 bytes)) → s ≡ quoted_scan kind.Name (take (length bytes - 1) (drop 1 bytes)) end
    → s ≡ scan_of bytes
unfolding scan_of
name_scanned [] end s some letter digit quote ends is = absurd (omega arith)
name_scanned (b ∷ bs) end s some letter digit quote ends is =
    let here : (b == 34) ≡ true = ap (λ (x : ℕ). x == 34) quote in
    rw (letter, digit, here) (is ∙ ap (quoted_scan kind.Name (take (length (b ∷ bs) - 1) (drop 1 (b ∷ bs)))) ends
    ∙ ap (λ (l : List ℕ). quoted_scan kind.Name l (position (λ x. x == 34) l)) (rest_is b bs))

pub text_scanned : (bytes : List ℕ) (end : Option ℕ) (s : Scan) → 0 < length bytes → is_letter (get_or bytes 0 0) ≡ false → is_ascii_digit (get_or bytes 0 0) ≡ false
    → get_or bytes 0 0 ≡ 39 → end ≡ closing (take (length bytes - 1) (drop 1 bytes)) → s ≡ quoted_scan kind.Text (take (length bytes - 1) (drop 1 bytes)) end
    → s ≡ scan_of bytes
unfolding scan_of
text_scanned [] end s some letter digit quote ends is = absurd (omega arith)
text_scanned (b ∷ bs) end s some letter digit quote ends is =
    let other : (b == 34) ≡ false = ap (λ (x : ℕ). x == 34) quote in
    let here : (b == 39) ≡ true = ap (λ (x : ℕ). x == 39) quote in
    rw (letter, digit, other, here) (is ∙ ap (quoted_scan kind.Text (take (length (b ∷ bs) - 1) (drop 1 (b ∷ bs)))) ends
    ∙ ap (λ (l : List ℕ). quoted_scan kind.Text l (closing l)) (rest_is b bs))
