-- Reading a text byte by byte.
use Rattle.std.proofs.Common.{◌≡◌, ◌≤◌, ◌<◌, ◌+◌, ℕ, zero, suc, List, [], ◌∷◌, ◌++◌, length, map, refl, sym, ap, ◌∙◌, append_assoc, append-nil, true, nat_lt, arith, length-append}
use Rattle.std.proofs.lemmas.Bool.Decides.{nat_tests}
use Rattle.reply_parts.specs.History.{Place, Head, start, body, behind, given_by, next, gives, after, items}

pub after-append : (p : Place) (xs ys : List ℕ) → after p (xs ++ ys) ≡ after (after p xs) ys
after-append p [] ys = refl
after-append p (x ∷ xs) ys = after-append (next p x) xs ys

pub items-append : (p : Place) (xs ys : List ℕ) → items p (xs ++ ys) ≡ items p xs ++ items (after p xs) ys
items-append p [] ys = refl
items-append p (x ∷ xs) ys =
    ap (λ l. gives p x ++ l) (items-append (next p x) xs ys) ∙ sym (append_assoc (gives p x) (items (next p x) xs) (items (after (next p x) xs) ys))

below_twelve : (n : ℕ) → n < 12 → nat_lt n 12 ≡ true
below_twelve n h = grind (arith, nat_tests)

next_in_head : (xs : List ℕ) (b : ℕ) → length xs < 12 → next (Head xs) b ≡ Head (xs ++ b ∷ [])
next_in_head xs b h = rw (below_twelve (length xs) h) refl

gives_in_head : (xs : List ℕ) (b : ℕ) → length xs < 12 → gives (Head xs) b ≡ []
gives_in_head xs b h = rw (below_twelve (length xs) h) refl

one_longer : (xs : List ℕ) (b : ℕ) (bs : List ℕ) → length xs + length (b ∷ bs) ≤ 12 → length (xs ++ b ∷ []) + length bs ≤ 12
one_longer xs b bs h = omega (arith, h, length-append xs (b ∷ []))

-- bytes that leave a head unfinished
pub after_in_head : (xs ys : List ℕ) → length xs + length ys ≤ 12 → after (Head xs) ys ≡ Head (xs ++ ys)
after_in_head xs [] h = ap Head (sym (append-nil xs))
after_in_head xs (b ∷ bs) h =
    ap (λ p. after p bs) (next_in_head xs b (omega (arith, h)))
    ∙ after_in_head (xs ++ b ∷ []) bs (one_longer xs b bs h) ∙ ap Head (append_assoc xs (b ∷ []) bs)

pub items_in_head : (xs ys : List ℕ) → length xs + length ys ≤ 12 → items (Head xs) ys ≡ []
items_in_head xs [] h = refl
items_in_head xs (b ∷ bs) h =
    let p = next_in_head xs b (omega (arith, h)) in
    let e = gives_in_head xs b (omega (arith, h)) in
    ap (λ l. l ++ items (next (Head xs) b) bs) e ∙ ap (λ q. items q bs) p ∙ items_in_head (xs ++ b ∷ []) bs (one_longer xs b bs h)

-- thirteen bytes are a head
pub after_head : (a b c d e f g h i j k l m : ℕ)
    → after start (a ∷ b ∷ c ∷ d ∷ e ∷ f ∷ g ∷ h ∷ i ∷ j ∷ k ∷ l ∷ m ∷ []) ≡ behind (a ∷ b ∷ c ∷ d ∷ e ∷ f ∷ g ∷ h ∷ i ∷ j ∷ k ∷ l ∷ m ∷ [])
after_head a b c d e f g h i j k l m = refl

pub items_head : (a b c d e f g h i j k l m : ℕ)
    → items start (a ∷ b ∷ c ∷ d ∷ e ∷ f ∷ g ∷ h ∷ i ∷ j ∷ k ∷ l ∷ m ∷ []) ≡ given_by (a ∷ b ∷ c ∷ d ∷ e ∷ f ∷ g ∷ h ∷ i ∷ j ∷ k ∷ l ∷ m ∷ [])
items_head a b c d e f g h i j k l m = append-nil (given_by (a ∷ b ∷ c ∷ d ∷ e ∷ f ∷ g ∷ h ∷ i ∷ j ∷ k ∷ l ∷ m ∷ []))

-- bytes of a part
pub after_body : (more left rest : ℕ) (bs : List ℕ) → rest + length bs ≡ left → after (body more left) bs ≡ body more rest
after_body more left rest [] h = ap (body more) (omega (arith, h))
after_body more zero rest (b ∷ bs) h = absurd (omega (arith, h))
after_body more (suc left) rest (b ∷ bs) h = after_body more left rest bs (omega (arith, h))

pub items_body : (more left : ℕ) (bs : List ℕ) → length bs ≤ left → items (body more left) bs ≡ map (λ b. b + more) bs
items_body more left [] h = refl
items_body more zero (b ∷ bs) h = absurd (omega (arith, h))
items_body more (suc left) (b ∷ bs) h = ap (λ l. (b + more) ∷ l) (items_body more left bs (omega (arith, h)))
