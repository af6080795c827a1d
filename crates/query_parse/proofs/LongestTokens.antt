-- The tokens of bytes are the longest ones, each from where the one before it ends.
use Rattle.std.proofs.Common.{◌≡◌, ℕ, zero, suc, ◌+◌, ◌≤◌, List, [], ◌∷◌, ◌++◌, length, take, drop, Bool, true, false, refl, sym, ap, subst, ◌∙◌, inl, inr, arith}
use Rattle.std.specs.Prelude.{◌↔◌}
use Rattle.std.proofs.lemmas.List.{take_at, drop_at, length-append}
use Rattle.query_select.specs.declared.token.Kind.{Kind}
use Rattle.query_select.specs.declared.token.Kind.TheVariants as kind
use Rattle.query_select.specs.Lexeme.{Lexeme}
use Rattle.query_select.specs.Tokens.{is_blank, Scan, stray, scan_of, tokens_from, tokens_of}
use Rattle.query_parse.specs.TokenForms.{NoToken, IsLongestToken, IsLongestScan, ScansLongest, AreTokens, no_more, after_blank, after_token, after_stray}
use Rattle.query_select.proofs.ScanLength.{lexeme_of, tokens_at_token, tokens_at_blank}
use Rattle.query_parse.proofs.Longest.{first_byte, no_token_in_nothing, scan_longest, blank_begins_none, form_scans, token_known}

-- ---- any bytes are scanned

pub scans_longest : (bytes : List ℕ) → ScansLongest bytes (scan_of bytes)
unfolding scan_of
scans_longest [] = inl (no_token_in_nothing, refl)
scans_longest (b ∷ bs) = scan_longest b bs

-- ---- one longest token

-- two fronts of one list that are equally long are equal
same_front : (xs ys more others : List ℕ) → xs ++ more ≡ ys ++ others → length xs ≡ length ys → xs ≡ ys
same_front xs ys more others e len =
    sym (take_at xs more (length xs) refl) ∙ ap (take (length xs)) e ∙ take_at ys others (length xs) (sym len)

-- two longest tokens of the same bytes are equally long
as_long : (bytes : List ℕ) (j k : Kind) (a b front other rest more : List ℕ) → IsLongestToken bytes j a front rest → IsLongestToken bytes k b other more → length front ≡ length other
as_long bytes j k a b front other rest more s t =
    let below : length other ≤ length front = s.longest k b other more t.parts t.form in
    let above : length front ≤ length other = t.longest j a front rest s.parts s.form in
    omega arith

pub one_longest : (bytes : List ℕ) (k : Kind) (body front rest : List ℕ) (s : Scan) → IsLongestToken bytes k body front rest → IsLongestScan bytes s → s ≡ record { kind = k; body = body; len = length front }
one_longest bytes k body front rest s t l =
    let len : length l.front ≡ length front = as_long bytes s.kind k s.body body l.front front l.rest rest l.token t in
    let same : l.front ≡ front = same_front l.front front l.rest rest (sym l.token.parts ∙ t.parts) len in
    let found : record { kind = s.kind; body = s.body; len = length l.front } ≡ record { kind = k; body = body; len = length front }
    = sym (form_scans s.kind s.body l.front l.token.form) ∙ ap scan_of same ∙ form_scans k body front t.form in
    ap (λ (n : ℕ). record s { len = n }) l.len ∙ found

-- ---- the tokens are as they must be

by_token : (at b : ℕ) (bs : List ℕ) (n : ℕ) (s : Scan) → ((from : ℕ) (rest : List ℕ) → length rest ≤ n → AreTokens from rest (tokens_from 0 from rest)) → length bs ≤ n → is_blank b ≡ false
    → ScansLongest (b ∷ bs) s → AreTokens at (b ∷ bs) (lexeme_of at s ∷ tokens_from 0 (at + s.len) (drop s.len (b ∷ bs)))
by_token at b bs n s go short e (inl (none, is)) = rw is (after_stray e none (go (at + 1) bs short))
by_token at b bs n s go short e (inr l) =
    let f = first_byte s.kind s.body l.front l.token.form in
    let whole : b ∷ bs ≡ l.front ++ l.rest = l.token.parts in
    let behind : drop s.len (b ∷ bs) ≡ l.rest = ap (drop s.len) whole ∙ drop_at l.front l.rest s.len (sym l.len) in
    let sizes : suc (length bs) ≡ length l.front + length l.rest = ap length whole ∙ length-append l.front l.rest in
    let some : length l.front ≡ suc (length f.1) = ap length f.2 in
    let fewer : length l.rest ≤ n = omega arith in
    rw (behind, l.len) (after_token l.token (go (at + length l.front) l.rest fewer))

by_blank : (at b : ℕ) (bs : List ℕ) (n : ℕ) (t : Bool) → ((from : ℕ) (rest : List ℕ) → length rest ≤ n → AreTokens from rest (tokens_from 0 from rest)) → length bs ≤ n → is_blank b ≡ t
    → AreTokens at (b ∷ bs) (tokens_from 0 at (b ∷ bs))
by_blank at b bs n true go short e = rw (tokens_at_blank at b bs e) (after_blank e (go (at + 1) bs short))
by_blank at b bs n false go short e = rw (tokens_at_token at b bs e) (by_token at b bs n (scan_of (b ∷ bs)) go short e (scan_longest b bs))

nothing_left : (at : ℕ) → AreTokens at [] (tokens_from 0 at [])
unfolding tokens_from
nothing_left at = no_more

are_tokens : (n at : ℕ) (bytes : List ℕ) → length bytes ≤ n → AreTokens at bytes (tokens_from 0 at bytes)
are_tokens n at [] h = nothing_left at
are_tokens zero at (b ∷ bs) h = absurd (omega arith)
are_tokens (suc n) at (b ∷ bs) h = by_blank at b bs n (is_blank b) (λ from rest short. are_tokens n from rest short) (omega arith) refl

-- ---- and no other list is

nothing_is : (at : ℕ) → [] ≡ tokens_from 0 at []
unfolding tokens_from
nothing_is at = refl

not_blank : (b : ℕ) (bs : List ℕ) (k : Kind) (body front rest : List ℕ) (t : Bool) → IsLongestToken (b ∷ bs) k body front rest → is_blank b ≡ t → t ≡ false
not_blank b bs k body front rest true l e = absurd (blank_begins_none b bs e k body front rest l.parts l.form)
not_blank b bs k body front rest false l e = refl

longest_is : (b : ℕ) (bs : List ℕ) (k : Kind) (body front rest : List ℕ) (s : Scan) → IsLongestToken (b ∷ bs) k body front rest → ScansLongest (b ∷ bs) s → s ≡ record { kind = k; body = body; len = length front }
longest_is b bs k body front rest s l (inl (none, is)) = absurd (none k body front rest l.parts l.form)
longest_is b bs k body front rest s l (inr scan) = one_longest (b ∷ bs) k body front rest s l scan

stray_is : (bytes : List ℕ) (s : Scan) → NoToken bytes → ScansLongest bytes s → s ≡ stray
stray_is bytes s none (inl (_, is)) = is
stray_is bytes s none (inr l) = absurd (none s.kind s.body l.front l.rest l.token.parts l.token.form)

token_is : (at : ℕ) (bytes : List ℕ) (k : Kind) (body front rest : List ℕ) (tokens : List Lexeme) → IsLongestToken bytes k body front rest → tokens ≡ tokens_from 0 (at + length front) rest
    → record { kind = k; at = at; body = body } ∷ tokens ≡ tokens_from 0 at bytes
token_is at [] k body front rest tokens l e = absurd (no_token_in_nothing k body front rest l.parts l.form)
token_is at (b ∷ bs) k body front rest tokens l e =
    let scan : scan_of (b ∷ bs) ≡ record { kind = k; body = body; len = length front } = longest_is b bs k body front rest (scan_of (b ∷ bs)) l (scan_longest b bs) in
    let behind : drop (length front) (b ∷ bs) ≡ rest = ap (drop (length front)) l.parts ∙ drop_at front rest (length front) refl in
    let here : tokens_from 0 at (b ∷ bs) ≡ lexeme_of at (scan_of (b ∷ bs)) ∷ tokens_from 0 (at + (scan_of (b ∷ bs)).len) (drop (scan_of (b ∷ bs)).len (b ∷ bs))
    = tokens_at_token at b bs (not_blank b bs k body front rest (is_blank b) l refl) in
    ap (λ (ts : List Lexeme). record { kind = k; at = at; body = body } ∷ ts) (e ∙ ap (tokens_from 0 (at + length front)) (sym behind))
    ∙ ap (λ (s : Scan). lexeme_of at s ∷ tokens_from 0 (at + s.len) (drop s.len (b ∷ bs))) (sym scan) ∙ sym here

stray_byte_is : (at b : ℕ) (bs : List ℕ) (tokens : List Lexeme) → is_blank b ≡ false → NoToken (b ∷ bs) → tokens ≡ tokens_from 0 (at + 1) bs
    → record { kind = kind.Stray; at = at; body = [] } ∷ tokens ≡ tokens_from 0 at (b ∷ bs)
stray_byte_is at b bs tokens blank none e =
    let scan : scan_of (b ∷ bs) ≡ stray = stray_is (b ∷ bs) (scan_of (b ∷ bs)) none (scan_longest b bs) in
    ap (λ (ts : List Lexeme). lexeme_of at stray ∷ ts) e
    ∙ ap (λ (s : Scan). lexeme_of at s ∷ tokens_from 0 (at + s.len) (drop s.len (b ∷ bs))) (sym scan) ∙ sym (tokens_at_token at b bs blank)

are_those : (at : ℕ) (bytes : List ℕ) (tokens : List Lexeme) → AreTokens at bytes tokens → tokens ≡ tokens_from 0 at bytes
are_those _ _ _ (no_more {at = at}) = nothing_is at
are_those _ _ _ (after_blank {at = at} {b = b} {bs = bs} {tokens = tokens} e h) = are_those (at + 1) bs tokens h ∙ sym (tokens_at_blank at b bs e)
are_those _ _ _ (after_token {at = at} {bytes = bytes} {k = k} {body = body} {front = front} {rest = rest} {tokens = tokens} l h) =
    token_is at bytes k body front rest tokens l (are_those (at + length front) rest tokens h)
are_those _ _ _ (after_stray {at = at} {b = b} {bs = bs} {tokens = tokens} e none h) = stray_byte_is at b bs tokens e none (are_those (at + 1) bs tokens h)

-- ---- the laws

none_by : (bytes : List ℕ) (s : Scan) → ScansLongest bytes s → s ≡ stray → NoToken bytes
none_by bytes s (inl (none, _)) e = none
none_by bytes s (inr l) e = absurd (token_known s.kind s.body l.front l.token.form (ap (λ (x : Scan). x.kind) e))

pub stray_iff : (bytes : List ℕ) → NoToken bytes ↔ (scan_of bytes ≡ stray)
stray_iff bytes = (λ none. stray_is bytes (scan_of bytes) none (scans_longest bytes), λ e. none_by bytes (scan_of bytes) (scans_longest bytes) e)

pub tokens_iff : (bytes : List ℕ) (tokens : List Lexeme) → AreTokens 0 bytes tokens ↔ (tokens ≡ tokens_of bytes)
tokens_iff bytes tokens = (are_those 0 bytes tokens, λ e. subst (AreTokens 0 bytes) (sym e) (are_tokens (length bytes) 0 bytes (omega arith)))
