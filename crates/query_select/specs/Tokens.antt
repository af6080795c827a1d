-- The tokens of a query's bytes.
use Rattle.std.specs.Prelude.{ℕ, zero, suc, ◌+◌, ◌-◌, List, [], ◌∷◌, take, map, Option, Some, None, Bool, ◌==◌, ◌||◌, if◌then◌else◌, codes}
use Rattle.std.specs.List.{prefix_len, position}
use Rattle.std.specs.Option.{option_map, option_map_or}
use Rattle.std.specs.Str.{bytes_eq}
use Rattle.std.specs.Char.{is_ascii_alphabetic, is_ascii_alphanumeric, is_ascii_digit, to_ascii_lowercase}
use Rattle.query_select.specs.declared.token.Kind.{Kind}
use Rattle.query_select.specs.declared.token.Kind.TheVariants as kind
use Rattle.query_select.specs.Lexeme.{Lexeme}

-- space, tab, line feed and carriage return
abbrev pub is_blank : ℕ → Bool
is_blank b = b == 32 || b == 9 || b == 10 || b == 13

-- a letter or an underscore
abbrev pub is_letter : ℕ → Bool
is_letter b = is_ascii_alphabetic b || b == 95

-- the bytes that a word may have after its first letter
abbrev pub is_word_byte : ℕ → Bool
is_word_byte b = is_ascii_alphanumeric b || b == 95

abbrev pub is_word : List ℕ → List ℕ → Bool
is_word word keyword = bytes_eq (map to_ascii_lowercase word) keyword

-- the keyword that a word is, in any mixture of cases, or a name
unfoldable pub kind_of_word : List ℕ → Kind
kind_of_word w =
    if is_word w (codes "select") then kind.Select else
    if is_word w (codes "from") then kind.From else
    if is_word w (codes "where") then kind.Where else
    if is_word w (codes "and") then kind.And else
    if is_word w (codes "order") then kind.Order else
    if is_word w (codes "by") then kind.By else
    if is_word w (codes "limit") then kind.Limit else
    if is_word w (codes "asc") then kind.Asc else
    if is_word w (codes "desc") then kind.Desc else
    if is_word w (codes "as") then kind.As else
    if is_word w (codes "join") then kind.Join else
    if is_word w (codes "inner") then kind.Inner else
    if is_word w (codes "on") then kind.On else
    if is_word w (codes "union") then kind.Union else
    if is_word w (codes "all") then kind.All else
    kind.Name

abbrev pub kind_of_sign : ℕ → Kind
kind_of_sign b =
    if b == 44 then kind.Comma else
    if b == 46 then kind.Dot else
    if b == 61 then kind.Equals else
    if b == 43 then kind.Plus else
    if b == 45 then kind.Minus else
    if b == 42 then kind.Star else
    if b == 59 then kind.Semicolon else
    kind.Stray

-- The place of the quote that ends the longest string, after its opening quote. A quote that
-- another one follows may stand for one byte of the string.
unfoldable pub closing : List ℕ → Option ℕ
closing [] = None
closing (b ∷ []) = if b == 39 then Some 0 else None
closing (b ∷ c ∷ bs) =
    if b == 39 then Some (if c == 39 then option_map_or (λ n. n + 2) (closing bs) 0 else 0) else
    option_map (λ n. n + 1) (closing (c ∷ bs))

-- a token: its kind, the bytes that it stands for, and the number of bytes that it takes
pub record Scan : Type 0 where
  pub kind : Kind
  pub body : List ℕ
  pub len : ℕ

abbrev pub stray : Scan
stray = record { kind = kind.Stray; body = []; len = 1 }

-- the token between two quotes, if there is a second one
abbrev pub quoted_scan : Kind → List ℕ → Option ℕ → Scan
quoted_scan k inside None = stray
quoted_scan k inside (Some n) = record { kind = k; body = take n inside; len = n + 2 }

abbrev pub word_scan : List ℕ → Scan
word_scan bytes = record {
  kind = kind_of_word (take (prefix_len is_word_byte bytes) bytes);
  body = take (prefix_len is_word_byte bytes) bytes;
  len = prefix_len is_word_byte bytes;
}

abbrev pub digits_scan : List ℕ → Scan
digits_scan bytes = record {
  kind = kind.Digits;
  body = take (prefix_len is_ascii_digit bytes) bytes;
  len = prefix_len is_ascii_digit bytes;
}

-- the longest token at the front
unfoldable pub scan_of : List ℕ → Scan
scan_of [] = stray
scan_of (b ∷ bs) =
    if is_letter b then word_scan (b ∷ bs) else
    if is_ascii_digit b then digits_scan (b ∷ bs) else
    if b == 34 then quoted_scan kind.Name bs (position (λ x. x == 34) bs) else
    if b == 39 then quoted_scan kind.Text bs (closing bs) else
    record { kind = kind_of_sign b; body = []; len = 1 }

-- the tokens after the bytes that an earlier token has taken
unfoldable pub tokens_from : ℕ → ℕ → List ℕ → List Lexeme
tokens_from taken at [] = []
tokens_from (suc taken) at (b ∷ bs) = tokens_from taken (at + 1) bs
tokens_from zero at (b ∷ bs) =
    if is_blank b then tokens_from zero (at + 1) bs else
    (record { kind = (scan_of (b ∷ bs)).kind; at = at; body = (scan_of (b ∷ bs)).body }
    ∷ tokens_from ((scan_of (b ∷ bs)).len - 1) (at + 1) bs)

abbrev pub tokens_of : List ℕ → List Lexeme
tokens_of bytes = tokens_from 0 0 bytes
