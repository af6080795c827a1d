-- The forms of a token. A token is the longest text of one of them that begins at its place.
use Rattle.std.specs.Prelude.{◌≡◌, ◌≢◌, ℕ, ◌+◌, ◌≤◌, List, [], ◌∷◌, ◌++◌, length, IsTrue, false, not, ◌==◌, ◌⊎◌}
use Rattle.std.specs.List.{list_all}
use Rattle.std.specs.Char.{is_ascii_digit}
use Rattle.query_select.specs.declared.token.Kind.{Kind}
use Rattle.query_select.specs.declared.token.Kind.TheVariants as kind
use Rattle.query_select.specs.Lexeme.{Lexeme}
use Rattle.query_select.specs.Tokens.{is_blank, is_letter, is_word_byte, kind_of_word, kind_of_sign, Scan, stray}
use Rattle.query_parse.specs.Text.{doubled}

-- the kind of a token, the bytes that it stands for, and its text
pub data IsTokenForm : Kind → List ℕ → List ℕ → Type 0 where
  word : {b : ℕ} {bs : List ℕ} → IsTrue (is_letter b) → IsTrue (list_all is_word_byte bs)
      → IsTokenForm (kind_of_word (b ∷ bs)) (b ∷ bs) (b ∷ bs)
  quoted_name : {name : List ℕ} → IsTrue (list_all (λ b. not (b == 34)) name)
      → IsTokenForm kind.Name name (34 ∷ name ++ 34 ∷ [])
  string : (bytes : List ℕ) → IsTokenForm kind.Text (doubled bytes) (39 ∷ doubled bytes ++ 39 ∷ [])
  digits : {d : ℕ} {ds : List ℕ} → IsTrue (is_ascii_digit d) → IsTrue (list_all is_ascii_digit ds)
      → IsTokenForm kind.Digits (d ∷ ds) (d ∷ ds)
  sign : {b : ℕ} → kind_of_sign b ≢ kind.Stray → IsTokenForm (kind_of_sign b) [] (b ∷ [])

-- no token begins these bytes
abbrev pub NoToken : List ℕ → Type 0
NoToken bytes = (k : Kind) (body front rest : List ℕ) → bytes ≡ front ++ rest
    → IsTokenForm k body front → ⊥

-- the bytes begin with this text of this token, and with no longer text of any token
pub record IsLongestToken (bytes : List ℕ) (k : Kind) (body front rest : List ℕ) : Type 0 where
  pub parts : bytes ≡ front ++ rest
  pub form : IsTokenForm k body front
  pub longest : (other_kind : Kind) (other_body other more : List ℕ) → bytes ≡ other ++ more
      → IsTokenForm other_kind other_body other → length other ≤ length front

-- a scan of the longest token that begins the bytes
pub record IsLongestScan (bytes : List ℕ) (s : Scan) : Type 0 where
  pub front : List ℕ
  pub rest : List ℕ
  pub token : IsLongestToken bytes s.kind s.body front rest
  pub len : s.len ≡ length front

-- a scan of the longest token, or of a stray byte if no token begins
abbrev pub ScansLongest : List ℕ → Scan → Type 0
ScansLongest bytes s = (NoToken bytes × (s ≡ stray)) ⊎ IsLongestScan bytes s

-- the tokens of the bytes, from this offset
pub data AreTokens : ℕ → List ℕ → List Lexeme → Type 0 where
  no_more : {at : ℕ} → AreTokens at [] []
  after_blank : {at b : ℕ} {bs : List ℕ} {tokens : List Lexeme} → IsTrue (is_blank b)
      → AreTokens (at + 1) bs tokens → AreTokens at (b ∷ bs) tokens
  after_token : {at : ℕ} {bytes : List ℕ} {k : Kind} {body front rest : List ℕ}
      {tokens : List Lexeme} → IsLongestToken bytes k body front rest
      → AreTokens (at + length front) rest tokens
      → AreTokens at bytes (record { kind = k; at = at; body = body } ∷ tokens)
  after_stray : {at b : ℕ} {bs : List ℕ} {tokens : List Lexeme} → is_blank b ≡ false
      → NoToken (b ∷ bs)
      → AreTokens (at + 1) bs tokens
      → AreTokens at (b ∷ bs) (record { kind = kind.Stray; at = at; body = [] } ∷ tokens)
