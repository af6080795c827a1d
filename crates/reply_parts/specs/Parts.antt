-- Texts of whole parts, and what they give.
use Rattle.std.specs.Prelude.{◌≡◌, ℕ, ◌+◌, List, [], ◌∷◌, ◌++◌, length, map, IsTrue}
use Rattle.std.specs.List.{list_all}
use Rattle.std.specs.Char.{is_ascii_digit}
use Rattle.request_frames.specs.Frames.{value_of}
use Rattle.reply_parts.specs.Heads.{out_word, err_word, end_word}

-- the word, eight digits that write the number, and a line feed
pub record IsPartHead (word head : List ℕ) (number : ℕ) : Type 0 where
  pub digits : List ℕ
  pub eight : length digits ≡ 8
  pub are_digits : IsTrue (list_all is_ascii_digit digits)
  pub writes : value_of digits ≡ number
  pub parts : head ≡ word ++ (digits ++ 10 ∷ [])

-- the text is whole parts, and gives these items
pub data AreParts : List ℕ → List ℕ → Type 0 where
  none : AreParts [] []
  output : (head bytes : List ℕ) {text items : List ℕ} → IsPartHead out_word head (length bytes)
      → AreParts text items → AreParts (head ++ (bytes ++ text)) (bytes ++ items)
  errors : (head bytes : List ℕ) {text items : List ℕ} → IsPartHead err_word head (length bytes)
      → AreParts text items
      → AreParts (head ++ (bytes ++ text)) (map (λ b. b + 256) bytes ++ items)
  ending : (head : List ℕ) (status : ℕ) {text items : List ℕ} → IsPartHead end_word head status
      → AreParts text items → AreParts (head ++ text) ((512 + status) ∷ items)
