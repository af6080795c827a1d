-- Frames: bytes with their length before them.
use Rattle.std.specs.Prelude.{◌≡◌, ◌≤◌, ◌<◌, ℕ, ◌+◌, ◌-◌, ◌*◌, List, [], ◌∷◌, ◌++◌, length, fold, IsTrue}
use Rattle.std.specs.List.{list_all}
use Rattle.std.specs.Char.{is_ascii_digit}
use Rattle.request_frames.specs.declared.frame.Frame.{Frame}
use Rattle.request_frames.specs.declared.frame.Frame.TheVariants as frame

-- the number that decimal digits write
abbrev pub value_of : List ℕ → ℕ
value_of digits = fold (λ n d. n * 10 + (d - 48)) 0 digits

-- eight digits that write the size, and a line feed
pub record IsHead (head : List ℕ) (size : ℕ) : Type 0 where
  pub digits : List ℕ
  pub eight : length digits ≡ 8
  pub are_digits : IsTrue (list_all is_ascii_digit digits)
  pub writes : value_of digits ≡ size
  pub parts : head ≡ digits ++ 10 ∷ []

-- the text is a head with the length of the bytes, and the bytes
pub record IsFrame (text bytes : List ℕ) : Type 0 where
  pub head : List ℕ
  pub is_head : IsHead head (length bytes)
  pub parts : text ≡ head ++ bytes

-- the text begins with a frame
pub record HasFrame (text : List ℕ) : Type 0 where
  pub front : List ℕ
  pub bytes : List ℕ
  pub rest : List ℕ
  pub is_frame : IsFrame front bytes
  pub parts : text ≡ front ++ rest

-- what was kept of a frame of these bytes, of which at most `most` may be kept
abbrev pub IsKept : ℕ → List ℕ → Frame → Type 0
IsKept most bytes (frame.Kept kept) = (kept.items ≡ bytes) × (length bytes ≤ most)
IsKept most bytes frame.TooLong = most < length bytes
IsKept most bytes frame.Refused = Unit {0}
