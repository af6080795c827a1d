-- The bound on counted steps.
use Rattle.std.specs.Prelude.{ℕ, suc, ◌≡◌, ◌+◌, ◌-◌, ◌*◌, ◌≤◌, nat_le, Bool, false, if◌then◌else◌, List, [], ◌∷◌, ◌++◌, drop, length, Option, None, Some}
use Rattle.rank_key.specs.Bits.{bit_length}
use Rattle.anyk_model.specs.Output.{cut}

-- l items, b rows, and c calls for answers
abbrev pub cost : ℕ → ℕ → ℕ → ℕ
cost l b c = 64 * (l * l) * (1 + b + c * (1 + bit_length (b + c * l)))

-- the limit is within the list
abbrev pub reaches : {A : Type 0} → Option ℕ → List A → Bool
reaches None list = false
reaches (Some n) list = nat_le n (length list)

-- the calls that give the first members up to a limit; one of them finds the end if the list ends
-- before the limit
abbrev pub calls_for : {A : Type 0} → Option ℕ → List A → ℕ
calls_for limit list = length (cut limit list) + (if reaches limit list then 0 else 1)

-- the greatest number of steps of n calls, if a call with c calls before it takes at most `share
-- c`, which does not fall
abbrev pub steps_for : (ℕ → ℕ) → ℕ → ℕ
steps_for share n = n * share (n - 1)

-- the number of texts that are whole at the front of a text
unfoldable pub whole_lines : List (List ℕ) → List ℕ → ℕ
whole_lines [] part = 0
whole_lines (line ∷ lines) part = if nat_le (length line) (length part) then suc
    (whole_lines lines (drop (length line) part)) else 0

-- Texts were written one by one with calls between them. The steps of these calls are within those
-- of `most` calls, and within those of the whole texts that were written and one call more.
pub record Paced (share : ℕ → ℕ) (lines : List (List ℕ)) (most : ℕ) (old new : Option (List ℕ))
    (before now : ℕ) : Type 0 where
  pub bounded : now ≤ before + steps_for share most
  pub prompt : (start part : List ℕ) → old ≡ Some start → new ≡ Some (start ++ part)
      → now ≤ before + steps_for share (whole_lines lines part + 1)
