-- A sum and four row numbers as the digits of one number.
use Rattle.std.specs.Prelude.{ℕ, zero, suc, ◌+◌, ◌-◌, ◌*◌, ◌/◌, ◌%◌, ◌^◌, ℤ, pos, negsuc, ◌+ℤ◌, ◌-ℤ◌, ◌*ℤ◌, List, [], ◌∷◌}
use Rattle.tdp_model.specs.KeyTuple.{KeyOf, slot_of}
use Rattle.tdp_model.specs.KeyNumbers.{key_of_lists, sum_of}

-- z + 2 ^ 127, which is not negative for a number of 128 bits with a sign
abbrev pub lifted : ℤ → ℕ
lifted (pos n) = 2 ^ 127 + n
lifted (negsuc n) = 2 ^ 127 - 1 - n

-- the four digits of a number below 2 ^ 84, to the base 2 ^ 21
abbrev pub digits : ℕ → List ℕ
digits n = n / 2 ^ 63 ∷ n / 2 ^ 42 % 2 ^ 21 ∷ n / 2 ^ 21 % 2 ^ 21 ∷ n % 2 ^ 21 ∷ []

-- the key whose sum and first four slots are the digits of z
abbrev pub packed_key : ℤ → KeyOf 1 16
packed_key z = key_of_lists 1 16
    ((pos (lifted z / 2 ^ 84) -ℤ pos (2 ^ 43)) ∷ [])
    (digits (lifted z % 2 ^ 84))

-- the unit of each of the four slots
abbrev pub unit_of : ℕ → ℤ
unit_of zero = pos (2 ^ 63)
unit_of (suc zero) = pos (2 ^ 42)
unit_of (suc (suc zero)) = pos (2 ^ 21)
unit_of (suc (suc (suc n))) = pos 1

-- a number of four digits to the base 2 ^ 21
abbrev pub from_digits : ℕ → ℕ → ℕ → ℕ → ℕ
from_digits a b c d = a * 2 ^ 63 + b * 2 ^ 42 + c * 2 ^ 21 + d

-- the number whose digits are the sum and the first four slots of a key
abbrev pub number_of : KeyOf 1 16 → ℤ
number_of k = sum_of 1 16 0 k *ℤ pos (2 ^ 84)
    +ℤ pos (from_digits (slot_of 1 16 0 k) (slot_of 1 16 1 k) (slot_of 1 16 2 k) (slot_of 1 16 3 k))
