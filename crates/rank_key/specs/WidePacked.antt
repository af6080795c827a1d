-- A key of seven slots as one of four, and a number whose digits are the other three.
use Rattle.std.specs.Prelude.{ℕ, zero, suc, ◌+◌, ◌*◌, ◌/◌, ◌%◌, ◌^◌, [], ◌∷◌}
use Rattle.tdp_model.specs.KeyTuple.{KeyOf, slot_of}
use Rattle.tdp_model.specs.KeyNumbers.{key_of_lists, sum_of}

-- the sum and the first four slots of a key
abbrev pub front_of : KeyOf 1 16 → KeyOf 1 16
front_of k = key_of_lists 1 16 (sum_of 1 16 0 k ∷ [])
    (slot_of 1 16 0 k ∷ slot_of 1 16 1 k ∷ slot_of 1 16 2 k ∷ slot_of 1 16 3 k ∷ [])

-- these, and the three digits of a number in the slots behind them, to the base 2 ^ 21
abbrev pub with_rest : KeyOf 1 16 → ℕ → KeyOf 1 16
with_rest k n = key_of_lists 1 16 (sum_of 1 16 0 k ∷ [])
    (slot_of 1 16 0 k ∷ slot_of 1 16 1 k ∷ slot_of 1 16 2 k ∷ slot_of 1 16 3 k
    ∷ n / 2 ^ 42 ∷ n / 2 ^ 21 % 2 ^ 21 ∷ n % 2 ^ 21 ∷ [])

-- the number whose digits are these three slots of a key
abbrev pub rest_of : KeyOf 1 16 → ℕ
rest_of k = slot_of 1 16 4 k * 2 ^ 42 + slot_of 1 16 5 k * 2 ^ 21 + slot_of 1 16 6 k

-- the unit of each of them, and 0 for all other slots
abbrev pub rest_unit_of : ℕ → ℕ
rest_unit_of zero = 0
rest_unit_of (suc zero) = 0
rest_unit_of (suc (suc zero)) = 0
rest_unit_of (suc (suc (suc zero))) = 0
rest_unit_of (suc (suc (suc (suc zero)))) = 2 ^ 42
rest_unit_of (suc (suc (suc (suc (suc zero))))) = 2 ^ 21
rest_unit_of (suc (suc (suc (suc (suc (suc zero)))))) = 1
rest_unit_of (suc (suc (suc (suc (suc (suc (suc n))))))) = 0
