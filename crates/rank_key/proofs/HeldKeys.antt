-- A rank of 16 slots has each key whose numbers fit.
use Rattle.std.proofs.Common.{ℕ, ◌^◌, ◌<◌, ℤ, List, replicate, arith}
use Rattle.std.proofs.Math.ListN.{set}
use Rattle.tdp_model.specs.KeyTuple.{KeyOf, slot_of}
use Rattle.tdp_model.specs.KeyNumbers.{key_of_lists}
use Rattle.tdp_model.proofs.KeyNumbers.{slot_of_lists}
use Rattle.rank_key.specs.Keys.{IsHeld, IsInRange, KeyFits, row_key}
use Rattle.rank_key.specs.KeyLists.{sums_of, slots_of, length_sums, length_slots, slots_end, slots_below, key_of_lists_lem}
use Rattle.rank_key.specs.declared.fixed_rank.FixedRank.{FixedRank}
use Rattle.rank_key.proofs.RowKeys.{slot_at_most}

-- the key of a rank of n sums and m slots
abbrev pub fixed_key : (n m : ℕ) → FixedRank n m → KeyOf n 16
fixed_key n m r = key_of_lists n 16 r.sums r.slots

-- with 16 slots it has each key whose slots fit 32 bits
pub wide_held : (n : ℕ) (k : KeyOf n 16) → ((i : ℕ) → i < 16 → slot_of n 16 i k < 2 ^ 32) → IsHeld n (fixed_key n 16) k
wide_held n k below = (
  record {
    sums = sums_of n 16 k;
    slots = slots_of n 16 k;
    sums_len = length_sums n 16 k;
    slots_len = length_slots n 16 k;
    none_after = slots_end n 16 k;
    slots_fit = slots_below n 16 k (2 ^ 32) (omega arith) below;
  },
  key_of_lists_lem n 16 k (λ i past l. absurd (omega (arith, past, l))),
)

pub wide_fits : (n : ℕ) (k : KeyOf n 16) → IsInRange n k → KeyFits n (fixed_key n 16) k
wide_fits n k fits = (fits.0, fits.1, wide_held n k fits.1)

-- it has the key of any row
pub wide_row_held : (n : ℕ) (sums : List ℤ) (slot row : ℕ) → row < 2 ^ 32 → IsHeld n (fixed_key n 16) (row_key n sums slot row)
wide_row_held n sums slot row low = wide_held n (row_key n sums slot row)
    (λ i l. omega (arith, slot_of_lists n 16 i sums (set (replicate 16 0) slot row) l, slot_at_most slot row i, low))
