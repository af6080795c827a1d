-- The sums and the first slots of a key as lists. They make the key if its other slots are 0.
-- A proof, and not a definition: ghost fields of types are made with it, so it stands here.
use Rattle.std.proofs.Common.{◌≡◌, ℕ, zero, suc, ◌+◌, ◌^◌, ◌<◌, ◌≤◌, ℤ, pos, List, length, map, get_or, refl, sym, ◌∙◌, inl, inr, arith}
use Rattle.std.specs.List.{range_with_len}
use Rattle.std.proofs.lemmas.Bool.{cases_lt}
use Rattle.std.specs.List.{All}
use Rattle.std.proofs.lemmas.List.{get_or_past}
use Rattle.std.proofs.lemmas.List.Elements.{All-from_get_or, All-get_or}
use Rattle.std.proofs.lemmas.List.FromFn.{get_or-map-range_with_len, length-map-range_with_len}
use Rattle.tdp_model.specs.KeyTuple.{KeyOf, slot_of}
use Rattle.tdp_model.specs.KeyNumbers.{sum_of, key_of_lists}
use Rattle.tdp_model.proofs.KeyNumbers.{key_same, sum_of_lists, slot_of_lists}
use Rattle.rank_key.specs.Keys.{NoneAfter}

module _ (n m : ℕ) (k : KeyOf n 16) where
  -- the sums
  abbrev pub sums_of : List ℤ
  sums_of = map (λ i. sum_of n 16 i k) (range_with_len 0 n)

  -- the first m slots
  abbrev pub slots_of : List ℕ
  slots_of = map (λ i. slot_of n 16 i k) (range_with_len 0 m)

  pub length_sums : length sums_of ≡ n
  length_sums = length-map-range_with_len (λ i. sum_of n 16 i k) 0 n

  pub length_slots : length slots_of ≡ m
  length_slots = length-map-range_with_len (λ i. slot_of n 16 i k) 0 m

from_zero : (i : ℕ) → 0 + i ≡ i
from_zero i = omega arith

slot_past : (d e i : ℕ) (k : KeyOf d e) → e ≤ i → slot_of d e i k ≡ 0
slot_past zero zero i k h = refl
slot_past zero (suc e) zero k h = absurd (omega arith)
slot_past zero (suc e) (suc i) k h = slot_past zero e i k.1 (omega arith)
slot_past (suc d) e i k h = slot_past d e i k.1 h

-- the slots of lists are below what those of the list are below
pub slot_below : (n : ℕ) (sums : List ℤ) (slots : List ℕ) (rows : ℕ) → All (λ s. s < rows) slots
    → 0 < rows → (i : ℕ) → i < 16 → slot_of n 16 i (key_of_lists n 16 sums slots) < rows
slot_below n sums slots rows all some i l = elim (cases_lt i (length slots)) [
  | inl here ↦ omega (
    arith,
    slot_of_lists n 16 i sums slots l,
    All-get_or (λ s. s < rows) slots i 0 here all,
  )
  | inr past ↦ omega (arith, slot_of_lists n 16 i sums slots l, get_or_past slots i 0 past, some)
]

module _ (n m : ℕ) (k : KeyOf n 16) where
  slot_here : (i : ℕ) → i < m → get_or (slots_of n m k) i 0 ≡ slot_of n 16 i k
  slot_here i here =
      get_or-map-range_with_len (λ j. slot_of n 16 j k) 0 m i i 0 here (from_zero i)

  pub slots_end : NoneAfter 16 (slots_of n m k)
  slots_end i h = elim (cases_lt i m) [
    | inl here ↦ slot_here i here ∙ slot_past n 16 i k h
    | inr past ↦ get_or_past (slots_of n m k) i 0 (omega (arith, length_slots n m k))
  ]

  -- the listed slots are below what the key's are below
  pub slots_below : (rows : ℕ) → 0 < rows → ((i : ℕ) → i < 16 → slot_of n 16 i k < rows)
      → All (λ s. s < rows) (slots_of n m k)
  slots_below rows some below = All-from_get_or (λ s. s < rows) (slots_of n m k) 0
      (λ i l. elim (cases_lt i 16) [
        | inl early ↦ omega (arith, slot_here i (omega (arith, length_slots n m k)), below i early)
        | inr late ↦ omega (arith, slots_end i late, some)
      ])

  module _ (none : (i : ℕ) → m ≤ i → i < 16 → slot_of n 16 i k ≡ 0) where
    slot_at : (i : ℕ) → i < 16 → get_or (slots_of n m k) i 0 ≡ slot_of n 16 i k
    slot_at i l = elim (cases_lt i m) [
      | inl here ↦ slot_here i here
      | inr past ↦ get_or_past (slots_of n m k) i 0 (omega (arith, length_slots n m k))
          ∙ sym (none i (omega arith) l)
    ]

    -- the lists make the key
    pub key_of_lists_lem : key_of_lists n 16 (sums_of n m k) (slots_of n m k) ≡ k
    key_of_lists_lem = key_same n 16 (key_of_lists n 16 (sums_of n m k) (slots_of n m k)) k
        (λ i l. sum_of_lists n 16 i (sums_of n m k) (slots_of n m k) l
        ∙ get_or-map-range_with_len (λ j. sum_of n 16 j k) 0 n i i (pos 0) l (from_zero i))
        (λ i l. slot_of_lists n 16 i (sums_of n m k) (slots_of n m k) l ∙ slot_at i l)
