-- Keys of rows with small sums fit, and so do the sums of two of them.
use Rattle.std.proofs.Common.{◌≡◌, ℕ, zero, suc, ◌^◌, ◌<◌, ◌≤◌, ℤ, pos, ◌+ℤ◌, List, [], ◌∷◌, replicate, get_or, FitsSigned, unsigned_abs, ◌∙◌, arith, rules, inl, inr, length}
use Rattle.std.specs.List.{AllByRecursion}
use Rattle.std.specs.Int.{w64, w128}
use Rattle.std.proofs.Math.ListN.{set, length-set}
use Rattle.std.proofs.lemmas.Bool.{cases_lt}
use Rattle.std.proofs.lemmas.Grind.{get_or-set_at}
use Rattle.std.proofs.lemmas.Int.{ints}
use Rattle.std.proofs.lemmas.List.{get_or-set_other, get_or-replicate, get_or_past}
use Rattle.tdp_model.specs.KeyTuple.{KeyOf, key_add}
use Rattle.tdp_model.proofs.Subtrees.{cases_eq}
use Rattle.tdp_model.proofs.KeyNumbers.{sum_of_add, sum_of_lists, slot_of_lists}
use Rattle.tdp_model.proofs.KeyTuples.{slot_of_add}
use Rattle.rank_key.specs.Keys.{IsHeld, IsInRange, IsInLimits, row_key}

small_at : (xs : List ℤ) (i : ℕ) → AllByRecursion (FitsSigned w64) xs → FitsSigned w64 (get_or xs i (pos 0))
small_at [] i all = search rules
small_at (x ∷ xs) zero all = all.0
small_at (x ∷ xs) (suc i) all = small_at xs i all.1

small_fits : (x : ℤ) → FitsSigned w64 x → FitsSigned w128 x
small_fits x h = first_of (omega (arith, ints), search rules, grind arith)

sum_fits : (x y : ℤ) → FitsSigned w64 x → FitsSigned w64 y → FitsSigned w128 (x +ℤ y)
sum_fits x y h k = first_of (omega (arith, ints), search rules, grind (arith, ints))

pub slot_at_most : (slot row i : ℕ) → get_or (set (replicate 16 0) slot row) i 0 ≤ row
slot_at_most slot row i = elim (cases_lt i 16) [
  | inl within ↦ elim (cases_eq i slot) [
    | inl same ↦ (let at : get_or (set (replicate 16 0) slot row) i 0 ≡ row = get_or-set_at (replicate 16 0) slot i row 0 same (omega arith) in omega (arith, at))
    | inr other ↦ omega (arith, get_or-set_other {A = ℕ} (replicate 16 0) slot i row 0 other, get_or-replicate {A = ℕ} 16 i 0 0 within)
  ]
  | inr past ↦ (let short : length (set (replicate 16 0) slot row) ≡ 16 = length-set (replicate 16 0) slot row in omega (arith, get_or_past (set (replicate 16 0) slot row) i 0 (omega arith)))
]

-- a row with small sums fits
pub row_fits : (d : ℕ) (xs : List ℤ) (slot row : ℕ) → AllByRecursion (FitsSigned w64) xs → row < 2 ^ 31 → IsInRange d (row_key d xs slot row)
row_fits d xs slot row all few = (
  λ i h. rw (sum_of_lists d 16 i xs (set (replicate 16 0) slot row) h) (small_fits _ (small_at xs i all)),
  λ i h. rw (slot_of_lists d 16 i xs (set (replicate 16 0) slot row) h) (omega (arith, slot_at_most slot row i)),
)

-- the sum of two of them fits
pub two_rows_fit : (d : ℕ) (xs ys : List ℤ) (slot row other number : ℕ) → AllByRecursion (FitsSigned w64) xs → AllByRecursion (FitsSigned w64) ys
    → row < 2 ^ 31 → number < 2 ^ 31 → IsInRange d (key_add d 16 (row_key d xs slot row) (row_key d ys other number))
two_rows_fit d xs ys slot row other number all each few less = (
  λ i h. rw (sum_of_add d 16 i (row_key d xs slot row) (row_key d ys other number), sum_of_lists d 16 i xs (set (replicate 16 0) slot row) h, sum_of_lists d 16 i ys (set (replicate 16 0) other number) h)
      (sum_fits _ _ (small_at xs i all) (small_at ys i each)),
  λ i h. rw (slot_of_add d 16 i (row_key d xs slot row) (row_key d ys other number), slot_of_lists d 16 i xs (set (replicate 16 0) slot row) h, slot_of_lists d 16 i ys (set (replicate 16 0) other number) h)
      (omega (arith, slot_at_most slot row i, slot_at_most other number i)),
)

-- ranks that hold each key within some bounds hold that of a row within them
pub row_held : {R : Type 0} {d items limit rows : ℕ} (key : R → KeyOf d 16) → ((k : KeyOf d 16) → IsInLimits d items limit rows k → IsHeld d key k)
    → (xs : List ℤ) (slot row : ℕ) → ((i : ℕ) → unsigned_abs (get_or xs i (pos 0)) < limit) → slot < 16 → slot < items → row < rows
    → IsHeld d key (row_key d xs slot row)
row_held {d = d} {items = items} key holds xs slot row small few there low = holds (row_key d xs slot row) (record {
  sums = λ i l. rw (sum_of_lists d 16 i xs (set (replicate 16 0) slot row) l) (small i);
  slots = λ i l. omega (arith, slot_of_lists d 16 i xs (set (replicate 16 0) slot row) l, slot_at_most slot row i, low);
  none = λ i past l.
      slot_of_lists d 16 i xs (set (replicate 16 0) slot row) l
      ∙ get_or-set_other {A = ℕ} (replicate 16 0) slot i row 0 (λ same. omega arith) ∙ get_or-replicate {A = ℕ} 16 i 0 0 l;
})
