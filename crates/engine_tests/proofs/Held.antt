-- Ranks hold the keys that the tests add up.
use Rattle.std.proofs.Common.{◌≡◌, ℕ, zero, suc, ◌+◌, ◌-◌, ◌^◌, ◌<◌, ◌≤◌, ℤ, pos, ◌+ℤ◌, cond, nat_eq, List, [], ◌∷◌, get_or, replicate, unsigned_abs, refl, ap, arith}
use Rattle.std.specs.Int.{w64}
use Rattle.std.specs.List.{AllByRecursion}
use Rattle.std.specs.Prelude.{FitsSigned}
use Rattle.std.proofs.Math.ListN.{set}
use Rattle.std.proofs.lemmas.Bool.Decides.{nat_tests}
use Rattle.std.proofs.lemmas.Int.{ints}
use Rattle.tdp_model.specs.KeyTuple.{KeyOf, key_add, slot_of}
use Rattle.tdp_model.specs.KeyNumbers.{sum_of}
use Rattle.tdp_model.specs.TreeProblem.{sum_from}
use Rattle.tdp_model.proofs.KeyTuples.{slot_of_add}
use Rattle.tdp_model.proofs.KeyNumbers.{sum_of_add, sum_of_lists}
use Rattle.rank_key.specs.Keys.{IsHeld, IsInRange, IsInLimits, KeyFits, row_key}
use Rattle.rank_key.specs.Packed.{packed_key, number_of}
use Rattle.rank_key.specs.Digits.{key_of_number, number_fits}
use Rattle.rank_key.specs.declared.packed.PackedRank.{PackedRank}
use Rattle.rank_key.proofs.RowKeys.{row_fits, row_held, two_rows_fit}
use Rattle.tdp_core.specs.WellFormed.{AreHeld, WithinCaps}
use Rattle.tdp_core.proofs.RowKeys.{row_key_slot}

-- a number below 50 in absolute value
abbrev pub IsSmall : ℤ → Type 0
IsSmall z = unsigned_abs z < 50

small_at : (xs : List ℤ) (i : ℕ) → AllByRecursion IsSmall xs → IsSmall (get_or xs i (pos 0))
small_at [] i all = omega arith
small_at (x ∷ xs) zero all = all.0
small_at (x ∷ xs) (suc i) all = small_at xs i all.1

small_fits : (z : ℤ) → IsSmall z → FitsSigned w64 z
small_fits z h = grind (arith, ints)

smalls_fit : (xs : List ℤ) → AllByRecursion IsSmall xs → AllByRecursion (FitsSigned w64) xs
smalls_fit [] all = tt
smalls_fit (x ∷ xs) all = (small_fits x all.0, smalls_fit xs all.1)

abs_add : (a b : ℤ) → unsigned_abs (a +ℤ b) ≤ unsigned_abs a + unsigned_abs b
abs_add a b = grind (arith, ints)

in_one_slot : (i slot row : ℕ) → cond {A = ℕ} (nat_eq i slot) row 0 ≤ row
in_one_slot i slot row = grind (arith, nat_tests)

in_no_slot : (i slot row items : ℕ) → slot < items → items ≤ i → cond {A = ℕ} (nat_eq i slot) row 0 ≡ 0
in_no_slot i slot row items l h = grind (arith, nat_tests)

-- rows of different items add at most one number to a slot
in_two_slots : (i most : ℕ) → cond {A = ℕ} (nat_eq i 1) most 0 + cond {A = ℕ} (nat_eq i 0) most 0 ≤ most
in_two_slots i most = grind (arith, nat_tests)

module _ {R : Type 0} {d items limit rows : ℕ} (key : R → KeyOf d 16)
    (holds : (k : KeyOf d 16) → IsInLimits d items limit rows k → IsHeld d key k)
    (roomy : 2 ^ 21 ≤ rows) (few : 2 ≤ items) (wide : 100 ≤ limit) where
  -- a row with small sums that a rank holds
  pub own_row_fits : (r : R) (xs : List ℤ) (slot row : ℕ) → key r ≡ row_key d xs slot row → AllByRecursion IsSmall xs → row < 100 → KeyFits d key (key r)
  own_row_fits r xs slot row is small low =
      let range : IsInRange d (key r) = rw is (row_fits d xs slot row (smalls_fit xs small) (omega arith)) in
      (range.0, range.1, (r, refl))

  -- such a row is held
  pub row_in : (xs : List ℤ) (slot row : ℕ) → AllByRecursion IsSmall xs → slot < 2 → row < 100 → IsHeld d key (row_key d xs slot row)
  row_in xs slot row small l less = row_held key holds xs slot row (λ i. omega (arith, small_at xs i small, wide)) (omega arith) (omega arith) (omega arith)

  -- two rows of items 0 and 1 with small sums
  pub two_rows_held : (xs ys : List ℤ) (slot row other number : ℕ) → AllByRecursion IsSmall xs
      → AllByRecursion IsSmall ys → slot < 2 → other < 2 → row < 100 → number < 100
      → KeyFits d key (key_add d 16 (row_key d xs slot row) (row_key d ys other number))
  two_rows_held xs ys slot row other number small little l h low less =
      let a = row_key d xs slot row in
      let b = row_key d ys other number in
      let range = two_rows_fit d xs ys slot row other number (smalls_fit xs small) (smalls_fit ys little) (omega arith) (omega arith) in (
        range.0,
        range.1,
        holds (key_add d 16 a b) (record {
          sums = λ i u.
              let x = sum_of_lists d 16 i xs (set (replicate 16 0) slot row) u in
              let y = sum_of_lists d 16 i ys (set (replicate 16 0) other number) u in
              let bound : unsigned_abs (sum_of d 16 i a +ℤ sum_of d 16 i b) < 100 =
              rw (x, y) (omega (arith, abs_add (get_or xs i (pos 0)) (get_or ys i (pos 0)), small_at xs i small, small_at ys i little)) in
              rw (sum_of_add d 16 i a b) (omega (arith, bound));
          slots = λ i u. omega (
            arith,
            slot_of_add d 16 i a b,
            row_key_slot d xs slot row i (omega arith) u,
            row_key_slot d ys other number i (omega arith) u,
            in_one_slot i slot row,
            in_one_slot i other number,
          );
          none = λ i past u. omega (
            arith,
            slot_of_add d 16 i a b,
            row_key_slot d xs slot row i (omega arith) u,
            row_key_slot d ys other number i (omega arith) u,
            in_no_slot i slot row items (omega arith) past,
            in_no_slot i other number items (omega arith) past,
          );
        }),
      )

  keys_held : (item : ℕ → ℕ) (cap : ℕ → ℕ → ℕ) → item 0 ≡ 1 → item 1 ≡ 0
      → ((i : ℕ) → cap 0 i ≤ 10) → ((i : ℕ) → cap 1 i ≤ 10) → (k : KeyOf d 16) → WithinCaps d 2 item cap (rows - 1) k → IsHeld d key k
  unfolding sum_from
  keys_held item cap i0 i1 c0 c1 k within =
      let most : ℕ = rows - 1 in
      let first : (i : ℕ) → cond {A = ℕ} (nat_eq i (item 0)) most 0 ≡ cond {A = ℕ} (nat_eq i 1) most 0 = λ i. ap (λ v. cond {A = ℕ} (nat_eq i v) most 0) i0 in
      let second : (i : ℕ) → cond {A = ℕ} (nat_eq i (item 1)) most 0 ≡ cond {A = ℕ} (nat_eq i 0) most 0 = λ i. ap (λ v. cond {A = ℕ} (nat_eq i v) most 0) i1 in
      holds k (record {
        sums = λ i u. omega (arith, within.0 i u, c0 i, c1 i);
        slots = λ i u. omega (arith, within.1 i u, first i, second i, in_two_slots i most);
        none = λ i past u. omega (arith, within.1 i u, first i, second i, in_no_slot i 1 most items (omega arith) past, in_no_slot i 0 most items (omega arith) past);
      })

  -- two nodes, the first of item 1 and the second of item 0, whose caps are at most 10
  pub two_nodes_held : ((r : R) (i : ℕ) → i < 16 → slot_of d 16 i (key r) < rows) → rows ≤ 2 ^ 32
      → (item : ℕ → ℕ) (cap : ℕ → ℕ → ℕ) → item 0 ≡ 1 → item 1 ≡ 0
      → ((i : ℕ) → cap 0 i ≤ 10) → ((i : ℕ) → cap 1 i ≤ 10) → AreHeld d key 2 item cap
  two_nodes_held low narrow item cap i0 i1 c0 c1 = record {
    most = rows - 1;
    most_fits = omega (arith, narrow, roomy);
    slots = λ r i l. omega (arith, low r i l);
    keys = keys_held item cap i0 i1 c0 c1;
  }

-- one sum below a limit
pub one_sum : (x : ℤ) (limit : ℕ) → unsigned_abs x < limit → (i : ℕ) → unsigned_abs (get_or (x ∷ []) i (pos 0)) < limit
one_sum x limit small zero = small
one_sum x limit small (suc i) = omega (arith, small)

-- a packed rank has the key of a row with a sum below 2 ^ 43 and a number below 2 ^ 21
pub packed_row : (x : ℤ) (slot row : ℕ) → unsigned_abs x < 2 ^ 43 → slot < 4 → row < 2 ^ 21
    → IsHeld 1 (λ (r : PackedRank). packed_key r.number) (row_key 1 (x ∷ []) slot row)
packed_row x slot row small few low = row_held {items = 4} {limit = 2 ^ 43} {rows = 2 ^ 21} (λ (r : PackedRank). packed_key r.number)
    (λ k within. (record { number = number_of k; fits = number_fits k within }, key_of_number k within))
    (x ∷ []) slot row (one_sum x (2 ^ 43) small) (omega arith) few low
