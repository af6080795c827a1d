-- Numbers of rows, node by node and in all.
use Rattle.std.proofs.Common.{◌≡◌, ℕ, zero, suc, ◌+◌, ◌*◌, ◌<◌, ◌≤◌, List, [], ◌∷◌, take, length, get_or, slice_index, ap, subst, arith}
use Rattle.std.specs.List.Sorted.{IsStrictlyIncreasing}
use Rattle.std.proofs.lemmas.Nat.{mul-le}
use Rattle.std.proofs.lemmas.List.{get_or-map}
use Rattle.anyk_model.specs.Table.{Table, table_at}
use Rattle.anyk_model.specs.Query.{Item, row_counts}
use Rattle.bound_query.specs.Items.{item_at}
use Rattle.bound_query.specs.KeyParts.{sum_of_all}

-- an ascending list of numbers below n has at most n elements
pub few_below : (xs : List ℕ) (n : ℕ) → IsStrictlyIncreasing xs → ((k : ℕ) → k < length xs → slice_index xs k < n) → length xs ≤ n
few_below [] n rises low = omega arith
few_below (x ∷ xs) n rises low =
    let last = low (length xs) (omega arith) in
    let at = at_least (length xs) (omega arith) in
    omega (arith, last, at)
  where
    at_least : (k : ℕ) → k < length (x ∷ xs) → k ≤ slice_index (x ∷ xs) k
    at_least zero l = omega arith
    at_least (suc k) l =
        let before = at_least k (omega (arith, l)) in
        let same : k + 1 ≡ suc k = omega arith in
        let up : slice_index (x ∷ xs) k < slice_index (x ∷ xs) (suc k) = subst (λ j. slice_index (x ∷ xs) k < slice_index (x ∷ xs) j) same (rises k (omega (arith, l))) in
        omega (arith, before, up)

-- the first i numbers and the next one
pub sum_one_more : (xs : List ℕ) (i : ℕ) → i < length xs → sum_of_all (take (i + 1) xs) ≡ sum_of_all (take i xs) + get_or xs i 0
sum_one_more xs i l = subst (λ n. sum_of_all (take n xs) ≡ sum_of_all (take i xs) + get_or xs i 0) (let e : suc i ≡ i + 1 = omega arith in e) (by xs i l)
  where
    by : (xs : List ℕ) (i : ℕ) → i < length xs → sum_of_all (take (suc i) xs) ≡ sum_of_all (take i xs) + get_or xs i 0
    by [] i l = absurd (omega (arith, l))
    by (x ∷ xs) zero l = omega arith
    by (x ∷ xs) (suc i) l = let rest = by xs i (omega (arith, l)) in omega (arith, rest)

-- the shares of building, reducing and solving, if l nodes have n rows before the reduction and k
-- rows after it
pub shares : (l t n k : ℕ) → 1 ≤ l → n ≤ t → k ≤ n → l * t + 2 * l * (1 + n) + 4 * l * (1 + k) ≤ 16 * (l * l * (1 + t))
shares zero t n k some a b = absurd (omega (arith, some))
shares (suc m) t n k some a b =
    let l = suc m in
    let rows = mul-le l (1 + n) l (1 + t) (omega arith) (omega (arith, a)) in
    let kept = mul-le l (1 + k) l (1 + t) (omega arith) (omega (arith, a, b)) in
    let all : l * t + 2 * (l * (1 + t)) + 4 * (l * (1 + t)) ≤ 16 * (l * l * (1 + t)) = omega arith in
    omega (arith, rows, kept, all)

-- the number of rows of an item's table
pub row_count_at : (items : List Item) (tables : List Table) (i : ℕ) → i < length items → get_or (row_counts items tables) i 0 ≡ length (table_at tables (item_at items i).table).rows
row_count_at items tables i l = get_or-map (λ (i : Item). length ((table_at tables i.table).rows)) items i _ 0 l

-- the steps of building
pub steps_of_build : (before now l t : ℕ) → 1 ≤ l → now ≤ before + l * t → now ≤ before + 16 * (l * l * (1 + t))
steps_of_build before now l t some low = omega (arith, shares l t 0 0 some (omega arith) (omega arith), low)

-- the steps of building and reducing
pub steps_of_reduction : (before built now l t m n : ℕ) → 1 ≤ l → n ≤ t → m ≡ l → built ≤ before + l * t → now ≤ built + 2 * m * (1 + n)
    → now ≤ before + 16 * (l * l * (1 + t))
steps_of_reduction before built now l t m n some low same first second =
    let all = shares l t n 0 some low (omega arith) in
    let here : 2 * m * (1 + n) ≡ 2 * l * (1 + n) = ap (λ k. 2 * k * (1 + n)) same in
    omega (arith, all, first, second, here)

-- and the steps of solving
pub steps_of_plan : (before built reduced now l t m n p k : ℕ) → 1 ≤ l → n ≤ t → k ≤ n → m ≡ l → p ≡ l → built ≤ before + l * t
    → reduced ≤ built + 2 * m * (1 + n) → now ≤ reduced + 4 * p * (1 + k) → now ≤ before + 16 * (l * l * (1 + t))
steps_of_plan before built reduced now l t m n p k some low kept same alike first second third =
    let all = shares l t n k some low kept in
    let here : 2 * m * (1 + n) ≡ 2 * l * (1 + n) = ap (λ j. 2 * j * (1 + n)) same in
    let there : 4 * p * (1 + k) ≡ 4 * l * (1 + k) = ap (λ j. 4 * j * (1 + k)) alike in
    omega (arith, all, first, second, third, here, there)
