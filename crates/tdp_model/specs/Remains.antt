-- What an enumeration still holds, as a count of each solution, and the ranking of that.
use Rattle.std.specs.Prelude.{◌≡◌, ℕ, ◌+◌, ◌<◌, ◌≤◌, ◌⊎◌, List, [], ◌∷◌}
use Rattle.rankings.specs.Order.{IsMember, IsAscending}

abbrev pub AtMost : {K : Type 0} → (K → K → Type 0) → K → K → Type 0
AtMost Below a b = Below a b ⊎ (a ≡ b)

-- Each solution is held at most once, two that are held have different keys, and `ks` is the
-- ranking of their keys.
pub record Remains (X K : Type 0) (Below : K → K → Type 0) (key : X → K) (count : X → ℕ)
    (ks : List K) : Type 0 where
  pub once : (x : X) → count x ≤ 1
  pub apart : (x y : X) → 0 < count x → 0 < count y → key x ≡ key y → x ≡ y
  pub ascending : IsAscending Below ks
  pub complete : (x : X) → 0 < count x → IsMember (key x) ks
  pub sound : (k : K) → IsMember k ks → (x : X) × (0 < count x) × (key x ≡ k)

-- how many of the regions hold x
unfoldable pub total : {R X : Type 0} → (R → X → ℕ) → List R → X → ℕ
total count [] x = 0
total count (r ∷ rs) x = count r x + total count rs x

-- The region r holds its best solution b once, and none with a lesser key; without b it is the
-- disjoint union of `parts`.
pub record IsDivided (R X K : Type 0) (Below : K → K → Type 0) (key : X → K) (count : R → X → ℕ)
    (r : R) (one : X → ℕ) (b : X) (parts : List R) : Type 0 where
  pub at : 0 < one b
  pub only : (x : X) → 0 < one x → x ≡ b
  pub split : (x : X) → count r x ≡ one x + total count parts x
  pub least : (x : X) → 0 < count r x → AtMost Below (key b) (key x)

-- no solution that the regions hold has a key below k
abbrev pub IsLeastKey : {R X K : Type 0} → (K → K → Type 0) → (X → K) → (R → X → ℕ) → K → List R
    → Type 0
IsLeastKey {R} {X} Below key count k rs = (x : X) → 0 < total count rs x → AtMost Below k (key x)
