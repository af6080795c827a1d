-- Rows of nodes by their places and by their numbers.
use Rattle.std.proofs.Common.{◌≡◌, ◌↔◌, ◌⊎◌, ℕ, zero, suc, ◌<◌, List, [], ◌∷◌, length, get_or, slice_index, sym, ap, ◌∙◌, subst, inl, inr, arith}
use Rattle.std.proofs.lemmas.Bool.{cases_eq, cases_lt, cases_order}
use Rattle.std.proofs.lemmas.Grind.{get_or_default_zero}
use Rattle.rankings.specs.Order.{BelowAll, IsAscending, IsMember}
use Rattle.rankings.proofs.Members.{contains_member, member_contains}
use Rattle.tdp_model.specs.Below.{is_below}
use Rattle.tdp_model.specs.Regions.{place_of}
use Rattle.tdp_model.proofs.Descent.{below_less, below_parent}
use Rattle.tdp_model.proofs.Division.{get_place, place_get, place_le}
use Rattle.tdp_core.specs.Solutions.{Extends}

-- ---- ascending numbers

abbrev pub Rises : List ℕ → Type 0
Rises = IsAscending (λ a b. a < b)

below_at : (x : ℕ) (xs : List ℕ) → BelowAll (λ a b. a < b) x xs → (i : ℕ) → i < length xs → x < get_or xs i 0
below_at x [] all i l = absurd (omega (arith, l))
below_at x (y ∷ ys) all zero l = all.0
below_at x (y ∷ ys) all (suc i) l = below_at x ys all.1 i (omega (arith, l))

pub rises_at : (xs : List ℕ) → Rises xs → (i j : ℕ) → i < j → j < length xs → get_or xs i 0 < get_or xs j 0
rises_at [] up i j less l = absurd (omega (arith, l))
rises_at (x ∷ xs) up zero zero less l = absurd (omega (arith, less))
rises_at (x ∷ xs) up zero (suc j) less l = below_at x xs up.0 j (omega (arith, l))
rises_at (x ∷ xs) up (suc i) zero less l = absurd (omega (arith, less))
rises_at (x ∷ xs) up (suc i) (suc j) less l = rises_at xs up.1 i j (omega (arith, less)) (omega (arith, l))

below_of : (x : ℕ) (xs : List ℕ) → ((i : ℕ) → i < length xs → x < get_or xs i 0) → BelowAll (λ a b. a < b) x xs
below_of x [] each = tt
below_of x (y ∷ ys) each = (each 0 (omega arith), below_of x ys (λ i l. each (suc i) (omega (arith, l))))

pub rises_of : (xs : List ℕ) → ((i j : ℕ) → i < j → j < length xs → get_or xs i 0 < get_or xs j 0) → Rises xs
rises_of [] each = tt
rises_of (x ∷ xs) each =
    (below_of x xs (λ i l. each 0 (suc i) (omega arith) (omega (arith, l))), rises_of xs (λ i j less l. each (suc i) (suc j) (omega (arith, less)) (omega (arith, l))))

pub rises_apart : (xs : List ℕ) → Rises xs → (i j : ℕ) → i < length xs → j < length xs → get_or xs i 0 ≡ get_or xs j 0 → i ≡ j
rises_apart xs up i j li lj e = elim (cases_order i j) [
  | inl same ↦ same
  | inr (inl less) ↦ let r = rises_at xs up i j less lj in absurd (omega (arith, e, r))
  | inr (inr more) ↦ let r = rises_at xs up j i more li in absurd (omega (arith, e, r))
]

-- the place of a member
pub member_place : (x : ℕ) (xs : List ℕ) → IsMember x xs → (place_of x xs < length xs) × (slice_index xs (place_of x xs) ≡ x)
member_place x xs member =
    let at = member_contains x xs member in
    let inside : at.0 < length xs = at.1 in
    let same : get_or xs at.0 0 ≡ x = sym (get_or_default_zero xs at.0 x inside) ∙ at.2 in
    let low = subst (λ (y : ℕ). place_of y xs < suc at.0) same (let le = place_le at.0 xs inside in omega (arith, le)) in
    let less : place_of x xs < length xs = omega (arith, low, inside) in
    (less, get_place x xs less)

pub place_member : (xs : List ℕ) (k : ℕ) → k < length xs → IsMember (slice_index xs k) xs
place_member xs k l = contains_member (slice_index xs k) xs k l (get_or_default_zero xs k (slice_index xs k) l)

-- ---- nodes with rows in ascending order

-- There are m nodes. Given are the numbers and the count of the rows of each, which rows may be
-- there, which rows agree with a row of the node above, by their numbers, and which rows are joined
-- with it, by their places.
module _ (m : ℕ) (up : ℕ → ℕ) (earlier : (q : ℕ) → 0 < q → q < m → up q < q) (numbers : ℕ → List ℕ) (long : ℕ → ℕ)
    (sizes : (v : ℕ) → length (numbers v) ≡ long v) (IsGood : ℕ → ℕ → Type 0) (Agree Joined : ℕ → ℕ → ℕ → Type 0)
    (ascending : (v : ℕ) → v < m → Rises (numbers v))
    (good : (v row : ℕ) → v < m → IsMember row (numbers v) ↔ IsGood v row)
    (links : (q r i : ℕ) → 0 < q → q < m → i < long q → r < long (up q) → Joined q r i ↔ Agree q (slice_index (numbers (up q)) r) (slice_index (numbers q) i)) where
  abbrev ByPlace : ℕ → ℕ → ℕ → Type 0
  ByPlace q r i = (i < long q) × ((q ≡ 0) ⊎ Joined q r i)

  abbrev ByNumber : ℕ → ℕ → ℕ → Type 0
  ByNumber q above row = IsGood q row × ((q ≡ 0) ⊎ Agree q above row)

  -- the node above a node below v
  above_of : (v q : ℕ) → v < q → q < m → 0 < is_below up v q → (up q ≡ v) ⊎ ((v < up q) × (0 < is_below up v (up q)))
  above_of v q less l below = elim (cases_eq (up q) v) [
    | inl same ↦ inl same
    | inr other ↦
        let early : up q < q = earlier q (omega (arith, less)) l in
        let same = below_parent m up earlier v q (omega (arith, less)) l (λ e. omega (arith, e, less)) in
        let there : 0 < is_below up v (up q) = omega (arith, same, below) in
        elim (cases_lt v (up q)) [
          | inl after ↦ inr (after, there)
          | inr before ↦
              let none = below_less m up earlier v (up q) (omega (arith, early, l)) (omega (arith, before, other)) in
              absurd (omega (arith, there, none))
        ]
  ]

  good_at : (v i : ℕ) → v < m → i < long v → IsGood v (slice_index (numbers v) i)
  good_at v i l inside = let size = sizes v in (good v (slice_index (numbers v) i) l).0 (place_member (numbers v) i (omega (arith, size, inside)))

  place_good : (v row : ℕ) → v < m → IsGood v row → (place_of row (numbers v) < long v) × (slice_index (numbers v) (place_of row (numbers v)) ≡ row)
  place_good v row l g =
      let at = member_place row (numbers v) ((good v row l).1 g) in
      let inside : place_of row (numbers v) < length (numbers v) = at.0 in
      let size = sizes v in (omega (arith, inside, size), at.1)

  -- a row that extends by places extends by numbers
  pub extends_out : (v r : ℕ) → v < m → r < long v → Extends m up ByPlace v r → Extends m up ByNumber v (slice_index (numbers v) r)
  extends_out v r lv lr e = (λ q. slice_index (numbers q) (e.0 q), ap (slice_index (numbers v)) e.1, each)
    where
      inside_above : (q : ℕ) → v < q → q < m → 0 < is_below up v q → e.0 (up q) < long (up q)
      inside_above q less l below = elim (above_of v q less l below) [
        | inl same ↦ subst (λ p. e.0 p < long p) (sym same) (subst (λ (i : ℕ). i < long v) (sym e.1) lr)
        | inr h ↦ let early : up q < q = earlier q (omega (arith, less)) l in (e.2 (up q) h.0 (omega (arith, early, l)) h.1).0
      ]

      each : (q : ℕ) → v < q → q < m → 0 < is_below up v q → ByNumber q (slice_index (numbers (up q)) (e.0 (up q))) (slice_index (numbers q) (e.0 q))
      each q less l below =
          let own : ByPlace q (e.0 (up q)) (e.0 q) = e.2 q less l below in (
            good_at q (e.0 q) l own.0,
            elim own.1 [
              | inl root ↦ inl root
              | inr joined ↦ inr ((links q (e.0 (up q)) (e.0 q) (omega (arith, less)) l own.0 (inside_above q less l below)).0 joined)
            ],
          )

  -- the places of rows with these numbers
  module _ (named : ℕ → ℕ) where
    abbrev place : ℕ → ℕ
    place q = place_of (named q) (numbers q)

    abbrev Found : ℕ → Type 0
    Found p = (place p < long p) × (slice_index (numbers p) (place p) ≡ named p)

  -- and the converse
  pub extends_in : (v r : ℕ) → v < m → r < long v → Extends m up ByNumber v (slice_index (numbers v) r) → Extends m up ByPlace v r
  extends_in v r lv lr e = (place e.0, at_v, each)
    where
      at_v : place e.0 v ≡ r
      at_v =
          let size = sizes v in
          ap (λ (x : ℕ). place_of x (numbers v)) e.1 ∙ place_get r (numbers v) (rises_apart (numbers v) (ascending v lv)) (omega (arith, size, lr))

      found_v : Found e.0 v
      found_v = (subst (λ (i : ℕ). i < long v) (sym at_v) lr, ap (slice_index (numbers v)) at_v ∙ sym e.1)

      found_above : (q : ℕ) → v < q → q < m → 0 < is_below up v q → Found e.0 (up q)
      found_above q less l below = elim (above_of v q less l below) [
        | inl same ↦ subst (Found e.0) (sym same) found_v
        | inr h ↦
            let early : up q < q = earlier q (omega (arith, less)) l in
            let inside : up q < m = omega (arith, early, l) in
            place_good (up q) (e.0 (up q)) inside (e.2 (up q) h.0 inside h.1).0
      ]

      each : (q : ℕ) → v < q → q < m → 0 < is_below up v q → ByPlace q (place e.0 (up q)) (place e.0 q)
      each q less l below =
          let own : ByNumber q (e.0 (up q)) (e.0 q) = e.2 q less l below in
          let here = place_good q (e.0 q) l own.0 in
          let above = found_above q less l below in (
            here.0,
            elim own.1 [
              | inl root ↦ inl root
              | inr agree ↦
                  inr ((links q (place e.0 (up q)) (place e.0 q) (omega (arith, less)) l here.0 above.0).1
                  (subst (λ x. Agree q x (slice_index (numbers q) (place e.0 q))) (sym above.1) (subst (Agree q (e.0 (up q))) (sym here.1) agree)))
            ],
          )
