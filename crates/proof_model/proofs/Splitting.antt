-- The key of a subtree is its first row's key and the keys of the subtrees of the children.
use Rattle.std.proofs.Common.{◌≡◌, ◌≢◌, ℕ, zero, suc, ◌+◌, ◌-◌, ◌<◌, ◌≤◌, cond, nat_eq, refl, sym, ap, ◌∙◌, inl, inr}
use Rattle.std.proofs.Common.{arith}
use Rattle.std.proofs.lemmas.Bool.{cases_lt, cases_eq}
use Rattle.tdp_model.specs.KeyLaws.{IsKeys}
use Rattle.tdp_model.specs.Below.{is_below}
use Rattle.tdp_model.specs.TreeProblem.{sum_from, kid_key}
use Rattle.tdp_model.proofs.Subtrees.{same, same_at, same_not}
use Rattle.tdp_model.proofs.Descent.{below_itself, below_less, below_parent, below_once, kids_with, kids_with_once}
use Rattle.tdp_model.proofs.Descent.{kid_counted, kid_uncounted}
use Rattle.tdp_model.proofs.Sums.{none_add, sum_same, sum_add}
use Rattle.proof_model.proofs.Sums.{pick_eq, pick_ne, sum_none, sum_one}

module _ (m : ℕ) (parent : ℕ → ℕ) (first : (q : ℕ) → 0 < q → q < m → parent q < q) where
  -- one child counts
  kids_term : (n v s c u : ℕ) → s ≤ c → c < s + n → parent c ≡ v
      → is_below parent c u ≤ kids_with m parent first n v s u
  unfolding kids_with
  kids_term zero v s c u a h e = absurd (omega arith)
  kids_term (suc n) v s c u a h e = elim (cases_eq s c) [
    | inl x ↦
        omega (arith, kid_counted m parent first s v u (ap parent x ∙ e), ap (λ z. is_below parent z u) x)
    | inr x ↦ omega (arith, kids_term n v (suc s) c u (omega arith) (omega arith) e)
  ]

  -- what is below a child stays below it, one step further from the root
  kids_step : (n v s u : ℕ) → 0 < u → u < m
      → kids_with m parent first n v s (parent u) ≤ kids_with m parent first n v s u
  unfolding kids_with
  kids_step zero v s u p l = omega arith
  kids_step (suc n) v s u p l =
      let d : parent u < u = first u p l in
      let one : is_below parent s (parent u) ≤ is_below parent s u = elim (cases_eq u s) [
        | inl x ↦ omega (
          arith,
          below_itself m parent first s u x,
          below_once m parent first (parent u) s (parent u)
              (omega arith) (omega arith),
        )
        | inr x ↦ omega (arith, below_parent m parent first s u p l x)
      ] in
      elim (cases_eq (parent s) v) [
        | inl x ↦ omega (
          arith,
          one,
          kid_counted m parent first s v
              (parent u) x,
          kid_counted m parent first s v u x,
          kids_step n v (suc s) u p l,
        )
        | inr x ↦ omega (
          arith,
          kid_uncounted m parent first s v
              (parent u) x,
          kid_uncounted m parent first s v u x,
          kids_step n v (suc s) u p l,
        )
      ]

  -- a node below v, and not v, is below a child of v
  kids_some : (f v u : ℕ) → u ≤ f → u < m → 0 < is_below parent v u → u ≢ v
      → 0 < kids_with m parent first (m - suc v) v (suc v) u
  kids_some zero v u e l b n = elim (cases_lt u v) [
    | inl x ↦ absurd (omega (arith, below_less m parent first v u l x))
    | inr x ↦ absurd (n (omega arith))
  ]
  kids_some (suc f) v u e l b n = elim (cases_lt u v) [
    | inl x ↦ absurd (omega (arith, below_less m parent first v u l x))
    | inr x ↦
        let far : v < u = omega (arith, n) in
        let p : 0 < u = omega arith in
        let d : parent u < u = first u p l in
        elim (cases_eq (parent u) v) [
          | inl y ↦ omega (
            arith,
            below_itself m parent first u u refl,
            kids_term (m - suc v) v (suc v) u u
                (omega arith) (omega arith) y,
          )
          | inr y ↦
              let up : 0 < is_below parent v (parent u) = omega (arith, b, below_parent m parent first v u p l n) in
              omega (
                arith,
                kids_some f v (parent u) (omega arith) (omega arith) up y,
                kids_step (m - suc v) v
                    (suc v) u p l,
              )
        ]
  ]

  -- each node below v is v or below one child of it
  pub kids_all : (v u : ℕ) → v < m → u < m
      → kids_with m parent first (m - suc v) v (suc v) u + same u v ≡ is_below parent v u
  kids_all v u lv l =
      let most = kids_with_once m parent first (m - suc v) v (suc v) u l (omega arith) (omega arith) in
      let once = below_once m parent first u v u (omega arith) l in
      elim (cases_eq u v) [
        | inl e ↦ omega (arith, most, once, same_at u v e)
        | inr n ↦ elim (cases_lt 0 (is_below parent v u)) [
          | inl b ↦ omega (arith, most, once, same_not u v n, kids_some u v u (omega arith) l b n)
          | inr z ↦ omega (arith, most, z, same_not u v n)
        ]
      ]

module _ {K : Type 0} (Below : K → K → Type 0) (add : K → K → K) (none : K) (keys : IsKeys K Below add none)
    (m : ℕ) (parent : ℕ → ℕ) (first : (q : ℕ) → 0 < q → q < m → parent q < q) (f : ℕ → K) where
  -- the sum of f over the nodes below v, v among them
  abbrev pub within : ℕ → K
  within v = sum_from add none (λ q. cond (nat_eq (is_below parent v q) 1) (f q) none) m 0

  -- the same over the nodes below the children of v among the n nodes from s on
  abbrev under_kids : ℕ → ℕ → ℕ → ℕ → K
  under_kids n v s u = cond (nat_eq (kids_with m parent first n v s u) 1) (f u) none

  both : (a b c : ℕ) (x : K) → c ≡ a + b → c ≤ 1
      → add (cond (nat_eq a 1) x none) (cond (nat_eq b 1) x none) ≡ cond (nat_eq c 1) x none
  both a b c x e h = elim (cases_eq a 1) [
    | inl p ↦
        ap (λ z. add z (cond (nat_eq b 1) x none)) (pick_eq a 1 x none p)
        ∙ ap (λ z. add x z) (pick_ne b 1 x none (λ w. omega arith))
        ∙ keys.add_none x
        ∙ sym (pick_eq c 1 x none (omega arith))
    | inr p ↦
        ap (λ z. add z (cond (nat_eq b 1) x none)) (pick_ne a 1 x none p)
        ∙ none_add Below add none keys (cond (nat_eq b 1) x none)
        ∙ elim (cases_eq b 1) [
          | inl w ↦ pick_eq b 1 x none w ∙ sym (pick_eq c 1 x none (omega arith))
          | inr w ↦ pick_ne b 1 x none w ∙ sym (pick_ne c 1 x none (λ y. omega (arith, w, p)))
        ]
  ]

  -- the sums of the children's subtrees are one sum
  kids_sum : (n v s : ℕ) → v < s → s + n ≤ m
      → sum_from add none (kid_key none parent v within) n s ≡ sum_from add none (under_kids n v s) m 0
  unfolding sum_from kids_with kid_key
  kids_sum zero v s a h =
      sym (sum_none Below add none keys (under_kids zero v s) m 0 (λ u x y. pick_ne 0 1 (f u) none (λ w. omega arith)))
  kids_sum (suc n) v s a h = elim (cases_eq (parent s) v) [
    | inl e ↦
        ap (λ z. add z (sum_from add none (kid_key none parent v within) n (suc s)))
        (pick_eq (parent s) v (within s) none e)
        ∙ ap (λ z. add (within s) z) (kids_sum n v (suc s) (omega arith) (omega arith))
        ∙ sym (sum_add Below add none keys (λ q. cond (nat_eq (is_below parent s q) 1) (f q) none)
        (under_kids n v (suc s)) m 0)
        ∙ sum_same Below add none keys _ (under_kids (suc n) v s) m 0
        (λ u x y. both (is_below parent s u) (kids_with m parent first n v (suc s) u)
        (kids_with m parent first (suc n) v s u) (f u)
        (counted u e)
        (let t = kids_with_once m parent first (suc n) v s u (omega arith) a h in
        let o = below_once m parent first u v u (omega arith) (omega arith) in omega (arith, t, o)))
    | inr e ↦
        ap (λ z. add z (sum_from add none (kid_key none parent v within) n (suc s)))
        (pick_ne (parent s) v (within s) none e)
        ∙ none_add Below add none keys _
        ∙ kids_sum n v (suc s) (omega arith) (omega arith)
        ∙ sum_same Below add none keys (under_kids n v (suc s)) (under_kids (suc n) v s) m 0
        (λ u x y. ap (λ c. cond (nat_eq c 1) (f u) none) (uncounted u e))
  ]
    where
      counted : (u : ℕ) → parent s ≡ v
          → kids_with m parent first (suc n) v s u ≡ is_below parent s u + kids_with m parent first n v (suc s) u
      counted u e = ap (λ z. z + kids_with m parent first n v (suc s) u) (kid_counted m parent first s v u e)

      uncounted : (u : ℕ) → parent s ≢ v
          → kids_with m parent first n v (suc s) u ≡ kids_with m parent first (suc n) v s u
      uncounted u e = omega (arith, kid_uncounted m parent first s v u e)

  same_number : (a b : ℕ) (x : K) → cond (nat_eq a b) x none ≡ cond (nat_eq (same a b) 1) x none
  same_number a b x = elim (cases_eq a b) [
    | inl e ↦ pick_eq a b x none e ∙ sym (pick_eq (same a b) 1 x none (same_at a b e))
    | inr n ↦ pick_ne a b x none n ∙ sym (pick_ne (same a b) 1 x none (λ w. omega (arith, w, same_not a b n)))
  ]

  pub within_split : (v : ℕ) → v < m
      → within v ≡ add (f v) (sum_from add none (kid_key none parent v within) (m - suc v) (suc v))
  within_split v l =
      sym (ap (λ z. add (f v) z) (kids_sum (m - suc v) v (suc v) (omega arith) (omega arith))
      ∙ ap (λ z. add z (sum_from add none (under_kids (m - suc v) v (suc v)) m 0))
      (sym (sum_one Below add none keys (f v) m 0 v (omega arith) (omega arith)))
      ∙ sym (sum_add Below add none keys (λ u. cond (nat_eq u v) (f v) none) (under_kids (m - suc v) v (suc v)) m 0)
      ∙ sum_same Below add none keys _ (λ q. cond (nat_eq (is_below parent v q) 1) (f q) none) m 0
      (λ u x y. ap (λ z. add z (under_kids (m - suc v) v (suc v) u)) (at u ∙ same_number u v (f u))
      ∙ both (same u v) (kids_with m parent first (m - suc v) v (suc v) u) (is_below parent v u) (f u)
      (let k = kids_all m parent first v u l (omega arith) in omega (arith, k))
      (below_once m parent first u v u (omega arith) (omega arith))))
    where
      at : (u : ℕ) → cond (nat_eq u v) (f v) none ≡ cond (nat_eq u v) (f u) none
      at u = elim (cases_eq u v) [
        | inl e ↦ ap (λ z. cond (nat_eq u v) (f z) none) (sym e)
        | inr n ↦ pick_ne u v (f v) none n ∙ sym (pick_ne u v (f u) none n)
      ]
