-- The children of a node, by their number.
use Rattle.std.proofs.Common.{◌≡◌, ◌≢◌, ℕ, zero, suc, ◌+◌, ◌-◌, ◌<◌, cond, nat_eq, nat_lt, sym, ap, subst, inl, inr, arith}
use Rattle.std.proofs.lemmas.Bool.{cases_lt, cases_eq}
use Rattle.std.proofs.lemmas.Bool.Decides.{nat_tests}
use Rattle.tdp_core.specs.TreeView.{kids_below}
use Rattle.tdp_core.proofs.Children.{child_place_within}
use Rattle.suffix_streams.specs.Rankings.{child_among}

picked : (n p v k c x y : ℕ) → 0 < n → p ≡ v → k ≡ c → cond (nat_lt 0 n) (cond (nat_eq p v) (cond (nat_eq k c) x y) y) y ≡ x
picked n p v k c x y h e f = grind (arith, nat_tests)

skipped_node : (n p v k c x y : ℕ) → p ≢ v → cond (nat_lt 0 n) (cond (nat_eq p v) (cond (nat_eq k c) x y) y) y ≡ y
skipped_node n p v k c x y h = grind (arith, nat_tests)

skipped_child : (n p v k c x y : ℕ) → k ≢ c → cond (nat_lt 0 n) (cond (nat_eq p v) (cond (nat_eq k c) x y) y) y ≡ y
skipped_child n p v k c x y h = grind (arith, nat_tests)

counted : (n p v : ℕ) → 0 < n → p ≡ v → cond {A = ℕ} (nat_lt 0 n) (cond {A = ℕ} (nat_eq p v) 1 0) 0 ≡ 1
counted n p v h e = grind (arith, nat_tests)

uncounted : (n p v : ℕ) → p ≢ v → cond {A = ℕ} (nat_lt 0 n) (cond {A = ℕ} (nat_eq p v) 1 0) 0 ≡ 0
uncounted n p v h = grind (arith, nat_tests)

uncounted_first : (p v : ℕ) → cond {A = ℕ} (nat_lt 0 0) (cond {A = ℕ} (nat_eq p v) 1 0) 0 ≡ 0
uncounted_first p v = grind (arith, nat_tests)

-- the facts of child number c among the first n nodes
pub record IsChild (parent : ℕ → ℕ) (v c n u : ℕ) : Type 0 where
  pub some : 0 < u
  pub within : u < n
  pub parent_is : parent u ≡ v
  pub number : kids_below parent v u ≡ c

longer : (parent : ℕ → ℕ) (v c n u w : ℕ) → w ≡ u → IsChild parent v c n u → IsChild parent v c (suc n) w
longer parent v c n u w e h =
    let n0 : IsChild parent v c (suc n) u = record { some = h.some; within = omega (arith, h.within); parent_is = h.parent_is; number = h.number } in
    subst (λ z. IsChild parent v c (suc n) z) (sym e) n0

pub child_is : (parent : ℕ → ℕ) (v c n : ℕ) → c < kids_below parent v n → IsChild parent v c n (child_among parent v c n)
unfolding kids_below child_among
child_is parent v c zero h = absurd (omega arith)
child_is parent v c (suc zero) h =
    absurd (omega (arith, uncounted_first (parent 0) v))
child_is parent v c (suc (suc n)) h = elim (cases_eq (parent (suc n)) v) [
  | inl e ↦ elim (cases_eq (kids_below parent v (suc n)) c) [
    | inl k ↦
        let at : child_among parent v c (suc (suc n)) ≡ suc n = picked (suc n) (parent (suc n)) v (kids_below parent v (suc n)) c (suc n) (child_among parent v c (suc n)) (omega arith) e k in
        let it : IsChild parent v c (suc (suc n)) (suc n) = record { some = omega arith; within = omega arith; parent_is = e; number = k } in
        subst (λ z. IsChild parent v c (suc (suc n)) z) (sym at) it
    | inr k ↦ longer parent v c (suc n) (child_among parent v c (suc n)) _ (skipped_child (suc n) (parent (suc n)) v (kids_below parent v (suc n)) c (suc n) (child_among parent v c (suc n)) k)
        (child_is parent v c (suc n) (omega (arith, h, k, counted (suc n) (parent (suc n)) v (omega arith) e)))
  ]
  | inr e ↦ longer parent v c (suc n) (child_among parent v c (suc n)) _ (skipped_node (suc n) (parent (suc n)) v (kids_below parent v (suc n)) c (suc n) (child_among parent v c (suc n)) e)
      (child_is parent v c (suc n) (omega (arith, h, uncounted (suc n) (parent (suc n)) v e)))
]

-- a later child of one node has a greater number
pub number_rises : (parent : ℕ → ℕ) (v q n : ℕ) → 0 < q → parent q ≡ v → q < n → kids_below parent v q < kids_below parent v n
number_rises parent v q n some e l =
    let at : n - (q + 1) + (q + 1) ≡ n = omega arith in
    subst (λ z. kids_below parent z q < kids_below parent z n) e (subst (λ z. kids_below parent (parent q) q < kids_below parent (parent q) z) at (child_place_within parent q (n - (q + 1)) some))

-- between two children that follow each other there is no other child
pub none_between : (parent : ℕ → ℕ) (v c n u q : ℕ) → IsChild parent v c n u → 0 < q → q < u → c ≡ 0 → parent q ≢ v
none_between parent v c n u q h some l z e = omega (arith, number_rises parent v q u some e l, h.number)

pub none_between_two : (parent : ℕ → ℕ) (v c n u w q : ℕ) → IsChild parent v c n u → IsChild parent v (suc c) n w → u < q → q < w → parent q ≢ v
none_between_two parent v c n u w q h g l k e =
    omega (arith, number_rises parent v u q h.some h.parent_is l, number_rises parent v q w (omega (arith, h.some)) e k, h.number, g.number)

pub none_after : (parent : ℕ → ℕ) (v c n u q : ℕ) → IsChild parent v c n u → suc c ≡ kids_below parent v n → u < q → q < n → parent q ≢ v
none_after parent v c n u q h s l k e =
    omega (arith, number_rises parent v u q h.some h.parent_is l, number_rises parent v q n (omega (arith, h.some)) e k, h.number, s)

pub none_at_all : (parent : ℕ → ℕ) (v n q : ℕ) → 0 ≡ kids_below parent v n → 0 < q → q < n → parent q ≢ v
none_at_all parent v n q s some k e = omega (arith, number_rises parent v q n some e k, s)

pub later_child : (parent : ℕ → ℕ) (v c n u w : ℕ) → IsChild parent v c n u → IsChild parent v (suc c) n w → u < w
later_child parent v c n u w h g = elim (cases_lt u w) [
  | inl l ↦ l
  | inr l ↦ elim (cases_lt w u) [
    | inl k ↦ absurd (omega (arith, number_rises parent v w u g.some g.parent_is k, h.number, g.number))
    | inr k ↦ let e : u ≡ w = omega arith in absurd (omega (arith, h.number, g.number, ap (λ z. kids_below parent v z) e))
  ]
]
