-- Wide keys are added, summed and compared as the keys that they stand for.
use Rattle.std.proofs.Common.{◌≡◌, ◌↔◌, ℕ, zero, suc, ◌≤◌, ℤ, pos, ◌+ℤ◌, ◌<ℤ◌, Bool, true, false, cond, List, [], ◌∷◌, length}
use Rattle.std.proofs.Common.{refl, sym, ap, subst, ◌∙◌, inl, inr, arith}
use Rattle.std.proofs.lemmas.Int.{ints}
use Rattle.tdp_model.specs.KeyTuple.{KeyOf, key_add, key_none, key_below}
use Rattle.tdp_model.specs.KeyNumbers.{key_of_lists}
use Rattle.tdp_model.specs.Remains.{AtMost}
use Rattle.tdp_model.specs.TreeProblem.{sum_from}
use Rattle.tdp_model.proofs.KeyTuples.{tuple_keys}
use Rattle.proof_model.specs.Wide.{wide}

zero_sum : pos 0 ≡ pos 0 +ℤ pos 0
zero_sum = omega (arith, ints)

not_less : (z : ℤ) → z <ℤ z → ⊥
not_less z p = omega (arith, ints)

pub wide_add : (few more e : ℕ) → few ≤ more → (a b : KeyOf few e)
    → wide few more e (key_add few e a b) ≡ key_add more e (wide few more e a) (wide few more e b)
wide_add zero zero e h a b = refl
wide_add zero (suc more) e h a b = λ i. (zero_sum i, wide_add zero more e (omega arith) a b i)
wide_add (suc few) zero e h a b = absurd (omega arith)
wide_add (suc few) (suc more) e h a b = λ i. (a.0 +ℤ b.0, wide_add few more e (omega arith) a.1 b.1 i)

pub wide_none : (few more e : ℕ) → few ≤ more → wide few more e (key_none few e) ≡ key_none more e
wide_none zero zero e h = refl
wide_none zero (suc more) e h = λ i. (pos 0, wide_none zero more e (omega arith) i)
wide_none (suc few) zero e h = absurd (omega arith)
wide_none (suc few) (suc more) e h = λ i. (pos 0, wide_none few more e (omega arith) i)

pub wide_below : (few more e : ℕ) → few ≤ more → (a b : KeyOf few e)
    → key_below more e (wide few more e a) (wide few more e b) ↔ key_below few e a b
wide_below zero zero e h a b = (λ p. p, λ p. p)
wide_below zero (suc more) e h a b =
    let later = wide_below zero more e (omega arith) a b in
    (λ p. elim p [ inl l ↦ absurd (not_less (pos 0) l) | inr q ↦ later.0 q.1 ], λ p. inr (refl, later.1 p))
wide_below (suc few) zero e h a b = absurd (omega arith)
wide_below (suc few) (suc more) e h a b =
    let later = wide_below few more e (omega arith) a.1 b.1 in (
      λ p. elim p [ inl l ↦ inl l | inr q ↦ inr (q.0, later.0 q.1) ],
      λ p. elim p [ inl l ↦ inl l | inr q ↦ inr (q.0, later.1 q.1) ],
    )

pub wide_lists : (few more e : ℕ) → few ≤ more → (xs : List ℤ) (us : List ℕ) → length xs ≤ few
    → wide few more e (key_of_lists few e xs us) ≡ key_of_lists more e xs us
wide_lists zero zero e h xs us l = refl
wide_lists zero (suc more) e h [] us l = λ i. (pos 0, wide_lists zero more e (omega arith) [] us (omega arith) i)
wide_lists zero (suc more) e h (x ∷ xs) us l = absurd (omega arith)
wide_lists (suc few) zero e h xs us l = absurd (omega arith)
wide_lists (suc few) (suc more) e h [] us l = λ i. (pos 0, wide_lists few more e (omega arith) [] us (omega arith) i)
wide_lists (suc few) (suc more) e h (x ∷ xs) us l = λ i. (x, wide_lists few more e (omega arith) xs us (omega arith) i)

-- ---- keys with 16 slots

module _ (few more : ℕ) (h : few ≤ more) where
  pub wide_sum : (f : ℕ → KeyOf few 16) (n q : ℕ)
      → wide few more 16 (sum_from (key_add few 16) (key_none few 16) f n q)
      ≡ sum_from (key_add more 16) (key_none more 16) (λ i. wide few more 16 (f i)) n q
  unfolding sum_from
  wide_sum f zero q = wide_none few more 16 h
  wide_sum f (suc n) q =
      wide_add few more 16 h (f q) (sum_from (key_add few 16) (key_none few 16) f n (suc q))
      ∙ ap (key_add more 16 (wide few more 16 (f q))) (wide_sum f n (suc q))

  pub wide_cond : (b : Bool) (k : KeyOf few 16)
      → wide few more 16 (cond b k (key_none few 16)) ≡ cond b (wide few more 16 k) (key_none more 16)
  wide_cond true k = refl
  wide_cond false k = wide_none few more 16 h

  -- of two keys one is at most the other if its wide key is
  pub wide_most : (a b : KeyOf few 16) → AtMost (key_below more 16) (wide few more 16 a) (wide few more 16 b)
      → AtMost (key_below few 16) a b
  wide_most a b m = elim ((tuple_keys few 16).order.compare a b) [
    | inl less ↦ inl less
    | inr (inl same) ↦ inr same
    | inr (inr greater) ↦
        let order = (tuple_keys more 16).order in
        let up = (wide_below few more 16 h b a).1 greater in
        elim m [
          | inl less ↦ absurd (order.irreflexive _ (order.transitive _ _ _ less up))
          | inr same ↦ absurd (order.irreflexive (wide few more 16 a)
              (subst (λ k. key_below more 16 k (wide few more 16 a)) (sym same) up))
        ]
  ]
