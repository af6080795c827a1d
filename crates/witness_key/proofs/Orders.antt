-- Keys that are made of lists of one length are in the order of these lists, and different slots
-- give different keys.
use Rattle.std.proofs.Common.{◌≡◌, ◌≤◌, ◌<◌, ◌↔◌, ◌<ℤ◌, ◌++◌, ℕ, zero, suc, ℤ, pos, List, [], ◌∷◌, map, length, refl, ap, inl, inr, arith}
use Rattle.std.proofs.lemmas.Int.{ints}
use Rattle.tdp_model.specs.KeyTuple.{SlotsOf, KeyOf, slots_below, key_below}
use Rattle.tdp_model.specs.KeyNumbers.{slots_of_list, key_of_lists}
use Rattle.tdp_model.proofs.KeyTuples.{tuple_keys}
use Rattle.anyk_model.specs.Ranking.{IsBefore}

pos_below : (u v : ℕ) → u < v → pos u <ℤ pos v
pos_below u v p = omega (arith, ints)

below_pos : (u v : ℕ) → pos u <ℤ pos v → u < v
below_pos u v p = omega (arith, ints)

pos_same : (u v : ℕ) → pos u ≡ pos v → u ≡ v
pos_same u v e = cc

none_below : (z : ℤ) → z <ℤ z → ⊥
none_below z p = omega (arith, ints)

slots_agree : (e : ℕ) (us vs : List ℕ) → length us ≤ e → length us ≡ length vs
    → slots_below e (slots_of_list e us) (slots_of_list e vs) ↔ IsBefore (map pos us) (map pos vs)
slots_agree zero [] [] few same = (λ p. p, λ p. p)
slots_agree zero [] (v ∷ vs) few same = absurd (omega arith)
slots_agree zero (u ∷ us) vs few same = absurd (omega arith)
slots_agree (suc e) [] [] few same = (λ p. absurd ((tuple_keys 0 (suc e)).order.irreflexive (slots_of_list (suc e) []) p), λ p. absurd p)
slots_agree (suc e) [] (v ∷ vs) few same = absurd (omega arith)
slots_agree (suc e) (u ∷ us) [] few same = absurd (omega arith)
slots_agree (suc e) (u ∷ us) (v ∷ vs) few same =
    let later = slots_agree e us vs (omega arith) (omega arith) in (
      λ p. elim p [ inl l ↦ inl (pos_below u v l) | inr q ↦ inr (ap pos q.0, later.0 q.1) ],
      λ p. elim p [ inl l ↦ inl (below_pos u v l) | inr q ↦ inr (pos_same u v q.0, later.1 q.1) ],
    )

pub keys_agree_lem : (d e : ℕ) (xs ys : List ℤ) (us vs : List ℕ) → length xs ≤ d → length xs ≡ length ys → length us ≤ e → length us ≡ length vs
    → key_below d e (key_of_lists d e xs us) (key_of_lists d e ys vs) ↔ IsBefore (xs ++ map pos us) (ys ++ map pos vs)
keys_agree_lem zero e [] [] us vs few same room length = slots_agree e us vs room length
keys_agree_lem zero e [] (y ∷ ys) us vs few same room length = absurd (omega arith)
keys_agree_lem zero e (x ∷ xs) ys us vs few same room length = absurd (omega arith)
keys_agree_lem (suc d) e [] [] us vs few same room length =
    let later = keys_agree_lem d e [] [] us vs (omega arith) refl room length in (
      λ p. elim p [ inl l ↦ absurd (none_below (pos 0) l) | inr q ↦ later.0 q.1 ],
      λ p. inr (refl, later.1 p),
    )
keys_agree_lem (suc d) e [] (y ∷ ys) us vs few same room length = absurd (omega arith)
keys_agree_lem (suc d) e (x ∷ xs) [] us vs few same room length = absurd (omega arith)
keys_agree_lem (suc d) e (x ∷ xs) (y ∷ ys) us vs few same room length =
    let later = keys_agree_lem d e xs ys us vs (omega arith) (omega arith) room length in (
      λ p. elim p [ inl l ↦ inl l | inr q ↦ inr (q.0, later.0 q.1) ],
      λ p. elim p [ inl l ↦ inl l | inr q ↦ inr (q.0, later.1 q.1) ],
    )

slots_tell : (e : ℕ) (us vs : List ℕ) → length us ≤ e → length us ≡ length vs → slots_of_list e us ≡ slots_of_list e vs → us ≡ vs
slots_tell e [] [] few same alike = refl
slots_tell e [] (v ∷ vs) few same alike = absurd (omega arith)
slots_tell e (u ∷ us) [] few same alike = absurd (omega arith)
slots_tell zero (u ∷ us) (v ∷ vs) few same alike = absurd (omega arith)
slots_tell (suc e) (u ∷ us) (v ∷ vs) few same alike =
    let head : u ≡ v = ap (λ (k : SlotsOf (suc e)). k.0) alike in
    λ i. head i ∷ (slots_tell e us vs (omega arith) (omega arith) (ap (λ (k : SlotsOf (suc e)). k.1) alike)) i

pub keys_tell : (d e : ℕ) (xs ys : List ℤ) (us vs : List ℕ) → length us ≤ e → length us ≡ length vs
    → key_of_lists d e xs us ≡ key_of_lists d e ys vs → us ≡ vs
keys_tell zero e xs ys us vs few same alike = slots_tell e us vs few same alike
keys_tell (suc d) e [] [] us vs few same alike = keys_tell d e [] [] us vs few same (ap (λ (k : KeyOf (suc d) e). k.1) alike)
keys_tell (suc d) e [] (y ∷ ys) us vs few same alike = keys_tell d e [] ys us vs few same (ap (λ (k : KeyOf (suc d) e). k.1) alike)
keys_tell (suc d) e (x ∷ xs) [] us vs few same alike = keys_tell d e xs [] us vs few same (ap (λ (k : KeyOf (suc d) e). k.1) alike)
keys_tell (suc d) e (x ∷ xs) (y ∷ ys) us vs few same alike = keys_tell d e xs ys us vs few same (ap (λ (k : KeyOf (suc d) e). k.1) alike)
