-- Lists of groups of which one is put into another order.
use Rattle.std.proofs.Common.{◌≡◌, ℕ, zero, suc, ◌+◌, ◌*◌, ◌<◌, ◌≤◌, List, [], ◌∷◌, ◌++◌, length, get_or, drop, take, sym, ap, subst, ◌∙◌, inl, inr, arith, length-append}
use Rattle.std.proofs.Math.ListN.{set}
use Rattle.std.specs.List.{concat}
use Rattle.std.specs.List.Sorted.{IsPermutation}
use Rattle.std.specs.Vec.{with_items}
use Rattle.std.specs.declared.vec.Vec.{Vec}
use Rattle.std.proofs.Math.Seq.{take-append_seam}
use Rattle.std.proofs.lemmas.Bool.{cases_eq}
use Rattle.std.proofs.lemmas.List.{get_or-set_same, get_or-set_other}
use Rattle.std.proofs.lemmas.List.Sorted.{IsPermutation-refl}

-- a vector whose elements were written as a slice
pub items_written : {X Z : Type 0} (v : Vec X Z) (new : List X) → length new ≡ length v.items → (with_items v new).items ≡ new
items_written v new same =
    ap (λ n. take n (new ++ drop (length new) v.items)) (v.ok.0 ∙ sym same) ∙ take-append_seam new (drop (length new) v.items)

-- the members of all groups from number n on
pub members_from : (gs : List (List ℕ)) (n : ℕ) → n < length gs → length (concat (drop n gs)) ≡ length (get_or gs n []) + length (concat (drop (n + 1) gs))
members_from [] n l = absurd (omega arith)
members_from (x ∷ gs) zero l = length-append x (concat gs)
members_from (x ∷ gs) (suc n) l =
    let next : suc n + 1 ≡ suc (n + 1) = omega arith in
    members_from gs n (omega arith) ∙ ap (λ k. length (get_or gs n []) + length (concat (drop k (x ∷ gs)))) (sym next)

-- the steps for one group more
pub group_steps : (gs : List (List ℕ)) (n size old before after : ℕ) → n < length gs → size ≡ length (get_or gs n []) → before + 2 * length (concat (drop n gs)) ≤ old + 2 * length (concat gs)
    → after ≤ before + 2 * size → after + 2 * length (concat (drop (n + 1) gs)) ≤ old + 2 * length (concat gs)
group_steps gs n size old before after inside same counted cost = omega (arith, members_from gs n inside, same, counted, cost)

pub without_rest : (x rest most : ℕ) → x + rest ≤ most → x ≤ most
without_rest x rest most l = omega (arith, l)

-- each group, where one is put into another order
pub same_members : (gs : List (List ℕ)) (n : ℕ) (new : List ℕ) → n < length gs → IsPermutation (get_or gs n []) new → (m : ℕ) → IsPermutation (get_or gs m []) (get_or (set gs n new) m [])
same_members gs n new l moved m = elim (cases_eq m n) [
  | inl e ↦ subst (λ k. IsPermutation (get_or gs k []) (get_or (set gs n new) k [])) (sym e) (subst (IsPermutation (get_or gs n [])) (sym (get_or-set_same gs n new [] l)) moved)
  | inr other ↦ subst (IsPermutation (get_or gs m [])) (sym (get_or-set_other gs n m new [] other)) (IsPermutation-refl (get_or gs m []))
]

-- what holds of the groups below number n, and of the group that is put there
pub below_next : (P : List ℕ → Type 0) (gs : List (List ℕ)) (n : ℕ) (new : List ℕ) → n < length gs → ((m : ℕ) → m < n → P (get_or gs m [])) → P new → (m : ℕ) → m < n + 1 → P (get_or (set gs n new) m [])
below_next P gs n new l earlier here m h = elim (cases_eq m n) [
  | inl e ↦ subst (λ k. P (get_or (set gs n new) k [])) (sym e) (subst P (sym (get_or-set_same gs n new [] l)) here)
  | inr other ↦ subst P (sym (get_or-set_other gs n m new [] other)) (earlier m (omega arith))
]
