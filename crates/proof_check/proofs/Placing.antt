-- Rows of a subtree that are placed node by node.
use Rattle.std.proofs.Common.{◌≡◌, ◌≢◌, ℕ, ◌+◌, ◌<◌, ◌≤◌, List, length, replicate, get_or}
use Rattle.std.proofs.Common.{sym, ap, subst, ◌∙◌, inl, inr, arith}
use Rattle.std.proofs.Math.ListN.{set}
use Rattle.std.proofs.lemmas.Bool.{cases_eq, cases_lt}
use Rattle.std.proofs.lemmas.List.{get_or-set_same, get_or-set_other, get_or-replicate, get_or_past, length-replicate}
use Rattle.tdp_core.specs.RawView.{AreShapes, RawView, raw_len, raw_number, shape_parent}
use Rattle.proof_check.specs.Subtrees.{ArePlacedBefore, HasLinkOf, raw_below, raw_place}
use Rattle.proof_check.proofs.Subtrees.{below_after, parents_first_lem, parent_low}

abbrev no_places : List ℕ
no_places = replicate 16 0

zeros : (q : ℕ) → get_or no_places q 0 ≡ 0
zeros q = elim (cases_lt q 16) [
  | inl l ↦ get_or-replicate {A = ℕ} 16 q 0 0 l
  | inr l ↦ get_or_past no_places q 0 (let long = length-replicate {A = ℕ} 16 0 in omega (arith, long))
]

module _ {R : Type 0} (raw : RawView R) (shaped : AreShapes raw.shapes) (v : ℕ) (rows : List ℕ) where
  abbrev m : ℕ
  m = length raw.shapes

  abbrev up : ℕ → ℕ
  up = shape_parent raw.shapes

  -- nothing is placed before the subtree begins
  pub placed_none : v < m → ArePlacedBefore raw v rows (replicate 16 0) v
  placed_none l = record {
    within = λ q h some. absurd (omega (arith, below_after raw shaped v q (omega arith) some));
    numbers = λ q h some. absurd (omega (arith, below_after raw shaped v q (omega arith) some));
    linked = λ q a h some. absurd (omega arith);
    outside = λ q h. zeros q;
  }

  pub placed_skip : (places : List ℕ) (n : ℕ) → raw_below raw v n ≡ 0 → ArePlacedBefore raw v rows places n
      → ArePlacedBefore raw v rows places (n + 1)
  placed_skip places n none p =
      let before : (q : ℕ) → q < n + 1 → 0 < raw_below raw v q → q < n = λ q h some. elim (cases_eq q n) [
        | inl e ↦ let z = ap (raw_below raw v) e in absurd (omega (arith, z))
        | inr e ↦ omega (arith, e)
      ] in
      record {
        within = λ q h some. p.within q (before q h some) some;
        numbers = λ q h some. p.numbers q (before q h some) some;
        linked = λ q a h some. p.linked q a (before q h some) some;
        outside = λ q h. p.outside q (λ l. h (omega arith));
      }

  module _ (places : List ℕ) (n place : ℕ) (long : length places ≡ 16) (after : v ≤ n) (inside : n < m) (p : ArePlacedBefore raw v rows places n) where
    abbrev more : List ℕ
    more = set places n place

    same_place : (q : ℕ) → q ≢ n → get_or more q 0 ≡ get_or places q 0
    same_place q e = get_or-set_other places n q place 0 e

    new_place : get_or more n 0 ≡ place
    new_place = get_or-set_same places n place 0 (let few = shaped.few_nodes in omega (arith, few, long))

    pub placed_more : 0 < raw_below raw v n → place < raw_len raw n → raw_number raw n place ≡ get_or rows (raw_place raw v n) 0
        → (v < n → HasLinkOf raw n (get_or places (up n) 0) place) → ArePlacedBefore raw v rows more (n + 1)
    placed_more is fits row link = record {
      within = λ q h some. elim (cases_eq q n) [
        | inl e ↦ subst (λ k. get_or more k 0 < raw_len raw k) (sym e) (omega (arith, new_place, fits))
        | inr e ↦ omega (arith, same_place q e, p.within q (omega (arith, e)) some)
      ];
      numbers = λ q h some. elim (cases_eq q n) [
        | inl e ↦ subst (λ k. raw_number raw k (get_or more k 0) ≡ get_or rows (raw_place raw v k) 0) (sym e)
            (ap (raw_number raw n) new_place ∙ row)
        | inr e ↦ ap (raw_number raw q) (same_place q e) ∙ p.numbers q (omega (arith, e)) some
      ];
      linked = λ q a h some. elim (cases_eq q n) [
        | inl e ↦
            let far : v < n = omega arith in
            let less = parents_first_lem raw shaped n (omega arith) inside in
            subst (λ k. HasLinkOf raw k (get_or more (up k) 0) (get_or more k 0)) (sym e)
            (subst (λ r. HasLinkOf raw n r (get_or more n 0)) (sym (same_place (up n) (λ x. omega arith)))
            (subst (λ i. HasLinkOf raw n (get_or places (up n) 0) i) (sym new_place) (link far)))
        | inr e ↦
            let l : q < n = omega (arith, e) in
            let low = parent_low raw shaped q (omega arith) in
            subst (λ r. HasLinkOf raw q r (get_or more q 0)) (sym (same_place (up q) (λ x. omega arith)))
            (subst (λ i. HasLinkOf raw q (get_or places (up q) 0) i) (sym (same_place q e)) (p.linked q a l some))
      ];
      outside = λ q h. elim (cases_eq q n) [
        | inl e ↦ let z = h (omega arith) in let y = ap (raw_below raw v) e in absurd (omega (arith, z, y, is))
        | inr e ↦ same_place q e ∙ p.outside q (λ l. h (omega arith))
      ];
    }
