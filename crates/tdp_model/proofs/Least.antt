-- The best solution of a region has the least key of the region.
use Rattle.std.proofs.Common.{◌≡◌, ℕ, zero, suc, ◌*◌, ◌<◌, List, [], ◌∷◌, ◌++◌, length, get_or, refl, sym, ap, ◌∙◌, subst, inr, arith, append_assoc}
use Rattle.rankings.specs.Order.{IsOrder}
use Rattle.tdp_model.specs.Remains.{AtMost}
use Rattle.tdp_model.specs.Heap.{under}
use Rattle.tdp_model.specs.Regions.{place_of, stands, completes, held, Region, in_region, completion, opening, best_of}
use Rattle.tdp_model.specs.StagedProblem.{IsStaged}
use Rattle.tdp_model.proofs.Keys.{at_most_trans}
use Rattle.tdp_model.proofs.Subtrees.{climbs_ordered, climbs_all}
use Rattle.tdp_model.proofs.Division.{get_place, stands_place, past_found, empty_found, times_pos}
use Rattle.std.proofs.lemmas.List.{append-nil}

module _ {K : Type 0} (Below : K → K → Type 0) (o : IsOrder K Below) (members : List ℕ → List ℕ) (bound : List ℕ → K) (Reach : ℕ → List ℕ → Type 0)
    (staged : IsStaged K Below members bound Reach) where
  -- a member under a place bounds no lower than the member at the place
  under_at_most : (n : ℕ) (pre : List ℕ) → Reach (suc n) pre → (j i : ℕ) → i < length (members pre) → 0 < under j i
      → AtMost Below (bound (pre ++ (get_or (members pre) j 0 ∷ []))) (bound (pre ++ (get_or (members pre) i 0 ∷ [])))
  under_at_most n pre reach j i l h =
      climbs_ordered
      (λ a b. AtMost Below (bound (pre ++ (get_or (members pre) a 0 ∷ []))) (bound (pre ++ (get_or (members pre) b 0 ∷ []))))
      (length (members pre))
      (λ a. inr refl)
      (λ a b c p q. at_most_trans Below o _ _ _ p q)
      (λ a p m. staged.heap n pre a reach p m)
      i i j l h

  pub bound_completes : (n : ℕ) (pre t : List ℕ) → Reach n pre → 0 < completes members n pre t → AtMost Below (bound pre) (bound (pre ++ t))
  unfolding completes
  bound_completes zero pre t reach h = inr (ap bound (sym (append-nil pre) ∙ ap (λ z. pre ++ z) (sym (empty_found t h))))
  bound_completes (suc n) pre [] reach h = absurd (omega arith)
  bound_completes (suc n) pre (r ∷ rest) reach h =
      let both : (0 < stands r (members pre)) × (0 < completes members n (pre ++ (r ∷ [])) rest) = times_pos _ _ h in
      let l : place_of r (members pre) < length (members pre) = stands_place r (members pre) both.0 in
      let g : get_or (members pre) (place_of r (members pre)) 0 ≡ r = get_place r (members pre) l in
      let one : AtMost Below (bound (pre ++ (get_or (members pre) 0 0 ∷ []))) (bound (pre ++ (r ∷ []))) =
      subst (λ z. AtMost Below (bound (pre ++ (get_or (members pre) 0 0 ∷ []))) (bound (pre ++ (z ∷ [])))) g
      (under_at_most n pre reach 0 (place_of r (members pre)) l (omega (arith, climbs_all (place_of r (members pre)) (place_of r (members pre)) (omega arith)))) in
      let two : AtMost Below (bound (pre ++ (r ∷ []))) (bound ((pre ++ (r ∷ [])) ++ rest)) =
      bound_completes n (pre ++ (r ∷ [])) rest
      (subst (λ z. Reach n (pre ++ (z ∷ []))) g (staged.step n pre (place_of r (members pre)) reach l)) both.1 in
      at_most_trans Below o _ _ _ (inr (sym (staged.first n pre reach)))
      (at_most_trans Below o _ _ _ one (subst (λ z. AtMost Below (bound (pre ++ (r ∷ []))) (bound z)) (append_assoc pre (r ∷ []) rest) two))

  held_least : (n : ℕ) (pre : List ℕ) (j : ℕ) → Reach (suc n) pre → (t : List ℕ) → 0 < held members n pre j t
      → AtMost Below (bound (pre ++ (get_or (members pre) j 0 ∷ []))) (bound (pre ++ t))
  unfolding held
  held_least n pre j reach [] h = absurd (omega arith)
  held_least n pre j reach (r ∷ rest) h =
      let both : (0 < stands r (members pre) * under j (place_of r (members pre))) × (0 < completes members n (pre ++ (r ∷ [])) rest) = times_pos _ _ h in
      let first : (0 < stands r (members pre)) × (0 < under j (place_of r (members pre))) = times_pos _ _ both.0 in
      let l : place_of r (members pre) < length (members pre) = stands_place r (members pre) first.0 in
      let g : get_or (members pre) (place_of r (members pre)) 0 ≡ r = get_place r (members pre) l in
      let one : AtMost Below (bound (pre ++ (get_or (members pre) j 0 ∷ []))) (bound (pre ++ (r ∷ []))) =
      subst (λ z. AtMost Below (bound (pre ++ (get_or (members pre) j 0 ∷ []))) (bound (pre ++ (z ∷ [])))) g
      (under_at_most n pre reach j (place_of r (members pre)) l first.1) in
      let two : AtMost Below (bound (pre ++ (r ∷ []))) (bound ((pre ++ (r ∷ [])) ++ rest)) =
      bound_completes n (pre ++ (r ∷ [])) rest
      (subst (λ z. Reach n (pre ++ (z ∷ []))) g (staged.step n pre (place_of r (members pre)) reach l)) both.1 in
      at_most_trans Below o _ _ _ one (subst (λ z. AtMost Below (bound (pre ++ (r ∷ []))) (bound z)) (append_assoc pre (r ∷ []) rest) two)

  pub region_least : (r : Region) → Reach (suc r.left) r.chosen → (s : List ℕ) → 0 < in_region members r s → AtMost Below (bound (opening members r)) (bound s)
  unfolding in_region opening
  region_least r reach s h =
      let f : (t : List ℕ) × (s ≡ r.chosen ++ t) × (0 < held members r.left r.chosen r.place t) = past_found r.chosen (held members r.left r.chosen r.place) s h in
      subst (λ z. AtMost Below (bound (r.chosen ++ (get_or (members r.chosen) r.place 0 ∷ []))) (bound z)) (sym f.1) (held_least r.left r.chosen r.place reach f.0 f.2)

  pub completion_bound : (n : ℕ) (pre : List ℕ) → Reach n pre → bound (completion members n pre) ≡ bound pre
  unfolding completion
  completion_bound zero pre reach = refl
  completion_bound (suc n) pre reach =
      completion_bound n (pre ++ (get_or (members pre) 0 0 ∷ [])) (staged.step n pre 0 reach (staged.inhabited n pre reach)) ∙ staged.first n pre reach

  pub best_bound : (r : Region) → Reach (suc r.left) r.chosen → r.place < length (members r.chosen) → bound (best_of members r) ≡ bound (opening members r)
  unfolding best_of opening
  best_bound r reach l = completion_bound r.left _ (staged.step r.left r.chosen r.place reach l)
