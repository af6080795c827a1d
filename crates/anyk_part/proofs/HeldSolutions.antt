-- The list of what regions hold has the solutions that they count, so that the queue determines the ranking of the rest.
use Rattle.std.proofs.Common.{◌≡◌, ℕ, zero, suc, ◌*◌, ◌-◌, ◌/◌, ◌<◌, ◌≤◌, Bool, true, false, cond, nat_eq, List, [], ◌∷◌, ◌++◌, map, length, get_or, refl, sym, ap, ◌∙◌, subst, inl, inr, arith, append_assoc}
use Rattle.std.proofs.lemmas.Bool.{cases_lt, eq-eqb, eqb-true, cond-true}
use Rattle.rankings.specs.Order.{IsOrder, IsMember, ranked}
use Rattle.rankings.proofs.Members.{member_left, member_right, member_either, member_map, member_unmap}
use Rattle.tdp_model.specs.Remains.{Remains}
use Rattle.tdp_model.specs.Heap.{under, climbs}
use Rattle.tdp_model.specs.Regions.{past, is_empty, completes, held, stands, place_of, Region, in_region, in_regions}
use Rattle.tdp_model.proofs.Division.{get_place, place_le, stands_yes, stands_place, past_found, past_at, empty_found, times_pos}
use Rattle.tdp_model.proofs.Enumeration.{gather_member, member_gather}
use Rattle.rankings.proofs.Sorting.{ranked_is_ranking}
use Rattle.rankings.proofs.Unique.{ranking_unique}
use Rattle.anyk_part.specs.RemainingSolutions.{completions, region_solutions, held_solutions, ranking_of}
use Rattle.std.proofs.lemmas.List.{append-nil}

stands_at : (i : ℕ) (xs : List ℕ) → i < length xs → stands (get_or xs i 0) xs ≡ 1
stands_at i xs l = stands_yes (get_or xs i 0) xs (omega (arith, place_le i xs l))

one_of : (a b : ℕ) → 0 < b → a ≡ 1 → 0 < a * b
one_of a b h e = omega (arith, ap (λ z. z * b) e)

product_one : (a b : ℕ) → a ≡ 1 → b ≡ 1 → a * b ≡ 1
product_one a b e f = omega (arith, ap (λ z. z * b) e)

climbs_once : (f j i : ℕ) → climbs f j i ≤ 1
unfolding climbs
climbs_once zero j i = at (nat_eq i j)
  where
    at : (b : Bool) → cond {A = ℕ} b 1 0 ≤ 1
    at true = omega arith
    at false = omega arith
climbs_once (suc f) j i = at (nat_eq i j) (nat_eq i 0) (climbs f j ((i - 1) / 2)) (climbs_once f j ((i - 1) / 2))
  where
    at : (b c : Bool) (n : ℕ) → n ≤ 1 → cond {A = ℕ} b 1 (cond c 0 n) ≤ 1
    at true c n h = omega arith
    at false true n h = omega arith
    at false false n h = h

under_once : (j i : ℕ) → under j i ≤ 1
under_once j i = climbs_once i j i

module _ (members : List ℕ → List ℕ) where
  pub completed : (n : ℕ) (pre s : List ℕ) → IsMember s (completions members n pre) → (t : List ℕ) × (s ≡ pre ++ t) × (0 < completes members n pre t)
  unfolding completions completes is_empty
  completed zero pre s (inl e) = ([], e ∙ sym (append-nil pre), omega arith)
  completed zero pre s (inr m) = absurd m
  completed (suc n) pre s m =
      let g : (i : ℕ) × (i < length (members pre)) × IsMember s (completions members n (pre ++ (get_or (members pre) i 0 ∷ []))) =
      member_gather (λ r. completions members n (pre ++ (r ∷ []))) s (members pre) m in
      let r : ℕ = get_or (members pre) g.0 0 in
      let h : (t : List ℕ) × (s ≡ (pre ++ (r ∷ [])) ++ t) × (0 < completes members n (pre ++ (r ∷ [])) t) = completed n (pre ++ (r ∷ [])) s g.2 in
      (r ∷ h.0, h.1 ∙ append_assoc pre (r ∷ []) h.0, one_of _ _ h.2 (stands_at g.0 (members pre) g.1))

  pub complete : (n : ℕ) (pre t : List ℕ) → 0 < completes members n pre t → IsMember (pre ++ t) (completions members n pre)
  unfolding completions completes
  complete zero pre t h = inl (ap (λ z. pre ++ z) (empty_found t h) ∙ append-nil pre)
  complete (suc n) pre [] h = absurd (omega arith)
  complete (suc n) pre (r ∷ t) h =
      let p : (0 < stands r (members pre)) × (0 < completes members n (pre ++ (r ∷ [])) t) = times_pos _ _ h in
      let l : place_of r (members pre) < length (members pre) = stands_place r (members pre) p.0 in
      gather_member (λ x. completions members n (pre ++ (x ∷ []))) (pre ++ (r ∷ t)) (members pre) (place_of r (members pre)) l
      (subst (λ z. IsMember (pre ++ (r ∷ t)) (completions members n (pre ++ (z ∷ [])))) (sym (get_place r (members pre) l))
      (subst (λ z. IsMember z (completions members n (pre ++ (r ∷ [])))) (append_assoc pre (r ∷ []) t) (complete n (pre ++ (r ∷ [])) t p.1)))

  some_of : (b : Bool) (s : List ℕ) (xs : List (List ℕ)) → IsMember s (cond b xs []) → (b ≡ true) × IsMember s xs
  some_of true s xs m = (refl, m)
  some_of false s xs m = absurd m

  pub region_listed : (r : Region) (s : List ℕ) → 0 < in_region members r s → IsMember s (region_solutions members r)
  unfolding in_region held region_solutions
  region_listed r s h =
      let f : (t : List ℕ) × (s ≡ r.chosen ++ t) × (0 < held members r.left r.chosen r.place t) = past_found r.chosen (held members r.left r.chosen r.place) s h in
      subst (λ z. IsMember z (region_solutions members r)) (sym f.1) (at f.0 f.2)
    where
      at : (t : List ℕ) → 0 < held members r.left r.chosen r.place t → IsMember (r.chosen ++ t) (region_solutions members r)
      at [] q = absurd (omega arith)
      at (x ∷ t) q =
          let p : (0 < stands x (members r.chosen) * under r.place (place_of x (members r.chosen))) × (0 < completes members r.left (r.chosen ++ (x ∷ [])) t) = times_pos _ _ q in
          let b : (0 < stands x (members r.chosen)) × (0 < under r.place (place_of x (members r.chosen))) = times_pos _ _ p.0 in
          let l : place_of x (members r.chosen) < length (members r.chosen) = stands_place x (members r.chosen) b.0 in
          let u : under r.place (place_of x (members r.chosen)) ≡ 1 = omega (arith, b.1, under_once r.place (place_of x (members r.chosen))) in
          gather_member (λ y. cond (nat_eq (under r.place (place_of y (members r.chosen))) 1) (completions members r.left (r.chosen ++ (y ∷ []))) []) (r.chosen ++ (x ∷ t)) (members r.chosen) (place_of x (members r.chosen)) l
          (subst (λ y. IsMember (r.chosen ++ (x ∷ t)) (cond (nat_eq (under r.place (place_of y (members r.chosen))) 1) (completions members r.left (r.chosen ++ (y ∷ []))) [])) (sym (get_place x (members r.chosen) l))
          (subst (λ z. IsMember (r.chosen ++ (x ∷ t)) z) (sym (cond-true (nat_eq (under r.place (place_of x (members r.chosen))) 1) (completions members r.left (r.chosen ++ (x ∷ []))) [] (eq-eqb _ _ u)))
          (subst (λ z. IsMember z (completions members r.left (r.chosen ++ (x ∷ [])))) (append_assoc r.chosen (x ∷ []) t) (complete r.left (r.chosen ++ (x ∷ [])) t p.1))))

  pub region_counted : (r : Region) (s : List ℕ) → IsMember s (region_solutions members r) → 0 < in_region members r s
  unfolding in_region held region_solutions
  region_counted r s m =
      let g : (i : ℕ) × (i < length (members r.chosen)) × IsMember s (cond (nat_eq (under r.place (place_of (get_or (members r.chosen) i 0) (members r.chosen))) 1) (completions members r.left (r.chosen ++ (get_or (members r.chosen) i 0 ∷ []))) []) =
      member_gather (λ y. cond (nat_eq (under r.place (place_of y (members r.chosen))) 1) (completions members r.left (r.chosen ++ (y ∷ []))) []) s (members r.chosen) m in
      let x : ℕ = get_or (members r.chosen) g.0 0 in
      let c : (nat_eq (under r.place (place_of x (members r.chosen))) 1 ≡ true) × IsMember s (completions members r.left (r.chosen ++ (x ∷ []))) =
      some_of (nat_eq (under r.place (place_of x (members r.chosen))) 1) s (completions members r.left (r.chosen ++ (x ∷ []))) g.2 in
      let h : (t : List ℕ) × (s ≡ (r.chosen ++ (x ∷ [])) ++ t) × (0 < completes members r.left (r.chosen ++ (x ∷ [])) t) = completed r.left (r.chosen ++ (x ∷ [])) s c.1 in
      subst (λ z. 0 < past r.chosen (held members r.left r.chosen r.place) z) (sym (h.1 ∙ append_assoc r.chosen (x ∷ []) h.0))
      (subst (λ z. 0 < z) (sym (past_at r.chosen (held members r.left r.chosen r.place) (x ∷ h.0)))
      (one_of _ _ h.2 (product_one _ _ (stands_at g.0 (members r.chosen) g.1) (eqb-true _ _ c.0))))

  pub all_listed : (rs : List Region) (s : List ℕ) → 0 < in_regions members rs s → IsMember s (held_solutions members rs)
  unfolding in_regions held_solutions
  all_listed [] s h = absurd (omega arith)
  all_listed (r ∷ rs) s h = elim (cases_lt 0 (in_region members r s)) [
    | inl p ↦ member_left s (region_solutions members r) (held_solutions members rs) (region_listed r s p)
    | inr z ↦ member_right s (region_solutions members r) (held_solutions members rs) (all_listed rs s (omega arith))
  ]

  pub all_counted : (rs : List Region) (s : List ℕ) → IsMember s (held_solutions members rs) → 0 < in_regions members rs s
  unfolding in_regions held_solutions
  all_counted [] s m = absurd m
  all_counted (r ∷ rs) s m = elim (member_either s (region_solutions members r) (held_solutions members rs) m) [
    | inl n ↦ omega (arith, region_counted r s n)
    | inr n ↦ omega (arith, all_counted rs s n)
  ]

  module _ {K : Type 0} (Below : K → K → Type 0) (o : IsOrder K Below) (bound : List ℕ → K) where
    -- What remains is the ranking of what the regions hold.
    pub remains_is : (rs : List Region) (ks : List K) → Remains (List ℕ) K Below bound (in_regions members rs) ks → ks ≡ ranking_of Below o members bound rs
    remains_is rs ks h =
        let keys : List K = map bound (held_solutions members rs) in
        ranking_unique Below o (λ k. IsMember k keys) ks (ranked Below o keys)
        (record {
          ascending = h.ascending;
          sound = λ k m.
              let s : (x : List ℕ) × (0 < in_regions members rs x) × (bound x ≡ k) = h.sound k m in
              subst (λ z. IsMember z keys) s.2 (member_map bound s.0 (held_solutions members rs) (all_listed rs s.0 s.1));
          complete = λ k m.
              let s : (x : List ℕ) × IsMember x (held_solutions members rs) × (k ≡ bound x) = member_unmap bound k (held_solutions members rs) m in
              subst (λ z. IsMember z ks) (sym s.2) (h.complete s.0 (all_counted rs s.0 s.1));
        })
        (ranked_is_ranking Below o keys)
