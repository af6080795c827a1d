-- One answer of an enumeration by regions keeps what its queue is.
use Rattle.std.proofs.Common.{◌≡◌, ℕ, zero, suc, ◌+◌, ◌<◌, ◌≤◌, Bool, true, false, cond, nat_eq, List, [], ◌∷◌, ◌++◌, length, get_or, refl, sym, ap, ◌∙◌, subst, inl, inr, arith}
use Rattle.std.proofs.lemmas.Bool.{cases_lt}
use Rattle.rankings.specs.Order.{IsOrder}
use Rattle.tdp_model.specs.Remains.{AtMost, Remains}
use Rattle.tdp_model.specs.Regions.{past, completes, held, deviations, exactly, Region, in_region, in_regions, opening, best_of, divided}
use Rattle.tdp_model.specs.StagedProblem.{IsStaged}
use Rattle.tdp_model.specs.Queue.{present, AllReached, whole_region, rank_of, IsOpen, AllOpen, IsLeast, IsQueue}
use Rattle.tdp_model.proofs.Removal.{take_least, Remains-same}
use Rattle.tdp_model.proofs.Division.{past_same, held_past_end, completes_held, exactly_at, exactly_only}
use Rattle.tdp_model.proofs.Cover.{region_division}
use Rattle.tdp_model.proofs.Keys.{at_most_trans}
use Rattle.tdp_model.proofs.Least.{region_least, best_bound}
use Rattle.tdp_model.proofs.Picks.{pick_lt, pick_ge}

pub in_regions_append : (members : List ℕ → List ℕ) (xs ys : List Region) (s : List ℕ) → in_regions members (xs ++ ys) s ≡ in_regions members xs s + in_regions members ys s
unfolding in_regions
in_regions_append members [] ys s = omega arith
in_regions_append members (x ∷ xs) ys s = omega (arith, in_regions_append members xs ys s)

past_zero : (pre s : List ℕ) → past pre (λ t. 0) s ≡ 0
unfolding past
past_zero [] s = refl
past_zero (x ∷ xs) [] = refl
past_zero (x ∷ xs) (y ∷ ys) = at (nat_eq x y) (past xs (λ t. 0) ys) (past_zero xs ys)
  where
    at : (b : Bool) (z : ℕ) → z ≡ 0 → cond b z 0 ≡ 0
    at true z e = e
    at false z e = refl

whole_at : (members : List ℕ → List ℕ) (n : ℕ) (s : List ℕ) → completes members (suc n) [] s ≡ in_regions members (whole_region n ∷ []) s
unfolding in_regions in_region past
whole_at members n s = completes_held members n [] s ∙ omega arith

pub none_past : (members : List ℕ → List ℕ) (r : Region) (s : List ℕ) → length (members r.chosen) ≤ r.place → in_region members r s ≡ 0
unfolding in_region
none_past members r s l = past_same r.chosen (held members r.left r.chosen r.place) (λ t. 0) (held_past_end members r.left r.chosen r.place l) s ∙ past_zero r.chosen s

module _ {K : Type 0} (Below : K → K → Type 0) (o : IsOrder K Below) (members : List ℕ → List ℕ) (bound : List ℕ → K) (Reach : ℕ → List ℕ → Type 0)
    (staged : IsStaged K Below members bound Reach) where
  -- what the regions of the list hold is no less than a least rank
  all_at_most : (r : Region) (cs : List Region) → AllOpen members Reach cs → IsLeast Below members bound r cs → (s : List ℕ) → 0 < in_regions members cs s
      → AtMost Below (rank_of members bound r) (bound s)
  unfolding in_regions
  all_at_most r [] «open» least s h = absurd (omega arith)
  all_at_most r (c ∷ cs) «open» least s h = elim (cases_lt 0 (in_region members c s)) [
    | inl p ↦ at_most_trans Below o _ _ _ least.0 (region_least Below o members bound Reach staged c «open».0.0 s p)
    | inr z ↦ all_at_most r cs «open».1 least.1 s (omega arith)
  ]

  parts : (r : Region) (others : List Region) → IsOpen members Reach r → (s : List ℕ)
      → in_regions members (r ∷ others) s ≡ exactly (best_of members r) s + in_regions members (divided members r ++ others) s
  unfolding in_regions
  parts r others p s = omega (arith, region_division Below members bound Reach staged r p.0 p.1 s, in_regions_append members (divided members r) others s)

  -- the top of the queue gives the head of the ranking, and its parts with the other candidates are the queue of the rest
  pub part_next : (r : Region) (others : List Region) (ks : List K) → IsQueue K Below members bound Reach (r ∷ others) ks → IsLeast Below members bound r others
      → (ks' : List K) × (ks ≡ rank_of members bound r ∷ ks') × (bound (best_of members r) ≡ rank_of members bound r)
      × Remains (List ℕ) K Below bound (in_regions members (divided members r ++ others)) ks'
  part_next r others ks q least =
      let best : bound (best_of members r) ≡ rank_of members bound r = best_bound Below o members bound Reach staged r q.all_open.0.0 q.all_open.0.1 in
      let t : (ks' : List K) × (ks ≡ bound (best_of members r) ∷ ks') × Remains (List ℕ) K Below bound (λ s. in_regions members (divided members r ++ others) s) ks' =
      take_least Below o bound (in_regions members (r ∷ others)) (exactly (best_of members r)) (λ s. in_regions members (divided members r ++ others) s) (best_of members r)
      (λ s. parts r others q.all_open.0 s)
      (omega (arith, exactly_at (best_of members r)))
      (λ s h. exactly_only (best_of members r) s h)
      (λ s h. subst (λ z. AtMost Below z (bound s)) (sym best) (all_at_most r (r ∷ others) q.all_open (inr refl, least) s h))
      ks q.remains in
      (t.0, t.1 ∙ ap (λ z. z ∷ t.0) best, best, t.2)

  pub present_same : (rs : List Region) (s : List ℕ) → in_regions members (present members rs) s ≡ in_regions members rs s
  unfolding in_regions present
  present_same [] s = refl
  present_same (r ∷ rs) s = elim (cases_lt r.place (length (members r.chosen))) [
    | inl l ↦ ap (λ z. in_regions members z s) (pick_lt r.place (length (members r.chosen)) (r ∷ present members rs) (present members rs) l) ∙ ap (λ z. in_region members r s + z) (present_same rs s)
    | inr g ↦ ap (λ z. in_regions members z s) (pick_ge r.place (length (members r.chosen)) (r ∷ present members rs) (present members rs) g)
        ∙ omega (arith, present_same rs s, none_past members r s g)
  ]

  pub present_open : (rs : List Region) → AllReached Reach rs → AllOpen members Reach (present members rs)
  unfolding present
  present_open [] a = tt
  present_open (r ∷ rs) a = elim (cases_lt r.place (length (members r.chosen))) [
    | inl l ↦ subst (λ z. AllOpen members Reach z) (sym (pick_lt r.place (length (members r.chosen)) (r ∷ present members rs) (present members rs) l)) ((a.0, l), present_open rs a.1)
    | inr g ↦ subst (λ z. AllOpen members Reach z) (sym (pick_ge r.place (length (members r.chosen)) (r ∷ present members rs) (present members rs) g)) (present_open rs a.1)
  ]

  pub deviations_reached : (n : ℕ) (pre : List ℕ) → Reach n pre → AllReached Reach (deviations members n pre)
  unfolding deviations
  deviations_reached zero pre reach = tt
  deviations_reached (suc n) pre reach = (reach, (reach, deviations_reached n (pre ++ (get_or (members pre) 0 0 ∷ [])) (staged.step n pre 0 reach (staged.inhabited n pre reach))))

  pub divided_reached : (r : Region) → IsOpen members Reach r → AllReached Reach (divided members r)
  unfolding divided opening
  divided_reached r p = (p.0, (p.0, deviations_reached r.left (r.chosen ++ (get_or (members r.chosen) r.place 0 ∷ [])) (staged.step r.left r.chosen r.place p.0 p.1)))

  open_append : (xs ys : List Region) → AllOpen members Reach xs → AllOpen members Reach ys → AllOpen members Reach (xs ++ ys)
  open_append [] ys a b = b
  open_append (x ∷ xs) ys a b = (a.0, open_append xs ys a.1 b)

  -- One call of `next`: the top's rank is the head of the ranking, and the parts that are not empty, with the other candidates, are the queue of the rest.
  pub part_keeps : (r : Region) (others : List Region) (ks : List K) → IsQueue K Below members bound Reach (r ∷ others) ks → IsLeast Below members bound r others
      → (ks' : List K) × (ks ≡ rank_of members bound r ∷ ks') × IsQueue K Below members bound Reach (present members (divided members r) ++ others) ks'
  part_keeps r others ks q least =
      let t : (ks' : List K) × (ks ≡ rank_of members bound r ∷ ks') × (bound (best_of members r) ≡ rank_of members bound r)
      × Remains (List ℕ) K Below bound (in_regions members (divided members r ++ others)) ks' = part_next r others ks q least in (
        t.0,
        t.1,
        record {
          all_open = open_append (present members (divided members r)) others (present_open (divided members r) (divided_reached r q.all_open.0)) q.all_open.1;
          remains = Remains-same Below bound (in_regions members (divided members r ++ others)) (in_regions members (present members (divided members r) ++ others)) t.0
              (λ s. omega (arith, in_regions_append members (divided members r) others s, in_regions_append members (present members (divided members r)) others s, present_same (divided members r) s))
              t.3;
        },
      )

  -- The first queue, of the one region with everything.
  pub first_queue : (n : ℕ) (ks : List K) → Reach (suc n) [] → Remains (List ℕ) K Below bound (completes members (suc n) []) ks → IsQueue K Below members bound Reach (whole_region n ∷ []) ks
  first_queue n ks reach h = record {
    all_open = ((reach, staged.inhabited n [] reach), tt);
    remains = Remains-same Below bound (completes members (suc n) []) (in_regions members (whole_region n ∷ [])) ks (λ s. whole_at members n s) h;
  }
