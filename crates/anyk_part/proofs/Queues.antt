-- One answer of an engine by regions.
use Rattle.std.proofs.Common.{◌≡◌, ℕ, suc, ◌+◌, ◌-◌, ◌*◌, ◌<◌, ◌≤◌, List, [], ◌∷◌, ◌++◌, length, take, get_or, refl, sym, ap, ◌∙◌, subst, arith}
use Rattle.std.specs.List.{All}
use Rattle.std.proofs.lemmas.List.Sums.{sum_by-cons}
use Rattle.std.proofs.lemmas.List.Elements.{All-head, All-tail}
use Rattle.stream_store.specs.declared.linked.Linked.{Linked}
use Rattle.take2_heap.specs.declared.entry.Entry.{Entry}
use Rattle.take2_heap.specs.Order as heaps
use Rattle.tdp_model.specs.KeyTuple.{KeyOf, key_below}
use Rattle.tdp_model.specs.Remains.{AtMost, Remains}
use Rattle.tdp_model.specs.Regions.{Region, in_region, in_regions, divided}
use Rattle.tdp_model.specs.Queue.{rank_of, IsOpen, AllOpen, IsLeast, IsQueue, present}
use Rattle.tdp_model.proofs.KeyTuples.{tuple_keys}
use Rattle.tdp_model.proofs.KeyNumbers.{not_less_at_most}
use Rattle.tdp_model.proofs.Removal.{Remains-same}
use Rattle.tdp_model.proofs.PartNext.{part_keeps, in_regions_append, present_same}
use Rattle.tdp_core.specs.TreeView.{NodeView, group_count}
use Rattle.tdp_core.specs.WellFormed.{IsFormed}
use Rattle.anyk_part.specs.declared.candidate.Link.{Link}
use Rattle.anyk_part.specs.declared.candidate.Candidate.{Candidate}
use Rattle.anyk_part.specs.Regions.{followers, Reached, least, region_of, regions_of, candidates_of, regions, held_by, rest_keys, IsEntry, IsPart}
use Rattle.anyk_part.specs.Chains.{chain}
use Rattle.anyk_part.proofs.HeldSolutions.{remains_is}
use Rattle.anyk_part.proofs.LiveTrees.{staged}

-- the regions of the candidates that are seen
pub regions_seen : {R : Type 0} (links : List (Linked Link)) (m : ℕ) (es : List (Entry R Candidate)) → regions (candidates_of links m es) ≡ regions_of links m es
regions_seen links m [] = refl
regions_seen links m (e ∷ es) = ap (λ rs. region_of links m e.tag ∷ rs) (regions_seen links m es)

module _ {R : Type 0} (d : ℕ) (key : R → KeyOf d 16) (t : List (NodeView R)) (links : List (Linked Link)) where
  -- the regions of the entries count what the entries hold
  pub regions_held : (es : List (Entry R Candidate)) (s : List ℕ) → in_regions (followers t) (regions_of links (length t) es) s ≡ held_by t links es s
  unfolding in_regions
  regions_held [] s = refl
  regions_held (e ∷ es) s = omega (arith, regions_held es s, sum_by-cons (λ x. in_region (followers t) (region_of links (length t) x.tag) s) e es)

  pub one_open : (e : Entry R Candidate) → IsEntry d key t links e → IsOpen (followers t) (Reached t) (region_of links (length t) e.tag)
  one_open e h =
      let size : length t - e.tag.position ≡ suc (length t - suc e.tag.position) = omega (arith, h.position) in (subst (λ n. Reached t n (chain links e.tag.position e.tag.before)) size h.reached, h.place)

  pub all_open : (es : List (Entry R Candidate)) → All (IsEntry d key t links) es → AllOpen (followers t) (Reached t) (regions_of links (length t) es)
  all_open [] all = tt
  all_open (e ∷ es) all = (one_open e (All-head (IsEntry d key t links) e es all), all_open es (All-tail (IsEntry d key t links) e es all))

  pub least_of : (e : Entry R Candidate) (es : List (Entry R Candidate)) → IsEntry d key t links e → All (IsEntry d key t links) es → heaps.IsLeast d key e es
      → IsLeast (key_below d 16) (followers t) (least d key t) (region_of links (length t) e.tag) (regions_of links (length t) es)
  least_of e [] h all l = tt
  least_of e (x ∷ es) h all l =
      let k : IsEntry d key t links x = All-head (IsEntry d key t links) x es all in (
        subst (λ z. AtMost (key_below d 16) z (rank_of (followers t) (least d key t) (region_of links (length t) x.tag))) h.ranked
            (subst (λ z. AtMost (key_below d 16) (key e.rank) z) k.ranked (not_less_at_most d (16) (key x.rank) (key e.rank) l.0)),
        least_of e es h (All-tail (IsEntry d key t links) x es all) l.1,
      )

  -- The top's key is the head of the ranking of what is left, and what the queue holds after the division of its region is the rest.
  pub queue_next : IsFormed d key t → 0 < group_count t 0 → (e : Entry R Candidate) (others : List (Entry R Candidate)) (links' : List (Linked Link)) (entries' : List (Entry R Candidate))
      → All (IsEntry d key t links) (e ∷ others)
      → Remains (List ℕ) (KeyOf d 16) (key_below d 16) (least d key t) (in_regions (followers t) (regions_of links (length t) (e ∷ others))) (rest_keys d key t (regions_of links (length t) (e ∷ others)))
      → heaps.IsLeast d key e others
      → ((s : List ℕ) → in_regions (followers t) (divided (followers t) (region_of links (length t) e.tag)) s + held_by t links (e ∷ others) s ≡ held_by t links (e ∷ []) s + held_by t links' entries' s)
      → ((s : List ℕ) → in_regions (followers t) (regions_of links' (length t) entries') s ≡ held_by t links' entries' s)
      → (rest_keys d key t (regions_of links (length t) (e ∷ others)) ≡ key e.rank ∷ rest_keys d key t (regions_of links' (length t) entries'))
      × Remains (List ℕ) (KeyOf d 16) (key_below d 16) (least d key t) (in_regions (followers t) (regions_of links' (length t) entries')) (rest_keys d key t (regions_of links' (length t) entries'))
  queue_next formed live e others links' entries' all remains top held new_held =
      let K : Type 0 = KeyOf d 16 in
      let F : List ℕ → List ℕ = followers t in
      let r : Region = region_of links (length t) e.tag in
      let rs : List Region = regions_of links (length t) others in
      let new : List Region = regions_of links' (length t) entries' in
      let first : IsEntry d key t links e = All-head (IsEntry d key t links) e others all in
      let rest : All (IsEntry d key t links) others = All-tail (IsEntry d key t links) e others all in
      let queue : IsQueue K (key_below d 16) F (least d key t) (Reached t) (r ∷ rs) (rest_keys d key t (r ∷ rs)) = record { all_open = all_open (e ∷ others) all; remains = remains } in
      let next : (ks : List K) × (rest_keys d key t (r ∷ rs) ≡ rank_of F (least d key t) r ∷ ks) × IsQueue K (key_below d 16) F (least d key t) (Reached t) (present F (divided F r) ++ rs) ks =
      part_keeps (key_below d 16) (tuple_keys d 16).order F (least d key t) (Reached t) (staged d key t formed live) r rs (rest_keys d key t (r ∷ rs)) queue (least_of e others first rest top) in
      let same : (s : List ℕ) → in_regions F (present F (divided F r) ++ rs) s ≡ in_regions F new s =
      λ s.
      omega (
        arith,
        in_regions_append F (present F (divided F r)) rs s,
        present_same (key_below d 16) (tuple_keys d 16).order F (least d key t) (Reached t) (staged d key t formed live) (divided F r) s,
        regions_held others s,
        new_held s,
        held s,
        sum_by-cons (λ x. in_region F (region_of links (length t) x.tag) s) e others,
        sum_by-cons (λ x. in_region F (region_of links (length t) x.tag) s) e [],
      ) in
      let left : Remains (List ℕ) K (key_below d 16) (least d key t) (in_regions F new) next.0 =
      Remains-same (key_below d 16) (least d key t) (in_regions F (present F (divided F r) ++ rs)) (in_regions F new) next.0 same next.2.remains in
      let is : next.0 ≡ rest_keys d key t new = remains_is F (key_below d 16) (tuple_keys d 16).order (least d key t) new next.0 left in (
        next.1 ∙ ap (λ k. k ∷ next.0) (sym first.ranked) ∙ ap (λ ks. key e.rank ∷ ks) is,
        subst (λ ks. Remains (List ℕ) K (key_below d 16) (least d key t) (in_regions F new) ks) is left,
      )

-- # One call of `next`

pub first_and_rest : {X : Type 0} (xs : List X) (x : X) → 0 < length xs → x ≡ get_or xs 0 x → (ys : List X) × (xs ≡ x ∷ ys)
first_and_rest [] x p e = absurd (omega arith)
first_and_rest (y ∷ ys) x p e = (ys, ap (λ z. z ∷ ys) (sym e))

module _ {R : Type 0} (d : ℕ) (key : R → KeyOf d 16) (t : List (NodeView R)) where
  pub part_next : (links links' : List (Linked Link)) (entries entries' : List (Entry R Candidate)) (calls calls' : ℕ) (e : Entry R Candidate) → IsPart d key t links entries calls
      → 0 < length entries → e ≡ get_or entries 0 e → heaps.IsLeast d key e entries
      → ((s : List ℕ) → in_regions (followers t) (divided (followers t) (region_of links (length t) e.tag)) s + held_by t links entries s ≡ held_by t links (take 1 entries) s + held_by t links' entries' s)
      → All (IsEntry d key t links') entries' → length entries' ≤ 1 + 2 * (length t * calls')
      → (rest_keys d key t (regions_of links (length t) entries) ≡ key e.rank ∷ rest_keys d key t (regions_of links' (length t) entries')) × IsPart d key t links' entries' calls'
  part_next links links' entries entries' calls calls' e h some first top held each few =
      let split : (others : List (Entry R Candidate)) × (entries ≡ e ∷ others) = first_and_rest entries e some first in
      let others : List (Entry R Candidate) = split.0 in
      let is : entries ≡ e ∷ others = split.1 in
      let next : (rest_keys d key t (regions_of links (length t) (e ∷ others)) ≡ key e.rank ∷ rest_keys d key t (regions_of links' (length t) entries'))
      × Remains (List ℕ) (KeyOf d 16) (key_below d 16) (least d key t) (in_regions (followers t) (regions_of links' (length t) entries')) (rest_keys d key t (regions_of links' (length t) entries')) =
      queue_next d key t links h.formed (h.live some) e others links' entries' (subst (λ es. All (IsEntry d key t links) es) is h.each)
      (subst (λ es. Remains (List ℕ) (KeyOf d 16) (key_below d 16) (least d key t) (in_regions (followers t) (regions_of links (length t) es)) (rest_keys d key t (regions_of links (length t) es))) is h.remains)
      (subst (λ es. heaps.IsLeast d key e es) is top).1
      (subst (λ es. (s : List ℕ) → in_regions (followers t) (divided (followers t) (region_of links (length t) e.tag)) s + held_by t links es s ≡ held_by t links (take 1 es) s + held_by t links' entries' s) is held)
      (λ s. regions_held d key t links' entries' s) in (
        ap (λ es. rest_keys d key t (regions_of links (length t) es)) is ∙ next.0,
        record { formed = h.formed; tie_free = h.tie_free; live = λ _. h.live some; each = each; remains = next.1; few = few },
      )
