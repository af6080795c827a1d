-- What the invariant says of the candidates as they are seen.
use Rattle.std.proofs.Common.{◌≡◌, ℕ, ◌<◌, List, [], ◌∷◌, length, sym, ◌∙◌, subst, arith}
use Rattle.std.specs.List.{All}
use Rattle.std.proofs.lemmas.List.Elements.{All-head, All-tail, All-cons, All-nil}
use Rattle.stream_store.specs.declared.linked.Linked.{Linked}
use Rattle.take2_heap.specs.declared.entry.Entry.{Entry}
use Rattle.tdp_model.specs.KeyTuple.{KeyOf, key_below}
use Rattle.tdp_model.specs.Remains.{AtMost, Remains}
use Rattle.tdp_model.specs.Regions.{Region, in_region, in_regions}
use Rattle.tdp_model.specs.Queue.{rank_of}
use Rattle.tdp_core.specs.TreeView.{NodeView, group_count}
use Rattle.tdp_core.specs.WellFormed.{IsFormed}
use Rattle.anyk_part.specs.declared.candidate.Link.{Link}
use Rattle.anyk_part.specs.declared.candidate.Candidate.{Candidate}
use Rattle.anyk_part.specs.Candidates.{key_of_rows, HoldTheRest, HasLeastRank}
use Rattle.anyk_part.specs.Regions.{followers, least, region_of, regions_of, candidates_of, rest_keys, IsEntry, IsPart}
use Rattle.anyk_part.proofs.Queues.{all_open, one_open, regions_seen}
use Rattle.anyk_part.proofs.WholeSolutions.{remains_by, least_whole, all_whole, best_had, none_below}

module _ {R : Type 0} (d : ℕ) (key : R → KeyOf d 16) (t : List (NodeView R)) (links : List (Linked Link)) where
  whole : (es : List (Entry R Candidate)) → IsFormed d key t → (0 < length es → 0 < group_count t 0) → All (IsEntry d key t links) es → (s : List ℕ) → 0 < in_regions (followers t) (regions_of links (length t) es) s
      → least d key t s ≡ key_of_rows d key t s
  unfolding in_regions
  whole [] formed live all s h = absurd (omega arith)
  whole (e ∷ es) formed live all s h =
      let some : 0 < group_count t 0 = live (omega arith) in
      least_whole d key t formed some s (all_whole d key t formed some (regions_of links (length t) (e ∷ es)) s (all_open d key t links (e ∷ es) all) h)

  pub candidates_hold : (es : List (Entry R Candidate)) (calls : ℕ) → IsPart d key t links es calls → HoldTheRest d key t (candidates_of links (length t) es)
  candidates_hold es calls h =
      subst (λ rs. Remains (List ℕ) (KeyOf d 16) (key_below d 16) (key_of_rows d key t) (in_regions (followers t) rs) (rest_keys d key t rs)) (sym (regions_seen links (length t) es))
      (remains_by (key_below d 16) (least d key t) (key_of_rows d key t) (in_regions (followers t) (regions_of links (length t) es)) (rest_keys d key t (regions_of links (length t) es))
      (whole es h.formed h.live h.each) h.remains)

  one_ranked : IsFormed d key t → 0 < group_count t 0 → (e : Entry R Candidate) → IsEntry d key t links e → HasLeastRank d key t (record { region = region_of links (length t) e.tag; rank = e.rank })
  one_ranked formed live e h =
      let r : Region = region_of links (length t) e.tag in
      let had : (s : List ℕ) × (0 < in_region (followers t) r s) × (key_of_rows d key t s ≡ rank_of (followers t) (least d key t) r) = best_had d key t formed live r (one_open d key t links e h) in record {
        had = (had.0, had.1, had.2 ∙ sym h.ranked);
        least = λ s p. subst (λ k. AtMost (key_below d 16) k (key_of_rows d key t s)) (sym h.ranked) (none_below d key t formed live r (one_open d key t links e h) s p);
      }

  pub candidates_ranked : (es : List (Entry R Candidate)) → IsFormed d key t → (0 < length es → 0 < group_count t 0) → All (IsEntry d key t links) es → All (HasLeastRank d key t) (candidates_of links (length t) es)
  candidates_ranked [] formed live all = All-nil (HasLeastRank d key t)
  candidates_ranked (e ∷ es) formed live all =
      let some : 0 < group_count t 0 = live (omega arith) in
      All-cons (HasLeastRank d key t) (record { region = region_of links (length t) e.tag; rank = e.rank }) (candidates_of links (length t) es)
      (one_ranked formed some e (All-head (IsEntry d key t links) e es all))
      (candidates_ranked es formed (λ _. some) (All-tail (IsEntry d key t links) e es all))
