-- The solutions that regions hold have one row for each node, so that their bound is their key.
use Rattle.std.proofs.Common.{◌≡◌, ℕ, suc, ◌+◌, ◌<◌, List, [], ◌∷◌, ◌++◌, length, sym, ap, ◌∙◌, subst, inl, inr, arith}
use Rattle.std.proofs.lemmas.Bool.{cases_lt}
use Rattle.std.proofs.lemmas.List.{length-append}
use Rattle.rankings.specs.Order.{IsMember}
use Rattle.tdp_model.specs.KeyTuple.{KeyOf, key_below, key_add, key_none}
use Rattle.tdp_model.specs.Remains.{AtMost, Remains}
use Rattle.tdp_model.specs.Regions.{Region, held, in_region, in_regions, best_of}
use Rattle.tdp_model.specs.Queue.{rank_of, IsOpen, AllOpen}
use Rattle.tdp_model.proofs.KeyTuples.{tuple_keys}
use Rattle.tdp_model.proofs.Cover.{region_division}
use Rattle.tdp_model.proofs.Division.{past_found, times_pos, exactly_at}
use Rattle.tdp_model.proofs.Least.{region_least, best_bound}
use Rattle.tdp_model.proofs.Ties.{completes_length}
use Rattle.tdp_model.proofs.TreeStaged.{bound_whole}
use Rattle.tdp_core.specs.TreeView.{NodeView, parent, rows, group_count, group, rank, best}
use Rattle.tdp_core.specs.WellFormed.{IsFormed}
use Rattle.anyk_part.specs.Regions.{followers, Reached, least}
use Rattle.anyk_part.specs.Candidates.{key_of_rows}
use Rattle.anyk_part.proofs.LiveTrees.{tree, staged}

held_length : (members : List ℕ → List ℕ) (n : ℕ) (pre : List ℕ) (j : ℕ) (t : List ℕ) → 0 < held members n pre j t → length t ≡ suc n
unfolding held
held_length members n pre j [] h = absurd (omega arith)
held_length members n pre j (r ∷ rest) h =
    ap suc (completes_length members n (pre ++ (r ∷ [])) rest (times_pos _ _ h).1)

region_length : (members : List ℕ → List ℕ) (r : Region) (s : List ℕ) → 0 < in_region members r s → length s ≡ suc r.left + length r.chosen
unfolding in_region
region_length members r s h =
    let f : (t : List ℕ) × (s ≡ r.chosen ++ t) × (0 < held members r.left r.chosen r.place t) = past_found r.chosen (held members r.left r.chosen r.place) s h in
    omega (arith, ap (λ z. length z) f.1, length-append r.chosen f.0, held_length members r.left r.chosen r.place f.0 f.2)

-- what remains by one key remains by another that is the same on what is held
pub remains_by : {X K : Type 0} (Below : K → K → Type 0) (key other : X → K) (count : X → ℕ) (ks : List K) → ((x : X) → 0 < count x → key x ≡ other x) → Remains X K Below key count ks → Remains X K Below other count ks
remains_by {X} {K} Below key other count ks is h = record {
  once = h.once;
  apart = λ x y p q e. h.apart x y p q (is x p ∙ e ∙ sym (is y q));
  ascending = h.ascending;
  complete = λ x p. subst (λ k. IsMember k ks) (is x p) (h.complete x p);
  sound = λ k m. let f : (x : X) × (0 < count x) × (key x ≡ k) = h.sound k m in (f.0, f.1, sym (is f.0 f.1) ∙ f.2);
}

module _ {R : Type 0} (d : ℕ) (key : R → KeyOf d 16) (t : List (NodeView R)) (formed : IsFormed d key t) (live : 0 < group_count t 0) where
  -- the bound of a list with a row for each node is the sum of the rows' keys
  pub least_whole : (s : List ℕ) → length s ≡ length t → least d key t s ≡ key_of_rows d key t s
  least_whole s e =
      bound_whole (key_below d 16) (key_add d 16) (key_none d 16) (tuple_keys d 16) (length t) (parent t) (rank t d key) (group t) (best t d key) (λ v r. r < rows t v) (tree d key t formed live) s e

  pub region_whole : (r : Region) (s : List ℕ) → IsOpen (followers t) (Reached t) r → 0 < in_region (followers t) r s → length s ≡ length t
  region_whole r s o h = region_length (followers t) r s h ∙ o.0.0

  pub all_whole : (rs : List Region) (s : List ℕ) → AllOpen (followers t) (Reached t) rs → 0 < in_regions (followers t) rs s → length s ≡ length t
  unfolding in_regions
  all_whole [] s o h = absurd (omega arith)
  all_whole (r ∷ rs) s o h = elim (cases_lt 0 (in_region (followers t) r s)) [
    | inl p ↦ region_whole r s o.0 p
    | inr z ↦ all_whole rs s o.1 (omega arith)
  ]

  -- the best solution of a region is in it
  best_held : (r : Region) → IsOpen (followers t) (Reached t) r → 0 < in_region (followers t) r (best_of (followers t) r)
  best_held r o =
      omega (arith, region_division (key_below d 16) (followers t) (least d key t) (Reached t) (staged d key t formed live) r o.0 o.1 (best_of (followers t) r), exactly_at (best_of (followers t) r))

  -- and its key is the region's bound
  pub best_key : (r : Region) → IsOpen (followers t) (Reached t) r → key_of_rows d key t (best_of (followers t) r) ≡ rank_of (followers t) (least d key t) r
  best_key r o =
      sym (least_whole (best_of (followers t) r) (region_whole r (best_of (followers t) r) o (best_held r o)))
      ∙ best_bound (key_below d 16) (tuple_keys d 16).order (followers t) (least d key t) (Reached t) (staged d key t formed live) r o.0 o.1

  pub best_had : (r : Region) → IsOpen (followers t) (Reached t) r → (s : List ℕ) × (0 < in_region (followers t) r s) × (key_of_rows d key t s ≡ rank_of (followers t) (least d key t) r)
  best_had r o = (best_of (followers t) r, best_held r o, best_key r o)

  pub none_below : (r : Region) → IsOpen (followers t) (Reached t) r → (s : List ℕ) → 0 < in_region (followers t) r s → AtMost (key_below d 16) (rank_of (followers t) (least d key t) r) (key_of_rows d key t s)
  none_below r o s h =
      subst (λ k. AtMost (key_below d 16) (rank_of (followers t) (least d key t) r) k) (least_whole s (region_whole r s o h))
      (region_least (key_below d 16) (tuple_keys d 16).order (followers t) (least d key t) (Reached t) (staged d key t formed live) r o.0 s h)
