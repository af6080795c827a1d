-- The solutions of a row with one child are those of the child's group, each with the row's own key added.
use Rattle.std.proofs.Common.{◌≡◌, ℕ, suc, ◌+◌, ◌-◌, ◌<◌, List, [], ◌∷◌, map, length, get_or, refl, sym, ap, ◌∙◌, subst, inl, inr, arith}
use Rattle.std.proofs.lemmas.List.{length-map}
use Rattle.rankings.specs.Order.{IsMember, BelowAll, IsAscending, IsRanking}
use Rattle.rankings.proofs.Members.{get_member}
use Rattle.rankings.proofs.Unique.{ranking_unique}
use Rattle.tdp_model.specs.KeyTuple.{KeyOf, key_below, key_add, key_none}
use Rattle.tdp_model.specs.KeyLaws.{IsKeys}
use Rattle.tdp_model.specs.TreeProblem.{PartHas}
use Rattle.tdp_model.proofs.KeyTuples.{tuple_keys}
use Rattle.tdp_model.proofs.Parts.{part_split, part_join}
use Rattle.tdp_core.specs.TreeView.{NodeView, parent, group, group_named, child_count, rank}
use Rattle.tdp_core.specs.WellFormed.{IsFormed}
use Rattle.suffix_streams.specs.Rankings.{child, part_list, group_list}
use Rattle.suffix_streams.proofs.Rankings.{kid, kid_below, left_ranking, right_ranking, sum_ranking, none_is_own, own_some, own_first}
use Rattle.suffix_streams.proofs.ListEnds.{map_at}

-- a list of keys, to each of which the same key is added
module _ {K : Type 0} (Below : K → K → Type 0) (add : K → K → K) (none : K) (keys : IsKeys K Below add none) (a : K) where
  added_below : (x y : K) → Below x y → Below (add a x) (add a y)
  added_below x y b = subst (λ z. Below z (add a y)) (keys.add_comm x a) (subst (λ z. Below (add x a) z) (keys.add_comm y a) (keys.add_below x y a b))

  all_below : (x : K) (ks : List K) → BelowAll Below x ks → BelowAll Below (add a x) (map (λ k. add a k) ks)
  all_below x [] b = tt
  all_below x (k ∷ ks) b = (added_below x k b.0, all_below x ks b.1)

  added_ascends : (ks : List K) → IsAscending Below ks → IsAscending Below (map (λ k. add a k) ks)
  added_ascends [] s = tt
  added_ascends (k ∷ ks) s = (all_below k ks s.0, added_ascends ks s.1)

mapped_member : {K : Type 0} (f : K → K) (k : K) (ks : List K) → IsMember k ks → IsMember (f k) (map f ks)
mapped_member f k [] m = m
mapped_member f k (x ∷ ks) (inl e) = inl (ap f e)
mapped_member f k (x ∷ ks) (inr m) = inr (mapped_member f k ks m)

member_mapped : {K : Type 0} (f : K → K) (k : K) (ks : List K) → IsMember k (map f ks) → (x : K) × IsMember x ks × (k ≡ f x)
member_mapped f k [] m = absurd m
member_mapped f k (x ∷ ks) (inl e) = (x, inl refl, e)
member_mapped f k (x ∷ ks) (inr m) = let r = member_mapped f k ks m in (r.0, inr r.1, r.2)

module _ {R : Type 0} (d : ℕ) (key : R → KeyOf d 16) (t : List (NodeView R)) (formed : IsFormed d key t) (v r : ℕ) (l : v < length t) (some : 0 < child_count t v) where
  abbrev own : KeyOf d 16
  own = rank t d key v r

  abbrev kids : List (KeyOf d 16)
  kids = group_list d key t (child t v 0) (group_named t v r 0)

  abbrev Has : KeyOf d 16 → Type 0
  Has k = PartHas (key_add d 16) (key_none d 16) (length t) (parent t) (rank t d key) (group t) (length t) v r (suc (child t v 0 - suc v)) k

  own_member : IsMember own (part_list d key t v r 0)
  own_member = subst (λ k. IsMember k (part_list d key t v r 0)) (own_first d key t formed v r l) (get_member (part_list d key t v r 0) 0 (key_none d 16) (own_some d key t formed v r l))

  added_ranking : IsRanking (KeyOf d 16) (key_below d 16) Has (map (λ k. key_add d 16 own k) kids)
  added_ranking =
      let at : child t v 0 ≡ suc v + (child t v 0 - suc v) = omega (arith, kid_below d key t formed v 0 some) in
      let up : parent t (child t v 0) ≡ v = (kid d key t formed v 0 some).parent_is in
      record {
        ascending = added_ascends (key_below d 16) (key_add d 16) (key_none d 16) (tuple_keys d 16) own kids (right_ranking d key t formed v r 0 some).ascending;
        sound = λ k m.
            let x = member_mapped (λ k. key_add d 16 own k) k kids m in
            subst Has (sym x.2)
            (part_join (key_below d 16) (key_add d 16) (key_none d 16) (tuple_keys d 16) (length t) (parent t) (rank t d key) (group t) (length t) v r (child t v 0 - suc v) (child t v 0) own x.0 at up
            ((left_ranking d key t formed v r 0 l some).sound own own_member) ((right_ranking d key t formed v r 0 some).sound x.0 x.1));
        complete = λ k m.
            let x = part_split (key_below d 16) (key_add d 16) (key_none d 16) (tuple_keys d 16) (length t) (parent t) (rank t d key) (group t) (length t) v r (child t v 0 - suc v) (child t v 0) k at up m in
            let left : x.0 ≡ own = none_is_own d key t formed v r x.0 l ((left_ranking d key t formed v r 0 l some).complete x.0 x.2) in
            subst (λ z. IsMember z (map (λ k. key_add d 16 own k) kids)) (sym (x.4 ∙ ap (λ z. key_add d 16 z x.1) left))
            (mapped_member (λ k. key_add d 16 own k) x.1 kids ((right_ranking d key t formed v r 0 some).complete x.1 x.3));
      }

  one_child_list : part_list d key t v r 1 ≡ map (λ k. key_add d 16 own k) kids
  one_child_list = ranking_unique (key_below d 16) (tuple_keys d 16).order Has (part_list d key t v r 1) (map (λ k. key_add d 16 own k) kids) (sum_ranking d key t formed v r 0 l some) added_ranking

  pub one_child_length : length (part_list d key t v r 1) ≡ length kids
  one_child_length = ap length one_child_list ∙ length-map kids (λ k. key_add d 16 own k)

  pub one_child_at : (i : ℕ) → i < length kids → get_or (part_list d key t v r 1) i (key_none d 16) ≡ key_add d 16 own (get_or kids i (key_none d 16))
  one_child_at i within = ap (λ ks. get_or ks i (key_none d 16)) one_child_list ∙ map_at (λ k. key_add d 16 own k) kids i (key_none d 16) (key_none d 16) within
