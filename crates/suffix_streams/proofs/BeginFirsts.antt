-- The least solution of a group and of a row: their rankings begin with the best of a row.
use Rattle.std.proofs.Common.{◌≡◌, ℕ, ◌<◌, List, [], ◌∷◌, length, get_or, refl, sym, subst, inl, inr, arith}
use Rattle.rankings.specs.Order.{IsOrder, IsMember, IsRanking}
use Rattle.rankings.proofs.Members.{below_member}
use Rattle.tdp_model.specs.Remains.{AtMost}
use Rattle.tdp_model.specs.KeyTuple.{KeyOf, key_below, key_none}
use Rattle.tdp_model.proofs.KeyTuples.{tuple_keys}
use Rattle.tdp_model.proofs.Keys.{at_most_trans}
use Rattle.tdp_model.proofs.Subtrees.{climbs_ordered, climbs_all}
use Rattle.tdp_core.specs.TreeView.{NodeView, rows, members, best}
use Rattle.tdp_core.specs.WellFormed.{IsFormed}
use Rattle.tdp_core.proofs.TreeFacts.{best_had, best_least, member_is_row}
use Rattle.suffix_streams.specs.Rankings.{RowSolution, GroupSolution}

-- the least of a set is the head of its ranking
pub least_first : {K : Type 0} (Below : K → K → Type 0) (o : IsOrder K Below) (Has : K → Type 0) (ks : List K) (k d : K) → IsRanking K Below Has ks → Has k → ((l : K) → Has l → AtMost Below k l)
    → (0 < length ks) × (get_or ks 0 d ≡ k)
least_first Below o Has [] k d r h least = absurd (r.complete k h)
least_first {K} Below o Has (x ∷ ks) k d r h least = (omega arith, same (r.complete k h))
  where
    not_above : (a b : K) → Below a b → AtMost Below b a → ⊥
    not_above a b p (inl q) = o.irreflexive a (o.transitive a b a p q)
    not_above a b p (inr e) = o.irreflexive a (subst (λ z. Below a z) e p)

    same : IsMember k (x ∷ ks) → x ≡ k
    same (inl e) = sym e
    same (inr m) = absurd (not_above x k (below_member Below x k ks r.ascending.0 m) (least x (r.sound x (inl refl))))

module _ {R : Type 0} (d : ℕ) (key : R → KeyOf d 16) (t : List (NodeView R)) (formed : IsFormed d key t) where
  -- no member of a group has a solution below the best of the first member
  pub group_at_most : (q g i : ℕ) (k : KeyOf d 16) → q < length t → i < length (members t q g)
      → RowSolution d key t q (get_or (members t q g) i 0) k
      → AtMost (key_below d 16) (best t d key q (get_or (members t q g) 0 0)) k
  group_at_most q g i k l h has =
      at_most_trans (key_below d 16) (tuple_keys d 16).order _ _ _
      (climbs_ordered (λ x y. AtMost (key_below d 16) (best t d key q (get_or (members t q g) x 0)) (best t d key q (get_or (members t q g) y 0))) (length (members t q g))
      (λ x. inr refl) (λ x y z p s. at_most_trans (key_below d 16) (tuple_keys d 16).order _ _ _ p s) (λ x p s. formed.heaps q g x l p s) i i 0 h (omega (arith, climbs_all i i (omega arith))))
      (best_least d key t formed (length t) q (get_or (members t q g) i 0) k l (member_is_row d key t formed q g i l h) has)

  -- the first member's best is the key of a solution
  pub group_had : (q g : ℕ) → q < length t → 0 < length (members t q g)
      → RowSolution d key t q (get_or (members t q g) 0 0) (best t d key q (get_or (members t q g) 0 0))
  group_had q g l some = best_had d key t formed (length t) q (get_or (members t q g) 0 0) (omega arith) l (member_is_row d key t formed q g 0 l some)

  -- the heads of rankings
  pub group_head : (q g : ℕ) (ks : List (KeyOf d 16)) → q < length t → 0 < length (members t q g)
      → IsRanking (KeyOf d 16) (key_below d 16) (GroupSolution d key t q g) ks
      → (0 < length ks) × (get_or ks 0 (key_none d 16) ≡ best t d key q (get_or (members t q g) 0 0))
  group_head q g ks l some r =
      least_first (key_below d 16) (tuple_keys d 16).order _ ks (best t d key q (get_or (members t q g) 0 0)) (key_none d 16) r (0, some, group_had q g l some)
      (λ k h. group_at_most q g h.0 k l h.1 h.2)

  pub row_head : (v r : ℕ) (ks : List (KeyOf d 16)) → v < length t → r < rows t v
      → IsRanking (KeyOf d 16) (key_below d 16) (RowSolution d key t v r) ks
      → (0 < length ks) × (get_or ks 0 (key_none d 16) ≡ best t d key v r)
  row_head v r ks l row rk =
      least_first (key_below d 16) (tuple_keys d 16).order _ ks (best t d key v r) (key_none d 16) rk (best_had d key t formed (length t) v r (omega arith) l row)
      (λ k h. best_least d key t formed (length t) v r k l row h)
