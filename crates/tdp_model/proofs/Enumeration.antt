-- The subtree solutions of a group are finitely many, so that their ranking exists.
use Rattle.std.proofs.Common.{◌≡◌, ℕ, zero, suc, ◌+◌, ◌-◌, ◌<◌, List, [], ◌∷◌, map, length, get_or, refl, sym, subst, inl, inr, arith}
use Rattle.rankings.specs.Order.{IsMember, IsRanking, ranked}
use Rattle.rankings.proofs.Members.{member_left, member_right, member_either, member_map, member_unmap}
use Rattle.tdp_model.specs.KeyLaws.{IsKeys}
use Rattle.tdp_model.specs.TreeProblem.{RowHas, GroupHas, PartHas, all_sums, gather, part_keys, row_keys}
use Rattle.tdp_model.proofs.Subtrees.{cases_eq}
use Rattle.rankings.proofs.Sorting.{ranked_is_ranking}
use Rattle.tdp_model.proofs.Begin.{IsRanking-same}
use Rattle.tdp_model.proofs.Picks.{pick_eq, pick_ne}
use Rattle.tdp_model.proofs.Parts.{part_first, part_first_only, part_skip, part_skipped, part_split, part_join, row_of_part, part_of_row}

sums_member : {K : Type 0} (add : K → K → K) (a b : K) (xs ys : List K) → IsMember a xs → IsMember b ys → IsMember (add a b) (all_sums add xs ys)
sums_member add a b [] ys m n = absurd m
sums_member add a b (x ∷ xs) ys (inl e) n = member_left (add a b) (map (λ y. add x y) ys) (all_sums add xs ys) (subst (λ z. IsMember (add z b) (map (λ y. add x y) ys)) (sym e) (member_map (λ y. add x y) b ys n))
sums_member add a b (x ∷ xs) ys (inr m) n = member_right (add a b) (map (λ y. add x y) ys) (all_sums add xs ys) (sums_member add a b xs ys m n)

member_sums : {K : Type 0} (add : K → K → K) (k : K) (xs ys : List K) → IsMember k (all_sums add xs ys) → (a : K) × (b : K) × IsMember a xs × IsMember b ys × (k ≡ add a b)
member_sums add k [] ys m = absurd m
member_sums {K} add k (x ∷ xs) ys m = elim (member_either k (map (λ y. add x y) ys) (all_sums add xs ys) m) [
  | inl n ↦ let r : (y : K) × IsMember y ys × (k ≡ add x y) = member_unmap (λ y. add x y) k ys n in (x, r.0, inl refl, r.1, r.2)
  | inr n ↦ let r : (a : K) × (b : K) × IsMember a xs × IsMember b ys × (k ≡ add a b) = member_sums add k xs ys n in (r.0, r.1, inr r.2, r.3, r.4)
]

pub gather_member : {K : Type 0} (f : ℕ → List K) (k : K) (rs : List ℕ) (i : ℕ) → i < length rs → IsMember k (f (get_or rs i 0)) → IsMember k (gather f rs)
gather_member f k [] i l m = absurd (omega arith)
gather_member f k (r ∷ rs) zero l m = member_left k (f r) (gather f rs) m
gather_member f k (r ∷ rs) (suc i) l m = member_right k (f r) (gather f rs) (gather_member f k rs i (omega arith) m)

pub member_gather : {K : Type 0} (f : ℕ → List K) (k : K) (rs : List ℕ) → IsMember k (gather f rs) → (i : ℕ) × (i < length rs) × IsMember k (f (get_or rs i 0))
member_gather f k [] m = absurd m
member_gather f k (r ∷ rs) m = elim (member_either k (f r) (gather f rs) m) [
  | inl n ↦ (0, omega arith, n)
  | inr n ↦ let s : (i : ℕ) × (i < length rs) × IsMember k (f (get_or rs i 0)) = member_gather f k rs n in (suc s.0, omega arith, s.2)
]

module _ {K : Type 0} (Below : K → K → Type 0) (add : K → K → K) (none : K) (keys : IsKeys K Below add none)
    (m : ℕ) (parent : ℕ → ℕ) (rank : ℕ → ℕ → K) (group : ℕ → ℕ → List ℕ) where
  pub part_listed : (d v r n : ℕ) (kids : ℕ → List K) (k : K) → ((q : ℕ) (x : K) → v < q → q < suc v + n → GroupHas add none m parent rank group d q r x → IsMember x (kids q))
      → PartHas add none m parent rank group d v r n k → IsMember k (part_keys add parent v (rank v r) kids n)
  unfolding part_keys
  part_listed d v r zero kids k g h = inl (part_first_only Below add none keys m parent rank group d v r k h)
  part_listed d v r (suc n) kids k g h = elim (cases_eq (parent (suc v + n)) v) [
    | inl e ↦
        let s : (a : K) × (b : K) × PartHas add none m parent rank group d v r n a × GroupHas add none m parent rank group d (suc v + n) r b × (k ≡ add a b) =
        part_split Below add none keys m parent rank group d v r n (suc v + n) k refl e h in
        subst (λ z. IsMember k z) (sym (pick_eq (parent (suc v + n)) v _ _ e))
        (subst (λ z. IsMember z (all_sums add (part_keys add parent v (rank v r) kids n) (kids (suc v + n)))) (sym s.4)
        (sums_member add s.0 s.1 _ _ (part_listed d v r n kids s.0 (λ q x a b. g q x a (omega arith)) s.2) (g (suc v + n) s.1 (omega arith) (omega arith) s.3)))
    | inr e ↦
        subst (λ z. IsMember k z) (sym (pick_ne (parent (suc v + n)) v _ _ e))
        (part_listed d v r n kids k (λ q x a b. g q x a (omega arith)) (part_skipped Below add none keys m parent rank group d v r n (suc v + n) k refl e h))
  ]

  pub listed_part : (d v r n : ℕ) (kids : ℕ → List K) (k : K) → ((q : ℕ) (x : K) → v < q → q < suc v + n → IsMember x (kids q) → GroupHas add none m parent rank group d q r x)
      → IsMember k (part_keys add parent v (rank v r) kids n) → PartHas add none m parent rank group d v r n k
  unfolding part_keys
  listed_part d v r zero kids k g (inl e) = part_first Below add none keys m parent rank group d v r k e
  listed_part d v r zero kids k g (inr e) = absurd e
  listed_part d v r (suc n) kids k g h = elim (cases_eq (parent (suc v + n)) v) [
    | inl e ↦
        let s : (a : K) × (b : K) × IsMember a (part_keys add parent v (rank v r) kids n) × IsMember b (kids (suc v + n)) × (k ≡ add a b) =
        member_sums add k _ _ (subst (λ z. IsMember k z) (pick_eq (parent (suc v + n)) v _ _ e) h) in
        subst (λ z. PartHas add none m parent rank group d v r (suc n) z) (sym s.4)
        (part_join Below add none keys m parent rank group d v r n (suc v + n) s.0 s.1 refl e (listed_part d v r n kids s.0 (λ q x a b. g q x a (omega arith)) s.2) (g (suc v + n) s.1 (omega arith) (omega arith) s.3))
    | inr e ↦
        part_skip Below add none keys m parent rank group d v r n (suc v + n) k refl e
        (listed_part d v r n kids k (λ q x a b. g q x a (omega arith)) (subst (λ z. IsMember k z) (pick_ne (parent (suc v + n)) v _ _ e) h))
  ]

  abbrev pub group_keys : ℕ → ℕ → ℕ → List K
  group_keys d q r = gather (λ i. row_keys add m parent rank group d q i) (group q r)

  pub row_listed : (d v r : ℕ) (k : K) → v < m → RowHas add none m parent rank group d v r k → IsMember k (row_keys add m parent rank group d v r)
  unfolding row_keys
  row_listed zero v r k l h = absurd h
  row_listed (suc d) v r k l h =
      part_listed d v r (m - suc v) (λ q. group_keys d q r) k
      (λ q x a b g. gather_member (λ i. row_keys add m parent rank group d q i) x (group q r) g.0 g.1 (row_listed d q (get_or (group q r) g.0 0) x (omega arith) g.2))
      (part_of_row Below add none keys m parent rank group d v r (m - suc v) k refl l h)

  pub listed_row : (d v r : ℕ) (k : K) → v < m → IsMember k (row_keys add m parent rank group d v r) → RowHas add none m parent rank group d v r k
  unfolding row_keys
  listed_row zero v r k l h = absurd h
  listed_row (suc d) v r k l h =
      row_of_part Below add none keys m parent rank group d v r (m - suc v) k refl l
      (listed_part d v r (m - suc v) (λ q. group_keys d q r) k
      (λ q x a b g.
      let s : (i : ℕ) × (i < length (group q r)) × IsMember x (row_keys add m parent rank group d q (get_or (group q r) i 0)) = member_gather (λ i. row_keys add m parent rank group d q i) x (group q r) g in
      (s.0, s.1, listed_row d q (get_or (group q r) s.0 0) x (omega arith) s.2)) h)

  -- The ranking of a group's subtree solutions.
  pub group_ranking : (d q r : ℕ) → q < m → IsRanking K Below (GroupHas add none m parent rank group d q r) (ranked Below keys.order (group_keys d q r))
  group_ranking d q r l =
      IsRanking-same Below (λ k. IsMember k (group_keys d q r)) (GroupHas add none m parent rank group d q r) (ranked Below keys.order (group_keys d q r))
      (λ k h.
      let s : (i : ℕ) × (i < length (group q r)) × IsMember k (row_keys add m parent rank group d q (get_or (group q r) i 0)) = member_gather (λ i. row_keys add m parent rank group d q i) k (group q r) h in
      (s.0, s.1, listed_row d q (get_or (group q r) s.0 0) k l s.2))
      (λ k h. gather_member (λ i. row_keys add m parent rank group d q i) k (group q r) h.0 h.1 (row_listed d q (get_or (group q r) h.0 0) k l h.2))
      (ranked_is_ranking Below keys.order (group_keys d q r))
