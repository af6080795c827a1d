-- The facts of a product after its last solution was passed.
use Rattle.std.proofs.Common.{◌≡◌, ℕ, suc, ◌+◌, ◌<◌, ◌≤◌, ◌^◌, Option, MatchOption, List, [], ◌∷◌, ◌++◌, ◌⊎◌, length, get_or, slice_set, refl, sym, ap, ◌∙◌, subst, inl, inr, arith}
use Rattle.std.proofs.lemmas.Bool.{cases_lt}
use Rattle.std.specs.List.{All}
use Rattle.std.specs.List.Sorted.{IsPermutation}
use Rattle.stream_store.specs.declared.linked.Linked.{Linked}
use Rattle.take2_heap.specs.declared.entry.Entry.{Entry}
use Rattle.take2_heap.specs.Order.{IsLeast}
use Rattle.tdp_core.specs.TreeView.{NodeView, rows, child_count, group_named}
use Rattle.tdp_model.specs.KeyTuple.{KeyOf}
use Rattle.suffix_streams.specs.Offers.{offers}
use Rattle.suffix_streams.specs.declared.cell.Cell.{Cell}
use Rattle.suffix_streams.specs.declared.stream.Found.{Found}
use Rattle.suffix_streams.specs.Cells.{cell_down}
use Rattle.suffix_streams.specs.ProductView.{ProductView, with_rank}
use Rattle.suffix_streams.specs.NodeStreamsView.{NodeStreamsView, product_at, known_of, with_product}
use Rattle.suffix_streams.specs.Rankings.{child, part_list, group_list}
use Rattle.suffix_streams.specs.Frontiers.{IsFrontier}
use Rattle.suffix_streams.specs.TreeStreams.{KeepsRanks, node_of, group_of, lists_of, products_of, product_of, stream_of, part_known, pair_of, IsStreams, IsOffer}
use Rattle.suffix_streams.specs.Growing.{IsAnswered, IsReached}
use Rattle.suffix_streams.proofs.Heads.{lists_at}
use Rattle.suffix_streams.proofs.State.{count_more}
use Rattle.suffix_streams.proofs.Kept.{ranks_stay}
use Rattle.suffix_streams.proofs.StepCells.{first_of, queue_longer}
use Rattle.suffix_streams.proofs.Stepping.{step_holds, sums_end, sums_grow, ranks_grow, ranks_kept, kept_known, next_known}
use Rattle.suffix_streams.proofs.ListEnds.{row_inside}

-- p is the product after that
pub record IsProductPassed {R : Type 0} (d : ℕ) (key : R → KeyOf d 16) (t : List (NodeView R)) (es : List (Linked (Found R))) (n : List (NodeStreamsView R)) (v r c : ℕ) (p : ProductView R) : Type 0 where
  pub in_nodes : v < length n
  pub in_rows : r < length (lists_of n v).products
  pub found : p.found ≡ (product_of n v r c).found
  pub ranks : p.ranks ≡ (product_of n v r c).ranks
  pub rises : length (product_of n v r c).found ≤ length p.found
  pub longer : length p.frontier ≤ length (product_of n v r c).frontier + 1
  pub ends : p.frontier ≡ [] → (length (product_of n v r c).found ≡ length (part_list d key t v r (suc c)))
      × IsFrontier d key (pair_of es) (part_list d key t v r c) (group_list d key t (child t v c) (group_named t v r c)) (part_list d key t v r (suc c)) (product_of n v r c).found []
  pub grows : (next : Entry R Cell) → 0 < length p.frontier → next ≡ get_or p.frontier 0 next → IsLeast d key next p.frontier
      → IsFrontier d key (pair_of es) (part_list d key t v r c) (group_list d key t (child t v c) (group_named t v r c)) (part_list d key t v r (suc c)) ((product_of n v r c).found ++ (next.tag ∷ [])) p.frontier
  pub ranks_grow : (next : Entry R Cell) → 0 < length p.frontier → next ≡ get_or p.frontier 0 next → IsLeast d key next p.frontier → (z : ProductView R) → z.found ≡ (product_of n v r c).found ++ (next.tag ∷ [])
      → z.ranks ≡ with_rank (product_of n v r c).ranks next.rank → suc c < child_count t v → KeepsRanks d key (part_list d key t v r (suc c)) z
  pub ranks_kept : suc c < child_count t v → KeepsRanks d key (part_list d key t v r (suc c)) (product_of n v r c)
  pub kept_known : All (λ (x : Cell). (x.left < part_known n v r c) × (x.right < length es) × (node_of es x.right ≡ child t v c) × (group_of es x.right ≡ group_named t v r c)) (product_of n v r c).found
  pub next_known : (next : Entry R Cell) → 0 < length p.frontier → next ≡ get_or p.frontier 0 next → All (λ (x : Cell). (x.left < part_known n v r c) × (x.right < length es) × (node_of es x.right ≡ child t v c) × (group_of es x.right ≡ group_named t v r c)) ((product_of n v r c).found ++ (next.tag ∷ []))
  pub holds : (z : ProductView R) → z.frontier ≡ p.frontier → length p.frontier ≤ 2 ^ 64 → length (product_of n v r c).found ≤ length z.found → All (λ (x : Cell). (x.left < part_known n v r c) × (x.right < length es) × (node_of es x.right ≡ child t v c) × (group_of es x.right ≡ group_named t v r c)) z.found
      → IsFrontier d key (pair_of es) (part_list d key t v r c) (group_list d key t (child t v c) (group_named t v r c)) (part_list d key t v r (suc c)) z.found p.frontier
      → (suc c < child_count t v → KeepsRanks d key (part_list d key t v r (suc c)) z) → IsStreams d key t es (slice_set n v (with_product (lists_of n v) r c z))

-- a and b are the lists of node v that were read, for the cell beside and for the product
pub product_passed : {R : Type 0} (d : ℕ) (key : R → KeyOf d 16) (t : List (NodeView R)) (es : List (Linked (Found R))) (n : List (NodeStreamsView R)) (v r c : ℕ) (p : ProductView R) (a b : NodeStreamsView R) (known : ℕ) (cell : Cell) (below : Option ℕ) (head : ℕ)
    (lower beside : Option Cell) (down across : Option (Entry R Cell)) → IsStreams d key t es n → v < length t → r < rows t v → c < length (products_of n v r) → 0 < length (product_of n v r c).frontier
    → ((x : Entry R Cell) → (get_or (product_of n v r c).frontier 0 x).tag ≡ cell) → head ≡ (stream_of n (child t v c) (group_named t v r c)).head → IsAnswered d key t es cell.right below → (cell.right ≡ head → IsReached d key t n v r c (cell.left + 1))
    → a ≡ get_or n v a → b ≡ get_or n v b → known ≡ known_of a r c → lower ≡ cell_down cell below
    → MatchOption beside (cell.right ≡ head → known ≤ cell.left + 1) (λ x. (cell.right ≡ head) × (cell.left + 1 < known) × (x ≡ record { left = cell.left + 1; right = head })) → IsOffer d key t es v r c lower down → IsOffer d key t es v r c beside across
    → p.found ≡ (product_at b r c).found → p.ranks ≡ (product_at b r c).ranks → ((x : Entry R Cell) → IsPermutation (offers down across (product_at b r c).frontier) (get_or (product_at b r c).frontier 0 x ∷ p.frontier))
    → ((x : Entry R Cell) → IsLeast d key (get_or (product_at b r c).frontier 0 x) (product_at b r c).frontier) → IsProductPassed d key t es n v r c p
product_passed {R} d key t es n v r c p a b known cell below head lower beside down across h node row in_row some top head_is answered ready read_a read_b known_is lower_is beside_is down_is across_is found ranks moved least =
    let in_nodes : v < length n = omega (arith, h.all_nodes, node) in
    let x : (x : Entry R Cell) × (x ≡ get_or (product_of n v r c).frontier 0 x) = first_of (product_of n v r c).frontier some in
    let e : Entry R Cell = x.0 in
    let first : e ≡ get_or (product_of n v r c).frontier 0 e = x.1 in
    let tag : e.tag ≡ cell = ap (λ (z : Entry R Cell). z.tag) first ∙ top e in
    let known0 : known ≡ part_known n v r c = known_is ∙ ap (λ z. known_of z r c) (sym (lists_at n v a read_a in_nodes)) in
    let beside0 : MatchOption beside (cell.right ≡ head → part_known n v r c ≤ cell.left + 1) (λ x. (cell.right ≡ head) × (cell.left + 1 < part_known n v r c) × (x ≡ record { left = cell.left + 1; right = head })) =
    subst (λ k. MatchOption beside (cell.right ≡ head → k ≤ cell.left + 1) (λ x. (cell.right ≡ head) × (cell.left + 1 < k) × (x ≡ record { left = cell.left + 1; right = head }))) known0 beside_is in
    let down0 : IsOffer d key t es v r c (cell_down cell below) down = subst (λ o. IsOffer d key t es v r c o down) lower_is down_is in
    let old_is : product_at b r c ≡ product_of n v r c = ap (λ z. product_at z r c) (sym (lists_at n v b read_b in_nodes)) in
    let moved0 : IsPermutation (offers down across (product_of n v r c).frontier) (e ∷ p.frontier) =
    subst (λ z. IsPermutation (offers down across (product_of n v r c).frontier) (z ∷ p.frontier)) (sym first)
    (subst (λ (q : ProductView R). IsPermutation (offers down across q.frontier) (get_or q.frontier 0 e ∷ p.frontier)) old_is (moved e)) in
    let least0 : IsLeast d key e (product_of n v r c).frontier =
    subst (λ z. IsLeast d key z (product_of n v r c).frontier) (sym first) (subst (λ (q : ProductView R). IsLeast d key (get_or q.frontier 0 e) q.frontier) old_is (least e)) in
    let found0 : p.found ≡ (product_of n v r c).found = found ∙ ap (λ (q : ProductView R). q.found) old_is in
    let rises0 : length (product_of n v r c).found ≤ length p.found = omega (arith, ap length found0) in
    record {
      in_nodes = in_nodes;
      in_rows = row_inside (lists_of n v).products r c in_row;
      found = found0;
      ranks = ranks ∙ ap (λ (q : ProductView R). q.ranks) old_is;
      rises = rises0;
      longer = queue_longer down across e (product_of n v r c).frontier p.frontier moved0;
      ends = sums_end d key t es n h v r c node row in_row cell below head beside down across e p.frontier some first tag head_is answered ready beside0 down0 across_is moved0 least0;
      grows = sums_grow d key t es n h v r c node row in_row cell below head beside down across e p.frontier some first tag head_is answered ready beside0 down0 across_is moved0 least0;
      holds = step_holds d key t es n h v r c node row in_row cell below head beside down across e p.frontier some first tag head_is answered ready beside0 down0 across_is moved0 least0;
      ranks_grow = ranks_grow d key t es n h v r c node row in_row cell below head beside down across e p.frontier some first tag head_is answered ready beside0 down0 across_is moved0 least0;
      ranks_kept = ranks_kept d key t es n h v r c node row in_row cell below head beside down across e p.frontier some first tag head_is answered ready beside0 down0 across_is moved0 least0;
      kept_known = kept_known d key t es n h v r c node row in_row cell below head beside down across e p.frontier some first tag head_is answered ready beside0 down0 across_is moved0 least0;
      next_known = next_known d key t es n h v r c node row in_row cell below head beside down across e p.frontier some first tag head_is answered ready beside0 down0 across_is moved0 least0;
    }

-- # The product after a step

-- z is the product with the solution at the top of its frontier, if it has one
module _ {R : Type 0} {d : ℕ} {key : R → KeyOf d 16} {t : List (NodeView R)} {es : List (Linked (Found R))} {n : List (NodeStreamsView R)} {v r c : ℕ} (p z : ProductView R) (a : IsProductPassed d key t es n v r c p) (frontier : z.frontier ≡ p.frontier)
    (few : length z.frontier ≤ 2 ^ 64) (ended : length z.frontier ≡ 0 → (z.found ≡ p.found) × (z.ranks ≡ p.ranks)) (found : (x : Entry R Cell) → 0 < length z.frontier → z.found ≡ p.found ++ (get_or z.frontier 0 x).tag ∷ [])
    (ranks : (x : Entry R Cell) → 0 < length z.frontier → z.ranks ≡ with_rank p.ranks (get_or z.frontier 0 x).rank) (least : (x : Entry R Cell) → 0 < length z.frontier → IsLeast d key (get_or z.frontier 0 x) z.frontier) where
  -- the solution that was kept
  record IsNext (e : Entry R Cell) : Type 0 where
    pub some : 0 < length p.frontier
    pub first : e ≡ get_or p.frontier 0 e
    pub minimal : IsLeast d key e p.frontier
    pub longer : z.found ≡ (product_of n v r c).found ++ (e.tag ∷ [])
    pub ranked : z.ranks ≡ with_rank (product_of n v r c).ranks e.rank

  next_of : 0 < length z.frontier → (e : Entry R Cell) × IsNext e
  next_of some =
      let x : (x : Entry R Cell) × (x ≡ get_or z.frontier 0 x) = first_of z.frontier some in
      let e : Entry R Cell = x.0 in
      let first : e ≡ get_or z.frontier 0 e = x.1 in (
        e,
        record {
          some = omega (arith, some, ap length frontier);
          first = first ∙ ap (λ q. get_or q 0 e) frontier;
          minimal = subst (λ q. IsLeast d key e q) frontier (subst (λ y. IsLeast d key y z.frontier) (sym first) (least e some));
          longer = found e some ∙ ap (λ (y : Entry R Cell). p.found ++ y.tag ∷ []) (sym first) ∙ ap (λ q. q ++ (e.tag ∷ [])) a.found;
          ranked = ranks e some ∙ ap (λ (y : Entry R Cell). with_rank p.ranks y.rank) (sym first) ∙ ap (λ q. with_rank q e.rank) a.ranks;
        },
      )

  end_of : length z.frontier ≡ 0 → p.frontier ≡ []
  end_of none = empty p.frontier (omega (arith, none, ap length frontier))
    where
      empty : (q : List (Entry R Cell)) → length q ≡ 0 → q ≡ []
      empty [] e = refl
      empty (x ∷ q) e = absurd (omega (arith, e))

  holds_next : 0 < length z.frontier → IsStreams d key t es (slice_set n v (with_product (lists_of n v) r c z))
  holds_next some =
      let x = next_of some in
      let e : Entry R Cell = x.0 in
      let k = x.1 in
      a.holds z frontier (omega (arith, few, ap length frontier)) (omega (arith, ap length k.longer, count_more (product_of n v r c).found e.tag))
      (subst (All (λ (x : Cell). (x.left < part_known n v r c) × (x.right < length es) × (node_of es x.right ≡ child t v c) × (group_of es x.right ≡ group_named t v r c))) (sym k.longer) (a.next_known e k.some k.first))
      (subst (λ f. IsFrontier d key (pair_of es) (part_list d key t v r c) (group_list d key t (child t v c) (group_named t v r c)) (part_list d key t v r (suc c)) f p.frontier) (sym k.longer) (a.grows e k.some k.first k.minimal))
      (a.ranks_grow e k.some k.first k.minimal z k.longer k.ranked)

  holds_end : length z.frontier ≡ 0 → IsStreams d key t es (slice_set n v (with_product (lists_of n v) r c z))
  holds_end none =
      let found0 : z.found ≡ (product_of n v r c).found = (ended none).0 ∙ a.found in
      let empty : p.frontier ≡ [] = end_of none in
      a.holds z frontier (omega (arith, few, ap length frontier)) (omega (arith, ap length found0))
      (subst (All (λ (x : Cell). (x.left < part_known n v r c) × (x.right < length es) × (node_of es x.right ≡ child t v c) × (group_of es x.right ≡ group_named t v r c))) (sym found0) a.kept_known)
      (subst (λ f. IsFrontier d key (pair_of es) (part_list d key t v r c) (group_list d key t (child t v c) (group_named t v r c)) (part_list d key t v r (suc c)) f p.frontier) (sym found0)
      (subst (λ q. IsFrontier d key (pair_of es) (part_list d key t v r c) (group_list d key t (child t v c) (group_named t v r c)) (part_list d key t v r (suc c)) (product_of n v r c).found q) (sym empty) (a.ends empty).1))
      (λ more. ranks_stay d key (part_list d key t v r (suc c)) (product_of n v r c) z found0 ((ended none).1 ∙ a.ranks) (a.ranks_kept more))

  pub stepped_holds : IsStreams d key t es (slice_set n v (with_product (lists_of n v) r c z))
  stepped_holds = elim (cases_lt 0 (length z.frontier)) [
    | inl some ↦ holds_next some
    | inr none ↦ holds_end (omega (arith, none))
  ]

  -- one more solution is known, or there is none
  pub stepped_reaches : (length (product_of n v r c).found < length z.found) ⊎ (length (part_list d key t v r (suc c)) ≤ length (product_of n v r c).found)
  stepped_reaches = elim (cases_lt 0 (length z.frontier)) [
    | inl some ↦ inl (let x = next_of some in omega (arith, ap length x.1.longer, count_more (product_of n v r c).found x.0.tag))
    | inr none ↦ inr (omega (arith, (a.ends (end_of (omega (arith, none)))).0))
  ]
