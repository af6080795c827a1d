-- When room is made in a product, everything stays except the room.
use Rattle.std.proofs.Common.{◌≡◌, ◌≢◌, ℕ, suc, ◌+◌, ◌<◌, ◌≤◌, ◌⊎◌, max, List, [], length, get_or, slice_set, sym, ap, ◌∙◌, subst, inl, inr, arith}
use Rattle.std.proofs.lemmas.Bool.{cases_eq}
use Rattle.stream_store.specs.declared.linked.Linked.{Linked}
use Rattle.tdp_core.specs.TreeView.{NodeView, rows}
use Rattle.tdp_model.specs.KeyTuple.{KeyOf}
use Rattle.suffix_streams.specs.declared.stream.Found.{Found}
use Rattle.suffix_streams.specs.ProductView.{ProductView}
use Rattle.suffix_streams.specs.NodeStreamsView.{NodeStreamsView, product_at, with_product}
use Rattle.suffix_streams.specs.TreeStreams.{lists_of, products_of, product_of, IsStreams}
use Rattle.suffix_streams.specs.Refusals.{AreUnstepped}
use Rattle.suffix_streams.specs.Growing.{IsExtended, AreQueuesGrown, HasOtherProduct, IsWithinSteps}
use Rattle.suffix_streams.proofs.Searching.{reserved_holds}
use Rattle.suffix_streams.proofs.Changes.{counts_kept, lists_same, replaced_at, replaced_other, replaced_others}
use Rattle.suffix_streams.proofs.Heads.{lists_at}
use Rattle.suffix_streams.proofs.StepCells.{one_change}
use Rattle.suffix_streams.proofs.ListEnds.{row_inside}

-- one product was changed in the node's own lists
module _ {R : Type 0} (nodes : List (NodeStreamsView R)) (v r c : ℕ) (m n : NodeStreamsView R) (in_nodes : v < length nodes) (at : m ≡ get_or nodes v m) (changed : n ≡ with_product m r c (product_at n r c)) where
  pub own_product : product_of (slice_set nodes v n) v r c ≡ product_at n r c
  own_product = ap (λ z. product_at z r c) (lists_same nodes v n in_nodes)

  pub own_change : HasOtherProduct nodes v r c (slice_set nodes v n)
  own_change = one_change nodes v r c m n in_nodes at changed ∙ ap (λ z. slice_set nodes v (with_product (lists_of nodes v) r c z)) (sym own_product)

  pub own_found : (product_at n r c).found ≡ (product_at m r c).found → (product_of (slice_set nodes v n) v r c).found ≡ (product_of nodes v r c).found
  own_found h = ap (λ z. z.found) own_product ∙ h ∙ ap (λ z. (product_at z r c).found) (sym (lists_at nodes v m at in_nodes))

  pub own_ranks : (product_at n r c).ranks ≡ (product_at m r c).ranks → (product_of (slice_set nodes v n) v r c).ranks ≡ (product_of nodes v r c).ranks
  own_ranks h = ap (λ z. z.ranks) own_product ∙ h ∙ ap (λ z. (product_at z r c).ranks) (sym (lists_at nodes v m at in_nodes))

  pub own_frontier : (product_at n r c).frontier ≡ (product_at m r c).frontier → (product_of (slice_set nodes v n) v r c).frontier ≡ (product_of nodes v r c).frontier
  own_frontier h = ap (λ z. z.frontier) own_product ∙ h ∙ ap (λ z. (product_at z r c).frontier) (sym (lists_at nodes v m at in_nodes))

module _ {R : Type 0} (d : ℕ) (key : R → KeyOf d 16) (t : List (NodeView R)) (es : List (Linked (Found R))) (n : List (NodeStreamsView R)) (h : IsStreams d key t es n) (v r c : ℕ) (in_tree : v < length t) (row : r < rows t v)
    (in_row : c < length (products_of n v r)) (n1 : List (NodeStreamsView R)) (other : HasOtherProduct n v r c n1) (found : (product_of n1 v r c).found ≡ (product_of n v r c).found)
    (frontier : (product_of n1 v r c).frontier ≡ (product_of n v r c).frontier) (ranks : (product_of n1 v r c).ranks ≡ (product_of n v r c).ranks) where
  in_nodes : v < length n
  in_nodes = omega (arith, in_tree, h.all_nodes)

  in_rows : r < length (lists_of n v).products
  in_rows = row_inside (lists_of n v).products r c in_row

  pub room_formed : IsStreams d key t es n1
  room_formed = subst (λ z. IsStreams d key t es z) (sym other) (reserved_holds d key t es n h v r c (product_of n1 v r c) in_tree row in_row found frontier ranks)

  pub room_count : length (products_of n1 v r) ≡ length (products_of n v r)
  room_count =
      ap (λ z. length (products_of z v r)) other ∙ ap (λ z. length (get_or z.products r [])) (replaced_at n v r c (product_of n1 v r c) in_nodes in_rows in_row)
      ∙ counts_kept (lists_of n v) r c (product_of n1 v r c) in_rows in_row r

  other_product : (w s k : ℕ) → ((w ≢ v) ⊎ (s ≢ r) ⊎ (k ≢ c)) → product_of n1 w s k ≡ product_of n w s k
  other_product w s k x = ap (λ z. product_of z w s k) other ∙ replaced_others n v r c (product_of n1 v r c) in_nodes in_rows in_row w s k x

  other_sums : (w s k : ℕ) → ((w ≢ v) ⊎ (s ≢ r) ⊎ (k ≢ c)) → ((product_of n1 w s k).found ≡ (product_of n w s k).found) × ((product_of n1 w s k).frontier ≡ (product_of n w s k).frontier) × ((product_of n1 w s k).ranks ≡ (product_of n w s k).ranks)
  other_sums w s k x = (ap (λ (z : ProductView R). z.found) (other_product w s k x), ap (λ (z : ProductView R). z.frontier) (other_product w s k x), ap (λ (z : ProductView R). z.ranks) (other_product w s k x))

  same_sums : (w s k : ℕ) → ((product_of n1 w s k).found ≡ (product_of n w s k).found) × ((product_of n1 w s k).frontier ≡ (product_of n w s k).frontier) × ((product_of n1 w s k).ranks ≡ (product_of n w s k).ranks)
  same_sums w s k = elim (cases_eq w v) [
    | inr x ↦ other_sums w s k (inl x)
    | inl e ↦ elim (cases_eq s r) [
      | inr x ↦ other_sums w s k (inr (inl x))
      | inl f ↦ elim (cases_eq k c) [
        | inr x ↦ other_sums w s k (inr (inr x))
        | inl i ↦
            subst (λ z. ((product_of n1 z s k).found ≡ (product_of n z s k).found) × ((product_of n1 z s k).frontier ≡ (product_of n z s k).frontier) × ((product_of n1 z s k).ranks ≡ (product_of n z s k).ranks)) (sym e)
            (subst (λ z. ((product_of n1 v z k).found ≡ (product_of n v z k).found) × ((product_of n1 v z k).frontier ≡ (product_of n v z k).frontier) × ((product_of n1 v z k).ranks ≡ (product_of n v z k).ranks)) (sym f)
            (subst (λ z. ((product_of n1 v r z).found ≡ (product_of n v r z).found) × ((product_of n1 v r z).frontier ≡ (product_of n v r z).frontier) × ((product_of n1 v r z).ranks ≡ (product_of n v r z).ranks)) (sym i) (found, frontier, ranks)))
      ]
    ]
  ]

  pub room_unstepped : AreUnstepped v n n1
  room_unstepped s k = same_sums v s k

  queue_same : (w s k : ℕ) → length (product_of n1 w s k).frontier ≡ length (product_of n w s k).frontier
  queue_same w s k = ap length (same_sums w s k).1

  pub room_extended : (e : List (Linked (Found R))) (o : List (NodeStreamsView R)) → IsExtended t v r (suc c) es n1 e o → IsExtended t v r (suc c) es n e o
  room_extended e o x = record {
    store = x.store;
    above = λ w l. x.above w l ∙ ap (λ z. lists_of z w) other ∙ replaced_other n v r c (product_of n1 v r c) in_nodes in_rows in_row w (λ z. omega (arith, l, z));
    streams = x.streams ∙ ap (λ z. (lists_of z v).streams) other ∙ ap (λ z. z.streams) (replaced_at n v r c (product_of n1 v r c) in_nodes in_rows in_row);
    count = x.count ∙ room_count;
    later = λ k l. x.later k l ∙ other_product v r k (inr (inr (λ z. omega (arith, l, z))));
    growth = x.growth;
  }

  pub room_queues : (more : ℕ → ℕ) (o : List (NodeStreamsView R)) → AreQueuesGrown more n1 o → AreQueuesGrown more n o
  room_queues more o q w s k = subst (λ z. length (product_of o w s k).frontier ≤ max 1 z + more w) (queue_same w s k) (q w s k)

  pub room_within : (visited share : ℕ → ℕ) (old new : ℕ) → IsWithinSteps t n1 visited share old new → IsWithinSteps t n visited share old new
  room_within visited share old new w k b one bits few queues = w k b one bits few (λ u s j p. omega (arith, queues u s j p, queue_same u s j))

-- # What several calls leave as it was

pub unstepped_on : {R : Type 0} (v : ℕ) (n m o : List (NodeStreamsView R)) → AreUnstepped v n m → AreUnstepped v m o → AreUnstepped v n o
unstepped_on v n m o p q s k = ((q s k).0 ∙ (p s k).0, (q s k).1 ∙ (p s k).1, (q s k).2 ∙ (p s k).2)

pub unstepped_own : {R : Type 0} (v : ℕ) (n m : List (NodeStreamsView R)) → lists_of m v ≡ lists_of n v → AreUnstepped v n m
unstepped_own v n m e s k = (ap (λ z. (product_at z s k).found) e, ap (λ z. (product_at z s k).frontier) e, ap (λ z. (product_at z s k).ranks) e)
