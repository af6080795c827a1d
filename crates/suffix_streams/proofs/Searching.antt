-- The effect of a search for one more solution, composed over its calls.
use Rattle.std.proofs.lemmas.List.{get_or_past}
use Rattle.std.proofs.Common.{◌≡◌, ◌≢◌, ℕ, suc, ◌+◌, ◌<◌, ◌≤◌, Option, Some, None, cond, nat_eq, List, [], ◌∷◌, length, drop, get_or, slice_set, refl, sym, ap, ◌∙◌, subst, inl, inr, arith}
use Rattle.std.proofs.lemmas.Bool.{cases_lt, cases_eq}
use Rattle.std.proofs.lemmas.Bool.Decides.{nat_tests}
use Rattle.stream_store.specs.declared.linked.Linked.{Linked}
use Rattle.take2_heap.specs.declared.entry.Entry.{Entry}
use Rattle.tdp_core.specs.TreeView.{NodeView, parent, rows, child_count, group_count, group_named}
use Rattle.tdp_core.specs.WellFormed.{IsFormed}
use Rattle.tdp_model.specs.Below.{is_below}
use Rattle.tdp_model.specs.KeyTuple.{KeyOf, key_below, key_add, key_none}
use Rattle.tdp_model.specs.Product.{Pair, pair_key, stands_for}
use Rattle.tdp_model.specs.Remains.{total}
use Rattle.tdp_model.proofs.Removal.{none_left}
use Rattle.suffix_streams.specs.Ahead.{IsAhead}
use Rattle.suffix_streams.specs.QueueEntries.{places, InProduct}
use Rattle.suffix_streams.proofs.Linking.{place_once}
use Rattle.suffix_streams.specs.declared.cell.Cell.{Cell}
use Rattle.suffix_streams.specs.declared.stream.Found.{Found}
use Rattle.suffix_streams.specs.ProductView.{ProductView}
use Rattle.suffix_streams.specs.NodeStreamsView.{NodeStreamsView, product_at, with_product}
use Rattle.suffix_streams.specs.Rankings.{child, part_list, group_list}
use Rattle.suffix_streams.specs.TreeStreams.{node_list, group_list_of, node_of, group_of, node_size, lists_of, products_of, product_of, stream_of, pair_of, IsStreams}
use Rattle.suffix_streams.specs.Growing.{IsStoreGrown, IsGrown, IsExtended, IsReached, IsAnswered, AreQueuesGrown, below_kids}
use Rattle.suffix_streams.proofs.Rankings.{kid_below, own_only}
use Rattle.suffix_streams.proofs.Stores.{node_length, group_length, store_stays, store_goes_on, store_from_above}
use Rattle.suffix_streams.proofs.Costs.{kids_below_node}
use Rattle.suffix_streams.proofs.Kept.{held_itself, product_stays}
use Rattle.suffix_streams.proofs.Passing.{drop_none}
use Rattle.suffix_streams.proofs.Changes.{counts_kept, replaced_at, replaced_other, replaced_others, changed_known, changed_product, product_set}

-- if a queue is empty, all is known
all_known : {X : Type 0} (d : ℕ) (key_at : X → KeyOf d 16) (count : X → X → ℕ) (InRange : X → Type 0) (whole : List (KeyOf d 16)) (found : ℕ) → IsAhead X (KeyOf d 16) (key_below d 16) key_at count InRange whole found [] → found ≡ length whole
unfolding total
all_known d key_at count InRange whole found a = omega (arith, a.within, drop_none whole found (none_left (key_below d 16) key_at (total count []) (λ x. refl) (drop found whole) a.remains))

pub same_is : (w v : ℕ) → w ≡ v → cond {A = ℕ} (nat_eq w v) 1 0 ≡ 1
same_is w v e = grind (arith, nat_tests)

module _ {R : Type 0} (d : ℕ) (key : R → KeyOf d 16) (t : List (NodeView R)) where
  -- what follows an entry stays known
  pub answered_stays : (q : ℕ) (es es' : List (Linked (Found R))) (i : ℕ) (o : Option ℕ) → i < length es → IsStoreGrown q es es' → IsAnswered d key t es i o → IsAnswered d key t es' i o
  answered_stays q es es' i (Some n) l g h = g.links i n h
  answered_stays q es es' i None l g h =
      ap (λ z. length (group_list d key t z (group_of es' i))) (g.nodes i l) ∙ ap (λ z. length (group_list d key t (node_of es i) z)) (g.groups i l) ∙ h ∙ ap (λ z. z + 1) (sym (g.places i l))

  pub extended_none : (v r c : ℕ) (es : List (Linked (Found R))) (nodes : List (NodeStreamsView R)) → IsExtended t v r c es nodes es nodes
  extended_none v r c es nodes = record {
    store = store_stays (suc v) es;
    above = λ w l. refl;
    streams = refl;
    count = refl;
    later = λ k l. refl;
    growth = λ w. omega arith;
  }

  -- one product of the row is replaced
  pub extended_replaced : (v r c k : ℕ) (p : ProductView R) (a b : List (Linked (Found R))) (n m o : List (NodeStreamsView R)) → IsExtended t v r c a n b m → k < c → v < length m → r < length (lists_of m v).products → k < length (products_of m v r)
      → o ≡ slice_set m v (with_product (lists_of m v) r k p) → IsExtended t v r c a n b o
  extended_replaced v r c k p a b n m o x l in_nodes in_rows in_row e = subst (λ z. IsExtended t v r c a n b z) (sym e) (record {
    store = x.store;
    above = λ w h. replaced_other m v r k p in_nodes in_rows in_row w (λ z. omega (arith, h, z)) ∙ x.above w h;
    streams = ap (λ z. z.streams) (replaced_at m v r k p in_nodes in_rows in_row) ∙ x.streams;
    count = ap (λ z. length (get_or z.products r [])) (replaced_at m v r k p in_nodes in_rows in_row) ∙ counts_kept (lists_of m v) r k p in_rows in_row r ∙ x.count;
    later = λ j h. replaced_others m v r k p in_nodes in_rows in_row v r j (inr (inr (λ z. omega (arith, h, z, l)))) ∙ x.later j h;
    growth = x.growth;
  })

  module _ (formed : IsFormed d key t) (v r c : ℕ) (in_tree : v < length t) (in_kids : c < child_count t v) where
    pub extended_child : (a b : List (Linked (Found R))) (n m : List (NodeStreamsView R)) → IsGrown (parent t) (child t v c) a n b m → IsExtended t v r (suc c) a n b m
    extended_child a b n m g =
        let below : v < child t v c = kid_below d key t formed v c in_kids in
        let own : lists_of m v ≡ lists_of n v = g.above v below in
        record {
          store = store_from_above (suc v) (child t v c) a b (omega (arith, below)) g.store;
          above = λ w l. g.above w (omega (arith, below));
          streams = ap (λ z. z.streams) own;
          count = ap (λ z. length (get_or z.products r [])) own;
          later = λ k l. ap (λ z. product_at z r k) own;
          growth = λ w. omega (arith, g.growth w);
        }

    pub extended_on : (a b e : List (Linked (Found R))) (n m o : List (NodeStreamsView R)) → IsGrown (parent t) (child t v c) a n b m → IsExtended t v r c b m e o → IsExtended t v r (suc c) a n e o
    extended_on a b e n m o g y =
        let x : IsExtended t v r (suc c) a n b m = extended_child a b n m g in
        record {
          store = store_goes_on (suc v) a b e x.store y.store;
          above = λ w l. y.above w l ∙ x.above w l;
          streams = y.streams ∙ x.streams;
          count = y.count ∙ x.count;
          later = λ k l. y.later k (omega arith) ∙ x.later k l;
          growth = λ w. omega (arith, g.growth w, y.growth w);
        }

    pub queues_child : (n m : List (NodeStreamsView R)) → AreQueuesGrown (is_below (parent t) (child t v c)) n m → AreQueuesGrown (λ w. below_kids t v (suc c) w + cond (nat_eq w v) 1 0) n m
    queues_child n m a w s k = omega (arith, a w s k)

module _ {R : Type 0} (d : ℕ) (key : R → KeyOf d 16) (t : List (NodeView R)) (es : List (Linked (Found R))) (nodes : List (NodeStreamsView R)) (h : IsStreams d key t es nodes) where
  -- the product whose frontier is empty has all sums
  pub sums_done : (v r c : ℕ) → v < length t → r < rows t v → c < length (products_of nodes v r) → (product_of nodes v r c).frontier ≡ [] → length (product_of nodes v r c).found ≡ length (part_list d key t v r (suc c))
  sums_done v r c l row in_row empty =
      let p = h.products v r c l row in_row in
      all_known d (pair_key (key_add d 16) (key_none d 16) (part_list d key t v r c) (group_list d key t (child t v c) (group_named t v r c)))
      (stands_for (length (part_list d key t v r c)) (length (group_list d key t (child t v c) (group_named t v r c)))) (InProduct d (part_list d key t v r c) (group_list d key t (child t v c) (group_named t v r c)))
      (part_list d key t v r (suc c)) (length (product_of nodes v r c).found)
      (subst (λ (z : List (Entry R Cell)). IsAhead Pair (KeyOf d 16) (key_below d 16) (pair_key (key_add d 16) (key_none d 16) (part_list d key t v r c) (group_list d key t (child t v c) (group_named t v r c)))
      (stands_for (length (part_list d key t v r c)) (length (group_list d key t (child t v c) (group_named t v r c)))) (InProduct d (part_list d key t v r c) (group_list d key t (child t v c) (group_named t v r c)))
      (part_list d key t v r (suc c)) (length (product_of nodes v r c).found) (places (pair_of es) z)) empty p.sums.ahead)

  -- without children a row has one solution
  pub reached_none : (v r place : ℕ) → v < length t → 1 ≤ place → IsReached d key t nodes v r 0 place
  reached_none v r place l a = inr (omega (arith, own_only d key t h.tree v r l))

  -- all is as it was, if only the room of a product changes
  pub reserved_holds : (v r c : ℕ) (p : ProductView R) → v < length t → r < rows t v → c < length (products_of nodes v r) → p.found ≡ (product_of nodes v r c).found → p.frontier ≡ (product_of nodes v r c).frontier → p.ranks ≡ (product_of nodes v r c).ranks
      → IsStreams d key t es (slice_set nodes v (with_product (lists_of nodes v) r c p))
  reserved_holds v r c p l row in_row found frontier ranks =
      let rises : length (product_of nodes v r c).found ≤ length p.found = omega (arith, ap length found) in
      let new : product_of (slice_set nodes v (with_product (lists_of nodes v) r c p)) v r c ≡ p = changed_product d key t es nodes h v r c p l row in_row rises in
      product_set d key t es nodes h v r c p l row in_row rises
      (product_stays d key t es es nodes (slice_set nodes v (with_product (lists_of nodes v) r c p)) (held_itself es) v r c (ap (λ z. z.found) new ∙ found) (ap (λ z. z.frontier) new ∙ frontier) (ap (λ z. z.ranks) new ∙ ranks)
      (changed_known d key t es nodes h v r c p l row in_row rises v r c) (h.products v r c l row in_row))

  -- the head of a stream stays the same entry
  pub head_stays : (k q g : ℕ) (es' : List (Linked (Found R))) (nodes' : List (NodeStreamsView R)) → IsStoreGrown k es es' → IsStreams d key t es' nodes' → q < length t → g < group_count t q → (stream_of nodes' q g).head ≡ (stream_of nodes q g).head
  head_stays k q g es' nodes' grown h' l in_group =
      let s = h.streams q g l in_group in
      let s' = h'.streams q g l in_group in
      place_once (node_list es') (group_list_of es') (node_length es' ∙ sym (group_length es')) (stream_of nodes' q g).head (stream_of nodes q g).head (omega (arith, s'.head_in, node_length es')) (omega (arith, s.head_in, grown.longer, node_length es'))
      (s'.head_node ∙ sym (grown.nodes (stream_of nodes q g).head s.head_in ∙ s.head_node)) (s'.head_group ∙ sym (grown.groups (stream_of nodes q g).head s.head_in ∙ s.head_group))
      (s'.head_place ∙ sym (grown.places (stream_of nodes q g).head s.head_in ∙ s.head_place))

-- # The effect of a call

no_size : {R : Type 0} (es : List (Linked (Found R))) (w n : ℕ) → ((i : ℕ) → i < length es → node_of es i < n) → n ≤ w → node_size es w ≡ 0
unfolding node_size
no_size [] w n h l = refl
no_size (e ∷ es) w n h l = omega (arith, no_size es w n (λ i a. h (suc i) (omega arith)) l, other e.value.node w (λ z. omega (arith, h 0 (omega arith), z)))
  where
    other : (a b : ℕ) → a ≢ b → cond {A = ℕ} (nat_eq a b) 1 0 ≡ 0
    other a b n = grind (arith, nat_tests)

pub no_queue : {R : Type 0} (nodes : List (NodeStreamsView R)) (w s k : ℕ) → length nodes ≤ w → length (product_of nodes w s k).frontier ≡ 0
no_queue {R} nodes w s k l =
    let none : lists_of nodes w ≡ record { children = []; streams = []; products = [] } = get_or_past nodes w (record { children = []; streams = []; products = [] }) l in
    ap (λ (n : NodeStreamsView R). length (product_at n s k).frontier) none

module _ {R : Type 0} (d : ℕ) (key : R → KeyOf d 16) (t : List (NodeView R)) (v r c : ℕ) (in_tree : v < length t) (few : c ≤ child_count t v) (a b : List (Linked (Found R))) (n m o : List (NodeStreamsView R)) (h : IsStreams d key t b o)
    (above : (w : ℕ) → w ≢ v → lists_of m w ≡ lists_of n w) (x : IsExtended t v r c a m b o) where
  pub grown_of : IsGrown (parent t) v a n b o
  grown_of = record {
    store = store_from_above v (suc v) a b (omega arith) x.store;
    above = λ w l. x.above w l ∙ above w (λ z. omega (arith, l, z));
    growth = λ w. elim (cases_lt w (length t)) [
      | inl l ↦ omega (arith, x.growth w, kids_below_node d key t h.tree v c w l few)
      | inr l ↦ omega (arith, no_size b w (length t) (λ i k. (h.owners i k).0) l)
    ];
  }

  pub queues_of : AreQueuesGrown (λ w. 0) n m → AreQueuesGrown (λ w. below_kids t v c w + cond (nat_eq w v) 1 0) m o → AreQueuesGrown (is_below (parent t) v) n o
  queues_of p q w s k = elim (cases_lt w (length t)) [
    | inl l ↦ omega (arith, p w s k, q w s k, kids_below_node d key t h.tree v c w l few)
    | inr l ↦ omega (arith, no_queue o w s k (omega (arith, l, h.all_nodes)))
  ]

  -- and one more entry of the node's own
  module _ (e : List (Linked (Found R))) (z : List (NodeStreamsView R)) (h' : IsStreams d key t e z) (store : IsStoreGrown v b e) (same : (w : ℕ) → w ≢ v → lists_of z w ≡ lists_of o w) (products : (lists_of z v).products ≡ (lists_of o v).products)
      (growth : (w : ℕ) → node_size e w ≤ node_size b w + cond (nat_eq w v) 1 0) where
    pub grown_more : IsGrown (parent t) v a n e z
    grown_more = record {
      store = store_goes_on v a b e grown_of.store store;
      above = λ w l. same w (λ z. omega (arith, l, z)) ∙ grown_of.above w l;
      growth = λ w. elim (cases_lt w (length t)) [
        | inl l ↦ omega (arith, x.growth w, growth w, kids_below_node d key t h.tree v c w l few)
        | inr l ↦ omega (arith, no_size e w (length t) (λ i k. (h'.owners i k).0) l)
      ];
    }

    same_products : (w : ℕ) → (lists_of z w).products ≡ (lists_of o w).products
    same_products w = elim (cases_eq w v) [
      | inl i ↦ subst (λ u. (lists_of z u).products ≡ (lists_of o u).products) (sym i) products
      | inr i ↦ ap (λ u. u.products) (same w i)
    ]

    pub queues_more : AreQueuesGrown (λ w. 0) n m → AreQueuesGrown (λ w. below_kids t v c w + cond (nat_eq w v) 1 0) m o → AreQueuesGrown (is_below (parent t) v) n z
    queues_more p q w s k =
        omega (arith, queues_of p q w s k, ap (λ (ps : List (List (ProductView R))). length (get_or (get_or ps s []) k (record { found = []; ranks = []; frontier = []; room = 0; frontier_room = 0 })).frontier) (same_products w))
