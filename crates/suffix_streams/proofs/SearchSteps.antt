-- A search in a row: the call at the last child, the search with the other children, and the step of the last child's product.
use Rattle.std.proofs.Common.{◌≡◌, ℕ, suc, Bool, true, false, IsTrue, IsFalse, ◌+◌, ◌*◌, ◌<◌, ◌≤◌, ◌⊎◌, cond, nat_eq, List, [], length, get_or, refl, sym, ap, ◌∙◌, subst, inl, inr, arith}
use Rattle.std.proofs.lemmas.Bool.{cases_lt}
use Rattle.stream_store.specs.declared.linked.Linked.{Linked}
use Rattle.rank_key.specs.Bits.{bit_length}
use Rattle.rank_key.proofs.BitLemmas.{bit_length_rises}
use Rattle.tdp_core.specs.TreeView.{NodeView, parent, rows, child_count, group_named}
use Rattle.tdp_model.specs.Below.{is_below}
use Rattle.tdp_model.specs.KeyTuple.{KeyOf}
use Rattle.suffix_streams.specs.declared.stream.Found.{Found}
use Rattle.suffix_streams.specs.ProductView.{ProductView}
use Rattle.suffix_streams.specs.NodeStreamsView.{NodeStreamsView, product_at}
use Rattle.suffix_streams.specs.Rankings.{child}
use Rattle.suffix_streams.specs.TreeStreams.{lists_of, products_of, product_of, stream_of, part_known, IsStreams}
use Rattle.suffix_streams.specs.Growing.{IsGrown, IsExtended, IsReached, AreQueuesGrown, HasOtherProduct, IsWithinSteps, below_kids, kids_size}
use Rattle.suffix_streams.proofs.Rankings.{kid, kid_below}
use Rattle.suffix_streams.proofs.Costs.{kids_size_none}
use Rattle.suffix_streams.proofs.Entries.{child_in, named_stream}
use Rattle.suffix_streams.proofs.Changes.{replaced_queues}
use Rattle.suffix_streams.proofs.Searching.{same_is, extended_replaced, extended_on, head_stays}
use Rattle.suffix_streams.proofs.SearchCosts.{child_within, none_within, some_bits, queues_apart}
use Rattle.suffix_streams.proofs.ListEnds.{row_inside}

module _ {R : Type 0} (d : ℕ) (key : R → KeyOf d 16) (t : List (NodeView R)) (v r c : ℕ) (in_tree : v < length t) (row : r < rows t v) (a b e : List (Linked (Found R))) (n m o : List (NodeStreamsView R))
    (h : IsStreams d key t a n) (h1 : IsStreams d key t b m) (h2 : IsStreams d key t e o) (in_row : c < length (products_of n v r)) (g : IsGrown (parent t) (child t v c) a n b m) (x : IsExtended t v r c b m e o) where
  pub in_kids : c < child_count t v
  in_kids = child_in d key t a n h v r c in_tree row in_row

  pub own_lists : lists_of m v ≡ lists_of n v
  own_lists = g.above v (kid_below d key t h.tree v c in_kids)

  pub product_kept : product_of o v r c ≡ product_of n v r c
  product_kept = x.later c (omega arith) ∙ ap (λ z. product_at z r c) own_lists

  pub row_kept : c < length (products_of o v r)
  row_kept = omega (arith, in_row, x.count, ap (λ z. length (get_or z.products r [])) own_lists)

  in_nodes : v < length o
  in_nodes = omega (arith, in_tree, h2.all_nodes)

  in_rows : r < length (lists_of o v).products
  in_rows = row_inside (lists_of o v).products r c row_kept

  pub search_extended : IsExtended t v r (suc c) a n e o
  search_extended = extended_on d key t h.tree v r c in_tree in_kids a b e n m o g x

  pub search_queues : AreQueuesGrown (is_below (parent t) (child t v c)) n m → AreQueuesGrown (λ w. below_kids t v c w + cond (nat_eq w v) 1 0) m o → AreQueuesGrown (λ w. below_kids t v (suc c) w + cond (nat_eq w v) 1 0) n o
  search_queues p q w s k = omega (arith, p w s k, q w s k)

  -- the steps of a search: s1 after the child's call, s3 after the search with the other children, s4 at the end
  pub search_within : (s0 s1 s2 s3 s4 : ℕ) → AreQueuesGrown (is_below (parent t) (child t v c)) n m
      → IsWithinSteps t n (is_below (parent t) (child t v c)) (λ b. 14 + 4 * b + 20 * kids_size t (child t v c) (child_count t (child t v c)) * (1 + b)) s0 s1 → s2 ≤ s1 + 1
      → IsWithinSteps t m (λ w. below_kids t v c w + cond (nat_eq w v) 1 0) (λ b. 20 * kids_size t v c * (1 + b)) s2 (s3 + 6 * c)
      → s4 ≤ s3 + 9 + 3 * bit_length (length (product_of n v r c).frontier + 1)
      → IsWithinSteps t n (λ w. below_kids t v (suc c) w + cond (nat_eq w v) 1 0) (λ b. 20 * kids_size t v (suc c) * (1 + b)) s0 (s4 + 6 * suc c)
  search_within s0 s1 s2 s3 s4 grown call read search step k b one bits few queues =
      let own : length (product_of n v r c).frontier ≤ k = queues v r c (omega (arith, same_is v v refl)) in
      let digits : bit_length (length (product_of n v r c).frontier + 1) ≤ b = omega (arith, bits, bit_length_rises (length (product_of n v r c).frontier + 1) (k + 1) (omega (arith, own))) in
      let called : s1 ≤ s0 + (14 + 4 * b + 20 * kids_size t (child t v c) (child_count t (child t v c)) * (1 + b)) = call k b one bits few (λ w s j l. queues w s j (omega (arith, l))) in
      let searched : s3 + 6 * c ≤ s2 + 20 * kids_size t v c * (1 + b) = search k b one bits few (queues_apart d key t h.tree v c k n m h1.all_nodes in_tree in_kids one grown queues) in
      child_within d key t h.tree v c b s0 s1 s3 s4 in_tree in_kids (some_bits k b one bits) called (omega (arith, searched, read)) (omega (arith, step, digits))

  -- the steps if no search with the other children is made
  pub no_search : (s : ℕ) → IsWithinSteps t m (λ w. below_kids t v c w + cond (nat_eq w v) 1 0) (λ b. 20 * kids_size t v c * (1 + b)) s (s + 6 * c)
  no_search s k b one bits few queues = none_within d key t h.tree v c b s (omega (arith, in_kids))

  -- the head of the last child's group is the same entry after the search
  pub search_head : (stream_of o (child t v c) (group_named t v r c)).head ≡ (stream_of m (child t v c) (group_named t v r c)).head
  search_head = head_stays d key t b m h1 (suc v) (child t v c) (group_named t v r c) e o x.store h2 (kid d key t h.tree v c in_kids).within (named_stream d key t a n h v r c in_tree row in_kids)

  -- # And the product has one solution more

  module _ (z : List (NodeStreamsView R)) (other : HasOtherProduct o v r c z) where
    pub stepped_extended : IsExtended t v r (suc c) a n e z
    stepped_extended = extended_replaced d key t v r (suc c) c (product_of z v r c) a e n o z search_extended (omega arith) in_nodes in_rows row_kept other

    pub stepped_queues : AreQueuesGrown (is_below (parent t) (child t v c)) n m → AreQueuesGrown (λ w. below_kids t v c w + cond (nat_eq w v) 1 0) m o
        → length (product_of z v r c).frontier ≤ length (product_of o v r c).frontier + 1 → AreQueuesGrown (λ w. below_kids t v (suc c) w + cond (nat_eq w v) 1 0) n z
    stepped_queues q s longer =
        subst (λ y. AreQueuesGrown (λ w. below_kids t v (suc c) w + cond (nat_eq w v) 1 0) n y) (sym other)
        (replaced_queues o v r c (product_of z v r c) in_nodes in_rows row_kept (λ w. below_kids t v (suc c) w + cond (nat_eq w v) 1 0) n (search_queues q s)
        (omega (arith, longer, ap (λ (z : ProductView R). length z.frontier) product_kept, same_is v v refl)))

-- # The search with the other children, or with none

-- what there is after the search
pub record IsSearched {R : Type 0} (d : ℕ) (key : R → KeyOf d 16) (t : List (NodeView R)) (v r c : ℕ) (b : List (Linked (Found R))) (m : List (NodeStreamsView R)) (u : List (NodeView R)) (e : List (Linked (Found R))) (o : List (NodeStreamsView R)) (s0 s1 : ℕ) : Type 0 where
  pub tree : u ≡ t
  pub formed : IsStreams d key t e o
  pub extended : IsExtended t v r c b m e o
  pub queues : AreQueuesGrown (λ w. below_kids t v c w + cond (nat_eq w v) 1 0) m o
  pub steps : IsWithinSteps t m (λ w. below_kids t v c w + cond (nat_eq w v) 1 0) (λ b. 20 * kids_size t v c * (1 + b)) s0 (s1 + 6 * c)

module _ {R : Type 0} (d : ℕ) (key : R → KeyOf d 16) (t : List (NodeView R)) (v r c : ℕ) (b : List (Linked (Found R))) (m : List (NodeStreamsView R)) (u : List (NodeView R)) (e : List (Linked (Found R))) (o : List (NodeStreamsView R)) (s0 s1 : ℕ) (g : u ≡ t) (h : IsStreams d key t e o)
    (few : c ≤ child_count t v) where
  -- with k children, which are either all or none
  pub searched_of : (k : ℕ) → ((k ≡ c) ⊎ (k ≡ 0)) → IsExtended t v r k b m e o → AreQueuesGrown (λ w. below_kids t v k w + cond (nat_eq w v) 1 0) m o
      → IsWithinSteps t m (λ w. below_kids t v k w + cond (nat_eq w v) 1 0) (λ b. 20 * kids_size t v k * (1 + b)) s0 (s1 + 6 * k) → IsSearched d key t v r c b m u e o s0 s1
  searched_of k (inl a) x q w = record {
    tree = g;
    formed = h;
    extended = subst (λ z. IsExtended t v r z b m e o) a x;
    queues = subst (λ z. AreQueuesGrown (λ w. below_kids t v z w + cond (nat_eq w v) 1 0) m o) a q;
    steps = subst (λ z. IsWithinSteps t m (λ w. below_kids t v z w + cond (nat_eq w v) 1 0) (λ b. 20 * kids_size t v z * (1 + b)) s0 (s1 + 6 * z)) a w;
  }
  searched_of k (inr a) x q w =
      let x0 : IsExtended t v r 0 b m e o = subst (λ z. IsExtended t v r z b m e o) a x in
      let q0 : AreQueuesGrown (λ w. below_kids t v 0 w + cond (nat_eq w v) 1 0) m o = subst (λ z. AreQueuesGrown (λ w. below_kids t v z w + cond (nat_eq w v) 1 0) m o) a q in
      let w0 : IsWithinSteps t m (λ w. below_kids t v 0 w + cond (nat_eq w v) 1 0) (λ b. 20 * kids_size t v 0 * (1 + b)) s0 (s1 + 6 * 0) =
      subst (λ z. IsWithinSteps t m (λ w. below_kids t v z w + cond (nat_eq w v) 1 0) (λ b. 20 * kids_size t v z * (1 + b)) s0 (s1 + 6 * z)) a w in
      record {
        tree = g;
        formed = h;
        extended = record { store = x0.store; above = x0.above; streams = x0.streams; count = x0.count; later = λ j l. x0.later j (omega arith); growth = λ w. omega (arith, x0.growth w) };
        queues = λ w s j. omega (arith, q0 w s j);
        steps = λ k b one bits members queues. (let taken : s1 + 6 * 0 ≤ s0 + 20 * kids_size t v 0 * (1 + b) = w0 k b one bits members (λ y s j l. queues y s j (omega (arith, l))) in
            omega (arith, taken, ap (λ z. 20 * z * (1 + b)) (kids_size_none d key t h.tree v), none_within d key t h.tree v c b s0 few));
      }

-- from the tree of the call to that of the search
pub searched : {R : Type 0} (d : ℕ) (key : R → KeyOf d 16) (t a : List (NodeView R)) (v r c : ℕ) (b : List (Linked (Found R))) (m : List (NodeStreamsView R)) (u : List (NodeView R)) (e : List (Linked (Found R))) (o : List (NodeStreamsView R)) (k s0 s1 : ℕ)
    → a ≡ t → u ≡ a → c ≤ child_count t v → ((k ≡ c) ⊎ (k ≡ 0)) → IsStreams d key u e o → IsExtended a v r k b m e o → AreQueuesGrown (λ w. below_kids a v k w + cond (nat_eq w v) 1 0) m o
    → IsWithinSteps a m (λ w. below_kids a v k w + cond (nat_eq w v) 1 0) (λ b. 20 * kids_size a v k * (1 + b)) s0 (s1 + 6 * k) → IsSearched d key t v r c b m u e o s0 s1
searched {R} d key t a v r c b m u e o k s0 s1 f g few all h x q w =
    searched_of d key t v r c b m u e o s0 s1 (g ∙ f) (subst (λ (y : List (NodeView R)). IsStreams d key y e o) (g ∙ f) h) few k all (subst (λ (y : List (NodeView R)). IsExtended y v r k b m e o) f x)
    (subst (λ (y : List (NodeView R)). AreQueuesGrown (λ w. below_kids y v k w + cond (nat_eq w v) 1 0) m o) f q)
    (subst (λ (y : List (NodeView R)). IsWithinSteps y m (λ w. below_kids y v k w + cond (nat_eq w v) 1 0) (λ b. 20 * kids_size y v k * (1 + b)) s0 (s1 + 6 * k)) f w)

-- the number of children with which a search is made, and the place
pub left_or_none : (b : Bool) (k c p place : ℕ) → (IsTrue b → (k ≡ c) × (p ≡ place)) → (IsFalse b → (k ≡ 0) × (p ≡ 0)) → ((k ≡ c) × (p ≡ place)) ⊎ ((k ≡ 0) × (p ≡ 0))
left_or_none true k c p place beside apart = inl (beside refl)
left_or_none false k c p place beside apart = inr (apart refl)

pub all_or_none : (k c p place : ℕ) → ((k ≡ c) × (p ≡ place)) ⊎ ((k ≡ 0) × (p ≡ 0)) → (k ≡ c) ⊎ (k ≡ 0)
all_or_none k c p place (inl e) = inl e.0
all_or_none k c p place (inr e) = inr e.0

-- the place that was searched for is reached
pub left_reached : {R : Type 0} (d : ℕ) (key : R → KeyOf d 16) (t a : List (NodeView R)) (o : List (NodeStreamsView R)) (v r c k p place : ℕ) → a ≡ t → k ≡ c → p ≡ place → IsReached d key a o v r k p → IsReached d key t o v r c place
left_reached {R} d key t a o v r c k p place f g e x =
    subst (λ (y : List (NodeView R)). IsReached d key y o v r c place) f (subst (λ z. IsReached d key a o v r z place) g (subst (λ z. IsReached d key a o v r k z) e x))

pub count_few : {R : Type 0} (d : ℕ) (key : R → KeyOf d 16) (t : List (NodeView R)) (es : List (Linked (Found R))) (nodes : List (NodeStreamsView R)) (h : IsStreams d key t es nodes) (v r c : ℕ) → v < length t → r < rows t v → c ≤ length (products_of nodes v r) → c ≤ child_count t v
count_few d key t es nodes h v r c l row few = elim (cases_lt 0 (length (products_of nodes v r))) [
  | inl some ↦ omega (arith, few, h.whole_rows v r l row some)
  | inr none ↦ omega (arith, few)
]

-- a search is made with fewer children
pub left_few : (k c p place : ℕ) → ((k ≡ c) × (p ≡ place)) ⊎ ((k ≡ 0) × (p ≡ 0)) → k ≤ c
left_few k c p place (inl e) = omega (arith, e.0)
left_few k c p place (inr e) = omega (arith, e.0)

-- the place that is searched for is at most the first one that is not known
pub left_within : {R : Type 0} (o : List (NodeStreamsView R)) (v r c k p left : ℕ) → left < part_known o v r c → ((k ≡ c) × (p ≡ left + 1)) ⊎ ((k ≡ 0) × (p ≡ 0)) → p ≤ part_known o v r k
left_within o v r c k p left l (inl e) = omega (arith, l, e.1, ap (λ z. part_known o v r z) e.0)
left_within o v r c k p left l (inr e) = omega (arith, e.1)
