-- The facts of a search in a row with its first children, after each of its calls.
use Rattle.std.proofs.Common.{◌≡◌, ℕ, suc, Bool, IsTrue, ◌↔◌, ◌+◌, ◌-◌, ◌*◌, ◌<◌, ◌≤◌, cond, nat_eq, List, [], length, get_or, slice_index, sym, ap, ◌∙◌, subst, arith}
use Rattle.stream_store.specs.declared.linked.Linked.{Linked}
use Rattle.take2_heap.specs.declared.entry.Entry.{Entry}
use Rattle.rank_key.specs.Bits.{bit_length}
use Rattle.tdp_core.specs.TreeView.{NodeView, parent, rows, child_count, group_named}
use Rattle.tdp_model.specs.Below.{is_below}
use Rattle.tdp_model.specs.KeyTuple.{KeyOf}
use Rattle.suffix_streams.specs.declared.stream.Found.{Found}
use Rattle.suffix_streams.specs.declared.cell.Cell.{Cell}
use Rattle.suffix_streams.specs.ProductView.{ProductView}
use Rattle.suffix_streams.specs.NodeStreamsView.{NodeStreamsView, HasHead, product_at, known_of}
use Rattle.suffix_streams.specs.Rankings.{child}
use Rattle.suffix_streams.specs.TreeStreams.{lists_of, products_of, product_of, stream_of, part_known, node_of, group_of, IsStreams, IsCell}
use Rattle.suffix_streams.specs.Refusals.{AreUnstepped}
use Rattle.suffix_streams.specs.Growing.{IsGrown, IsExtended, AreQueuesGrown, HasOtherProduct, IsWithinSteps, below_kids, kids_size}
use Rattle.suffix_streams.proofs.Rankings.{kid, kid_below}
use Rattle.suffix_streams.proofs.Heads.{lists_at}
use Rattle.suffix_streams.proofs.Entries.{child_in}
use Rattle.suffix_streams.proofs.StepCells.{cell_known, named_head, head_of_named}
use Rattle.suffix_streams.proofs.Searching.{extended_none, extended_child, queues_child}
use Rattle.suffix_streams.proofs.SearchRoom.{room_formed, room_count, room_extended, room_queues, room_within, room_unstepped, unstepped_on, unstepped_own}
use Rattle.suffix_streams.proofs.SearchSteps.{product_kept, row_kept, search_extended, search_queues, search_within, no_search, search_head, stepped_extended, stepped_queues, IsSearched}
use Rattle.suffix_streams.proofs.ListEnds.{any_default}

-- # Room was made in the product of the last of the children

-- the nodes are n before and m after, and the first of the product's frontier is `top`
pub record IsRoomMade {R : Type 0} (d : ℕ) (key : R → KeyOf d 16) (t : List (NodeView R)) (es : List (Linked (Found R))) (n m : List (NodeStreamsView R)) (v r count : ℕ) (top : Entry R Cell) : Type 0 where
  pub before : IsStreams d key t es n
  pub node : v < length t
  pub row : r < rows t v
  pub last : suc (count - 1) ≡ count
  pub in_row : count - 1 < length (products_of n v r)
  pub changed : HasOtherProduct n v r (count - 1) m
  pub found : (product_of m v r (count - 1)).found ≡ (product_of n v r (count - 1)).found
  pub frontier : (product_of m v r (count - 1)).frontier ≡ (product_of n v r (count - 1)).frontier
  pub ranks : (product_of m v r (count - 1)).ranks ≡ (product_of n v r (count - 1)).ranks
  pub formed : IsStreams d key t es m
  pub still_in_row : count - 1 < length (products_of m v r)
  pub some : 0 < length (product_of m v r (count - 1)).frontier
  pub first : (x : Entry R Cell) → get_or (product_of m v r (count - 1)).frontier 0 x ≡ top
  pub known : IsCell d key t es m v r (count - 1) top.tag
  pub in_kids : count - 1 < child_count t v
  pub below : v < child t v (count - 1)
  pub child_within : child t v (count - 1) < length t

-- x are the lists of node v that were read, and `top` is the first of the frontier
pub room_made : {R : Type 0} (d : ℕ) (key : R → KeyOf d 16) (t : List (NodeView R)) (es : List (Linked (Found R))) (n m : List (NodeStreamsView R)) (v r count : ℕ) (x : NodeStreamsView R) (top : Entry R Cell) → IsStreams d key t es n → v < length t → r < rows t v
    → 0 < count → count ≤ length (products_of n v r) → HasOtherProduct n v r (count - 1) m → (product_of m v r (count - 1)).found ≡ (product_of n v r (count - 1)).found
    → (product_of m v r (count - 1)).frontier ≡ (product_of n v r (count - 1)).frontier → (product_of m v r (count - 1)).ranks ≡ (product_of n v r (count - 1)).ranks → x ≡ get_or n v x → 0 < length (product_at x r (count - 1)).frontier → top ≡ get_or (product_at x r (count - 1)).frontier 0 top
    → IsRoomMade d key t es n m v r count top
room_made {R} d key t es n m v r count x top h node row some within other found frontier ranks read there is =
    let c : ℕ = count - 1 in
    let in_row : c < length (products_of n v r) = omega (arith, some, within) in
    let lists : lists_of n v ≡ x = lists_at n v x read (omega (arith, node, h.all_nodes)) in
    let there0 : 0 < length (product_of n v r c).frontier = subst (λ z. 0 < length (product_at z r c).frontier) (sym lists) there in
    let is0 : top ≡ get_or (product_of n v r c).frontier 0 top = is ∙ ap (λ z. get_or (product_at z r c).frontier 0 top) (sym lists) in
    let there1 : 0 < length (product_of m v r c).frontier = omega (arith, there0, ap length frontier) in
    let first1 : (e : Entry R Cell) → get_or (product_of m v r c).frontier 0 e ≡ top = λ e. ap (λ f. get_or f 0 e) frontier ∙ any_default (product_of n v r c).frontier 0 e top there0 ∙ sym is0 in
    let formed1 : IsStreams d key t es m = room_formed d key t es n h v r c node row in_row m other found frontier ranks in
    let in_row1 : c < length (products_of m v r) = omega (arith, in_row, room_count d key t es n h v r c node row in_row m other found frontier ranks) in
    let kids : c < child_count t v = child_in d key t es m formed1 v r c node row in_row1 in
    record {
      before = h;
      node = node;
      row = row;
      last = omega (arith, some);
      in_row = in_row;
      changed = other;
      found = found;
      frontier = frontier;
      ranks = ranks;
      formed = formed1;
      still_in_row = in_row1;
      some = there1;
      first = first1;
      known = cell_known d key t es m formed1 v r c node row in_row1 top.tag there1 (λ e. ap (λ (z : Entry R Cell). z.tag) (first1 e));
      in_kids = kids;
      below = kid_below d key t h.tree v c kids;
      child_within = (kid d key t h.tree v c kids).within;
    }

module _ {R : Type 0} {d : ℕ} {key : R → KeyOf d 16} {t : List (NodeView R)} {es : List (Linked (Found R))} {n m : List (NodeStreamsView R)} {v r count : ℕ} {top : Entry R Cell} (a : IsRoomMade d key t es n m v r count top) where
  pub made_extended : (e : List (Linked (Found R))) (o : List (NodeStreamsView R)) → IsExtended t v r (suc (count - 1)) es m e o → IsExtended t v r count es n e o
  made_extended e o x = subst (λ z. IsExtended t v r z es n e o) a.last (room_extended d key t es n a.before v r (count - 1) a.node a.row a.in_row m a.changed a.found a.frontier a.ranks e o x)

  pub made_none : IsExtended t v r count es n es m
  made_none = made_extended es m (extended_none d key t v r (suc (count - 1)) es m)

  pub made_queues : (o : List (NodeStreamsView R)) → AreQueuesGrown (λ w. below_kids t v (suc (count - 1)) w + cond (nat_eq w v) 1 0) m o → AreQueuesGrown (λ w. below_kids t v count w + cond (nat_eq w v) 1 0) n o
  made_queues o q =
      subst (λ z. AreQueuesGrown (λ w. below_kids t v z w + cond (nat_eq w v) 1 0) n o) a.last
      (room_queues d key t es n a.before v r (count - 1) a.node a.row a.in_row m a.changed a.found a.frontier a.ranks (λ w. below_kids t v (suc (count - 1)) w + cond (nat_eq w v) 1 0) o q)

  pub made_within : (s0 s1 : ℕ) → IsWithinSteps t m (λ w. below_kids t v (suc (count - 1)) w + cond (nat_eq w v) 1 0) (λ b. 20 * kids_size t v (suc (count - 1)) * (1 + b)) s0 (s1 + 6 * suc (count - 1))
      → IsWithinSteps t n (λ w. below_kids t v count w + cond (nat_eq w v) 1 0) (λ b. 20 * kids_size t v count * (1 + b)) s0 (s1 + 6 * count)
  made_within s0 s1 w =
      subst (λ z. IsWithinSteps t n (λ w. below_kids t v z w + cond (nat_eq w v) 1 0) (λ b. 20 * kids_size t v z * (1 + b)) s0 (s1 + 6 * z)) a.last
      (room_within d key t es n a.before v r (count - 1) a.node a.row a.in_row m a.changed a.found a.frontier a.ranks (λ w. below_kids t v (suc (count - 1)) w + cond (nat_eq w v) 1 0) (λ b. 20 * kids_size t v (suc (count - 1)) * (1 + b)) s0
      (s1 + 6 * suc (count - 1)) w)

  pub made_unstepped : AreUnstepped v n m
  made_unstepped = room_unstepped d key t es n a.before v r (count - 1) a.node a.row a.in_row m a.changed a.found a.frontier a.ranks

-- # The entry after the cell's right part was asked for

pub record IsChildAsked {R : Type 0} (d : ℕ) (key : R → KeyOf d 16) (t : List (NodeView R)) (es b : List (Linked (Found R))) (m o : List (NodeStreamsView R)) (v r count : ℕ) (cell : Cell) (s0 s1 : ℕ) : Type 0 where
  pub formed : IsStreams d key t b o
  pub grown : IsGrown (parent t) (child t v (count - 1)) es m b o
  pub queues : AreQueuesGrown (is_below (parent t) (child t v (count - 1))) m o
  pub steps : IsWithinSteps t m (is_below (parent t) (child t v (count - 1))) (λ k. 14 + 4 * k + 20 * kids_size t (child t v (count - 1)) (child_count t (child t v (count - 1))) * (1 + k)) s0 s1
  pub own : lists_of o v ≡ lists_of m v
  pub left : cell.left < part_known o v r (count - 1)
  pub in_row : count - 1 < length (products_of o v r)

pub child_asked : {R : Type 0} {d : ℕ} {key : R → KeyOf d 16} {t : List (NodeView R)} {es : List (Linked (Found R))} {n m : List (NodeStreamsView R)} {v r count : ℕ} {top : Entry R Cell} (a : IsRoomMade d key t es n m v r count top)
    (u : List (NodeView R)) (b : List (Linked (Found R))) (o : List (NodeStreamsView R)) (s0 s1 : ℕ) → u ≡ t → IsStreams d key u b o → IsGrown (parent t) (node_of es top.tag.right) es m b o → AreQueuesGrown (is_below (parent t) (node_of es top.tag.right)) m o
    → IsWithinSteps t m (is_below (parent t) (node_of es top.tag.right)) (λ k. 14 + 4 * k + 20 * kids_size t (node_of es top.tag.right) (child_count t (node_of es top.tag.right)) * (1 + k)) s0 s1 → IsChildAsked d key t es b m o v r count top.tag s0 s1
child_asked {R} {d} {key} {t} {es} {n} {m} {v} {r} {count} {top} a u b o s0 s1 same h grown queues steps =
    let g : IsGrown (parent t) (child t v (count - 1)) es m b o = subst (λ q. IsGrown (parent t) q es m b o) a.known.node grown in
    let own : lists_of o v ≡ lists_of m v = g.above v a.below in
    record {
      formed = subst (λ (z : List (NodeView R)). IsStreams d key z b o) same h;
      grown = g;
      queues = subst (λ q. AreQueuesGrown (is_below (parent t) q) m o) a.known.node queues;
      steps = subst (λ q. IsWithinSteps t m (is_below (parent t) q) (λ k. 14 + 4 * k + 20 * kids_size t q (child_count t q) * (1 + k)) s0 s1) a.known.node steps;
      own = own;
      left = omega (arith, a.known.left, ap (λ z. known_of z r (count - 1)) own);
      in_row = omega (arith, a.still_in_row, ap (λ z. length (get_or z.products r [])) own);
    }

module _ {R : Type 0} {d : ℕ} {key : R → KeyOf d 16} {t : List (NodeView R)} {es b : List (Linked (Found R))} {n m o : List (NodeStreamsView R)} {v r count : ℕ} {top : Entry R Cell} {s0 s1 : ℕ} (a : IsRoomMade d key t es n m v r count top)
    (k : IsChildAsked d key t es b m o v r count top.tag s0 s1) where
  pub asked_extended : IsExtended t v r count es n b o
  asked_extended = made_extended a b o (extended_child d key t a.before.tree v r (count - 1) a.node a.in_kids es b m o k.grown)

  pub asked_queues : AreQueuesGrown (λ w. below_kids t v count w + cond (nat_eq w v) 1 0) n o
  asked_queues = made_queues a o (queues_child d key t a.before.tree v r (count - 1) a.node a.in_kids m o k.queues)

  pub asked_within : IsWithinSteps t n (λ w. below_kids t v count w + cond (nat_eq w v) 1 0) (λ b. 20 * kids_size t v count * (1 + b)) s0 (s1 + 6 * count)
  asked_within =
      let none : IsExtended t v r (count - 1) b o b o = extended_none d key t v r (count - 1) b o in
      made_within a s0 s1
      (search_within d key t v r (count - 1) a.node a.row es b b m o o a.formed k.formed k.formed a.still_in_row k.grown none s0 s1 s1 s1 s1 k.queues k.steps (omega arith)
      (no_search d key t v r (count - 1) a.node a.row es b b m o o a.formed k.formed k.formed a.still_in_row k.grown none s1) (omega arith))

  pub asked_unstepped : AreUnstepped v n o
  asked_unstepped = unstepped_on v n m o (made_unstepped a) (unstepped_own v m o k.own)

  -- whether the cell has others beside it, by the first entries of the groups of the child's node
  pub asked_beside : (beside : Bool) → (IsTrue beside ↔ ((0 < count - 1) × HasHead (lists_of o (slice_index (lists_of o v).children (count - 1))) top.tag.right)) → 0 < count - 1
      → IsTrue beside ↔ (top.tag.right ≡ (stream_of o (child t v (count - 1)) (group_named t v r (count - 1))).head)
  asked_beside beside told later =
      let same : slice_index (lists_of o v).children (count - 1) ≡ child t v (count - 1) = k.formed.children v (count - 1) a.node a.in_kids in
      let own : group_of b top.tag.right ≡ group_named t v r (count - 1) = k.grown.store.groups top.tag.right a.known.right ∙ a.known.group in (
        λ y. named_head d key t b o k.formed v r (count - 1) a.node a.row a.in_kids top.tag.right own (subst (λ u. HasHead (lists_of o u) top.tag.right) same (told.0 y).1),
        λ e. told.1 (later, subst (λ u. HasHead (lists_of o u) top.tag.right) (sym same) (head_of_named d key t b o k.formed v r (count - 1) a.node a.row a.in_kids top.tag.right e)),
      )

-- # The search with the other children was made

pub record IsLeftSearched {R : Type 0} (d : ℕ) (key : R → KeyOf d 16) (t u : List (NodeView R)) (b e : List (Linked (Found R))) (m o z : List (NodeStreamsView R)) (v r count s2 s3 : ℕ) : Type 0 where
  pub searched : IsSearched d key t v r (count - 1) b o u e z s2 s3
  pub product : product_of z v r (count - 1) ≡ product_of m v r (count - 1)
  pub in_row : count - 1 < length (products_of z v r)
  pub head : (stream_of z (child t v (count - 1)) (group_named t v r (count - 1))).head ≡ (stream_of o (child t v (count - 1)) (group_named t v r (count - 1))).head

pub left_searched : {R : Type 0} {d : ℕ} {key : R → KeyOf d 16} {t u : List (NodeView R)} {es b e : List (Linked (Found R))} {n m o z : List (NodeStreamsView R)} {v r count : ℕ} {top : Entry R Cell} {s0 s1 s2 s3 : ℕ} (a : IsRoomMade d key t es n m v r count top)
    (k : IsChildAsked d key t es b m o v r count top.tag s0 s1) → IsSearched d key t v r (count - 1) b o u e z s2 s3 → IsLeftSearched d key t u b e m o z v r count s2 s3
left_searched {R} {d} {key} {t} {u} {es} {b} {e} {n} {m} {o} {z} {v} {r} {count} a k s = record {
  searched = s;
  product = product_kept d key t v r (count - 1) a.node a.row es b e m o z a.formed k.formed s.formed a.still_in_row k.grown s.extended;
  in_row = row_kept d key t v r (count - 1) a.node a.row es b e m o z a.formed k.formed s.formed a.still_in_row k.grown s.extended;
  head = search_head d key t v r (count - 1) a.node a.row es b e m o z a.formed k.formed s.formed a.still_in_row k.grown s.extended;
}

module _ {R : Type 0} {d : ℕ} {key : R → KeyOf d 16} {t u : List (NodeView R)} {es b e : List (Linked (Found R))} {n m o z : List (NodeStreamsView R)} {v r count : ℕ} {top : Entry R Cell} {s0 s1 s2 s3 : ℕ} (a : IsRoomMade d key t es n m v r count top)
    (k : IsChildAsked d key t es b m o v r count top.tag s0 s1) (l : IsLeftSearched d key t u b e m o z v r count s2 s3) where
  pub left_extended : IsExtended t v r count es n e z
  left_extended = made_extended a e z (search_extended d key t v r (count - 1) a.node a.row es b e m o z a.formed k.formed l.searched.formed a.still_in_row k.grown l.searched.extended)

  pub left_queues : AreQueuesGrown (λ w. below_kids t v count w + cond (nat_eq w v) 1 0) n z
  left_queues = made_queues a z (search_queues d key t v r (count - 1) a.node a.row es b e m o z a.formed k.formed l.searched.formed a.still_in_row k.grown l.searched.extended k.queues l.searched.queues)

  -- s4 are the steps at the end
  pub left_steps : (s4 : ℕ) → s2 ≤ s1 + 1 → s4 ≤ s3 + 9 + 3 * bit_length (length (product_of z v r (count - 1)).frontier + 1)
      → IsWithinSteps t n (λ w. below_kids t v count w + cond (nat_eq w v) 1 0) (λ b. 20 * kids_size t v count * (1 + b)) s0 (s4 + 6 * count)
  left_steps s4 read step =
      made_within a s0 s4
      (search_within d key t v r (count - 1) a.node a.row es b e m o z a.formed k.formed l.searched.formed a.still_in_row k.grown l.searched.extended s0 s1 s2 s3 s4 k.queues k.steps read l.searched.steps
      (subst (λ (p : ProductView R). s4 ≤ s3 + 9 + 3 * bit_length (length p.frontier + 1)) l.product step))

  -- # And the product has one solution more

  module _ (y : List (NodeStreamsView R)) (other : HasOtherProduct z v r (count - 1) y) where
    pub one_more_extended : IsExtended t v r count es n e y
    one_more_extended = made_extended a e y (stepped_extended d key t v r (count - 1) a.node a.row es b e m o z a.formed k.formed l.searched.formed a.still_in_row k.grown l.searched.extended y other)

    pub one_more_queues : length (product_of y v r (count - 1)).frontier ≤ length (product_of z v r (count - 1)).frontier + 1 → AreQueuesGrown (λ w. below_kids t v count w + cond (nat_eq w v) 1 0) n y
    one_more_queues longer =
        made_queues a y (stepped_queues d key t v r (count - 1) a.node a.row es b e m o z a.formed k.formed l.searched.formed a.still_in_row k.grown l.searched.extended y other k.queues l.searched.queues longer)
