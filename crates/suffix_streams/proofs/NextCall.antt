-- The facts of a call that asks for the entry after another one, after each of its own calls.
use Rattle.std.proofs.Common.{◌≡◌, ◌≢◌, ℕ, ◌+◌, ◌*◌, ◌<◌, ◌≤◌, cond, nat_eq, List, [], length, get_or, sym, ap, ◌∙◌, subst, arith}
use Rattle.stream_store.specs.declared.linked.Linked.{Linked}
use Rattle.rank_key.specs.Bits.{bit_length}
use Rattle.tdp_core.specs.TreeView.{NodeView, parent, number, members, child_count, group_count}
use Rattle.tdp_model.specs.Below.{is_below}
use Rattle.tdp_model.specs.KeyTuple.{KeyOf}
use Rattle.suffix_streams.specs.declared.stream.Found.{Found}
use Rattle.suffix_streams.specs.StreamView.{StreamView}
use Rattle.suffix_streams.specs.NodeStreamsView.{NodeStreamsView}
use Rattle.suffix_streams.specs.TreeStreams.{lists_of, products_of, stream_of, node_of, group_of, node_size, IsStreams}
use Rattle.suffix_streams.specs.Growing.{IsStoreGrown, IsGrown, IsExtended, AreQueuesGrown, IsWithinSteps, below_kids, kids_size}
use Rattle.suffix_streams.specs.LastEntries.{IsRowTop}
use Rattle.suffix_streams.proofs.PartRows.{IsTopKnown, entry_known}
use Rattle.suffix_streams.proofs.Searching.{grown_of, queues_of, grown_more, queues_more}
use Rattle.suffix_streams.proofs.SearchCalls.{owner_is, owner_in, opened_within, call_within}

-- # The entry was read

pub record IsOwned {R : Type 0} (d : ℕ) (key : R → KeyOf d 16) (t : List (NodeView R)) (es : List (Linked (Found R))) (n : List (NodeStreamsView R)) (entry : ℕ) (f : Found R) : Type 0 where
  pub formed : IsStreams d key t es n
  pub within : entry < length es
  pub value : (x : Linked (Found R)) → (get_or es entry x).value ≡ f
  pub node_is : node_of es entry ≡ f.node
  pub group_is : group_of es entry ≡ f.group
  pub node : f.node < length t
  pub group : f.group < group_count t f.node
  pub in_nodes : f.node < length n
  pub known : IsTopKnown d key t es n f.node f.group f.solution

pub owned : {R : Type 0} (d : ℕ) (key : R → KeyOf d 16) (t : List (NodeView R)) (es : List (Linked (Found R))) (n : List (NodeStreamsView R)) (entry : ℕ) (f : Found R) → IsStreams d key t es n → entry < length es
    → ((x : Linked (Found R)) → (get_or es entry x).value ≡ f) → IsOwned d key t es n entry f
owned d key t es n entry f h within value =
    let is = owner_is es entry f within value in
    let ins = owner_in d key t es n entry f h within value in
    record { formed = h; within = within; value = value; node_is = is.0; group_is = is.1; node = ins.0; group = ins.1; in_nodes = omega (arith, ins.0, h.all_nodes); known = entry_known d key t es n h entry f within value }

-- # Its row was opened

pub record IsRowOpen {R : Type 0} (d : ℕ) (key : R → KeyOf d 16) (t : List (NodeView R)) (es : List (Linked (Found R))) (n m : List (NodeStreamsView R)) (f : Found R) (s0 s1 : ℕ) : Type 0 where
  pub formed : IsStreams d key t es m
  pub above : (w : ℕ) → w ≢ f.node → lists_of m w ≡ lists_of n w
  pub queues : AreQueuesGrown (λ w. 0) n m
  pub steps : s1 ≤ s0 + 3 + 3 * child_count t f.node
  pub in_nodes : f.node < length m
  pub row_top : IsRowTop d key t es m f.node f.group f.solution

pub row_open : {R : Type 0} {d : ℕ} {key : R → KeyOf d 16} {t : List (NodeView R)} {es : List (Linked (Found R))} {n : List (NodeStreamsView R)} {entry : ℕ} {f : Found R} (o : IsOwned d key t es n entry f)
    (u : List (NodeView R)) (b : List (Linked (Found R))) (m : List (NodeStreamsView R)) (s0 s1 : ℕ) → u ≡ t → b ≡ es → IsStreams d key u b m
    → ((w : ℕ) → w ≢ f.node → lists_of m w ≡ lists_of n w) → AreQueuesGrown (λ w. 0) n m → s1 ≤ s0 + 3 + 3 * child_count t f.node
    → (child_count t f.node ≢ 1 → length (products_of m f.node f.solution.tag.row) ≡ child_count t f.node) → IsRowOpen d key t es n m f s0 s1
row_open {R} {d} {key} {t} {es} {n} {entry} {f} o u b m s0 s1 same_tree same_entries h above queues steps opened =
    let h1 : IsStreams d key t es m = subst (λ (z : List (Linked (Found R))). IsStreams d key t z m) same_entries (subst (λ (z : List (NodeView R)). IsStreams d key z b m) same_tree h) in
    let known = entry_known d key t es m h1 entry f o.within o.value in
    record {
      formed = h1;
      above = above;
      queues = queues;
      steps = steps;
      in_nodes = omega (arith, o.node, h1.all_nodes);
      row_top = record {
        node = o.node;
        row = known.row;
        member = known.parts.0;
        number = known.parts.1 ∙ ap (number t f.node) (sym known.parts.0);
        parts = known.parts;
        within = known.within;
        rank = known.rank;
        known = known.known;
        opened = opened;
      };
    }

-- # The next solution of the row was searched for

pub record IsRowSearched {R : Type 0} (d : ℕ) (key : R → KeyOf d 16) (t : List (NodeView R)) (es b : List (Linked (Found R))) (m o : List (NodeStreamsView R)) (v row s1 s2 : ℕ) : Type 0 where
  pub formed : IsStreams d key t b o
  pub extended : IsExtended t v row (child_count t v) es m b o
  pub queues : AreQueuesGrown (λ w. below_kids t v (child_count t v) w + cond (nat_eq w v) 1 0) m o
  pub steps : IsWithinSteps t m (λ w. below_kids t v (child_count t v) w + cond (nat_eq w v) 1 0) (λ k. 20 * kids_size t v (child_count t v) * (1 + k)) s1 (s2 + 3 * child_count t v)

pub row_searched : {R : Type 0} (d : ℕ) (key : R → KeyOf d 16) (t u u2 : List (NodeView R)) (es es1 b : List (Linked (Found R))) (m o : List (NodeStreamsView R)) (v row s1 s2 : ℕ) → u ≡ t → es1 ≡ es → u2 ≡ u → IsStreams d key u2 b o → IsExtended u v row (child_count u v) es1 m b o
    → AreQueuesGrown (λ w. below_kids u v (child_count u v) w + cond (nat_eq w v) 1 0) m o → IsWithinSteps u m (λ w. below_kids u v (child_count u v) w + cond (nat_eq w v) 1 0) (λ k. 20 * kids_size u v (child_count u v) * (1 + k)) s1 (s2 + 3 * child_count u v)
    → IsRowSearched d key t es b m o v row s1 s2
row_searched {R} d key t u u2 es es1 b m o v row s1 s2 same_tree same_entries same2 h x q w = record {
  formed = subst (λ (z : List (NodeView R)). IsStreams d key z b o) (same2 ∙ same_tree) h;
  extended = subst (λ (z : List (Linked (Found R))). IsExtended t v row (child_count t v) z m b o) same_entries (subst (λ (z : List (NodeView R)). IsExtended z v row (child_count z v) es1 m b o) same_tree x);
  queues = subst (λ (z : List (NodeView R)). AreQueuesGrown (λ w. below_kids z v (child_count z v) w + cond (nat_eq w v) 1 0) m o) same_tree q;
  steps = subst (λ (z : List (NodeView R)). IsWithinSteps z m (λ w. below_kids z v (child_count z v) w + cond (nat_eq w v) 1 0) (λ k. 20 * kids_size z v (child_count z v) * (1 + k)) s1 (s2 + 3 * child_count z v)) same_tree w;
}

module _ {R : Type 0} {d : ℕ} {key : R → KeyOf d 16} {t : List (NodeView R)} {es : List (Linked (Found R))} {n : List (NodeStreamsView R)} {entry : ℕ} {f : Found R} (o : IsOwned d key t es n entry f) (s0 s1 : ℕ) where
  -- the steps of a call that only opens a row
  pub only_opened : s1 ≤ s0 + 3 + 3 * child_count t f.node
      → IsWithinSteps t n (is_below (parent t) (node_of es entry)) (λ k. 14 + 4 * k + 20 * kids_size t (node_of es entry) (child_count t (node_of es entry)) * (1 + k)) s0 s1
  only_opened steps =
      subst (λ v. IsWithinSteps t n (is_below (parent t) v) (λ k. 14 + 4 * k + 20 * kids_size t v (child_count t v) * (1 + k)) s0 s1) (sym o.node_is)
      (opened_within d key t o.formed.tree n f.node s0 s1 steps)

module _ {R : Type 0} {d : ℕ} {key : R → KeyOf d 16} {t : List (NodeView R)} {es b : List (Linked (Found R))} {n m z : List (NodeStreamsView R)} {entry : ℕ} {f : Found R} {row s0 s1 s2 : ℕ} (o : IsOwned d key t es n entry f)
    (a : IsRowOpen d key t es n m f s0 s1) (s : IsRowSearched d key t es b m z f.node row s1 s2) where
  pub searched_grown : IsGrown (parent t) (node_of es entry) es n b z
  searched_grown = subst (λ v. IsGrown (parent t) v es n b z) (sym o.node_is) (grown_of d key t f.node row (child_count t f.node) o.node (omega arith) es b n m z s.formed a.above s.extended)

  pub searched_queues : AreQueuesGrown (is_below (parent t) (node_of es entry)) n z
  searched_queues =
      subst (λ v. AreQueuesGrown (is_below (parent t) v) n z) (sym o.node_is)
      (queues_of d key t f.node row (child_count t f.node) o.node (omega arith) es b n m z s.formed a.above s.extended a.queues s.queues)

  -- s3 are the steps at the end
  pub searched_steps : (s3 : ℕ) → ((k : ℕ) → ((v g : ℕ) → bit_length (length (members t v g) + 1) ≤ k) → s3 ≤ s2 + 11 + 4 * k)
      → IsWithinSteps t n (is_below (parent t) (node_of es entry)) (λ k. 14 + 4 * k + 20 * kids_size t (node_of es entry) (child_count t (node_of es entry)) * (1 + k)) s0 s3
  searched_steps s3 last =
      subst (λ v. IsWithinSteps t n (is_below (parent t) v) (λ k. 14 + 4 * k + 20 * kids_size t v (child_count t v) * (1 + k)) s0 s3) (sym o.node_is)
      (call_within d key t o.formed.tree n f.node s0 s1 s2 s3 m a.formed.all_nodes a.queues a.steps s.steps last)

  -- the search leaves the stream as it was after the row was opened
  pub searched_stream : stream_of z f.node f.group ≡ stream_of m f.node f.group
  searched_stream = ap (λ (x : List (StreamView R)). get_or x f.group (record { head = 0; queue = []; room = 0 })) s.extended.streams

  -- # And the entry got its next one

  module _ (e : List (Linked (Found R))) (y : List (NodeStreamsView R)) (h : IsStreams d key t e y) (store : IsStoreGrown f.node b e) (same : (w : ℕ) → w ≢ f.node → lists_of y w ≡ lists_of z w) (products : (lists_of y f.node).products ≡ (lists_of z f.node).products)
      (growth : (w : ℕ) → node_size e w ≤ node_size b w + cond (nat_eq w f.node) 1 0) where
    pub linked_grown : IsGrown (parent t) (node_of es entry) es n e y
    linked_grown =
        subst (λ v. IsGrown (parent t) v es n e y) (sym o.node_is)
        (grown_more d key t f.node row (child_count t f.node) o.node (omega arith) es b n m z s.formed a.above s.extended e y h store same products growth)

    pub linked_queues : AreQueuesGrown (is_below (parent t) (node_of es entry)) n y
    linked_queues =
        subst (λ v. AreQueuesGrown (is_below (parent t) v) n y) (sym o.node_is)
        (queues_more d key t f.node row (child_count t f.node) o.node (omega arith) es b n m z s.formed a.above s.extended e y h store same products growth a.queues s.queues)
