-- The heads of the groups that a row names.
use Rattle.std.proofs.Common.{◌≡◌, ℕ, suc, ◌+◌, ◌<◌, None, List, [], ◌∷◌, ◌++◌, length, get_or, slice_index, sym, ap, ◌∙◌, subst, inl, inr, arith}
use Rattle.std.proofs.lemmas.Bool.{cases_lt}
use Rattle.take2_heap.specs.declared.entry.Entry.{Entry}
use Rattle.suffix_streams.specs.declared.cell.Cell.{Cell}
use Rattle.suffix_streams.specs.ProductView.{ProductView}
use Rattle.suffix_streams.proofs.State.{count_more}
use Rattle.stream_store.specs.declared.linked.Linked.{Linked}
use Rattle.tdp_core.specs.TreeView.{NodeView, child_count, group_named}
use Rattle.tdp_core.specs.WellFormed.{IsFormed}
use Rattle.tdp_model.specs.KeyTuple.{KeyOf, key_none}
use Rattle.suffix_streams.specs.declared.stream.Found.{Found}
use Rattle.suffix_streams.specs.NodeStreamsView.{NodeStreamsView, stream_at}
use Rattle.suffix_streams.specs.Rankings.{child, part_list}
use Rattle.suffix_streams.specs.TreeStreams.{lists_of, stream_of, IsHeaded, HasKey, IsFreshAt, AreFreshTo}
use Rattle.suffix_streams.proofs.Rankings.{kid}
use Rattle.suffix_streams.proofs.ListEnds.{any_default, at_end, at_more}

pub lists_at : {R : Type 0} (nodes : List (NodeStreamsView R)) (v : ℕ) (n : NodeStreamsView R) → n ≡ get_or nodes v n → v < length nodes → lists_of nodes v ≡ n
lists_at nodes v n e l = any_default nodes v (record { children = []; streams = []; products = [] }) n l ∙ sym e

pub children_count : {R : Type 0} (d : ℕ) (key : R → KeyOf d 16) (t : List (NodeView R)) (es : List (Linked (Found R))) (nodes : List (NodeStreamsView R)) (v r : ℕ) (n : NodeStreamsView R) → IsHeaded d key t es nodes v r → v < length t → n ≡ get_or nodes v n
    → length n.children ≡ child_count t v
children_count d key t es nodes v r n h l at = ap (λ z. length z.children) (sym (lists_at nodes v n at (omega (arith, h.all_nodes)))) ∙ h.all_children

-- the solution of the head that was read
pub head_key : {R : Type 0} (d : ℕ) (key : R → KeyOf d 16) (es : List (Linked (Found R))) (head id : ℕ) (f : Found R) (k : KeyOf d 16) → id ≡ head → ((x : Linked (Found R)) → (get_or es id x).value ≡ f) → HasKey d key es head k
    → key f.solution.rank ≡ k
head_key {R} d key es head id f k e at h =
    let x : Linked (Found R) = record { value = f; next = None } in
    let same : (get_or es head x).value ≡ f = ap (λ i. (get_or es i x).value) (sym e) ∙ at x in
    subst (λ (v : Found R). key v.solution.rank ≡ k) same (h x)

fresh_more : {R : Type 0} (d : ℕ) (key : R → KeyOf d 16) (t : List (NodeView R)) (nodes : List (NodeStreamsView R)) (v r n : ℕ) (ps : List (ProductView R)) (p : ProductView R)
    → AreFreshTo d key t nodes v r n ps → IsFreshAt d key t nodes v r n p → AreFreshTo d key t nodes v r (n + 1) (ps ++ (p ∷ []))
fresh_more d key t nodes v r n ps p h f = record {
  count = omega (arith, count_more ps p, h.count);
  first = λ c q l. elim (cases_lt c n) [
    | inl k ↦ subst (λ z. IsFreshAt d key t nodes v r c z) (sym (at_more ps p q c (omega (arith, h.count)))) (h.first c q k)
    | inr k ↦
        let e : length ps ≡ c = omega (arith, h.count) in
        let m : n ≡ c = omega arith in
        subst (λ z. IsFreshAt d key t nodes v r z (get_or (ps ++ (p ∷ [])) c q)) m (subst (λ z. IsFreshAt d key t nodes v r n z) (sym (ap (λ i. get_or (ps ++ (p ∷ [])) i q) (sym e) ∙ at_end ps p q)) f)
  ];
}

-- one more product is made
pub product_made : {R : Type 0} (d : ℕ) (key : R → KeyOf d 16) (t : List (NodeView R)) (nodes : List (NodeStreamsView R)) (v r n head : ℕ) (ps qs : List (ProductView R)) (p : ProductView R) (x : R)
    → AreFreshTo d key t nodes v r n ps → qs ≡ ps ++ (p ∷ []) → p.found ≡ record { left = 0; right = head } ∷ [] → p.frontier ≡ record { rank = x; tag = record { left = 0; right = head } } ∷ []
    → head ≡ (stream_of nodes (child t v n) (group_named t v r n)).head → key x ≡ get_or (part_list d key t v r (n + 1)) 0 (key_none d 16) → (suc n < child_count t v → p.ranks ≡ x ∷ []) → AreFreshTo d key t nodes v r (n + 1) qs
product_made {R} d key t nodes v r n head ps qs p x h e found frontier at k ranks =
    let same : n + 1 ≡ suc n = omega arith in
    let sum : Entry R Cell = record { rank = x; tag = record { left = 0; right = head } } in
    subst (λ z. AreFreshTo d key t nodes v r (n + 1) z) (sym e)
    (fresh_more d key t nodes v r n ps p h (sum, found, frontier, ap (λ (i : ℕ). (let c : Cell = record { left = 0; right = i } in c)) at, k ∙ ap (λ m. get_or (part_list d key t v r m) 0 (key_none d 16)) same, ranks))

module _ {R : Type 0} (d : ℕ) (key : R → KeyOf d 16) (t : List (NodeView R)) (formed : IsFormed d key t) (es : List (Linked (Found R))) (nodes : List (NodeStreamsView R)) (v r c : ℕ) (h : IsHeaded d key t es nodes v r)
    (l : v < length t) (kid_in : c < child_count t v) (n : NodeStreamsView R) (at : n ≡ get_or nodes v n) where
  pub kid_is : slice_index n.children c ≡ child t v c
  kid_is = ap (λ z. slice_index z.children c) (sym (lists_at nodes v n at (omega (arith, h.all_nodes)))) ∙ h.children c kid_in

  pub kid_within : (u : ℕ) → u ≡ slice_index n.children c → u < length nodes
  kid_within u e = omega (arith, e, kid_is, h.all_nodes, (kid d key t formed v c kid_in).within)

  pub stream_within : (u : ℕ) (m : NodeStreamsView R) (g : ℕ) → u ≡ slice_index n.children c → m ≡ get_or nodes u m → g ≡ group_named t v r c → g < length m.streams
  stream_within u m g e f k =
      let same : u ≡ child t v c = e ∙ kid_is in
      subst (λ z. z < length m.streams) (sym k) (subst (λ (z : NodeStreamsView R). group_named t v r c < length z.streams) (ap (λ w. lists_of nodes w) (sym same) ∙ lists_at nodes u m f (kid_within u e)) (h.streams c kid_in))

  pub head_is : (u : ℕ) (m : NodeStreamsView R) (g x : ℕ) → u ≡ slice_index n.children c → m ≡ get_or nodes u m → g ≡ group_named t v r c → x ≡ (stream_at m g).head → x ≡ (stream_of nodes (child t v c) (group_named t v r c)).head
  head_is u m g x e f k y =
      let same : u ≡ child t v c = e ∙ kid_is in
      y ∙ ap (λ z. (stream_at m z).head) k ∙ ap (λ z. (stream_at z (group_named t v r c)).head) (sym (lists_at nodes u m f (kid_within u e)) ∙ ap (λ w. lists_of nodes w) same)
