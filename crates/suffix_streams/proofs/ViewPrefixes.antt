-- Streams as prefixes of rankings, and their entries as members of them.
use Rattle.std.proofs.Common.{◌≡◌, ℕ, zero, suc, ◌+◌, ◌<◌, ◌≤◌, Some, None, List, [], ◌∷◌, length, take, get_or, refl, sym, ap, ◌∙◌, subst, arith}
use Rattle.std.proofs.lemmas.List.{length-map, get_or-map}
use Rattle.rankings.specs.Order.{IsRanking}
use Rattle.rankings.proofs.Unique.{ranking_unique}
use Rattle.stream_store.specs.declared.linked.Linked.{Linked}
use Rattle.tdp_model.specs.KeyTuple.{KeyOf, key_below, key_none}
use Rattle.tdp_model.proofs.KeyTuples.{tuple_keys}
use Rattle.take2_heap.specs.declared.entry.Entry.{Entry}
use Rattle.tdp_core.specs.TreeView.{NodeView, group_count}
use Rattle.suffix_streams.specs.Links.{IsLinkedAt}
use Rattle.suffix_streams.specs.declared.stream.Found.{Found}
use Rattle.suffix_streams.specs.declared.source.Source.{Source}
use Rattle.suffix_streams.specs.NodeStreamsView.{NodeStreamsView, stream_at}
use Rattle.suffix_streams.specs.Rankings.{GroupSolution, group_list}
use Rattle.suffix_streams.specs.Frontiers.{AreFirst}
use Rattle.suffix_streams.specs.TreeStreams.{node_list, group_list_of, node_of, group_of, place_of, next_of, stream, stream_of, IsStreams}
use Rattle.suffix_streams.proofs.BeginOwners.{owned_within}
use Rattle.suffix_streams.proofs.Heads.{lists_at}
use Rattle.suffix_streams.proofs.Rankings.{group_is_ranking}
use Rattle.suffix_streams.proofs.ViewEntries.{stream_length, entry_at}

module _ {R : Type 0} (d : ℕ) (key : R → KeyOf d 16) where
  get_taken : {K : Type 0} (n i : ℕ) (ks : List K) (k : K) → i < n → get_or (take n ks) i k ≡ get_or ks i k
  get_taken zero i ks k l = absurd (omega arith)
  get_taken (suc n) i [] k l = refl
  get_taken (suc n) zero (x ∷ ks) k l = refl
  get_taken (suc n) (suc i) (x ∷ ks) k l = get_taken n i ks k (omega arith)

  -- a member of a prefix
  pub prefix_at : (xs : List (Entry R Source)) (ks : List (KeyOf d 16)) (i : ℕ) (a : Entry R Source) → AreFirst d key xs ks → i < length xs
      → (i < length ks) × (key (get_or xs i a).rank ≡ get_or ks i (key_none d 16))
  prefix_at xs ks i a p l = (
    omega (arith, l, p.1),
    sym (get_or-map (λ x. key x.rank) xs i a (key_none d 16) l) ∙ ap (λ z. get_or z i (key_none d 16)) p.2 ∙ get_taken (length xs) i ks (key_none d 16) l,
  )

  module _ (t : List (NodeView R)) (es : List (Linked (Found R))) (nodes : List (NodeStreamsView R)) (s : IsStreams d key t es nodes) where
    -- each stream is a prefix of any ranking of its group
    pub all_prefixes : (q g : ℕ) (ks : List (KeyOf d 16)) → q < length t → g < group_count t q → IsRanking (KeyOf d 16) (key_below d 16) (GroupSolution d key t q g) ks → AreFirst d key (stream es q g) ks
    all_prefixes q g ks l lg r =
        subst (λ z. AreFirst d key (stream es q g) z) (ranking_unique (key_below d 16) (tuple_keys d 16).order (GroupSolution d key t q g) (group_list d key t q g) ks (group_is_ranking d key t q g l) r)
        (s.streams q g l lg).merge.prefix

    -- an entry is in its stream
    pub place_in_stream : (i : ℕ) → i < length es → place_of es i < length (stream es (node_of es i) (group_of es i))
    place_in_stream i l =
        omega (
          arith,
          owned_within (node_list es) (group_list_of es) i (node_of es i) (group_of es i) (length-map es (λ e. e.value.node) ∙ sym (length-map es (λ e. e.value.group))) (omega (arith, l, length-map es (λ e. e.value.node))) refl refl,
          stream_length es (node_of es i) (group_of es i),
        )

    -- the solution that an entry stands for
    pub entry_solution : (i : ℕ) (f : Found R) → i < length es → ((x : Linked (Found R)) → (get_or es i x).value ≡ f)
        → (place_of es i < length (group_list d key t (node_of es i) (group_of es i)))
        × (key f.solution.rank ≡ get_or (group_list d key t (node_of es i) (group_of es i)) (place_of es i) (key_none d 16))
    entry_solution i f l value =
        let o = s.owners i l in
        let x : Linked (Found R) = record { value = f; next = None } in
        let same : get_or (stream es (node_of es i) (group_of es i)) (place_of es i) f.solution ≡ f.solution = entry_at es i x f.solution l ∙ ap (λ v. v.solution) (value x) in
        let p = prefix_at (stream es (node_of es i) (group_of es i)) (group_list d key t (node_of es i) (group_of es i)) (place_of es i) f.solution (s.streams (node_of es i) (group_of es i) o.0 o.1).merge.prefix (place_in_stream i l) in
        (p.0, subst (λ a. key a.rank ≡ get_or (group_list d key t (node_of es i) (group_of es i)) (place_of es i) (key_none d 16)) same p.1)

    -- what is linked after an entry
    pub next_linked : (i n : ℕ) → i < length es → next_of es i ≡ Some n → (n < length es) × (node_of es n ≡ node_of es i) × (group_of es n ≡ group_of es i) × (place_of es n ≡ place_of es i + 1)
    next_linked i n l e =
        let h : IsLinkedAt (node_list es) (group_list_of es) i (Some n) = subst (λ z. IsLinkedAt (node_list es) (group_list_of es) i z) e (s.linked i (omega (arith, l, length-map es (λ e. e.value.node)))) in
        (omega (arith, h.0, length-map es (λ e. e.value.node)), h.1, h.2, h.3)

    -- it is a member of the ranking
    pub entry_inside : (i : ℕ) → i < length es → place_of es i < length (group_list d key t (node_of es i) (group_of es i))
    entry_inside i l =
        let o = s.owners i l in
        let p : length (stream es (node_of es i) (group_of es i)) ≤ length (group_list d key t (node_of es i) (group_of es i)) = (s.streams (node_of es i) (group_of es i) o.0 o.1).merge.prefix.1 in
        omega (arith, place_in_stream i l, p)

    -- the head of a stream
    pub head_at : (q g e : ℕ) (n : NodeStreamsView R) → q < length t → g < group_count t q → n ≡ get_or nodes q n → e ≡ (stream_at n g).head
        → (e < length es) × (node_of es e ≡ q) × (group_of es e ≡ g) × (place_of es e ≡ 0) × (place_of es e < length (group_list d key t (node_of es e) (group_of es e)))
    head_at q g e n l lg at is =
        let x = s.streams q g l lg in
        let same : e ≡ (stream_of nodes q g).head = is ∙ ap (λ (z : NodeStreamsView R). (stream_at z g).head) (sym (lists_at nodes q n at (omega (arith, l, s.all_nodes)))) in
        subst (λ z. (z < length es) × (node_of es z ≡ q) × (group_of es z ≡ g) × (place_of es z ≡ 0) × (place_of es z < length (group_list d key t (node_of es z) (group_of es z)))) (sym same)
        (x.head_in, x.head_node, x.head_group, x.head_place, entry_inside (stream_of nodes q g).head x.head_in)
