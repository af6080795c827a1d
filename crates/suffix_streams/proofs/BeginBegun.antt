-- Streams that have only their heads are streams of the tree.
use Rattle.std.proofs.Common.{◌≡◌, ℕ, ◌+◌, ◌<◌, ◌≤◌, cond, nat_lt, List, [], ◌∷◌, length, take, get_or, refl, sym, ap, ◌∙◌, subst, arith}
use Rattle.std.specs.List.{All}
use Rattle.std.proofs.lemmas.Bool.Decides.{nat_tests}
use Rattle.std.proofs.lemmas.List.{length-map}
use Rattle.std.proofs.lemmas.List.Elements.{All-nil, All-cons}
use Rattle.stream_store.specs.declared.linked.Linked.{Linked}
use Rattle.take2_heap.specs.declared.entry.Entry.{Entry}
use Rattle.take2_heap.specs.Order.{IsLeast}
use Rattle.tdp_model.specs.KeyTuple.{KeyOf, key_none}
use Rattle.tdp_model.specs.Product.{Pair, run_key}
use Rattle.tdp_core.specs.TreeView.{NodeView, rows, members, group_count, group_named, child_count}
use Rattle.tdp_core.specs.WellFormed.{IsFormed, IsTieFreeTree}
use Rattle.suffix_streams.specs.QueueEntries.{IsHeld, InRuns}
use Rattle.suffix_streams.specs.Links.{owned, place_in, IsLinkedAt}
use Rattle.suffix_streams.specs.declared.stream.Found.{Found}
use Rattle.suffix_streams.specs.declared.source.Source.{Source}
use Rattle.suffix_streams.specs.ProductView.{ProductView}
use Rattle.suffix_streams.specs.NodeStreamsView.{NodeStreamsView, known_of}
use Rattle.suffix_streams.specs.Rankings.{child, part_list, group_list}
use Rattle.suffix_streams.specs.Frontiers.{AreFirst, IsMerge}
use Rattle.suffix_streams.specs.TreeStreams.{node_list, group_list_of, node_of, group_of, place_of, stream, with_last, lists_of, stream_of, product_of, row_known, run_of, IsHeaded, HasOwnParts, IsStreamOf, IsStreams}
use Rattle.suffix_streams.specs.Beginnings.{IsBegunAt, IsBegun}
use Rattle.suffix_streams.proofs.FirstSums.{first_own}
use Rattle.suffix_streams.proofs.BeginFirsts.{group_head}
use Rattle.suffix_streams.proofs.Rankings.{kid, named_in, group_is_ranking, row_is_ranking}
use Rattle.suffix_streams.proofs.BeginQueues.{first_ahead}
use Rattle.suffix_streams.proofs.BeginOwners.{owned_within}
use Rattle.suffix_streams.proofs.ViewEntries.{stream_length, stream_at}
use Rattle.suffix_streams.proofs.ListEnds.{only_one}

module _ {R : Type 0} (d : ℕ) (key : R → KeyOf d 16) (t : List (NodeView R)) (es : List (Linked (Found R))) (nodes : List (NodeStreamsView R)) (b : IsBegun d key t es nodes) where
  nodes_groups : length (node_list es) ≡ length (group_list_of es)
  nodes_groups = length-map es (λ e. e.value.node) ∙ sym (length-map es (λ e. e.value.group))

  owned_one : (q h : ℕ) → h < length (lists_of nodes q).streams → owned (node_list es) (group_list_of es) q h ≡ 1
  owned_one q h l = b.counted q h ∙ one h (length (lists_of nodes q).streams) l
    where
      one : (x y : ℕ) → x < y → cond {A = ℕ} (nat_lt x y) 1 0 ≡ 1
      one x y l = grind (arith, nat_tests)

  place_first : (q h i : ℕ) → h < length (lists_of nodes q).streams → i < length es → node_of es i ≡ q → group_of es i ≡ h → owned (take i (node_list es)) (take i (group_list_of es)) q h ≡ 0
  place_first q h i l li n g =
      omega (arith, owned_within (node_list es) (group_list_of es) i q h nodes_groups (omega (arith, li, length-map es (λ e. e.value.node))) n g, owned_one q h l)

  head_first : (q h : ℕ) → q < length t → h < length (lists_of nodes q).streams → place_of es (stream_of nodes q h).head ≡ 0
  head_first q h l lh =
      let x = b.begun q h l lh in
      ap (λ z. owned (take (stream_of nodes q h).head (node_list es)) (take (stream_of nodes q h).head (group_list_of es)) z (group_of es (stream_of nodes q h).head)) x.node
      ∙ ap (λ z. owned (take (stream_of nodes q h).head (node_list es)) (take (stream_of nodes q h).head (group_list_of es)) q z) x.group
      ∙ place_first q h (stream_of nodes q h).head lh x.head_in x.node x.group

module _ {R : Type 0} (d : ℕ) (key : R → KeyOf d 16) (t : List (NodeView R)) (formed : IsFormed d key t) (es : List (Linked (Found R))) (nodes : List (NodeStreamsView R)) (b : IsBegun d key t es nodes) where
  -- if the streams of all later nodes are there, the groups that a row names have heads
  pub headed_begun : (v r : ℕ) → v < length t → r < rows t v → ((q : ℕ) → v < q → q < length t → length (lists_of nodes q).streams ≡ group_count t q) → IsHeaded d key t es nodes v r
  headed_begun v r l row behind = record {
    all_nodes = b.all_nodes;
    all_children = (b.children v l).count;
    children = λ c k. (b.children v l).each c k;
    streams = λ c k. there c k;
    heads = λ c k. (at c k).head_in;
    owners = λ c k. ((at c k).node, (at c k).group);
    places = λ c k. head_first d key t es nodes b (child t v c) (group_named t v r c) (inside c k) (there c k);
    keys = λ c k. (at c k).first;
  }
    where
      inside : (c : ℕ) → c < child_count t v → child t v c < length t
      inside c k = (kid d key t formed v c k).within

      there : (c : ℕ) → c < child_count t v → group_named t v r c < length (lists_of nodes (child t v c)).streams
      there c k =
          let x = kid d key t formed v c k in
          omega (arith, named_in d key t formed v r c row k, behind (child t v c) (omega (arith, formed.shaped.parents_first (child t v c) x.some x.within, x.parent_is)) x.within)

      at : (c : ℕ) (k : c < child_count t v) → IsBegunAt d key t es nodes (child t v c) (group_named t v r c)
      at c k = b.begun (child t v c) (group_named t v r c) (inside c k) (there c k)

module _ {R : Type 0} (d : ℕ) (key : R → KeyOf d 16) (t : List (NodeView R)) (formed : IsFormed d key t) (free : IsTieFreeTree t) (es : List (Linked (Found R))) (nodes : List (NodeStreamsView R)) (b : IsBegun d key t es nodes) where
  -- the stream is its head
  stream_is : (q h : ℕ) (a : Entry R Source) → q < length t → h < length (lists_of nodes q).streams → (e : Linked (Found R)) → a ≡ (get_or es (stream_of nodes q h).head e).value.solution → stream es q h ≡ a ∷ []
  stream_is q h a l lh e s =
      let x = b.begun q h l lh in
      only_one (stream es q h) a (stream_length es q h ∙ owned_one d key t es nodes b q h lh)
      (ap (λ p. get_or (stream es q h) p a) (sym (place_first d key t es nodes b q h (stream_of nodes q h).head lh x.head_in x.node x.group))
      ∙ stream_at es q h (stream_of nodes q h).head e a x.head_in x.node x.group ∙ sym s)

  one_taken : (ks : List (KeyOf d 16)) (k n : KeyOf d 16) → 0 < length ks → get_or ks 0 n ≡ k → k ∷ [] ≡ take 1 ks
  one_taken [] k n l e = absurd (omega arith)
  one_taken (x ∷ ks) k n l e = ap (λ z. z ∷ []) (sym e)

  -- the first solution begins the ranking
  prefix_one : (q h : ℕ) (a : Entry R Source) → q < length t → h < group_count t q → key a.rank ≡ get_or (group_list d key t q h) 0 (key_none d 16) → AreFirst d key (a ∷ []) (group_list d key t q h)
  prefix_one q h a l lh k =
      let s = group_head d key t formed q h (group_list d key t q h) l (formed.inhabited q h l lh) (group_is_ranking d key t q h l) in
      (omega arith, s.0, one_taken (group_list d key t q h) (key a.rank) (key_none d 16) s.0 (sym k))

  row_one : (q r : ℕ) → row_known nodes q r ≡ 1
  row_one q r = ap (λ (ps : List (ProductView R)). known_of (lists_of nodes q) r (length ps)) (b.no_products q r)

  abbrev Known : ℕ → ℕ → Entry R Source → Type 0
  Known q h e = e.tag.place < row_known nodes q (get_or (members t q h) e.tag.member 0)

  abbrev Parts : ℕ → ℕ → Entry R Source → Type 0
  Parts q h e = HasOwnParts d key t es nodes q h e.tag

  abbrev Held : ℕ → ℕ → Entry R Source → Type 0
  Held q h = IsHeld d key (run_key (key_none d 16) (λ i. part_list d key t q (get_or (members t q h) i 0) (child_count t q)))
      (InRuns d (length (members t q h)) (λ i. part_list d key t q (get_or (members t q h) i 0) (child_count t q))) run_of

  only : (P : Entry R Source → Type 0) (a : Entry R Source) → P a → All P (a ∷ [])
  only P a p = All-cons P a [] p (All-nil P)

  stream_begun : (q h : ℕ) → q < length t → h < group_count t q → h < length (lists_of nodes q).streams → IsStreamOf d key t es nodes q h
  stream_begun q h l lg lh =
      let x = b.begun q h l lh in
      let e : Linked (Found R) = an_entry es (stream_of nodes q h).head x.head_in in
      let a : Entry R Source = (get_or es (stream_of nodes q h).head e).value.solution in
      let whole : stream es q h ≡ a ∷ [] = stream_is q h a l lh e refl in
      let first = x.only e in
      let ahead = first_ahead d key t formed free run_of q h a (group_list d key t q h) (λ i. part_list d key t q (get_or (members t q h) i 0) (child_count t q)) l (formed.inhabited q h l lg) first.0 first.1
      (group_is_ranking d key t q h l) (λ i li. row_is_ranking d key t formed q (get_or (members t q h) i 0) l) in
      let known : Known q h a = omega (arith, ap (λ (p : Pair). p.right) first.0, row_one q (get_or (members t q h) a.tag.member 0)) in
      let parts : Parts q h a = first_own d key t formed free es nodes q h 0 a.tag l (formed.inhabited q h l lg) first.0 first.2 first.3 first.4 (λ c few. record { found = λ some. absurd (omega (arith, some, ap length (b.no_products q (get_or (members t q h) 0 0)))); first = λ none. refl }) in
      record {
        head_in = x.head_in;
        head_node = x.node;
        head_group = x.group;
        head_place = head_first d key t es nodes b q h l lh;
        few = omega (arith, ap length x.empty, formed.inhabited q h l lg);
        least = λ y is. subst (λ z. IsLeast d key y z) (sym x.empty) tt;
        known = λ many. subst (All (Known q h)) (sym x.empty) (All-nil (Known q h));
        found_known = λ many. subst (All (Known q h)) (sym whole) (only (Known q h) a known);
        parts = subst (All (Parts q h)) (sym x.empty) (All-nil (Parts q h));
        found_parts = subst (All (Parts q h)) (sym whole) (only (Parts q h) a parts);
        merge = subst (λ z. IsMerge d key run_of (length (members t q h)) (λ i. part_list d key t q (get_or (members t q h) i 0) (child_count t q)) (group_list d key t q h) z (with_last z (stream_of nodes q h).queue)) (sym whole) (subst (λ z. IsMerge d key run_of (length (members t q h)) (λ i. part_list d key t q (get_or (members t q h) i 0) (child_count t q)) (group_list d key t q h) (a ∷ []) (a ∷ z)) (sym x.empty)
            (record { prefix = prefix_one q h a l lg (x.first e); kept = ahead.0; held = ahead.0; ahead = ahead.1 }));
      }
    where
      an_entry : (es : List (Linked (Found R))) (i : ℕ) → i < length es → Linked (Found R)
      an_entry [] i l = absurd (omega arith)
      an_entry (e ∷ es) i l = e

  -- If each group has its stream, these are the streams of the tree.
  pub streams_begun : ((v : ℕ) → v < length t → length (lists_of nodes v).streams ≡ group_count t v) → IsStreams d key t es nodes
  streams_begun all = record {
    tree = formed;
    all_nodes = b.all_nodes;
    all_children = λ v l. (b.children v l).count;
    children = λ v c l lc. (b.children v l).each c lc;
    all_streams = all;
    all_rows = b.all_rows;
    whole_rows = λ v r l lr lc. absurd (omega (arith, lc, ap length (b.no_products v r)));
    owners = λ i l. let o = b.owners i l in (o.0, omega (arith, o.1, all (node_of es i) o.0));
    linked = λ i l.
        let li : i < length es = omega (arith, l, length-map es (λ e. e.value.node)) in
        let o = b.owners i li in
        subst (λ z. IsLinkedAt (node_list es) (group_list_of es) i z) (sym (b.no_links i))
        (let p : place_in (node_list es) (group_list_of es) i ≡ 0 = place_first d key t es nodes b (node_of es i) (group_of es i) i o.1 li refl refl in
        omega (arith, p, owned_one d key t es nodes b (node_of es i) (group_of es i) o.1));
    streams = λ q g l lg. stream_begun q g l lg (omega (arith, lg, all q l));
    products = λ v r c l lr lc. absurd (omega (arith, lc, ap length (b.no_products v r)));
  }

  -- no queue of a product has more than one entry
  pub few_begun : (v r c : ℕ) → length (product_of nodes v r c).frontier ≤ 0 + 1
  few_begun v r c =
      omega (arith, ap (λ (ps : List (ProductView R)). length (get_or ps c (record { found = []; ranks = []; frontier = []; room = 0; frontier_room = 0 })).frontier) (b.no_products v r))
