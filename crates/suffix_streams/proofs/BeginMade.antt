-- The streams of a tree, as they are made one after another.
use Rattle.std.proofs.Common.{◌≡◌, ◌≢◌, ℕ, ◌+◌, ◌<◌, ◌≤◌, None, cond, nat_lt, List, [], ◌∷◌, ◌++◌, length, get_or, refl, sym, ap, ◌∙◌, subst, inl, inr, arith}
use Rattle.std.proofs.lemmas.Bool.{cases_lt, cases_eq}
use Rattle.std.proofs.lemmas.Bool.Decides.{nat_tests}
use Rattle.std.proofs.lemmas.List.{get_or_past, length-map}
use Rattle.stream_store.specs.declared.linked.Linked.{Linked}
use Rattle.tdp_model.specs.KeyTuple.{KeyOf, key_none}
use Rattle.tdp_core.specs.TreeView.{NodeView, group_count}
use Rattle.suffix_streams.specs.Links.{owned, place_in}
use Rattle.suffix_streams.proofs.Linking.{place_kept}
use Rattle.suffix_streams.specs.declared.cell.Cell.{Cell}
use Rattle.suffix_streams.specs.Firsts.{IsFirstCell, IsFirstOf}
use Rattle.suffix_streams.specs.declared.stream.Found.{Found}
use Rattle.suffix_streams.specs.StreamView.{StreamView}
use Rattle.suffix_streams.specs.NodeStreamsView.{NodeStreamsView}
use Rattle.suffix_streams.specs.Rankings.{group_list}
use Rattle.suffix_streams.specs.declared.source.Source.{Source}
use Rattle.take2_heap.specs.declared.entry.Entry.{Entry}
use Rattle.suffix_streams.specs.TreeStreams.{node_list, group_list_of, next_list, node_of, group_of, place_of, next_of, lists_of, stream_of}
use Rattle.suffix_streams.proofs.BeginOwners.{owned_by, owned_else}
use Rattle.suffix_streams.specs.Beginnings.{HasFirst, AreChildren, IsEmptyNode, IsBegunAt, IsBegun}
use Rattle.suffix_streams.proofs.ListEnds.{at_more, get_behind, length_behind, map_more}

-- the lists of a node, with one more stream
abbrev pub with_stream : {R : Type 0} → NodeStreamsView R → StreamView R → NodeStreamsView R
with_stream n s = record { children = n.children; streams = n.streams ++ (s ∷ []); products = n.products }

module _ {R : Type 0} (d : ℕ) (key : R → KeyOf d 16) (t : List (NodeView R)) where
  -- no stream is there yet
  pub begun_none : (nodes : List (NodeStreamsView R)) → length nodes ≡ length t → ((v : ℕ) → v < length t → IsEmptyNode t v (lists_of nodes v)) → IsBegun d key t [] nodes
  unfolding owned
  begun_none nodes n empty = record {
    all_nodes = n;
    children = λ v l. (empty v l).children;
    all_rows = λ v l. (empty v l).all_rows;
    no_products = λ v r. anywhere (λ n. get_or n.products r [] ≡ []) (λ v l. (empty v l).no_products r) refl v;
    few_streams = λ v l. omega (arith, none v);
    no_links = λ i. refl;
    owners = λ i l. absurd (omega arith);
    counted = λ q h. sym (not_there h (length (lists_of nodes q).streams) (none q));
    begun = λ q h l lh. absurd (omega (arith, lh, none q));
  }
    where
      not_there : (x y : ℕ) → y ≡ 0 → cond {A = ℕ} (nat_lt x y) 1 0 ≡ 0
      not_there x y e = grind (arith, nat_tests)

      -- the same past the last node
      anywhere : (P : NodeStreamsView R → Type 0) → ((v : ℕ) → v < length t → P (lists_of nodes v)) → P (record { children = []; streams = []; products = [] }) → (v : ℕ) → P (lists_of nodes v)
      anywhere P f e v = elim (cases_lt v (length t)) [
        | inl l ↦ f v l
        | inr g ↦ subst P (sym (get_or_past nodes v (record { children = []; streams = []; products = [] }) (omega (arith, g, n)))) e
      ]

      none : (v : ℕ) → length (lists_of nodes v).streams ≡ 0
      none = anywhere (λ n. length n.streams ≡ 0) (λ v l. ap length (empty v l).no_streams) refl

module _ {R : Type 0} (d : ℕ) (key : R → KeyOf d 16) (t : List (NodeView R)) (es : List (Linked (Found R))) (nodes nodes' : List (NodeStreamsView R)) (v : ℕ) (e : Linked (Found R)) (s : StreamView R)
    (same_nodes : length nodes' ≡ length nodes)
    (other : (q : ℕ) → q ≢ v → lists_of nodes' q ≡ lists_of nodes q)
    (own : lists_of nodes' v ≡ with_stream (lists_of nodes v) s) where
  -- what holds for a node's lists, whichever node it is
  at_node : (P : ℕ → NodeStreamsView R → Type 0) → ((q : ℕ) → q ≢ v → P q (lists_of nodes q)) → P v (with_stream (lists_of nodes v) s) → (q : ℕ) → P q (lists_of nodes' q)
  at_node P f g q = elim (cases_eq q v) [
    | inl same ↦ subst (λ z. P z (lists_of nodes' z)) (sym same) (subst (λ z. P v z) (sym own) g)
    | inr n ↦ subst (λ z. P q z) (sym (other q n)) (f q n)
  ]

  children_kept : (q : ℕ) → (lists_of nodes' q).children ≡ (lists_of nodes q).children
  children_kept = at_node (λ q n. n.children ≡ (lists_of nodes q).children) (λ q n. refl) refl

  products_kept : (q : ℕ) → (lists_of nodes' q).products ≡ (lists_of nodes q).products
  products_kept = at_node (λ q n. n.products ≡ (lists_of nodes q).products) (λ q n. refl) refl

  streams_rise : (q : ℕ) → length (lists_of nodes q).streams ≤ length (lists_of nodes' q).streams
  streams_rise = at_node (λ q n. length (lists_of nodes q).streams ≤ length n.streams) (λ q n. omega arith) (omega (arith, length_behind (lists_of nodes v).streams s))

  stream_kept : (q h : ℕ) → h < length (lists_of nodes q).streams → stream_of nodes' q h ≡ stream_of nodes q h
  stream_kept q h l = at_node (λ q n. h < length (lists_of nodes q).streams → get_or n.streams h (record { head = 0; queue = []; room = 0 }) ≡ stream_of nodes q h)
      (λ q n l. refl) (λ l. at_more (lists_of nodes v).streams s (record { head = 0; queue = []; room = 0 }) h l) q l

  lists_behind : length (node_list es) ≡ length (group_list_of es)
  lists_behind = length-map es (λ e. e.value.node) ∙ sym (length-map es (λ e. e.value.group))

  node_before : (i : ℕ) → i < length es → node_of (es ++ (e ∷ [])) i ≡ node_of es i
  node_before i l = ap (λ z. get_or z i 0) (map_more (λ e. e.value.node) es e) ∙ at_more (node_list es) e.value.node 0 i (omega (arith, l, length-map es (λ e. e.value.node)))

  group_before : (i : ℕ) → i < length es → group_of (es ++ (e ∷ [])) i ≡ group_of es i
  group_before i l = ap (λ z. get_or z i 0) (map_more (λ e. e.value.group) es e) ∙ at_more (group_list_of es) e.value.group 0 i (omega (arith, l, length-map es (λ e. e.value.group)))

  place_before : (i : ℕ) → i < length es → place_of (es ++ (e ∷ [])) i ≡ place_of es i
  place_before i l =
      ap (λ z. place_in z (group_list_of (es ++ (e ∷ []))) i) (map_more (λ e. e.value.node) es e) ∙ ap (λ z. place_in (node_list es ++ (e.value.node ∷ [])) z i) (map_more (λ e. e.value.group) es e)
      ∙ place_kept (node_list es) (group_list_of es) lists_behind e.value.node e.value.group i (omega (arith, l, length-map es (λ e. e.value.node)))

  -- a first solution keeps its parts
  first_still : (q g : ℕ) (x : Entry R Source) → IsFirstOf d key t es q g 0 x → IsFirstOf d key t (es ++ (e ∷ [])) q g 0 x
  first_still q g x f = (f.0, f.1, λ c kids. still (f.2 c kids), f.3, f.4)
    where
      still : {r c : ℕ} {cell : Cell} → IsFirstCell t es q r c cell → IsFirstCell t (es ++ (e ∷ [])) q r c cell
      still {r} {c} {cell} f = record {
        left = f.left;
        right = omega (arith, f.right, length_behind es e);
        node = node_before cell.right f.right ∙ f.node;
        group = group_before cell.right f.right ∙ f.group;
        place = place_before cell.right f.right ∙ f.place;
      }

  first_before : (q g i : ℕ) → i < length es → HasFirst d key t es q g i → HasFirst d key t (es ++ (e ∷ [])) q g i
  first_before q g i l x y = subst (λ (z : Linked (Found R)). IsFirstOf d key t (es ++ (e ∷ [])) q g 0 z.value.solution) (sym (at_more es e y i l)) (first_still q g (get_or es i y).value.solution (x y))

  node_behind : (i : ℕ) → i ≡ length es → node_of (es ++ (e ∷ [])) i ≡ e.value.node
  node_behind i l = ap (λ z. get_or z i 0) (map_more (λ e. e.value.node) es e) ∙ get_behind (node_list es) e.value.node i 0 (omega (arith, l, length-map es (λ e. e.value.node)))

  group_behind : (i : ℕ) → i ≡ length es → group_of (es ++ (e ∷ [])) i ≡ e.value.group
  group_behind i l = ap (λ z. get_or z i 0) (map_more (λ e. e.value.group) es e) ∙ get_behind (group_list_of es) e.value.group i 0 (omega (arith, l, length-map es (λ e. e.value.group)))

  next_behind : e.next ≡ None → ((i : ℕ) → next_of es i ≡ None) → (i : ℕ) → next_of (es ++ (e ∷ [])) i ≡ None
  next_behind none all i = ap (λ z. get_or z i None) (map_more (λ e. e.next) es e) ∙ elim (cases_lt i (length es)) [
    | inl l ↦ at_more (next_list es) e.next None i (omega (arith, l, length-map es (λ e. e.next))) ∙ all i
    | inr g ↦ elim (cases_eq i (length es)) [
      | inl at ↦ get_behind (next_list es) e.next i None (omega (arith, at, length-map es (λ e. e.next))) ∙ none
      | inr n ↦ get_or_past (next_list es ++ (e.next ∷ [])) i None (omega (arith, n, length_behind (next_list es) e.next, length-map es (λ e. e.next)))
    ]
  ]

  -- A group's stream is made.
  pub begun_more : (g : ℕ) → v < length t → g ≡ length (lists_of nodes v).streams → g < group_count t v → e.value.node ≡ v → e.value.group ≡ g → e.next ≡ None
      → s.head ≡ length es → key e.value.solution.rank ≡ get_or (group_list d key t v g) 0 (key_none d 16) → s.queue ≡ [] → IsFirstOf d key t es v g 0 e.value.solution → IsBegun d key t es nodes → IsBegun d key t (es ++ (e ∷ [])) nodes'
  begun_more g l is_last lg en eg el at_head first empty only b = record {
    all_nodes = same_nodes ∙ b.all_nodes;
    children = λ q lq. subst (λ z. AreChildren t q z) (sym (children_kept q)) (b.children q lq);
    all_rows = λ q lq. ap length (products_kept q) ∙ b.all_rows q lq;
    no_products = λ q r. ap (λ z. get_or z r []) (products_kept q) ∙ b.no_products q r;
    few_streams = at_node (λ q n. q < length t → length n.streams ≤ group_count t q) (λ q n lq. b.few_streams q lq)
        (λ lv. omega (arith, length_behind (lists_of nodes v).streams s, is_last, lg));
    no_links = next_behind el b.no_links;
    owners = owner;
    counted = count;
    begun = λ q h lq lh. elim (cases_lt h (length (lists_of nodes q).streams)) [
      | inl old ↦ kept q h lq old
      | inr new ↦ elim (cases_eq q v) [
        | inl same ↦
            subst (λ z. IsBegunAt d key t (es ++ (e ∷ [])) nodes' z h) (sym same)
            (subst (λ z. IsBegunAt d key t (es ++ (e ∷ [])) nodes' v z)
            (omega (arith, is_last, ap (λ z. length (lists_of nodes z).streams) same, lh, ap (λ z. length (lists_of nodes' z).streams) same, new_count, new)) newest)
        | inr n ↦ absurd (omega (arith, lh, new, ap (λ z. length z.streams) (other q n)))
      ]
    ];
  }
    where
      new_count : length (lists_of nodes' v).streams ≡ g + 1
      new_count = ap (λ z. length z.streams) own ∙ length_behind (lists_of nodes v).streams s ∙ ap (λ z. z + 1) (sym is_last)

      owner : (i : ℕ) → i < length (es ++ (e ∷ [])) → (node_of (es ++ (e ∷ [])) i < length t) × (group_of (es ++ (e ∷ [])) i < length (lists_of nodes' (node_of (es ++ (e ∷ [])) i)).streams)
      owner i li = elim (cases_lt i (length es)) [
        | inl old ↦
            let o = b.owners i old in
            subst (λ z. (z < length t) × (group_of (es ++ (e ∷ [])) i < length (lists_of nodes' z).streams)) (sym (node_before i old))
            (subst (λ z. (node_of es i < length t) × (z < length (lists_of nodes' (node_of es i)).streams)) (sym (group_before i old)) (o.0, omega (arith, o.1, streams_rise (node_of es i))))
        | inr new ↦
            let at : i ≡ length es = omega (arith, li, length_behind es e, new) in
            subst (λ z. (z < length t) × (group_of (es ++ (e ∷ [])) i < length (lists_of nodes' z).streams)) (sym (node_behind i at ∙ en))
            (subst (λ z. (v < length t) × (z < length (lists_of nodes' v).streams)) (sym (group_behind i at ∙ eg)) (l, omega (arith, new_count)))
      ]

      counts : (q h : ℕ) → owned (node_list (es ++ (e ∷ []))) (group_list_of (es ++ (e ∷ []))) q h ≡ owned (node_list es ++ (e.value.node ∷ [])) (group_list_of es ++ (e.value.group ∷ [])) q h
      counts q h = ap (λ z. owned z (group_list_of (es ++ (e ∷ []))) q h) (map_more (λ e. e.value.node) es e) ∙ ap (λ z. owned (node_list es ++ (e.value.node ∷ [])) z q h) (map_more (λ e. e.value.group) es e)

      made_not : (x y : ℕ) → y ≤ x → cond {A = ℕ} (nat_lt x y) 1 0 ≡ 0
      made_not x y l = grind (arith, nat_tests)

      made_yes : (x y : ℕ) → x < y → cond {A = ℕ} (nat_lt x y) 1 0 ≡ 1
      made_yes x y l = grind (arith, nat_tests)

      made_same : (h n k : ℕ) → (h ≡ n → ⊥) → k ≡ n + 1 → cond {A = ℕ} (nat_lt h n) 1 0 ≡ cond (nat_lt h k) 1 0
      made_same h n k a c = elim (cases_lt h n) [ inl x ↦ made_yes h n x ∙ sym (made_yes h k (omega arith)) | inr y ↦ made_not h n y ∙ sym (made_not h k (above a y c)) ]
        where
          above : {h n k : ℕ} → (h ≡ n → ⊥) → n ≤ h → k ≡ n + 1 → k ≤ h
          above {h} {n} a y c = elim (cases_eq h n) [ inl s ↦ absurd (a s) | inr z ↦ omega arith ]

      count : (q h : ℕ) → owned (node_list (es ++ (e ∷ []))) (group_list_of (es ++ (e ∷ []))) q h ≡ cond (nat_lt h (length (lists_of nodes' q).streams)) 1 0
      count q h = counts q h ∙ elim (cases_eq q v) [
        | inl same ↦ elim (cases_eq h g) [
          | inl here ↦
              ap (λ z. owned z (group_list_of es ++ (e.value.group ∷ [])) q h) (ap (λ z. node_list es ++ (z ∷ [])) (en ∙ sym same))
              ∙ ap (λ z. owned (node_list es ++ (q ∷ [])) z q h) (ap (λ z. group_list_of es ++ (z ∷ [])) (eg ∙ sym here))
              ∙ owned_by (node_list es) (group_list_of es) q h lists_behind
              ∙ ap (λ z. z + 1) (b.counted q h ∙ made_not h (length (lists_of nodes q).streams) (omega (arith, here, is_last, ap (λ z. length (lists_of nodes z).streams) same)))
              ∙ sym (made_yes h (length (lists_of nodes' q).streams) (omega (arith, here, new_count, ap (λ z. length (lists_of nodes' z).streams) same)) ∙ one_more)
          | inr n ↦
              owned_else (node_list es) (group_list_of es) e.value.node e.value.group q h lists_behind (λ x y. n (sym y ∙ eg)) ∙ b.counted q h
              ∙ made_same h (length (lists_of nodes q).streams) (length (lists_of nodes' q).streams) (λ x. n (x ∙ ap (λ z. length (lists_of nodes z).streams) same ∙ sym is_last))
              (ap (λ z. length (lists_of nodes' z).streams) same ∙ new_count ∙ ap (λ z. z + 1) (is_last ∙ ap (λ z. length (lists_of nodes z).streams) (sym same)))
        ]
        | inr n ↦
            owned_else (node_list es) (group_list_of es) e.value.node e.value.group q h lists_behind (λ x y. n (sym x ∙ en)) ∙ b.counted q h ∙ ap (λ z. cond {A = ℕ} (nat_lt h (length z.streams)) 1 0) (sym (other q n))
      ]
        where
          one_more : 1 ≡ 0 + 1
          one_more = omega arith

      kept : (q h : ℕ) → q < length t → h < length (lists_of nodes q).streams → IsBegunAt d key t (es ++ (e ∷ [])) nodes' q h
      kept q h lq lh =
          let x = b.begun q h lq lh in
          let k = stream_kept q h lh in record {
            head_in = omega (arith, x.head_in, length_behind es e, ap (λ z. z.head) k);
            node = ap (λ z. node_of (es ++ (e ∷ [])) z.head) k ∙ node_before (stream_of nodes q h).head x.head_in ∙ x.node;
            group = ap (λ z. group_of (es ++ (e ∷ [])) z.head) k ∙ group_before (stream_of nodes q h).head x.head_in ∙ x.group;
            first = λ y. subst (λ z. key z.value.solution.rank ≡ get_or (group_list d key t q h) 0 (key_none d 16)) (sym (ap (λ z. get_or (es ++ (e ∷ [])) z.head y) k ∙ at_more es e y (stream_of nodes q h).head x.head_in)) (x.first y);
            only = subst (λ z. HasFirst d key t (es ++ (e ∷ [])) q h z.head) (sym k) (first_before q h (stream_of nodes q h).head x.head_in x.only);
            empty = ap (λ z. z.queue) k ∙ x.empty;
          }

      new_stream : stream_of nodes' v g ≡ s
      new_stream = ap (λ z. get_or z.streams g (record { head = 0; queue = []; room = 0 })) own ∙ get_behind (lists_of nodes v).streams s g (record { head = 0; queue = []; room = 0 }) is_last

      newest : IsBegunAt d key t (es ++ (e ∷ [])) nodes' v g
      newest = record {
        head_in = omega (arith, length_behind es e, ap (λ z. z.head) new_stream, at_head);
        node = node_behind (stream_of nodes' v g).head (ap (λ z. z.head) new_stream ∙ at_head) ∙ en;
        group = group_behind (stream_of nodes' v g).head (ap (λ z. z.head) new_stream ∙ at_head) ∙ eg;
        first = λ y. subst (λ z. key z.value.solution.rank ≡ get_or (group_list d key t v g) 0 (key_none d 16)) (sym (get_behind es e (stream_of nodes' v g).head y (ap (λ z. z.head) new_stream ∙ at_head))) first;
        only = λ y. subst (λ (z : Linked (Found R)). IsFirstOf d key t (es ++ (e ∷ [])) v g 0 z.value.solution) (sym (get_behind es e (stream_of nodes' v g).head y (ap (λ z. z.head) new_stream ∙ at_head))) (first_still v g e.value.solution only);
        empty = ap (λ z. z.queue) new_stream ∙ empty;
      }
