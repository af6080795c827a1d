-- One step of a group's stream.
use Rattle.std.proofs.Common.{◌≡◌, ◌≢◌, ℕ, zero, suc, ◌+◌, ◌-◌, ◌*◌, ◌/◌, ◌<◌, ◌≤◌, ◌⊎◌, Option, Some, None, List, [], ◌∷◌, ◌++◌, length, get_or, slice_set, refl, sym, ap, ◌∙◌, subst, inl, inr, arith}
use Rattle.std.specs.List.{All}
use Rattle.std.specs.List.Sorted.{IsPermutation}
use Rattle.std.proofs.lemmas.Bool.{cases_eq}
use Rattle.std.proofs.lemmas.List.{get_or-set_same, get_or-set_other}
use Rattle.std.proofs.lemmas.List.Elements.{All-get_or, All-weaker}
use Rattle.std.proofs.lemmas.List.Sorted.{All-permutation, IsPermutation-cons, IsPermutation-trans}
use Rattle.stream_store.specs.declared.linked.Linked.{Linked}
use Rattle.take2_heap.specs.declared.entry.Entry.{Entry}
use Rattle.take2_heap.specs.Order.{IsLeast}
use Rattle.tdp_core.specs.TreeView.{NodeView, number, members, child_count, group_count, best}
use Rattle.tdp_core.specs.WellFormed.{IsTieFreeTree}
use Rattle.tdp_core.proofs.TreeFacts.{member_is_row}
use Rattle.rankings.specs.Order.{IsAscending}
use Rattle.tdp_model.specs.Remains.{AtMost}
use Rattle.tdp_model.specs.KeyTuple.{KeyOf, key_below, key_none}
use Rattle.tdp_model.specs.Product.{Pair, run_key}
use Rattle.suffix_streams.specs.Offers.{offers}
use Rattle.suffix_streams.specs.QueueEntries.{IsHeld, InRuns}
use Rattle.suffix_streams.specs.Links.{IsLinked}
use Rattle.suffix_streams.specs.Reaches.{AreHeapOrdered}
use Rattle.suffix_streams.proofs.Held.{MaybeHolds, all_offers}
use Rattle.suffix_streams.proofs.Steps.{IsNext, IsBelow}
use Rattle.suffix_streams.specs.declared.source.Source.{Source}
use Rattle.suffix_streams.specs.declared.stream.Found.{Found}
use Rattle.suffix_streams.specs.ProductView.{ProductView}
use Rattle.suffix_streams.specs.StreamView.{StreamView}
use Rattle.suffix_streams.specs.NodeStreamsView.{NodeStreamsView, stream_at, with_queue}
use Rattle.suffix_streams.specs.Rankings.{part_list, group_list}
use Rattle.suffix_streams.specs.Frontiers.{IsMerge}
use Rattle.suffix_streams.specs.Firsts.{IsFirstBelow}
use Rattle.suffix_streams.specs.TreeStreams.{IsKnownPart, IsSumOf, HasOwnParts, node_list, group_list_of, next_list, node_of, group_of, place_of, stream, with_last, lists_of, products_of, stream_of, part_known, row_known, run_of, IsStreamOf, IsStreams}
use Rattle.suffix_streams.specs.LastEntries.{IsRowNext}
use Rattle.suffix_streams.proofs.Lasts.{last_first}
use Rattle.suffix_streams.proofs.Takes.{least_itself, offered_past}
use Rattle.suffix_streams.proofs.BeginFirsts.{row_head}
use Rattle.suffix_streams.proofs.Rankings.{part_ascends, row_is_ranking}
use Rattle.suffix_streams.proofs.Growth.{merge_grows, merge_ends, merge_few}
use Rattle.suffix_streams.proofs.FirstSums.{first_known, first_own}
use Rattle.suffix_streams.proofs.Entries.{some_known}
use Rattle.suffix_streams.proofs.Kept.{AreHeld, part_stays, parts_stay, stream_stays, product_stays}
use Rattle.suffix_streams.proofs.Changes.{lists_same, lists_other}
use Rattle.suffix_streams.proofs.ListEnds.{set_length}

module _ {R : Type 0} (d : ℕ) (key : R → KeyOf d 16) (t : List (NodeView R)) (es es' : List (Linked (Found R))) (nodes : List (NodeStreamsView R)) (h : IsStreams d key t es nodes) (held : AreHeld es es') (q g : ℕ)
    (l : q < length t) (in_group : g < group_count t q) (new : List (Entry R Source)) (room : ℕ) where
  abbrev queued : List (NodeStreamsView R)
  queued = slice_set nodes q (with_queue (lists_of nodes q) g new room)

  pub queued_at : lists_of queued q ≡ with_queue (lists_of nodes q) g new room
  queued_at = lists_same nodes q (with_queue (lists_of nodes q) g new room) (omega (arith, h.all_nodes))

  pub queued_other : (w : ℕ) → w ≢ q → lists_of queued w ≡ lists_of nodes w
  queued_other w n = lists_other nodes q w (with_queue (lists_of nodes q) g new room) n

  pub queued_products : (w : ℕ) → (lists_of queued w).products ≡ (lists_of nodes w).products
  queued_products w = elim (cases_eq w q) [
    | inl e ↦ subst (λ z. (lists_of queued z).products ≡ (lists_of nodes z).products) (sym e) (ap (λ n. n.products) queued_at)
    | inr n ↦ ap (λ z. z.products) (queued_other w n)
  ]

  pub queued_children : (w : ℕ) → (lists_of queued w).children ≡ (lists_of nodes w).children
  queued_children w = elim (cases_eq w q) [
    | inl e ↦ subst (λ z. (lists_of queued z).children ≡ (lists_of nodes z).children) (sym e) (ap (λ n. n.children) queued_at)
    | inr n ↦ ap (λ z. z.children) (queued_other w n)
  ]

  pub queued_streams : (w : ℕ) → length (lists_of queued w).streams ≡ length (lists_of nodes w).streams
  queued_streams w = elim (cases_eq w q) [
    | inl e ↦ subst (λ z. length (lists_of queued z).streams ≡ length (lists_of nodes z).streams) (sym e) (ap (λ n. length n.streams) queued_at ∙ set_length (lists_of nodes q).streams g (record (stream_of nodes q g) { queue = new; room = room }))
    | inr n ↦ ap (λ z. length z.streams) (queued_other w n)
  ]

  queued_known : (w r k : ℕ) → part_known queued w r k ≡ part_known nodes w r k
  queued_known w r zero = refl
  queued_known w r (suc k) = ap (λ (ps : List (List (ProductView R))). length (get_or (get_or ps r []) k (record { found = []; ranks = []; frontier = []; room = 0; frontier_room = 0 })).found) (queued_products w)

  pub queued_row : (w r : ℕ) → row_known queued w r ≡ row_known nodes w r
  queued_row w r = queued_known w r (length (products_of queued w r)) ∙ ap (λ z. part_known nodes w r (length (get_or z r []))) (queued_products w)

  part_kept : (w r k place : ℕ) → IsKnownPart nodes w r k place → IsKnownPart queued w r k place
  part_kept w r k place x = part_stays nodes queued w r k place (ap (λ z. length (get_or z r [])) (queued_products w)) (omega (arith, queued_known w r k)) x

  pub queued_stream : stream_of queued q g ≡ record (stream_of nodes q g) { queue = new; room = room }
  queued_stream = ap (λ n. stream_at n g) queued_at ∙ get_or-set_same (lists_of nodes q).streams g (record (stream_of nodes q g) { queue = new; room = room }) (record { head = 0; queue = []; room = 0 }) (omega (arith, h.all_streams q l))

  pub other_stream : (w k : ℕ) → ((w ≢ q) ⊎ (k ≢ g)) → stream_of queued w k ≡ stream_of nodes w k
  other_stream w k (inl n) = ap (λ z. stream_at z k) (queued_other w n)
  other_stream w k (inr n) = elim (cases_eq w q) [
    | inl e ↦
        subst (λ z. stream_of queued z k ≡ stream_of nodes z k) (sym e)
        (ap (λ z. stream_at z k) queued_at ∙ get_or-set_other (lists_of nodes q).streams g k (record (stream_of nodes q g) { queue = new; room = room }) (record { head = 0; queue = []; room = 0 }) n)
    | inr m ↦ ap (λ z. stream_at z k) (queued_other w m)
  ]

  pub queue_set : ((i : ℕ) → i < length es' → (node_of es' i < length t) × (group_of es' i < group_count t (node_of es' i))) → IsLinked (node_list es') (group_list_of es') (next_list es')
      → ((w k : ℕ) → ((w ≢ q) ⊎ (k ≢ g)) → stream es' w k ≡ stream es w k) → (sources : List (Entry R Source)) → sources ≡ stream es' q g → length new < length (members t q g) → ((e : Entry R Source) → e ≡ get_or sources (length sources - 1) e → IsLeast d key e new)
      → (child_count t q ≢ 1 → All (λ (e : Entry R Source). e.tag.place < row_known nodes q (get_or (members t q g) e.tag.member 0)) new)
      → (child_count t q ≢ 1 → All (λ (e : Entry R Source). e.tag.place < row_known nodes q (get_or (members t q g) e.tag.member 0)) sources)
      → All (λ (e : Entry R Source). HasOwnParts d key t es nodes q g e.tag) new → All (λ (e : Entry R Source). HasOwnParts d key t es nodes q g e.tag) sources
      → IsMerge d key run_of (length (members t q g)) (λ i. part_list d key t q (get_or (members t q g) i 0) (child_count t q)) (group_list d key t q g) sources (with_last sources new)
      → IsStreams d key t es' queued
  queue_set owners linked same sources kept few least known found_known parts found_parts merge = record {
    tree = h.tree;
    all_nodes = set_length nodes q (with_queue (lists_of nodes q) g new room) ∙ h.all_nodes;
    all_children = λ w a. ap length (queued_children w) ∙ h.all_children w a;
    children = λ w k a b. ap (λ z. get_or z k 0) (queued_children w) ∙ h.children w k a b;
    all_streams = λ w a. queued_streams w ∙ h.all_streams w a;
    all_rows = λ w a. ap length (queued_products w) ∙ h.all_rows w a;
    whole_rows = λ w r a b some. ap (λ z. length (get_or z r [])) (queued_products w) ∙ h.whole_rows w r a b (omega (arith, some, ap (λ z. length (get_or z r [])) (queued_products w)));
    owners = owners;
    linked = linked;
    streams = λ w k a b. each w k a b;
    products = λ w r k a b x.
        product_stays d key t es es' nodes queued held w r k (ap (λ (ps : List (List (ProductView R))). (get_or (get_or ps r []) k (record { found = []; ranks = []; frontier = []; room = 0; frontier_room = 0 })).found) (queued_products w))
        (ap (λ (ps : List (List (ProductView R))). (get_or (get_or ps r []) k (record { found = []; ranks = []; frontier = []; room = 0; frontier_room = 0 })).frontier) (queued_products w))
        (ap (λ (ps : List (List (ProductView R))). (get_or (get_or ps r []) k (record { found = []; ranks = []; frontier = []; room = 0; frontier_room = 0 })).ranks) (queued_products w)) (omega (arith, queued_known w r k))
        (h.products w r k a b (omega (arith, x, ap (λ z. length (get_or z r [])) (queued_products w))));
  }
    where
      old : IsStreamOf d key t es nodes q g
      old = h.streams q g l in_group

      own : IsStreamOf d key t es' queued q g
      own = record {
        head_in = omega (arith, ap (λ z. z.head) queued_stream, (h.streams q g l in_group).head_in, held.longer);
        head_node = ap (λ z. node_of es' z.head) queued_stream ∙ held.nodes (stream_of nodes q g).head (h.streams q g l in_group).head_in ∙ (h.streams q g l in_group).head_node;
        head_group = ap (λ z. group_of es' z.head) queued_stream ∙ held.groups (stream_of nodes q g).head (h.streams q g l in_group).head_in ∙ (h.streams q g l in_group).head_group;
        head_place = ap (λ z. place_of es' z.head) queued_stream ∙ held.places (stream_of nodes q g).head (h.streams q g l in_group).head_in ∙ (h.streams q g l in_group).head_place;
        few = omega (arith, few, ap (λ z. length z.queue) queued_stream);
        least = λ e is. subst (λ (z : StreamView R). IsLeast d key e z.queue) (sym queued_stream) (least e (subst (λ z. e ≡ get_or z (length z - 1) e) (sym kept) is));
        known = λ many. subst (λ (z : StreamView R). All (λ (e : Entry R Source). e.tag.place < row_known queued q (get_or (members t q g) e.tag.member 0)) z.queue) (sym queued_stream)
            (All-weaker (λ (e : Entry R Source). e.tag.place < row_known nodes q (get_or (members t q g) e.tag.member 0)) (λ (e : Entry R Source). e.tag.place < row_known queued q (get_or (members t q g) e.tag.member 0))
            (λ e k. omega (arith, k, queued_row q (get_or (members t q g) e.tag.member 0))) new (known many));
        found_known = λ many. subst (λ z. All (λ (e : Entry R Source). e.tag.place < row_known queued q (get_or (members t q g) e.tag.member 0)) z) kept (All-weaker (λ (e : Entry R Source). e.tag.place < row_known nodes q (get_or (members t q g) e.tag.member 0)) (λ (e : Entry R Source). e.tag.place < row_known queued q (get_or (members t q g) e.tag.member 0))
            (λ e k. omega (arith, k, queued_row q (get_or (members t q g) e.tag.member 0))) sources (found_known many));
        parts = subst (λ (z : StreamView R). All (λ (e : Entry R Source). HasOwnParts d key t es' queued q g e.tag) z.queue) (sym queued_stream) (parts_stay d key t es es' nodes queued held q g (λ r k p few. part_kept q r k p) new parts);
        found_parts = subst (λ z. All (λ (e : Entry R Source). HasOwnParts d key t es' queued q g e.tag) z) kept (parts_stay d key t es es' nodes queued held q g (λ r k p few. part_kept q r k p) sources found_parts);
        merge = subst (λ z. IsMerge d key run_of (length (members t q g)) (λ i. part_list d key t q (get_or (members t q g) i 0) (child_count t q)) (group_list d key t q g) z (with_last z (stream_of queued q g).queue)) kept
            (subst (λ (z : StreamView R). IsMerge d key run_of (length (members t q g)) (λ i. part_list d key t q (get_or (members t q g) i 0) (child_count t q)) (group_list d key t q g) sources (with_last sources z.queue)) (sym queued_stream) merge);
      }

      apart : (w k : ℕ) → w < length t → k < group_count t w → ((w ≢ q) ⊎ (k ≢ g)) → IsStreamOf d key t es' queued w k
      apart w k a b n = stream_stays d key t es es' nodes queued held w k (other_stream w k n) (same w k n) (λ r. omega (arith, queued_row w r)) (λ r j p few. part_kept w r j p) (h.streams w k a b)

      each : (w k : ℕ) → w < length t → k < group_count t w → IsStreamOf d key t es' queued w k
      each w k a b = elim (cases_eq w q) [
        | inr n ↦ apart w k a b (inl n)
        | inl e ↦ elim (cases_eq k g) [
          | inr n ↦ apart w k a b (inr n)
          | inl f ↦ subst (λ z. IsStreamOf d key t es' queued z k) (sym e) (subst (λ z. IsStreamOf d key t es' queued q z) (sym f) own)
        ]
      ]

-- the offer for the member whose solution was passed last: its next solution, if there is one
pub record IsNextOffer {R : Type 0} (d : ℕ) (key : R → KeyOf d 16) (t : List (NodeView R)) (es : List (Linked (Found R))) (nodes : List (NodeStreamsView R)) (q r member place : ℕ) (offer : Option (Entry R Source)) : Type 0 where
  pub none : offer ≡ None → length (part_list d key t q r (child_count t q)) ≤ place
  pub run : (e : Entry R Source) → offer ≡ Some e → run_of e.tag ≡ record { left = member; right = place }
  pub within : (e : Entry R Source) → offer ≡ Some e → place < length (part_list d key t q r (child_count t q))
  pub known : (e : Entry R Source) → offer ≡ Some e → child_count t q ≢ 1 → place < row_known nodes q r
  pub parts : (e : Entry R Source) → offer ≡ Some e → (e.tag.row ≡ r) × (e.tag.number ≡ number t q r) × ((c : ℕ) → child_count t q ≡ suc c → IsSumOf d key t es nodes q r c place e.tag.cell) × (child_count t q ≡ 1 → place_of es e.tag.cell.right ≡ place)
  pub rank : (e : Entry R Source) → offer ≡ Some e → key e.rank ≡ get_or (part_list d key t q r (child_count t q)) place (key_none d 16)

module _ {R : Type 0} (d : ℕ) (key : R → KeyOf d 16) (t : List (NodeView R)) (es : List (Linked (Found R))) (nodes : List (NodeStreamsView R)) (h : IsStreams d key t es nodes) (q g : ℕ)
    (l : q < length t) (in_group : g < group_count t q) (r : ℕ) (source : Source) (offer left right : Option (Entry R Source)) (top : Entry R Source) (new : List (Entry R Source))
    (is_top : top ≡ get_or (stream es q g) (length (stream es q g) - 1) top) (is_source : top.tag ≡ source) (is_row : r ≡ get_or (members t q g) source.member 0)
    (next : IsNextOffer d key t es nodes q r source.member (source.place + 1) offer)
    (on_left : IsFirstBelow d key t es q g (top.tag.place + 1) (2 * top.tag.member + 1) left) (on_right : IsFirstBelow d key t es q g (top.tag.place + 1) (2 * top.tag.member + 2) right)
    (given : IsPermutation (offers offer None (offers right None (offers left None (stream_of nodes q g).queue))) new) where
  abbrev n : ℕ
  n = length (members t q g)

  abbrev lists : ℕ → List (KeyOf d 16)
  lists i = part_list d key t q (get_or (members t q g) i 0) (child_count t q)

  abbrev waiting : List (Entry R Source)
  waiting = (stream_of nodes q g).queue

  abbrev queue : List (Entry R Source)
  queue = top ∷ waiting

  abbrev Held : Entry R Source → Type 0
  Held = IsHeld d key (run_key (key_none d 16) lists) (InRuns d n lists) run_of

  abbrev Known : Entry R Source → Type 0
  Known e = e.tag.place < row_known nodes q (get_or (members t q g) e.tag.member 0)

  abbrev Parts : Entry R Source → Type 0
  Parts e = HasOwnParts d key t es nodes q g e.tag

  abbrev own : IsStreamOf d key t es nodes q g
  own = h.streams q g l in_group

  merged : IsMerge d key run_of n lists (group_list d key t q g) (stream es q g) queue
  merged = subst (λ z. IsMerge d key run_of n lists (group_list d key t q g) (stream es q g) z) (last_first (stream es q g) top waiting own.merge.prefix.0 is_top) own.merge

  least : IsLeast d key top queue
  least = (least_itself d key top, own.least top is_top)

  some : 0 < length queue
  some = omega arith

  moved : IsPermutation (offers right None (offers offer left queue)) (top ∷ new)
  moved = IsPermutation-trans _ _ _ (offered_past offer left right top waiting) (IsPermutation-cons top _ new given)

  top_held : Held top
  top_held = All-get_or Held queue 0 top some merged.held

  member_in : source.member < n
  member_in = subst (λ z. z.member < n) is_source top_held.0.0

  the_list : lists source.member ≡ part_list d key t q r (child_count t q)
  the_list = ap (λ z. part_list d key t q z (child_count t q)) (sym is_row)

  offer_facts : (o : Option (Entry R Source)) → offer ≡ o → MaybeHolds Held o × (child_count t q ≢ 1 → MaybeHolds Known o) × IsNext d key n lists run_of (run_of top.tag) o × MaybeHolds Parts o
  offer_facts None e = (
    tt,
    λ many. tt,
    subst (λ (s : Source). length (lists s.member) ≤ s.place + 1) (sym is_source) (omega (arith, next.none e, ap length the_list)),
    tt,
  )
  offer_facts (Some e) s =
      let within : source.place + 1 < length (lists source.member) = omega (arith, next.within e s, ap length the_list) in (
        subst (λ (p : Pair). InRuns d n lists p × (key e.rank ≡ run_key (key_none d 16) lists p)) (sym (next.run e s))
            ((member_in, within), next.rank e s ∙ ap (λ z. get_or z (source.place + 1) (key_none d 16)) (sym the_list)),
        λ many. subst (λ (p : Pair). p.right < row_known nodes q (get_or (members t q g) p.left 0)) (sym (next.run e s)) (subst (λ z. source.place + 1 < row_known nodes q z) is_row (next.known e s many)),
        next.run e s ∙ ap (λ (z : Source). (let p : Pair = record { left = z.member; right = z.place + 1 } in p)) (sym is_source),
        (
          (next.parts e s).0 ∙ is_row ∙ ap (λ (p : Pair). get_or (members t q g) p.left 0) (sym (next.run e s)),
          (next.parts e s).1 ∙ ap (number t q) is_row ∙ ap (λ (p : Pair). number t q (get_or (members t q g) p.left 0)) (sym (next.run e s)),
          λ c kids.
              subst (λ (p : Pair). IsSumOf d key t es nodes q (get_or (members t q g) p.left 0) c p.right e.tag.cell) (sym (next.run e s))
              (subst (λ z. IsSumOf d key t es nodes q z c (source.place + 1) e.tag.cell) is_row ((next.parts e s).2 c kids)),
          λ one. (next.parts e s).3 one ∙ ap (λ (p : Pair). p.right) (sym (next.run e s)),
        ),
      )

  all_facts : MaybeHolds Held offer × (child_count t q ≢ 1 → MaybeHolds Known offer) × IsNext d key n lists run_of (run_of top.tag) offer × MaybeHolds Parts offer
  all_facts = offer_facts offer refl

  -- # The first solutions of the members below

  first_at : (j : ℕ) → j < n → (0 < length (lists j)) × (get_or (lists j) 0 (key_none d 16) ≡ best t d key q (get_or (members t q g) j 0))
  first_at j a =
      row_head d key t h.tree q (get_or (members t q g) j 0) (lists j) l (member_is_row d key t h.tree q g j l a) (row_is_ranking d key t h.tree q (get_or (members t q g) j 0) l)

  heap_ordered : AreHeapOrdered d n lists
  heap_ordered i some a =
      let up : (i - 1) / 2 < n = omega arith in
      subst (λ z. AtMost (key_below d 16) z (get_or (lists i) 0 (key_none d 16))) (sym (first_at ((i - 1) / 2) up).1)
      (subst (λ z. AtMost (key_below d 16) (best t d key q (get_or (members t q g) ((i - 1) / 2) 0)) z) (sym (first_at i a).1) (h.tree.heaps q g i l some a))

  -- some solution of each row is known
  known_some : (k : ℕ) → k < n → 0 < row_known nodes q (get_or (members t q g) k 0)
  known_some k a = some_known d key t es nodes h q (get_or (members t q g) k 0) (length (products_of nodes q (get_or (members t q g) k 0))) l (member_is_row d key t h.tree q g k l a) (omega arith)

  below_facts : (k : ℕ) (o : Option (Entry R Source)) → IsFirstBelow d key t es q g (top.tag.place + 1) k o → MaybeHolds Held o × MaybeHolds Known o × IsBelow d key n lists run_of (run_of top.tag) k o
  below_facts k None (inl m) = (tt, tt, inl (λ e. m (omega (arith, e))))
  below_facts k None (inr m) = (tt, tt, inr m)
  below_facts k (Some e) f =
      let first : (0 < length (lists k)) × (get_or (lists k) 0 (key_none d 16) ≡ best t d key q (get_or (members t q g) k 0)) = first_at k f.1 in (
        subst (λ (p : Pair). InRuns d n lists p × (key e.rank ≡ run_key (key_none d 16) lists p)) (sym f.2.0) ((f.1, first.0), f.2.1 ∙ sym first.1),
        subst (λ (p : Pair). p.right < row_known nodes q (get_or (members t q g) p.left 0)) (sym f.2.0) (known_some k f.1),
        (omega (arith, f.0), f.2.0),
      )

  below_parts : IsTieFreeTree t → (k : ℕ) (o : Option (Entry R Source)) → IsFirstBelow d key t es q g (top.tag.place + 1) k o → MaybeHolds Parts o
  below_parts apart k None f = tt
  below_parts apart k (Some e) f =
      first_own d key t h.tree apart es nodes q g k e.tag l f.1 f.2.0 f.2.2 f.2.3 f.2.4 (λ c few. first_known d key t es nodes h q (get_or (members t q g) k 0) c l (member_is_row d key t h.tree q g k l f.1) few)

  left_facts : MaybeHolds Held left × MaybeHolds Known left × IsBelow d key n lists run_of (run_of top.tag) (2 * top.tag.member + 1) left
  left_facts = below_facts (2 * top.tag.member + 1) left on_left

  right_facts : MaybeHolds Held right × MaybeHolds Known right × IsBelow d key n lists run_of (run_of top.tag) (2 * top.tag.member + 2) right
  right_facts = below_facts (2 * top.tag.member + 2) right on_right

  -- # The queue

  ascending : (i : ℕ) → i < n → IsAscending (key_below d 16) (lists i)
  ascending i k = part_ascends d key t q (get_or (members t q g) i 0) (child_count t q)

  pub queue_known : child_count t q ≢ 1 → All Known new
  queue_known many =
      All-permutation Known (offers offer None (offers right None (offers left None waiting))) new given
      (all_offers Known offer None (offers right None (offers left None waiting)) (all_facts.1 many) tt
      (all_offers Known right None (offers left None waiting) right_facts.1 tt (all_offers Known left None waiting left_facts.1 tt (own.known many))))

  pub queue_parts : IsTieFreeTree t → All Parts new
  queue_parts apart =
      All-permutation Parts (offers offer None (offers right None (offers left None waiting))) new given
      (all_offers Parts offer None (offers right None (offers left None waiting)) all_facts.3 tt
      (all_offers Parts right None (offers left None waiting) (below_parts apart (2 * top.tag.member + 2) right on_right) tt
      (all_offers Parts left None waiting (below_parts apart (2 * top.tag.member + 1) left on_left) tt own.parts)))

  pub queue_few : length new ≤ n
  queue_few =
      merge_few d key n lists (group_list d key t q g) ascending heap_ordered run_of (stream es q g) queue new offer left right top merged some refl least moved all_facts.0 left_facts.0 right_facts.0 top_held.0
      all_facts.2 left_facts.2 right_facts.2

  pub group_ends : new ≡ [] → (length (stream es q g) ≡ length (group_list d key t q g)) × IsMerge d key run_of n lists (group_list d key t q g) (stream es q g) []
  group_ends e =
      merge_ends d key n lists (group_list d key t q g) ascending heap_ordered run_of (stream es q g) queue offer left right top merged some refl least
      (subst (λ z. IsPermutation (offers right None (offers offer left queue)) (top ∷ z)) e moved) all_facts.0 left_facts.0 right_facts.0 top_held.0 all_facts.2 left_facts.2 right_facts.2

  pub group_grows : (after : Entry R Source) → 0 < length new → after ≡ get_or new 0 after → IsLeast d key after new
      → IsMerge d key run_of n lists (group_list d key t q g) ((stream es q g) ++ (after ∷ [])) new
  group_grows after more is_after after_least =
      (merge_grows d key n lists (group_list d key t q g) ascending heap_ordered run_of (stream es q g) queue new offer left right top after merged some refl least
      moved all_facts.0 left_facts.0 right_facts.0 top_held.0 all_facts.2 left_facts.2 right_facts.2 more is_after after_least).1

-- the offer that was made
pub next_offer : {R : Type 0} (d : ℕ) (key : R → KeyOf d 16) (t : List (NodeView R)) (es : List (Linked (Found R))) (nodes : List (NodeStreamsView R)) (q : ℕ) (s : Source) (offer : Option (Entry R Source)) → s.number ≡ number t q s.row
    → IsRowNext d key t es nodes q s offer → IsNextOffer d key t es nodes q s.row s.member (s.place + 1) offer
next_offer {R} d key t es nodes q s offer numbered next = cases offer next
  where
    cases : (o : Option (Entry R Source)) → IsRowNext d key t es nodes q s o → IsNextOffer d key t es nodes q s.row s.member (s.place + 1) o
    cases None f = record { none = λ e. f.none; run = λ e x. absurd (clash e x); within = λ e x. absurd (clash e x); known = λ e x. absurd (clash e x); parts = λ e x. absurd (clash e x); rank = λ e x. absurd (clash e x) }
      where
        clash : (e : Entry R Source) → None ≡ Some e → ⊥
        clash e x = cc
    cases (Some x) f = record {
      none = λ e. absurd (clash e);
      run = λ e same.
          subst (λ (z : Entry R Source). run_of z.tag ≡ record { left = s.member; right = s.place + 1 }) (same_of e same)
          (ap (λ (z : ℕ). (let y : Pair = record { left = z; right = x.tag.place } in y)) f.source.0 ∙ ap (λ (z : ℕ). (let y : Pair = record { left = s.member; right = z } in y)) f.source.1);
      within = λ e same. f.within;
      known = λ e same. f.known;
      parts = λ e same. subst (λ (z : Entry R Source). (z.tag.row ≡ s.row) × (z.tag.number ≡ number t q s.row) × ((c : ℕ) → child_count t q ≡ suc c → IsSumOf d key t es nodes q s.row c (s.place + 1) z.tag.cell) × (child_count t q ≡ 1 → place_of es z.tag.cell.right ≡ s.place + 1)) (same_of e same)
          (f.source.2, f.source.3 ∙ numbered, f.parts, f.alone);
      rank = λ e same. subst (λ (z : Entry R Source). key z.rank ≡ get_or (part_list d key t q s.row (child_count t q)) (s.place + 1) (key_none d 16)) (same_of e same) f.key_is;
    }
      where
        clash : Some x ≡ None → ⊥
        clash e = cc

        same_of : (e : Entry R Source) → Some x ≡ Some e → x ≡ e
        same_of e same = cc
