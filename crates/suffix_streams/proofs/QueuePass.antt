-- The facts of a group's queue after its last solution was passed, and of the store after the next one was linked.
use Rattle.std.proofs.Common.{◌≡◌, ◌≢◌, ℕ, ◌+◌, ◌-◌, ◌*◌, ◌<◌, ◌≤◌, ◌⊎◌, Option, Some, None, List, [], ◌∷◌, ◌++◌, cond, nat_eq, length, get_or, slice_set, refl, sym, ap, ◌∙◌, subst, arith}
use Rattle.std.specs.List.{All}
use Rattle.std.specs.List.Sorted.{IsPermutation}
use Rattle.std.proofs.lemmas.List.Elements.{All-head, All-tail}
use Rattle.stream_store.specs.declared.linked.Linked.{Linked}
use Rattle.take2_heap.specs.declared.entry.Entry.{Entry}
use Rattle.take2_heap.specs.Order.{IsLeast}
use Rattle.tdp_core.specs.TreeView.{NodeView, number, members, child_count, group_count}
use Rattle.tdp_core.specs.WellFormed.{IsTieFreeTree}
use Rattle.tdp_model.specs.KeyTuple.{KeyOf}
use Rattle.suffix_streams.specs.Offers.{offers}
use Rattle.suffix_streams.specs.Links.{IsLinked, IsLinkedAt}
use Rattle.suffix_streams.specs.declared.source.Source.{Source}
use Rattle.suffix_streams.specs.declared.stream.Found.{Found}
use Rattle.suffix_streams.specs.NodeStreamsView.{NodeStreamsView, with_queue}
use Rattle.suffix_streams.specs.Rankings.{part_list, group_list}
use Rattle.suffix_streams.specs.Frontiers.{IsMerge}
use Rattle.suffix_streams.specs.Firsts.{IsFirstBelow}
use Rattle.suffix_streams.specs.TreeStreams.{HasOwnParts, node_of, group_of, place_of, next_of, node_size, node_list, group_list_of, next_list, stream, lists_of, stream_of, row_known, run_of, IsStreams}
use Rattle.suffix_streams.specs.Growing.{IsStoreGrown}
use Rattle.suffix_streams.specs.LastEntries.{IsLast, IsRowNext}
use Rattle.suffix_streams.proofs.Kept.{AreHeld, held_itself}
use Rattle.suffix_streams.proofs.State.{all_more}
use Rattle.suffix_streams.proofs.Lasts.{last_more, last_more_at}
use Rattle.suffix_streams.proofs.Takes.{least_itself}
use Rattle.suffix_streams.proofs.Entries.{stream_owned}
use Rattle.suffix_streams.proofs.ViewEntries.{entry_at}
use Rattle.suffix_streams.proofs.Stores.{node_length, with_entry, entry_added, size_longer, last_next, all_linked, stream_same, stream_longer}
use Rattle.suffix_streams.proofs.Linked.{entries_are, all_owned, flipped}
use Rattle.suffix_streams.proofs.Merging.{next_offer, queued_at, queued_other, queued_products, queued_stream, queue_set, queue_known, queue_parts, queue_few, group_ends, group_grows}
use Rattle.suffix_streams.proofs.ListEnds.{any_default}

-- the list of a member's solutions
abbrev pub lists_of_member : {R : Type 0} (d : ℕ) (key : R → KeyOf d 16) → List (NodeView R) → ℕ → ℕ → ℕ → List (KeyOf d 16)
lists_of_member d key t v g i = part_list d key t v (get_or (members t v g) i 0) (child_count t v)

-- the group whose last solution has an entry
pub record IsGroupTop {R : Type 0} (d : ℕ) (key : R → KeyOf d 16) (t : List (NodeView R)) (es : List (Linked (Found R))) (n : List (NodeStreamsView R)) (last v g : ℕ) (top : Entry R Source) : Type 0 where
  pub node : v < length t
  pub group : g < group_count t v
  pub in_nodes : v < length n
  pub at_end : place_of es last + 1 ≡ length (stream es v g)
  pub is_top : top ≡ get_or (stream es v g) (length (stream es v g) - 1) top

pub group_top : {R : Type 0} (d : ℕ) (key : R → KeyOf d 16) (t : List (NodeView R)) (es : List (Linked (Found R))) (n : List (NodeStreamsView R)) (last v g : ℕ) (top : Entry R Source) → IsStreams d key t es n → IsLast es last v g → ((x : Linked (Found R)) → (get_or es last x).value.solution ≡ top) → IsGroupTop d key t es n last v g top
group_top {R} d key t es n last v g top h ends read =
    let own = h.owners last ends.within in
    let l : v < length t = omega (arith, own.0, ends.node) in
    let in_group : g < group_count t v = subst (λ z. z < group_count t v) ends.group (subst (λ z. group_of es last < group_count t z) ends.node own.1) in
    let link : IsLinkedAt (node_list es) (group_list_of es) last None = subst (λ o. IsLinkedAt (node_list es) (group_list_of es) last o) ends.none (h.linked last (omega (arith, ends.within, node_length es))) in
    let end : place_of es last + 1 ≡ length (stream es (node_of es last) (group_of es last)) = link ∙ sym (stream_owned es (node_of es last) (group_of es last)) in
    let at_end : place_of es last + 1 ≡ length (stream es v g) = subst (λ k. place_of es last + 1 ≡ length (stream es v k)) ends.group (subst (λ w. place_of es last + 1 ≡ length (stream es w (group_of es last))) ends.node end) in
    let place : place_of es last ≡ length (stream es v g) - 1 = omega (arith, at_end) in
    let x : Linked (Found R) = record { value = record { node = v; group = g; solution = top }; next = None } in
    let at : get_or (stream es (node_of es last) (group_of es last)) (place_of es last) top ≡ top = entry_at es last x top ends.within ∙ read x in
    let here : get_or (stream es v g) (place_of es last) top ≡ top = subst (λ k. get_or (stream es v k) (place_of es last) top ≡ top) ends.group (subst (λ w. get_or (stream es w (group_of es last)) (place_of es last) top ≡ top) ends.node at) in
    record { node = l; group = in_group; in_nodes = omega (arith, h.all_nodes, l); at_end = at_end; is_top = sym here ∙ ap (λ p. get_or (stream es v g) p top) place }

-- # The queue has room

-- the queue of group g of node v only got room, from n to m
pub record IsRoomed {R : Type 0} (d : ℕ) (key : R → KeyOf d 16) (t : List (NodeView R)) (es : List (Linked (Found R))) (n m : List (NodeStreamsView R)) (v g : ℕ) : Type 0 where
  pub formed : IsStreams d key t es m
  pub above : (w : ℕ) → w ≢ v → lists_of m w ≡ lists_of n w
  pub products : (w : ℕ) → (lists_of m w).products ≡ (lists_of n w).products
  pub streams : (lists_of m v).streams ≡ (with_queue (lists_of n v) g (stream_of n v g).queue (stream_of m v g).room).streams

pub roomed : {R : Type 0} (d : ℕ) (key : R → KeyOf d 16) (t : List (NodeView R)) (es : List (Linked (Found R))) (n m : List (NodeStreamsView R)) (v g : ℕ) → IsStreams d key t es n → v < length t → g < group_count t v
    → m ≡ slice_set n v (with_queue (lists_of n v) g (stream_of n v g).queue (stream_of m v g).room) → IsRoomed d key t es n m v g
roomed {R} d key t es n m v g h l in_group is =
    let own = h.streams v g l in_group in
    let q : List (Entry R Source) = (stream_of n v g).queue in
    let k : ℕ = (stream_of m v g).room in
    subst (λ (z : List (NodeStreamsView R)). IsRoomed d key t es n z v g) (sym is)
    (record {
      formed = queue_set d key t es es n h (held_itself es) v g l in_group q k h.owners h.linked (λ w k z. refl) (stream es v g) refl own.few own.least own.known own.found_known own.parts own.found_parts own.merge;
      above = queued_other d key t es es n h (held_itself es) v g l in_group q k;
      products = queued_products d key t es es n h (held_itself es) v g l in_group q k;
      streams = ap (λ z. z.streams) (queued_at d key t es es n h (held_itself es) v g l in_group q k)
          ∙ ap (λ r. (with_queue (lists_of n v) g q r).streams) (sym (ap (λ z. z.room) (queued_stream d key t es es n h (held_itself es) v g l in_group q k)));
    })

-- # The queue after that

-- q is the queue after the last solution, with the one that follows before the others
pub record IsQueuePassed {R : Type 0} (d : ℕ) (key : R → KeyOf d 16) (t : List (NodeView R)) (es : List (Linked (Found R))) (n : List (NodeStreamsView R)) (v g : ℕ) (q : List (Entry R Source)) : Type 0 where
  pub before : IsStreams d key t es n
  pub node : v < length t
  pub group : g < group_count t v
  pub few : length q ≤ length (members t v g)
  pub known : child_count t v ≢ 1 → All (λ (e : Entry R Source). e.tag.place < row_known n v (get_or (members t v g) e.tag.member 0)) q
  pub parts : All (λ (e : Entry R Source). HasOwnParts d key t es n v g e.tag) q
  pub ends : q ≡ [] → length (stream es v g) ≡ length (group_list d key t v g)
  pub grows : (after : Entry R Source) → 0 < length q → after ≡ get_or q 0 after → IsLeast d key after q
      → IsMerge d key run_of (length (members t v g)) (lists_of_member d key t v g) (group_list d key t v g) (stream es v g ++ (after ∷ [])) q

pub queue_passed : {R : Type 0} {d : ℕ} {key : R → KeyOf d 16} {t : List (NodeView R)} {es : List (Linked (Found R))} {n : List (NodeStreamsView R)} {last v g : ℕ} (e : Entry R Source) → IsGroupTop d key t es n last v g e → (apart : IsTieFreeTree t) (offer left right : Option (Entry R Source))
    (q : List (Entry R Source)) → IsStreams d key t es n → IsFirstBelow d key t es v g (e.tag.place + 1) (2 * e.tag.member + 1) left → IsFirstBelow d key t es v g (e.tag.place + 1) (2 * e.tag.member + 2) right
    → IsPermutation (offers offer None (offers right None (offers left None (stream_of n v g).queue))) q → e.tag.row ≡ get_or (members t v g) e.tag.member 0 → e.tag.number ≡ number t v e.tag.row → IsRowNext d key t es n v e.tag offer → IsQueuePassed d key t es n v g q
queue_passed {R} {d} {key} {t} {es} {n} {last} {v} {g} e top apart offer left right q h on_left on_right given row numbered next =
    let offered = next_offer d key t es n v e.tag offer numbered next in
    record {
      before = h;
      node = top.node;
      group = top.group;
      few = queue_few d key t es n h v g top.node top.group e.tag.row e.tag offer left right e q top.is_top refl row offered on_left on_right given;
      known = queue_known d key t es n h v g top.node top.group e.tag.row e.tag offer left right e q top.is_top refl row offered on_left on_right given;
      parts = queue_parts d key t es n h v g top.node top.group e.tag.row e.tag offer left right e q top.is_top refl row offered on_left on_right given apart;
      ends = λ empty. (group_ends d key t es n h v g top.node top.group e.tag.row e.tag offer left right e q top.is_top refl row offered on_left on_right given empty).0;
      grows = group_grows d key t es n h v g top.node top.group e.tag.row e.tag offer left right e q top.is_top refl row offered on_left on_right given;
    }

-- the store b has one more entry, which stands for `after`
pub passed_grows : {R : Type 0} {d : ℕ} {key : R → KeyOf d 16} {t : List (NodeView R)} {es : List (Linked (Found R))} {n : List (NodeStreamsView R)} {v g : ℕ} (after : Entry R Source) (q : List (Entry R Source)) (p : IsQueuePassed d key t es n v g (after ∷ q)) (room : ℕ) (b : List (Linked (Found R))) → AreHeld es b
    → ((i : ℕ) → i < length b → (node_of b i < length t) × (group_of b i < group_count t (node_of b i))) → IsLinked (node_list b) (group_list_of b) (next_list b) → ((w k : ℕ) → ((w ≢ v) ⊎ (k ≢ g)) → stream b w k ≡ stream es w k) → stream b v g ≡ stream es v g ++ (after ∷ [])
    → IsLeast d key after q → IsStreams d key t b (slice_set n v (with_queue (lists_of n v) g q room))
passed_grows {R} {d} {key} {t} {es} {n} {v} {g} after q p room b held owners linked others longer least =
    queue_set d key t es b n p.before held v g p.node p.group q room owners linked others (stream es v g ++ (after ∷ [])) (sym longer) (omega (arith, p.few))
    (λ e is. subst (λ z. IsLeast d key z q) (sym (is ∙ last_more_at (stream es v g) after e)) least) (λ many. All-tail (λ (e : Entry R Source). e.tag.place < row_known n v (get_or (members t v g) e.tag.member 0)) after q (p.known many))
    (λ many. all_more (λ (e : Entry R Source). e.tag.place < row_known n v (get_or (members t v g) e.tag.member 0)) (stream es v g) after ((p.before.streams v g p.node p.group).found_known many) (All-head (λ (e : Entry R Source). e.tag.place < row_known n v (get_or (members t v g) e.tag.member 0)) after q (p.known many)))
    (All-tail (λ (e : Entry R Source). HasOwnParts d key t es n v g e.tag) after q p.parts) (all_more (λ (e : Entry R Source). HasOwnParts d key t es n v g e.tag) (stream es v g) after (p.before.streams v g p.node p.group).found_parts (All-head (λ (e : Entry R Source). HasOwnParts d key t es n v g e.tag) after q p.parts))
    (subst (λ z. IsMerge d key run_of (length (members t v g)) (lists_of_member d key t v g) (group_list d key t v g) (stream es v g ++ (after ∷ [])) z) (sym (last_more (stream es v g) after q)) (p.grows after (omega arith) refl (least_itself d key after, least)))

-- # The store with one more entry, to which the last entry of its stream links

pub record IsEntryLinked {R : Type 0} (t : List (NodeView R)) (es es2 : List (Linked (Found R))) (last : ℕ) (f : Found R) : Type 0 where
  pub store : IsStoreGrown f.node es es2
  pub growth : (v : ℕ) → node_size es2 v ≤ node_size es v + cond (nat_eq v f.node) 1 0
  pub answer : next_of es2 last ≡ Some (length es)
  pub owners : (i : ℕ) → i < length es2 → (node_of es2 i < length t) × (group_of es2 i < group_count t (node_of es2 i))
  pub linked : IsLinked (node_list es2) (group_list_of es2) (next_list es2)
  pub others : (w k : ℕ) → ((w ≢ f.node) ⊎ (k ≢ f.group)) → stream es2 w k ≡ stream es w k
  pub longer : stream es2 f.node f.group ≡ stream es f.node f.group ++ (f.solution ∷ [])

-- es1 is the store with the entry, and es2 the store with the link too
pub entry_linked : {R : Type 0} {d : ℕ} {key : R → KeyOf d 16} {t : List (NodeView R)} {es : List (Linked (Found R))} {n : List (NodeStreamsView R)} {last v g : ℕ} {own : Entry R Source} → IsGroupTop d key t es n last v g own → (solution : Entry R Source) (es1 es2 : List (Linked (Found R)))
    (id : ℕ) → IsStreams d key t es n → last < length es → node_of es last ≡ v → group_of es last ≡ g → next_of es last ≡ None → id ≡ length es → es1 ≡ es ++ (record { value = record { node = v; group = g; solution = solution }; next = None } ∷ [])
    → ((x : Linked (Found R)) → es2 ≡ slice_set es1 last (record (get_or es1 last x) { next = Some id })) → IsEntryLinked t es es2 last (record { node = v; group = g; solution = solution })
entry_linked {R} {d} {key} {t} {es} {n} {last} {v} {g} {own} top solution es1 es2 id h within node_is group_is none id_is pushed set =
    let f : Found R = record { node = v; group = g; solution = solution } in
    let d0 : Linked (Found R) = record { value = f; next = None } in
    let linked : Linked (Found R) = record (get_or es last d0) { next = Some (length es) } in
    let same : linked.value ≡ (get_or es last linked).value = ap (λ (e : Linked (Found R)). e.value) (any_default es last d0 linked within) in
    let is : es2 ≡ with_entry es last f linked within same refl node_is group_is none = entries_are es last f es1 es2 id d0 within id_is pushed (set d0) in
    subst (λ (z : List (Linked (Found R))). IsEntryLinked t es z last f) (sym is)
    (record {
      store = entry_added es last f linked within same refl node_is group_is none;
      growth = λ w. omega (arith, size_longer es last f linked within same refl node_is group_is none w, flipped v w);
      answer = last_next es last f linked within same refl node_is group_is none;
      owners = all_owned t es last f linked within same refl node_is group_is none top.node top.group h.owners;
      linked = all_linked es last f linked within same refl node_is group_is none h.linked;
      others = λ w k z. stream_same es last f linked within same refl node_is group_is none w k z;
      longer = stream_longer es last f linked within same refl node_is group_is none;
    })
