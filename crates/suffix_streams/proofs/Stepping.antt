-- One step of a product.
use Rattle.std.proofs.Common.{◌≡◌, ◌≢◌, ℕ, suc, ◌+◌, ◌^◌, ◌<◌, ◌≤◌, ◌⊎◌, Option, Some, None, MatchOption, List, [], ◌∷◌, ◌++◌, length, get_or, slice_set, sym, ap, ◌∙◌, subst, inl, inr, arith}
use Rattle.std.specs.List.{All}
use Rattle.std.specs.List.Sorted.{IsPermutation}
use Rattle.std.proofs.lemmas.Bool.{cases_eq}
use Rattle.std.proofs.lemmas.List.Elements.{All-tail, All-get_or, All-weaker}
use Rattle.std.proofs.lemmas.List.Sorted.{All-permutation}
use Rattle.stream_store.specs.declared.linked.Linked.{Linked}
use Rattle.take2_heap.specs.declared.entry.Entry.{Entry}
use Rattle.take2_heap.specs.Order.{IsLeast}
use Rattle.tdp_core.specs.TreeView.{NodeView, rows, child_count, group_named}
use Rattle.tdp_model.specs.KeyTuple.{KeyOf, key_add, key_none}
use Rattle.tdp_model.specs.Product.{Pair, pair_key}
use Rattle.suffix_streams.specs.Offers.{offers}
use Rattle.suffix_streams.specs.QueueEntries.{IsHeld, InProduct}
use Rattle.suffix_streams.specs.Links.{IsLinkedAt}
use Rattle.suffix_streams.proofs.Held.{MaybeHolds, all_offers}
use Rattle.suffix_streams.proofs.Linking.{place_once}
use Rattle.suffix_streams.proofs.Steps.{IsDown, IsAcross}
use Rattle.suffix_streams.specs.declared.cell.Cell.{Cell}
use Rattle.suffix_streams.specs.declared.stream.Found.{Found}
use Rattle.suffix_streams.specs.ProductView.{ProductView, with_rank}
use Rattle.suffix_streams.specs.NodeStreamsView.{NodeStreamsView, with_product}
use Rattle.suffix_streams.specs.Cells.{cell_down}
use Rattle.suffix_streams.specs.Rankings.{child, part_list, group_list}
use Rattle.suffix_streams.specs.Frontiers.{IsFrontier}
use Rattle.suffix_streams.specs.TreeStreams.{KeepsRanks, node_list, group_list_of, node_of, group_of, place_of, next_of, lists_of, products_of, product_of, stream_of, part_known, pair_of, IsProductOf, IsStreamOf, IsStreams, IsOffer}
use Rattle.suffix_streams.specs.Growing.{IsAnswered, IsReached}
use Rattle.suffix_streams.proofs.Rankings.{part_ascends, group_ascends, kid}
use Rattle.suffix_streams.proofs.Stores.{node_length, group_length}
use Rattle.suffix_streams.proofs.State.{all_more}
use Rattle.suffix_streams.proofs.Growth.{frontier_grows, frontier_ends}
use Rattle.suffix_streams.proofs.Ranks.{ranks_more}
use Rattle.suffix_streams.proofs.Entries.{entry_key, child_in, known_inside, named_stream}
use Rattle.suffix_streams.proofs.Changes.{changed_product, changed_known, product_set}

module _ {R : Type 0} (d : ℕ) (key : R → KeyOf d 16) (t : List (NodeView R)) (es : List (Linked (Found R))) (nodes : List (NodeStreamsView R)) (h : IsStreams d key t es nodes) (v r c : ℕ)
    (l : v < length t) (row : r < rows t v) (in_row : c < length (products_of nodes v r))
    (cell : Cell) (below : Option ℕ) (head : ℕ) (beside : Option Cell) (down across : Option (Entry R Cell)) (top : Entry R Cell) (new : List (Entry R Cell))
    (some : 0 < length (product_of nodes v r c).frontier) (is_top : top ≡ get_or (product_of nodes v r c).frontier 0 top) (is_cell : top.tag ≡ cell)
    (head_is : head ≡ (stream_of nodes (child t v c) (group_named t v r c)).head)
    (answered : IsAnswered d key t es cell.right below) (ready : cell.right ≡ head → IsReached d key t nodes v r c (cell.left + 1))
    (beside_is : MatchOption beside (cell.right ≡ head → part_known nodes v r c ≤ cell.left + 1) (λ x. (cell.right ≡ head) × (cell.left + 1 < part_known nodes v r c) × (x ≡ record { left = cell.left + 1; right = head })))
    (down_is : IsOffer d key t es v r c (cell_down cell below) down) (across_is : IsOffer d key t es v r c beside across)
    (moved : IsPermutation (offers down across (product_of nodes v r c).frontier) (top ∷ new)) (least : IsLeast d key top (product_of nodes v r c).frontier) where
  abbrev xs : List (KeyOf d 16)
  xs = part_list d key t v r c

  abbrev ys : List (KeyOf d 16)
  ys = group_list d key t (child t v c) (group_named t v r c)

  abbrev old : ProductView R
  old = product_of nodes v r c

  abbrev Held : Entry R Cell → Type 0
  Held = IsHeld d key (pair_key (key_add d 16) (key_none d 16) xs ys) (InProduct d xs ys) (pair_of es)

  abbrev KnownCell : Cell → Type 0
  KnownCell x = (x.left < part_known nodes v r c) × (x.right < length es) × (node_of es x.right ≡ child t v c) × (group_of es x.right ≡ group_named t v r c)

  abbrev Known : Entry R Cell → Type 0
  Known e = KnownCell e.tag

  own : IsProductOf d key t es nodes v r c
  own = h.products v r c l row in_row

  top_known : Known top
  top_known = subst Known (sym is_top) (All-get_or Known old.frontier 0 top some own.known)

  top_held : Held top
  top_held = subst Held (sym is_top) (All-get_or Held old.frontier 0 top some own.sums.held)

  right_in : cell.right < length es
  right_in = subst (λ z. z.right < length es) is_cell top_known.1

  right_node : node_of es cell.right ≡ child t v c
  right_node = subst (λ z. node_of es z.right ≡ child t v c) is_cell top_known.2

  right_group : group_of es cell.right ≡ group_named t v r c
  right_group = subst (λ z. group_of es z.right ≡ group_named t v r c) is_cell top_known.3

  left_in : cell.left < length xs
  left_in = subst (λ z. z.left < length xs) is_cell top_held.0.0

  left_known : cell.left < part_known nodes v r c
  left_known = subst (λ z. z.left < part_known nodes v r c) is_cell top_known.0

  abbrev Next : ℕ → Type 0
  Next n = (n < length es) × (node_of es n ≡ child t v c) × (group_of es n ≡ group_named t v r c) × (place_of es n ≡ place_of es cell.right + 1)

  next_is : (n : ℕ) → next_of es cell.right ≡ Some n → Next n
  next_is n e =
      let at : IsLinkedAt (node_list es) (group_list_of es) cell.right (Some n) =
      subst (λ o. IsLinkedAt (node_list es) (group_list_of es) cell.right o) e (h.linked cell.right (omega (arith, right_in, node_length es))) in
      (omega (arith, at.0, node_length es), at.1 ∙ right_node, at.2 ∙ right_group, at.3)

  down_facts : (b : Option ℕ) (a : Option (Entry R Cell)) → IsAnswered d key t es cell.right b → IsOffer d key t es v r c (cell_down cell b) a
      → MaybeHolds Held a × MaybeHolds Known a × IsDown d key xs ys (pair_of es) (pair_of es top.tag) a
  down_facts None None e o = (
    tt,
    tt,
    subst (λ z. length ys ≤ place_of es z.right + 1) (sym is_cell)
        (omega (arith, e, ap (λ z. length (group_list d key t z (group_of es cell.right))) right_node, ap (λ z. length (group_list d key t (child t v c) z)) right_group)),
  )
  down_facts None (Some a) e o = absurd o
  down_facts (Some n) None e o = absurd o
  down_facts (Some n) (Some a) e o =
      let f : Next n = next_is n e in
      let k = entry_key d key t es nodes h n (child t v c) (group_named t v r c) f.0 f.1 f.2 in (
        subst (λ (z : Cell). InProduct d xs ys (pair_of es z) × (key a.rank ≡ pair_key (key_add d 16) (key_none d 16) xs ys (pair_of es z))) (sym o.0) ((left_in, k.1), o.1),
        subst (λ (z : Cell). (z.left < part_known nodes v r c) × (z.right < length es) × (node_of es z.right ≡ child t v c) × (group_of es z.right ≡ group_named t v r c)) (sym o.0) (left_known, f.0, f.1, f.2),
        ap (λ z. pair_of es z) o.0 ∙ ap (λ (p : ℕ). (let z : Pair = record { left = cell.left; right = p } in z)) f.3 ∙ ap (λ (z : Cell). (let p : Pair = record { left = z.left; right = place_of es z.right + 1 } in p)) (sym is_cell),
      )

  stream_facts : IsStreamOf d key t es nodes (child t v c) (group_named t v r c)
  stream_facts = h.streams (child t v c) (group_named t v r c) (kid d key t h.tree v c (child_in d key t es nodes h v r c l row in_row)).within (named_stream d key t es nodes h v r c l row (child_in d key t es nodes h v r c l row in_row))

  head_in : head < length es
  head_in = omega (arith, head_is, stream_facts.head_in)

  head_node : node_of es head ≡ child t v c
  head_node = ap (λ z. node_of es z) head_is ∙ stream_facts.head_node

  head_group : group_of es head ≡ group_named t v r c
  head_group = ap (λ z. group_of es z) head_is ∙ stream_facts.head_group

  head_place : place_of es head ≡ 0
  head_place = ap (λ z. place_of es z) head_is ∙ stream_facts.head_place

  is_head : place_of es cell.right ≡ 0 → cell.right ≡ head
  is_head e =
      place_once (node_list es) (group_list_of es) (node_length es ∙ sym (group_length es)) cell.right head (omega (arith, right_in, node_length es)) (omega (arith, head_in, node_length es)) (right_node ∙ sym head_node) (right_group ∙ sym head_group) (e ∙ sym head_place)

  across_facts : (b : Option Cell) (a : Option (Entry R Cell)) → MatchOption b (cell.right ≡ head → part_known nodes v r c ≤ cell.left + 1) (λ x. (cell.right ≡ head) × (cell.left + 1 < part_known nodes v r c) × (x ≡ record { left = cell.left + 1; right = head }))
      → IsOffer d key t es v r c b a → MaybeHolds Held a × MaybeHolds Known a × IsAcross d key xs ys (pair_of es) (pair_of es top.tag) a
  across_facts None None e o = (
    tt,
    tt,
    subst (λ z. (place_of es z.right ≢ 0) ⊎ (length xs ≤ z.left + 1)) (sym is_cell) (elim (cases_eq (place_of es cell.right) 0) [
      | inr n ↦ inl n
      | inl z ↦ elim (ready (is_head z)) [ inl k ↦ absurd (omega (arith, k, e (is_head z))) | inr k ↦ inr k ]
    ]),
  )
  across_facts None (Some a) e o = absurd o
  across_facts (Some x) None e o = absurd o
  across_facts (Some x) (Some a) e o =
      let same : a.tag ≡ record { left = cell.left + 1; right = head } = o.0 ∙ e.2 in
      let k = entry_key d key t es nodes h head (child t v c) (group_named t v r c) head_in head_node head_group in
      let inside : cell.left + 1 < length xs = known_inside d key t es nodes h v r c (cell.left + 1) l row (omega arith) e.1 in (
        subst (λ (z : Cell). InProduct d xs ys (pair_of es z) × (key a.rank ≡ pair_key (key_add d 16) (key_none d 16) xs ys (pair_of es z))) (sym same) ((inside, k.1), o.1 ∙ ap (λ z. pair_key (key_add d 16) (key_none d 16) xs ys (pair_of es z)) e.2),
        subst (λ (z : Cell). (z.left < part_known nodes v r c) × (z.right < length es) × (node_of es z.right ≡ child t v c) × (group_of es z.right ≡ group_named t v r c)) (sym same) (e.1, head_in, head_node, head_group),
        (
          ap (λ z. place_of es z.right) is_cell ∙ ap (λ z. place_of es z) e.0 ∙ head_place,
          ap (λ z. pair_of es z) same ∙ ap (λ (p : ℕ). (let z : Pair = record { left = cell.left + 1; right = p } in z)) head_place ∙ ap (λ (z : Cell). (let p : Pair = record { left = z.left + 1; right = 0 } in p)) (sym is_cell),
        ),
      )

  down_all : MaybeHolds Held down × MaybeHolds Known down × IsDown d key xs ys (pair_of es) (pair_of es top.tag) down
  down_all = down_facts below down answered down_is

  across_all : MaybeHolds Held across × MaybeHolds Known across × IsAcross d key xs ys (pair_of es) (pair_of es top.tag) across
  across_all = across_facts beside across beside_is across_is

  pub new_known : All Known new
  new_known = All-tail Known top new (All-permutation Known (offers down across old.frontier) (top ∷ new) moved (all_offers Known down across old.frontier down_all.1 across_all.1 own.known))

  -- nothing follows
  pub sums_end : new ≡ [] → (length old.found ≡ length (part_list d key t v r (suc c))) × IsFrontier d key (pair_of es) xs ys (part_list d key t v r (suc c)) old.found []
  sums_end e =
      frontier_ends d key xs ys (part_list d key t v r (suc c)) (part_ascends d key t v r c) (group_ascends d key t (child t v c) (group_named t v r c)) (pair_of es) old.found old.frontier down across top own.sums some is_top least
      (subst (λ z. IsPermutation (offers down across old.frontier) (top ∷ z)) e moved) down_all.0 across_all.0 top_held.0 down_all.2 across_all.2

  -- the cells of the sums found stay known
  pub kept_known : All KnownCell old.found
  kept_known = own.found_known

  pub next_known : (next : Entry R Cell) → 0 < length new → next ≡ get_or new 0 next → All KnownCell (old.found ++ (next.tag ∷ []))
  next_known next more is_next = all_more KnownCell old.found next.tag own.found_known (subst Known (sym is_next) (All-get_or Known new 0 next more new_known))

  next_sum : (next : Entry R Cell) → 0 < length new → next ≡ get_or new 0 next → IsLeast d key next new
      → (length old.found < length (part_list d key t v r (suc c))) × (get_or (part_list d key t v r (suc c)) (length old.found) (key_none d 16) ≡ key next.rank)
      × IsFrontier d key (pair_of es) xs ys (part_list d key t v r (suc c)) (old.found ++ (next.tag ∷ [])) new
  next_sum next more is_next next_least =
      frontier_grows d key xs ys (part_list d key t v r (suc c)) (part_ascends d key t v r c) (group_ascends d key t (child t v c) (group_named t v r c)) (pair_of es) old.found old.frontier new down across top next own.sums some is_top least
      moved down_all.0 across_all.0 top_held.0 down_all.2 across_all.2 more is_next next_least

  -- the next sum
  pub sums_grow : (next : Entry R Cell) → 0 < length new → next ≡ get_or new 0 next → IsLeast d key next new → IsFrontier d key (pair_of es) xs ys (part_list d key t v r (suc c)) (old.found ++ (next.tag ∷ [])) new
  sums_grow next more is_next next_least = (next_sum next more is_next next_least).2

  -- its rank is kept too, if the product keeps ranks
  pub ranks_grow : (next : Entry R Cell) → 0 < length new → next ≡ get_or new 0 next → IsLeast d key next new → (p : ProductView R) → p.found ≡ old.found ++ (next.tag ∷ []) → p.ranks ≡ with_rank old.ranks next.rank
      → suc c < child_count t v → KeepsRanks d key (part_list d key t v r (suc c)) p
  ranks_grow next more is_next next_least p found ranks few =
      let s = next_sum next more is_next next_least in
      ranks_more d key (part_list d key t v r (suc c)) old p next found ranks s.0 s.1 (own.ranked few)

  pub ranks_kept : suc c < child_count t v → KeepsRanks d key (part_list d key t v r (suc c)) old
  ranks_kept few = own.ranked few

  abbrev KnownAfter : ProductView R → Cell → Type 0
  KnownAfter p x = (x.left < part_known (slice_set nodes v (with_product (lists_of nodes v) r c p)) v r c) × (x.right < length es) × (node_of es x.right ≡ child t v c) × (group_of es x.right ≡ group_named t v r c)

  cells_after : {E : Type 0} (at : E → Cell) (p : ProductView R) → (rises : length old.found ≤ length p.found) → (es1 es2 : List E) → es2 ≡ es1 → All (λ e. KnownCell (at e)) es1 → All (λ e. KnownAfter p (at e)) es2
  cells_after at p rises es1 es2 same a =
      subst (All (λ e. KnownAfter p (at e))) (sym same)
      (All-weaker (λ e. KnownCell (at e)) (λ e. KnownAfter p (at e)) (λ e k. (omega (arith, k.0, changed_known d key t es nodes h v r c p l row in_row rises v r c), k.1, k.2, k.3)) es1 a)

  -- the invariants after the step
  pub step_holds : (p : ProductView R) → p.frontier ≡ new → length new ≤ 2 ^ 64 → (rises : length old.found ≤ length p.found) → All KnownCell p.found → IsFrontier d key (pair_of es) xs ys (part_list d key t v r (suc c)) p.found new
      → (suc c < child_count t v → KeepsRanks d key (part_list d key t v r (suc c)) p) → IsStreams d key t es (slice_set nodes v (with_product (lists_of nodes v) r c p))
  step_holds p same few rises found_known f ranked =
      product_set d key t es nodes h v r c p l row in_row rises
      (record {
        few = subst (λ z. length z ≤ 2 ^ 64) (sym (at_frontier ∙ same)) few;
        known = cells_after (λ (e : Entry R Cell). e.tag) p rises new (product_of (slice_set nodes v (with_product (lists_of nodes v) r c p)) v r c).frontier (at_frontier ∙ same) new_known;
        found_known = cells_after (λ (x : Cell). x) p rises p.found (product_of (slice_set nodes v (with_product (lists_of nodes v) r c p)) v r c).found (ap (λ z. z.found) at_product) found_known;
        sums = subst (λ (z : ProductView R). IsFrontier d key (pair_of es) xs ys (part_list d key t v r (suc c)) z.found z.frontier) (sym at_product)
            (subst (λ (z : List (Entry R Cell)). IsFrontier d key (pair_of es) xs ys (part_list d key t v r (suc c)) p.found z) (sym same) f);
        ranked = λ less. subst (λ (z : ProductView R). KeepsRanks d key (part_list d key t v r (suc c)) z) (sym at_product) (ranked less);
      })
    where
      at_product : product_of (slice_set nodes v (with_product (lists_of nodes v) r c p)) v r c ≡ p
      at_product = changed_product d key t es nodes h v r c p l row in_row rises

      at_frontier : (product_of (slice_set nodes v (with_product (lists_of nodes v) r c p)) v r c).frontier ≡ p.frontier
      at_frontier = ap (λ z. z.frontier) at_product
