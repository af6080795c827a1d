-- The queue of places before the first answer, and after each.
use Rattle.std.proofs.Common.{◌≡◌, ℕ, ◌+◌, ◌*◌, ◌<◌, ◌≤◌, List, [], ◌∷◌, length, get_or, refl, sym, ap, ◌∙◌, subst, arith}
use Rattle.std.specs.List.{All}
use Rattle.std.specs.List.Sorted.{IsPermutation}
use Rattle.std.proofs.lemmas.List.Elements.{All-head, All-tail, All-cons, All-nil}
use Rattle.std.proofs.lemmas.List.Sorted.{All-permutation, length_permutation, sum_by_popped}
use Rattle.take2_heap.specs.declared.entry.Entry.{Entry}
use Rattle.take2_heap.specs.Order as heaps
use Rattle.rankings.specs.Order.{IsMember}
use Rattle.tdp_model.specs.KeyTuple.{KeyOf, key_below}
use Rattle.tdp_model.specs.Remains.{AtMost, Remains}
use Rattle.tdp_model.proofs.KeyTuples.{tuple_keys}
use Rattle.tdp_model.proofs.KeyNumbers.{not_less_at_most}
use Rattle.tdp_model.proofs.Removal.{take_least}
use Rattle.tdp_model.proofs.Subtrees.{same, same_at}
use Rattle.tdp_core.specs.TreeView.{NodeView, node_at, group_count, rows, row_count}
use Rattle.tdp_core.specs.WellFormed.{IsFormed, IsTieFreeTree}
use Rattle.tdp_core.proofs.TreeFacts.{group_rows_within, rows_within, term_within}
use Rattle.tree_dp.specs.BestRanking.{IsBestRanking}
use Rattle.best_per.specs.RootHeap.{holds, held_by, root_len, place_key, rest_keys, IsPlace, IsQueue}
use Rattle.best_per.proofs.RootPlaces.{place_split, only_itself, entries_after}
use Rattle.best_per.proofs.Rests.{rest_is, rest_length, top_remains, top_ranking}

member_length : {K : Type 0} (k : K) (ks : List K) → IsMember k ks → 1 ≤ length ks
member_length k [] m = absurd m
member_length k (x ∷ ks) m = omega arith

module _ {R : Type 0} (d : ℕ) (key : R → KeyOf d 16) (t : List (NodeView R)) where
  -- a heap with a place belongs to a tree with solutions
  pub heap_lives : (i : ℕ) → i < root_len t → 0 < group_count t 0
  heap_lives i l = some_group (node_at t 0).groups l
    where
      some_group : (gs : List (List ℕ)) → i < length (get_or gs 0 []) → 0 < length gs
      some_group [] l = absurd (omega (arith, l))
      some_group (g ∷ gs) l = omega arith

  -- a queue that holds what the top holds
  pub queue_begins : (es : List (Entry R ℕ)) (spare : ℕ) → IsFormed d key t → IsTieFreeTree t → All (IsPlace d key t) es → ((i : ℕ) → held_by (root_len t) es i ≡ holds (root_len t) 0 i)
      → root_len t ≤ spare → length es ≤ 1 → IsQueue d key t es spare × IsBestRanking t d key (rest_keys d key t es)
  queue_begins es spare formed apart all top room few = (
    record {
      formed = formed;
      tie_free = apart;
      each = all;
      remains = top_remains d key t formed apart es top;
      room = omega (arith, room, rest_length d key t es);
      few = omega (arith, few, rest_length d key t es);
    },
    top_ranking d key t formed apart es top,
  )

  -- no entry has a smaller key than the entry that is taken out
  all_after : (e : Entry R ℕ) (es : List (Entry R ℕ)) → key e.rank ≡ place_key d key t e.tag → heaps.IsLeast d key e es → All (IsPlace d key t) es
      → All (λ x. AtMost (key_below d 16) (place_key d key t e.tag) (place_key d key t x.tag)) es
  all_after e [] is least all = All-nil _
  all_after e (x ∷ es) is least all =
      let P : Entry R ℕ → Type 0 = λ y. AtMost (key_below d 16) (place_key d key t e.tag) (place_key d key t y.tag) in
      let own = All-head (IsPlace d key t) x es all in
      All-cons P x es
      (subst (λ k. AtMost (key_below d 16) k (place_key d key t x.tag)) is (subst (λ k. AtMost (key_below d 16) (key e.rank) k) own.ranked (not_less_at_most d 16 (key x.rank) (key e.rank) least.0)))
      (all_after e es is least.1 (All-tail (IsPlace d key t) x es all))

  module _ (entries : List (Entry R ℕ)) (spare : ℕ) (queue : IsQueue d key t entries spare) (e : Entry R ℕ) (others : List (Entry R ℕ)) (popped : IsPermutation entries (e ∷ others)) where
    pub all_popped : All (IsPlace d key t) (e ∷ others)
    all_popped = All-permutation (IsPlace d key t) entries (e ∷ others) popped queue.each

    pub top_place : IsPlace d key t e
    top_place = All-head (IsPlace d key t) e others all_popped

    pub others_placed : All (IsPlace d key t) others
    others_placed = All-tail (IsPlace d key t) e others all_popped

    pub top_lives : 0 < group_count t 0
    top_lives = heap_lives e.tag top_place.within

    pub heap_within : root_len t ≤ rows t 0
    heap_within = group_rows_within d key t queue.formed 0 0 (omega (arith, queue.formed.shaped.some_node))

    pub tag_small : e.tag < 4194304
    tag_small = omega (arith, top_place.within, heap_within, rows_within d key t queue.formed 0 (omega (arith, queue.formed.shaped.some_node)))

    pub rows_counted : rows t 0 ≤ row_count t
    rows_counted = term_within (rows t) (length t) 0 0 (omega arith) (omega (arith, queue.formed.shaped.some_node))

    top_held : 0 < held_by (root_len t) entries e.tag
    top_held = omega (
      arith,
      sum_by_popped (λ (x : Entry R ℕ). holds (root_len t) x.tag e.tag) e entries others popped,
      place_split (root_len t) e.tag e.tag top_place.within,
      same_at e.tag e.tag refl,
    )

    -- so there is a row left
    pub some_left : 1 ≤ length (rest_keys d key t entries)
    some_left = member_length (place_key d key t e.tag) (rest_keys d key t entries) (queue.remains.complete e.tag top_held)

    -- The entry that is taken out has the head of the rest. When the two places below it are put
    -- in, the queue has the tail.
    pub queue_next : heaps.IsLeast d key e entries → (entries' : List (Entry R ℕ)) (spare' : ℕ) → All (IsPlace d key t) entries'
        → ((i : ℕ) → held_by (root_len t) entries' i ≡ holds (root_len t) (2 * e.tag + 2) i + (holds (root_len t) (2 * e.tag + 1) i + held_by (root_len t) others i))
        → spare ≤ spare' + 1 → length entries' ≤ length others + 2
        → (rest_keys d key t entries ≡ place_key d key t e.tag ∷ rest_keys d key t entries') × IsQueue d key t entries' spare'
    queue_next least entries' spare' all held room few =
        let n = root_len t in
        let j = e.tag in
        let formed = queue.formed in
        let some : 0 < length t = omega (arith, formed.shaped.some_node) in
        let split : (i : ℕ) → held_by n entries i ≡ same i j + held_by n entries' i =
        λ i. let p = sum_by_popped (λ (x : Entry R ℕ). holds n x.tag i) e entries others popped in
        omega (arith, p, place_split n j i top_place.within, held i)
        in
        let after : (i : ℕ) → 0 < held_by n entries i → AtMost (key_below d 16) (place_key d key t j) (place_key d key t i) =
        entries_after (key_below d 16) (tuple_keys d 16).order (place_key d key t) n (λ i p l. formed.heaps 0 0 i some p l) (place_key d key t j) entries
        (all_after e entries top_place.ranked least queue.each)
        in
        let next = take_least (key_below d 16) (tuple_keys d 16).order (place_key d key t) (held_by n entries) (λ i. same i j) (held_by n entries') j split (omega (arith, same_at j j refl)) (λ i h. only_itself j i h) after
        (rest_keys d key t entries) queue.remains
        in
        let is : next.0 ≡ rest_keys d key t entries' = rest_is d key t entries' next.0 next.2 in
        let rest : rest_keys d key t entries ≡ place_key d key t j ∷ rest_keys d key t entries' = next.1 ∙ ap (λ ks. place_key d key t j ∷ ks) is in
        let one : length (rest_keys d key t entries) ≡ 1 + length (rest_keys d key t entries') = ap length rest ∙ omega arith in (
          rest,
          record {
            formed = formed;
            tie_free = queue.tie_free;
            each = all;
            remains = subst (λ ks. Remains ℕ (KeyOf d 16) (key_below d 16) (place_key d key t) (held_by n entries') ks) is next.2;
            room = omega (arith, one, room, queue.room);
            few = omega (arith, one, few, queue.few, length_permutation entries (e ∷ others) popped);
          },
        )

  -- an empty queue has no rest
  pub none_rest : (entries : List (Entry R ℕ)) → length entries ≤ 0 → rest_keys d key t entries ≡ []
  none_rest [] l = nothing
    where
      nothing : rest_keys d key t [] ≡ []
      nothing = sym (rest_is d key t [] [] (record {
        once = λ i. omega arith;
        apart = λ i j a b e. absurd (omega (arith, a));
        ascending = tt;
        complete = λ i a. absurd (omega (arith, a));
        sound = λ k m. absurd m;
      }))
  none_rest (e ∷ es) l = absurd (omega (arith, l))
