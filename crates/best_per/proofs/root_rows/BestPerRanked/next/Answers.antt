use Rattle.std.proofs.Common.{◌≡◌, suc, ◌+◌, ◌*◌, ◌<◌, ◌≤◌, ◌∙◌, ℕ, ℤ, true, false, List, [], ◌∷◌, length, inl, inr, refl, sym, ap, subst, arith}
use Rattle.std.proofs.lemmas.Bool.{false≢true, cases_lt}
use Rattle.std.proofs.lemmas.List.Sorted.{length_permutation}
use Rattle.take2_heap.specs.declared.entry.Entry.{Entry}
use Rattle.take2_heap.specs.Heap.{Heap}
use Rattle.rank_key.specs.Bits.{bit_length}
use Rattle.rank_key.proofs.BitLemmas.{bit_length_rises, bit_length_zero}
use Rattle.tdp_model.specs.KeyTuple.{KeyOf}
use Rattle.tdp_model.specs.KeyNumbers.{numbers}
use Rattle.tdp_core.specs.AnswerView.{AnswerView, counted, answers_of, rows_of_key}
use Rattle.tdp_core.specs.Shares.{share_of, size_of}
use Rattle.tdp_core.specs.TreeView.{rows, row_count, group_count, best}
use Rattle.tdp_core.proofs.TreeFacts.{member_is_row}
use Rattle.best_per.specs.RootHeap.{BestView, IsQueue, holds, rest_keys, root_len, place_key}
use Rattle.best_per.proofs.Counts.{call_within}
use Rattle.best_per.proofs.Queues.{top_place, others_placed, top_lives, heap_within, tag_small, rows_counted, some_left, queue_next, none_rest}
use Rattle.best_per.proofs.root_rows.BestPerRanked.next.Goals as goal

-- the room and the entries of a queue that gave one entry and took up to two
room_left : (old popped one two : ℕ) → popped ≡ old + 1 → popped ≤ one + 1 → one ≤ two + 1 → old ≤ two + 1
room_left old popped one two e f h = omega (arith, e, f, h)

two_more : (new one old : ℕ) → new ≤ one + 1 → one ≤ old + 1 → new ≤ old + 2
two_more new one old h k = omega (arith, h, k)

one_more : (a b : ℕ) → a ≡ suc b → a ≡ b + 1
one_more a b e = omega (arith, e)

some_more : (a b : ℕ) → a ≡ b + 1 → 1 ≤ a
some_more a b e = omega (arith, e)

next_within : (a b n : ℕ) → a ≤ b + 1 → n ≡ b + 1 → a + 1 ≤ n + 1
next_within a b n l e = omega (arith, l, e)

cost_grows : (a b k n : ℕ) → a ≤ b + k → k ≤ n → a ≤ b + n
cost_grows a b k n h l = omega (arith, h, l)

first_node : (n : ℕ) → 1 ≤ n → 0 < n
first_node n some = omega (arith, some)

-- a queue from which nothing came has no entries
none_waits : (n : ℕ) → (0 < n → false ≡ true) → n ≤ 0
none_waits n given = elim (cases_lt 0 n) [ inl some ↦ absurd (false≢true (given some)) | inr none ↦ none ]

pub overflow_mul-top : goal.overflow_mul-top
overflow_mul-top g c =
    let small = tag_small g.R.Rank.KEYS g.R.Rank.key c.self.inside.tree.now c.self.inside.queue.entries c.self.inside.queue.spare c.self.invariant c.in-Some.top c.pop.new.self.entries c.in-Some.ensures.permutation in
    omega (arith, small)

pub overflow_add-top : goal.overflow_add-top
overflow_add-top g c =
    let small = tag_small g.R.Rank.KEYS g.R.Rank.key c.self.inside.tree.now c.self.inside.queue.entries c.self.inside.queue.spare c.self.invariant c.in-Some.top c.pop.new.self.entries c.in-Some.ensures.permutation in
    omega (arith, small)

pub invariant_of-self : goal.invariant_of-self
invariant_of-self g c =
    subst (λ (q : Heap g.row.R.Denot ℕ). IsQueue g.R.Rank.KEYS g.R.Rank.key c.self.inside.tree.now q.entries q.spare) (sym c.in_default.ensures.none) c.self.invariant

pub offer-requires-clause-live : goal.offer-requires-clause-live
offer-requires-clause-live g c = top_lives g.R.Rank.KEYS g.R.Rank.key c.self.inside.tree.now c.self.inside.queue.entries c.self.inside.queue.spare c.self.invariant c.in-Some.top c.pop.new.self.entries c.in-Some.ensures.permutation

pub offer-requires-2-clause-live : goal.offer-requires-2-clause-live
offer-requires-2-clause-live g c = top_lives g.R.Rank.KEYS g.R.Rank.key c.self.inside.tree.now c.self.inside.queue.entries c.self.inside.queue.spare c.self.invariant c.in-Some.top c.pop.new.self.entries c.in-Some.ensures.permutation

pub member-row-requires-clause-group : goal.member-row-requires-clause-group
member-row-requires-clause-group g c = top_lives g.R.Rank.KEYS g.R.Rank.key c.self.inside.tree.now c.self.inside.queue.entries c.self.inside.queue.spare c.self.invariant c.in-Some.top c.pop.new.self.entries c.in-Some.ensures.permutation

pub member-row-requires-clause-place : goal.member-row-requires-clause-place
member-row-requires-clause-place g c =
    let place = top_place g.R.Rank.KEYS g.R.Rank.key c.self.inside.tree.now c.self.inside.queue.entries c.self.inside.queue.spare c.self.invariant c.in-Some.top c.pop.new.self.entries c.in-Some.ensures.permutation in
    place.within

pub best_rows-rows-requires-clause-tie_free : goal.best_rows-rows-requires-clause-tie_free
best_rows-rows-requires-clause-tie_free g c = c.self.invariant.tie_free

pub offer-requires-clause-entries : goal.offer-requires-clause-entries
offer-requires-clause-entries g c =
    others_placed g.R.Rank.KEYS g.R.Rank.key c.self.inside.tree.now c.self.inside.queue.entries c.self.inside.queue.spare c.self.invariant c.in-Some.top c.pop.new.self.entries c.in-Some.ensures.permutation

pub overflow_mul-top-2 : goal.overflow_mul-top-2
overflow_mul-top-2 g c =
    let small = tag_small g.R.Rank.KEYS g.R.Rank.key c.self.inside.tree.now c.self.inside.queue.entries c.self.inside.queue.spare c.self.invariant c.in-Some.top c.pop.new.self.entries c.in-Some.ensures.permutation in
    omega (arith, small)

pub overflow_add-top-2 : goal.overflow_add-top-2
overflow_add-top-2 g c =
    let small = tag_small g.R.Rank.KEYS g.R.Rank.key c.self.inside.tree.now c.self.inside.queue.entries c.self.inside.queue.spare c.self.invariant c.in-Some.top c.pop.new.self.entries c.in-Some.ensures.permutation in
    omega (arith, small)

pub offer-requires-2-clause-room : goal.offer-requires-2-clause-room
offer-requires-2-clause-room g c =
    let left = some_left g.R.Rank.KEYS g.R.Rank.key c.self.inside.tree.now c.self.inside.queue.entries c.self.inside.queue.spare c.self.invariant c.in-Some.top c.pop.new.self.entries c.in-Some.ensures.permutation in
    omega (arith, left, c.self.invariant.room, c.in-Some.ensures.spare, c.offer.ensures.room)

pub best_rows-rows-requires-clause-row : goal.best_rows-rows-requires-clause-row
best_rows-rows-requires-clause-row g c =
    let d = g.R.Rank.KEYS in let key = g.R.Rank.key in let t = c.self.inside.tree.now in
    let formed = c.self.invariant.formed in
    let place = top_place d key t c.self.inside.queue.entries c.self.inside.queue.spare c.self.invariant c.in-Some.top c.pop.new.self.entries c.in-Some.ensures.permutation in
    subst (λ r. r < rows t 0) (sym c.member-row.ensures.member) (member_is_row d key t formed 0 0 c.in-Some.top.tag (first_node _ formed.shaped.some_node) place.within)

pub invariant_of-self-2 : goal.invariant_of-self-2
invariant_of-self-2 g c =
    (queue_next g.R.Rank.KEYS g.R.Rank.key c.self.inside.tree.now c.self.inside.queue.entries c.self.inside.queue.spare c.self.invariant c.in-Some.top c.pop.new.self.entries c.in-Some.ensures.permutation
    c.in-Some.ensures.least c.offer-2.new.queue.entries c.offer-2.new.queue.spare c.offer-2.ensures.entries (λ i. c.offer-2.ensures.held i
    ∙ ap (λ (z : ℕ). holds (root_len c.self.inside.tree.now) (2 * c.in-Some.top.tag + 2) i + z) (c.offer.ensures.held i))
    (room_left _ _ _ _ c.in-Some.ensures.spare c.offer.ensures.room c.offer-2.ensures.room) (two_more _ _ _ c.offer-2.ensures.length c.offer.ensures.length)).1

pub returns-in_default : goal.returns-in_default
returns-in_default g c =
    let d = g.R.Rank.KEYS in let key = g.R.Rank.key in let t = c.self.inside.tree.now in
    let entries : List (Entry g.row.R.Denot ℕ) = c.self.inside.queue.entries in
    let empty = none_waits (length entries) c.in_default.ensures.variant.1 in
    let none : answers_of d (rest_keys d key t entries) ≡ [] = ap (answers_of d) (none_rest d key t entries empty) in
    let same : c.pop.new.self.entries ≡ entries = ap (λ (q : Heap g.row.R.Denot ℕ). q.entries) c.in_default.ensures.none in
    let zero_digits : bit_length (length entries) ≡ 0 = ap bit_length (let e : length entries ≡ 0 = omega (arith, empty) in e) ∙ bit_length_zero in
    record {
      total = refl;
      found = tt;
      end = (
        ap (λ (s : BestView g.row.R.Denot). s.rest) (sym c.self.view_is) ∙ none,
        ap (λ (es : List (Entry g.row.R.Denot ℕ)). answers_of d (rest_keys d key t es)) same ∙ none,
      );
      refused = tt;
      counted = c.saturating_add-self-inside.ensures ∙ ap (λ (s : BestView g.row.R.Denot). counted s.calls) c.self.view_is;
      size = ap (λ (s : BestView g.row.R.Denot). size_of s.tree) c.self.view_is;
      cost = omega (arith, c.pop.ensures.cost, zero_digits);
    }

pub returns : goal.returns
returns g c =
    let d = g.R.Rank.KEYS in let key = g.R.Rank.key in let t = c.self.inside.tree.now in
    let entries : List (Entry g.row.R.Denot ℕ) = c.self.inside.queue.entries in
    let e : Entry g.row.R.Denot ℕ = c.in-Some.top in
    let left : List (Entry g.row.R.Denot ℕ) = c.offer-2.new.queue.entries in
    let k : KeyOf d 16 = place_key d key t e.tag in
    let place = top_place d key t entries c.self.inside.queue.spare c.self.invariant e c.pop.new.self.entries c.in-Some.ensures.permutation in
    let next : rest_keys d key t entries ≡ k ∷ rest_keys d key t left =
    (queue_next d key t entries c.self.inside.queue.spare c.self.invariant e c.pop.new.self.entries c.in-Some.ensures.permutation
    c.in-Some.ensures.least left c.offer-2.new.queue.spare c.offer-2.ensures.entries (λ i. c.offer-2.ensures.held i
    ∙ ap (λ (z : ℕ). holds (root_len c.self.inside.tree.now) (2 * c.in-Some.top.tag + 2) i + z) (c.offer.ensures.held i))
    (room_left _ _ _ _ c.in-Some.ensures.spare c.offer.ensures.room c.offer-2.ensures.room) (two_more _ _ _ c.offer-2.ensures.length c.offer.ensures.length)).0
    in
    let rows_are : c.best_rows-rows.result ≡ rows_of_key d 16 k = c.best_rows-rows.ensures.rows ∙ ap (λ r. rows_of_key d 16 (best t d key 0 r)) c.member-row.ensures.member in
    let seen : List ℕ → List ℤ → AnswerView = λ r ns. record { rows = r; key = ns } in
    let spare = c.self.inside.queue.spare in let q = c.self.invariant in
    let others : List (Entry g.row.R.Denot ℕ) = c.pop.new.self.entries in
    let popped = c.in-Some.ensures.permutation in
    let one : length entries ≡ length others + 1 = one_more _ _ (sym (length_permutation entries (e ∷ others) popped)) in
    let first : bit_length (length others + 1) ≡ bit_length (length entries) = ap bit_length (sym one) in
    let second : bit_length (length c.offer.new.queue.entries + 1) ≤ bit_length (length entries + 1) =
    bit_length_rises (length c.offer.new.queue.entries + 1) (length entries + 1) (next_within _ _ _ c.offer.ensures.length one)
    in
    let few : length entries ≤ row_count t =
    omega (arith, q.few, some_left d key t entries spare q e others popped, heap_within d key t entries spare q e others popped, rows_counted d key t entries spare q e others popped)
    in
    let all : c.best_rows-rows.new.steps ≤ c.args.steps.now + share_of (size_of t) 0 =
    call_within (length t) (row_count t) (group_count t 0) (length entries) c.args.steps.now c.pop.new.steps c.offer.new.steps c.offer-2.new.steps c.member-row.new.steps c.best_rows-rows.new.steps
    q.formed.shaped.some_node (top_lives d key t entries spare q e others popped) (some_more _ _ one) few c.pop.ensures.cost (subst (λ (k : ℕ). c.offer.new.steps ≤ c.pop.new.steps + 2 + k) first c.offer.ensures.cost)
    (cost_grows c.offer-2.new.steps (c.offer.new.steps + 2) _ _ c.offer-2.ensures.cost second) c.member-row.ensures.counted c.best_rows-rows.ensures.cost
    in
    record {
      total = refl;
      found = ap (λ (s : BestView g.row.R.Denot). s.rest) (sym c.self.view_is)
          ∙ ap (answers_of d) next
          ∙ ap (λ r. seen r (numbers d 16 k) ∷ answers_of d (rest_keys d key t left)) (sym rows_are)
          ∙ ap (λ z. seen c.best_rows-rows.result (numbers d 16 z) ∷ answers_of d (rest_keys d key t left)) (sym place.ranked);
      end = tt;
      refused = tt;
      counted = c.saturating_add-self-inside.ensures ∙ ap (λ (s : BestView g.row.R.Denot). counted s.calls) c.self.view_is;
      size = ap (λ (s : BestView g.row.R.Denot). size_of s.tree) c.self.view_is;
      cost = subst (λ (s : BestView g.row.R.Denot). c.best_rows-rows.new.steps ≤ c.args.steps.now + share_of (size_of s.tree) 0) c.self.view_is all;
    }

pub member-row-requires-clause-node : goal.member-row-requires-clause-node
member-row-requires-clause-node g c = first_node _ c.self.invariant.formed.shaped.some_node

pub offer-requires-2-clause-entries : goal.offer-requires-2-clause-entries
offer-requires-2-clause-entries g c = c.offer.ensures.entries

pub offer-requires-2-clause-formed : goal.offer-requires-2-clause-formed
offer-requires-2-clause-formed g c = c.self.invariant.formed
