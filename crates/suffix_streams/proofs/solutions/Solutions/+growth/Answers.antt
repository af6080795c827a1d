use Rattle.std.proofs.Common.{◌≡◌, ◌≢◌, ◌↔◌, ◌⊎◌, IsTrue, ℕ, suc, ◌+◌, ◌-◌, ◌*◌, ◌<◌, ◌≤◌, max, cond, nat_eq, Some, None, is_some, OnOk, IfSome, List, length, get_or, slice_index, refl, sym, ap, ◌∙◌, subst, inl, inr, arith}
use Rattle.stream_store.specs.declared.linked.Linked.{Linked}
use Rattle.tdp_model.specs.Below.{is_below}
use Rattle.rank_key.specs.Bits.{bit_length}
use Rattle.tdp_core.specs.TreeView.{NodeView, parent, rows, number, members, child_count, group_named}
use Rattle.tdp_core.specs.WellFormed.{IsTieFreeTree}
use Rattle.tdp_core.proofs.Children.{kids_below_most}
use Rattle.suffix_streams.specs.declared.stream.Found.{Found}
use Rattle.suffix_streams.specs.ProductView.{ProductView}
use Rattle.suffix_streams.specs.ProductTops.{IsProductTop}
use Rattle.suffix_streams.specs.StreamView.{StreamView}
use Rattle.suffix_streams.specs.NodeStreamsView.{NodeStreamsView, HasHead, product_at, known_of}
use Rattle.suffix_streams.specs.Firsts.{can_enter}
use Rattle.suffix_streams.specs.LastEntries.{IsRowTop, IsRowNext}
use Rattle.suffix_streams.specs.Rankings.{child}
use Rattle.suffix_streams.specs.TreeStreams.{next_of, node_of, product_of, stream_of, part_known, lists_of, products_of, IsStreams}
use Rattle.suffix_streams.specs.Growing.{IsGrown, IsExtended, IsReached, IsAnswered, AreQueuesGrown, IsWithinSteps, below_kids, kids_size}
use Rattle.suffix_streams.specs.Exchanges.{CanExchange, IsChildOffer}
use Rattle.suffix_streams.proofs.ChildSteps.{IsOnlyChild, only_child, child_below, child_exchange, child_next, child_extended, child_steps}
use Rattle.suffix_streams.proofs.RowOffers.{IsRowOffer, row_next}
use Rattle.suffix_streams.proofs.Along.{along, back, same}
use Rattle.suffix_streams.proofs.Heads.{lists_at}
use Rattle.suffix_streams.proofs.StepCells.{no_top}
use Rattle.suffix_streams.proofs.Searching.{answered_stays, extended_none, sums_done, reached_none}
use Rattle.suffix_streams.proofs.NextCall.{IsOwned, IsRowOpen, IsRowSearched, owned, row_open, row_searched, only_opened, searched_grown, searched_queues, searched_steps, searched_stream, linked_grown, linked_queues}
use Rattle.suffix_streams.proofs.RowSearch.{IsRoomMade, IsChildAsked, IsLeftSearched, room_made, made_none, made_queues, made_unstepped, child_asked, asked_extended, asked_queues, asked_within, asked_unstepped, asked_beside, left_searched, left_extended, left_queues, left_steps, one_more_extended, one_more_queues}
use Rattle.suffix_streams.proofs.Errors.{none_given, none_done}
use Rattle.suffix_streams.proofs.SearchCosts.{none_within}
use Rattle.suffix_streams.proofs.SearchRoom.{unstepped_on}
use Rattle.suffix_streams.proofs.SearchSteps.{searched, left_or_none, all_or_none, left_reached, left_few, left_within, count_few}
use Rattle.suffix_streams.proofs.SearchCalls.{on_ok, on_err, not_some, next_read, opened_grown}
use Rattle.suffix_streams.proofs.solutions.Solutions.+growth.Given.{Over}
use Rattle.suffix_streams.proofs.solutions.Solutions.+growth.Goals.{after-After-row_after, row_after-After-child_count-count, row_after-After-after, after-After-get-found, after-In_ok-open_row, search-After-after, search-After-extend, search-After-make_room, extend-then-place-known-via-then-place-known, extend-then-place-known-via-else-place-known+then-count-eq0}
use Rattle.suffix_streams.proofs.Numbers.{in_same, one_within, queue_itself, kids_few}
use Rattle.suffix_streams.proofs.solutions.Solutions.+growth.Goals as goal

-- # Numbers

in_longer : (v n m : ℕ) → v < n → n ≤ m → v < m
in_longer v n m l h = omega arith

next_within : (p q n : ℕ) → p < n → q ≡ p + 1 → q ≤ n
next_within p q n l e = omega arith

at_below : (v p n : ℕ) → p < n → v ≡ p → v ≤ n
at_below v p n l e = omega arith

few_below : (v u n : ℕ) → v ≤ u → u < n → v ≤ n
few_below v u n few l = omega arith

some_is : (n : ℕ) → n ≢ 0 → 0 < n
some_is n h = omega arith

at_most_same : (n m : ℕ) → n ≡ m → n ≤ m
at_most_same n m e = omega arith

last_is : (n : ℕ) → 0 < n → suc (n - 1) ≡ n
last_is n h = omega arith

next_last : (n : ℕ) → suc (n - 1) ≡ n → n - 1 + 1 ≡ n
next_last n e = omega arith

last_below : (n m : ℕ) → 0 < n → n ≤ m → n - 1 < m
last_below n m some few = omega arith

-- a place that is not known, and not past what is known
place_is : (p known place : ℕ) → known ≡ p → known ≤ place → place ≤ p → p ≡ place
place_is p known place e h l = omega arith

known_before : (known p first place : ℕ) → known ≡ p → known ≤ place → first ≡ p → first ≤ place
known_before known p first place e h e' = omega arith

below_next : (v u : ℕ) → v ≡ u → v < suc u
below_next v u e = omega arith

child_in : (v u n m : ℕ) → v ≡ u → u < n → m ≡ n → v < m
child_in v u n m e l same = omega arith

all_found : (found whole known : ℕ) → found ≡ whole → found ≡ known → whole ≤ known
all_found found whole known e is = omega arith

queue_grown : (n m more : ℕ) → n ≤ m + 0 → n ≤ m + more
queue_grown n m more h = omega arith

few_steps : (s s' : ℕ) → s' ≡ s + 1 → s' ≤ s + 4
few_steps s s' e = omega arith

first_step : (s s' b n : ℕ) → s' ≡ s + 1 → s' ≤ s + (14 + 4 * b + n)
first_step s s' b n e = omega arith

opened_steps : (s s' s'' s3 n : ℕ) → s' ≡ s + 1 → s'' ≡ s' + 1 → s3 ≤ s'' + 1 + n → s3 ≤ s + 3 + n
opened_steps s s' s'' s3 n e e' h = omega arith

one_later : (s : ℕ) → s ≤ s + 1
one_later s = omega arith

later_digits : (s n : ℕ) → s ≤ s + 9 + n
later_digits s n = omega arith

later_steps : (s b : ℕ) → s ≤ s + 11 + b
later_steps s b = omega arith

fewer_digits : (s n b b' : ℕ) → s ≤ n + 4 * b → b ≤ b' → s ≤ n + 4 * b'
fewer_digits s n b b' h l = omega arith

-- # The tree stays

two_calls : {R : Type 0} (t t1 t2 : List (NodeView R)) → t1 ≡ t → t2 ≡ t1 → t2 ≡ t
two_calls t t1 t2 e f = f ∙ e

tie_free_twice : {R : Type 0} (t t1 t2 : List (NodeView R)) → t1 ≡ t → t2 ≡ t1 → IsTieFreeTree t → IsTieFreeTree t2
tie_free_twice t t1 t2 e f h = subst IsTieFreeTree (sym (f ∙ e)) h

-- # What gets smaller with each call

-- a search in a row with all its children, for the entry after one
row_smaller : (t n n' v w : ℕ) → 64 * (n - w) + 63 ≡ t → w ≡ v → n' ≡ n → v < n → 64 * (n' - v) + 40 < t
row_smaller t n n' v w h e same l = omega arith

extend_smaller : (t n v count : ℕ) → 64 * (n - v) + 40 ≡ t → v < n → count ≤ 16 → 64 * (n - v) + 2 * count + 1 < t
extend_smaller t n v count h l few = omega arith

only_smaller : (t n v u w : ℕ) → 64 * (n - v) + 40 ≡ t → w ≡ u → v < u → u < n → 64 * (n - w) + 63 < t
only_smaller t n v u w h e below within = omega arith

search_smaller : (t n v count : ℕ) → 64 * (n - v) + 2 * count + 1 ≡ t → 64 * (n - v) + 2 * count < t
search_smaller t n v count h = omega arith

child_smaller : (t n v u w count : ℕ) → 64 * (n - v) + 2 * count ≡ t → w ≡ u → v < u → u < n → 64 * (n - w) + 63 < t
child_smaller t n v u w count h e below within = omega arith

left_smaller : (t n n' v count k : ℕ) → 64 * (n - v) + 2 * count ≡ t → suc (count - 1) ≡ count → n' ≡ n → k ≤ count - 1 → 64 * (n' - v) + 2 * k + 1 < t
left_smaller t n n' v count k h last same few = omega arith

-- # What the proofs share about a call for the next entry

module _ (g : Over) (t : ℕ) where
  entry_owned : (c : after-After-get-found g t) → IsOwned g.R.Rank.KEYS g.R.Rank.key c.args.self.now.tree.now c.args.self.now.entries.entries c.args.self.now.nodes.items c.args.entry c.get-found.result.now
  entry_owned c = owned g.R.Rank.KEYS g.R.Rank.key c.args.self.now.tree.now c.args.self.now.entries.entries c.args.self.now.nodes.items c.args.entry c.get-found.result.now c.requires.formed c.requires.entry c.get-found.ensures.value

  row_of : (c : after-In_ok-open_row g t) → IsOwned g.R.Rank.KEYS g.R.Rank.key c.args.self.now.tree.now c.args.self.now.entries.entries c.args.self.now.nodes.items c.args.entry c.get-found.result.now
      → IsRowOpen g.R.Rank.KEYS g.R.Rank.key c.args.self.now.tree.now c.args.self.now.entries.entries c.args.self.now.nodes.items c.open_row.new.self.nodes.items c.get-found.result.now c.args.steps.now c.open_row.new.steps
  row_of c o =
      row_open o c.open_row.new.self.tree.now c.open_row.new.self.entries.entries c.open_row.new.self.nodes.items c.args.steps.now c.open_row.new.steps c.open_row.ensures.tree (ap (λ z. z.entries) c.open_row.ensures.entries) c.open_row.ensures.formed c.open_row.ensures.above c.open_row.ensures.queues
      (opened_steps c.args.steps.now c.next_of.new.steps c.get-found.new.steps c.open_row.new.steps (3 * child_count c.args.self.now.tree.now c.get-found.result.now.node) c.next_of.ensures.cost c.get-found.ensures.cost c.open_row.ensures.cost) c.in_ok-open_row.ensures.count

  search_of : (c : after-After-row_after g t) → IsRowSearched g.R.Rank.KEYS g.R.Rank.key c.args.self.now.tree.now c.args.self.now.entries.entries c.row_after.new.self.entries.entries c.open_row.new.self.nodes.items c.row_after.new.self.nodes.items c.get-found.result.now.node c.get-found.result.now.solution.tag.row c.open_row.new.steps c.row_after.new.steps
  search_of c =
      row_searched g.R.Rank.KEYS g.R.Rank.key c.args.self.now.tree.now c.open_row.new.self.tree.now c.row_after.new.self.tree.now c.args.self.now.entries.entries c.open_row.new.self.entries.entries c.row_after.new.self.entries.entries c.open_row.new.self.nodes.items c.row_after.new.self.nodes.items c.get-found.result.now.node c.get-found.result.now.solution.tag.row c.open_row.new.steps c.row_after.new.steps
      c.open_row.ensures.tree (ap (λ z. z.entries) c.open_row.ensures.entries) c.row_after.ensures.tree c.row_after.ensures.formed c.row_after.ensures.extended c.row_after.ensures.queues c.row_after.ensures.cost

  -- # What they share about a search in a row

  room_of : (c : search-After-make_room g t) → IsRoomMade g.R.Rank.KEYS g.R.Rank.key c.args.self.now.tree.now c.args.self.now.entries.entries c.args.self.now.nodes.items c.make_room.new.nodes.items c.args.node c.args.row c.args.count c.in-Some.top
  room_of c =
      room_made g.R.Rank.KEYS g.R.Rank.key c.args.self.now.tree.now c.args.self.now.entries.entries c.args.self.now.nodes.items c.make_room.new.nodes.items c.args.node c.args.row c.args.count c.index.result.now c.in-Some.top c.requires.formed c.requires.node c.requires.row c.requires.some c.requires.count c.make_room.ensures.changed c.make_room.ensures.found c.make_room.ensures.frontier c.make_room.ensures.ranks c.index.ensures (c.product_top.ensures.variant.0 (ap is_some c.in-Some.is)) (c.in-Some.ensures.top c.in-Some.top)

  child_of : (c : search-After-after g t) → IsRoomMade g.R.Rank.KEYS g.R.Rank.key c.args.self.now.tree.now c.args.self.now.entries.entries c.args.self.now.nodes.items c.make_room.new.nodes.items c.args.node c.args.row c.args.count c.in-Some.top → IsChildAsked g.R.Rank.KEYS g.R.Rank.key c.args.self.now.tree.now c.args.self.now.entries.entries c.after.new.self.entries.entries c.make_room.new.nodes.items c.after.new.self.nodes.items c.args.node c.args.row c.args.count c.in-Some.top.tag c.args.steps.now c.after.new.steps
  child_of c a = child_asked a c.after.new.self.tree.now c.after.new.self.entries.entries c.after.new.self.nodes.items c.args.steps.now c.after.new.steps c.after.ensures.tree c.after.ensures.formed c.after.ensures.grown c.after.ensures.queues c.after.ensures.cost

  left_is : (c : search-After-extend g t) → ((c.left_search-earlier.result.0 ≡ c.args.count - 1) × (c.left_search-earlier.result.1 ≡ c.in-Some.top.tag.left + 1)) ⊎ ((c.left_search-earlier.result.0 ≡ 0) × (c.left_search-earlier.result.1 ≡ 0))
  left_is c = left_or_none c.has_beside-beside.result c.left_search-earlier.result.0 (c.args.count - 1) c.left_search-earlier.result.1 (c.in-Some.top.tag.left + 1) c.left_search-earlier.ensures.beside c.left_search-earlier.ensures.apart

  left_of : (c : search-After-extend g t) → IsRoomMade g.R.Rank.KEYS g.R.Rank.key c.args.self.now.tree.now c.args.self.now.entries.entries c.args.self.now.nodes.items c.make_room.new.nodes.items c.args.node c.args.row c.args.count c.in-Some.top → IsChildAsked g.R.Rank.KEYS g.R.Rank.key c.args.self.now.tree.now c.args.self.now.entries.entries c.after.new.self.entries.entries c.make_room.new.nodes.items c.after.new.self.nodes.items c.args.node c.args.row c.args.count c.in-Some.top.tag c.args.steps.now c.after.new.steps → IsLeftSearched g.R.Rank.KEYS g.R.Rank.key c.args.self.now.tree.now c.extend.new.self.tree.now c.after.new.self.entries.entries c.extend.new.self.entries.entries c.make_room.new.nodes.items c.after.new.self.nodes.items c.extend.new.self.nodes.items c.args.node c.args.row c.args.count c.after.new.steps c.extend.new.steps
  left_of c a b =
      let kids : c.args.count ≤ child_count c.args.self.now.tree.now c.args.node = count_few g.R.Rank.KEYS g.R.Rank.key c.args.self.now.tree.now c.args.self.now.entries.entries c.args.self.now.nodes.items c.requires.formed c.args.node c.args.row c.args.count c.requires.node c.requires.row c.requires.count in
      left_searched a b (searched g.R.Rank.KEYS g.R.Rank.key c.args.self.now.tree.now c.after.new.self.tree.now c.args.node c.args.row (c.args.count - 1) c.after.new.self.entries.entries c.after.new.self.nodes.items c.extend.new.self.tree.now c.extend.new.self.entries.entries c.extend.new.self.nodes.items c.left_search-earlier.result.0 c.after.new.steps c.extend.new.steps c.after.ensures.tree c.extend.ensures.tree (omega (arith, kids)) (all_or_none c.left_search-earlier.result.0 (c.args.count - 1) c.left_search-earlier.result.1 (c.in-Some.top.tag.left + 1) (left_is c)) c.extend.ensures.formed c.extend.ensures.extended c.extend.ensures.queues c.extend.ensures.cost)

pub after-open_row-requires-clause-node : goal.after-open_row-requires-clause-node
after-open_row-requires-clause-node g t c =
    let at = goal.at.after-open_row-requires-clause-node g t c in
    let o = entry_owned g t at.After-get-found in
    o.node

pub after-open_row-requires-clause-group : goal.after-open_row-requires-clause-group
after-open_row-requires-clause-group g t c =
    let at = goal.at.after-open_row-requires-clause-group g t c in
    let o = entry_owned g t at.After-get-found in
    o.group

pub after-open_row-requires-clause-row : goal.after-open_row-requires-clause-row
after-open_row-requires-clause-row g t c =
    let at = goal.at.after-open_row-requires-clause-row g t c in
    let o = entry_owned g t at.After-get-found in
    o.known.row

pub after-open_row-requires-clause-place : goal.after-open_row-requires-clause-place
after-open_row-requires-clause-place g t c =
    let at = goal.at.after-open_row-requires-clause-place g t c in
    let o = entry_owned g t at.After-get-found in
    o.known.known

pub after-row_after-requires : goal.after-row_after-requires
after-row_after-requires g t c κs within =
    let at = goal.at.after-row_after-requires g t c in
    let o = entry_owned g t at.After-get-found in
    let a = row_of g t at.In_ok-open_row o in (
      row_smaller _ _ _ _ _ c.decreases o.node_is (same (λ (z : List (NodeView g.row.R.Denot)). length z) c.open_row.new.self.tree.now c.args.self.now.tree.now c.open_row.ensures.tree) o.node,
      (
        within.0,
        (
          within.1.0,
          (
            within.1.1,
            (
              c.open_row.ensures.formed,
              (
                subst IsTieFreeTree (sym c.open_row.ensures.tree) c.requires.tie_free,
                subst (λ (z : List (NodeView g.row.R.Denot)). IsRowTop g.R.Rank.KEYS g.R.Rank.key z c.open_row.new.self.entries.entries c.open_row.new.self.nodes.items c.get-found.result.now.node c.get-found.result.now.group c.get-found.result.now.solution) (sym c.open_row.ensures.tree)
                    (subst (λ (z : List (Linked (Found g.row.R.Denot))). IsRowTop g.R.Rank.KEYS g.R.Rank.key c.args.self.now.tree.now z c.open_row.new.self.nodes.items c.get-found.result.now.node c.get-found.result.now.group c.get-found.result.now.solution) (sym (ap (λ z. z.entries) c.open_row.ensures.entries)) a.row_top),
              ),
            ),
          ),
        ),
      ),
    )

-- the top of the queue, and the tree, when it is passed
passed_tree : (g : Over) (t : ℕ) (c : after-After-row_after g t) → c.row_after.new.self.tree.now ≡ c.args.self.now.tree.now
passed_tree g t c = two_calls c.args.self.now.tree.now c.open_row.new.self.tree.now c.row_after.new.self.tree.now c.open_row.ensures.tree c.row_after.ensures.tree

pub after-advance-requires-clause-top : goal.after-advance-requires-clause-top
after-advance-requires-clause-top g t c x =
    let at = goal.at.after-advance-requires-clause-top g t c in
    let o = entry_owned g t at.After-get-found in
    let s = search_of g t at.After-row_after in
    ap (λ z. z.solution) (s.extended.store.values c.args.entry x c.requires.entry ∙ o.value x)

pub after-advance-requires-clause-row : goal.after-advance-requires-clause-row
after-advance-requires-clause-row g t c =
    let at = goal.at.after-advance-requires-clause-row g t c in
    let o = entry_owned g t at.After-get-found in
    back (λ (z : List (NodeView g.row.R.Denot)). c.get-found.result.now.solution.tag.row ≡ get_or (members z c.get-found.result.now.node c.get-found.result.now.group) c.get-found.result.now.solution.tag.member 0) c.args.self.now.tree.now c.row_after.new.self.tree.now (passed_tree g t at.After-row_after) o.known.parts.0

pub after-advance-requires-clause-number : goal.after-advance-requires-clause-number
after-advance-requires-clause-number g t c =
    let at = goal.at.after-advance-requires-clause-number g t c in
    let o = entry_owned g t at.After-get-found in
    let a = row_of g t at.In_ok-open_row o in
    back (λ (z : List (NodeView g.row.R.Denot)). c.get-found.result.now.solution.tag.number ≡ number z c.get-found.result.now.node c.get-found.result.now.solution.tag.row) c.args.self.now.tree.now c.row_after.new.self.tree.now (passed_tree g t at.After-row_after) a.row_top.number

pub after-advance-requires-clause-next : goal.after-advance-requires-clause-next
after-advance-requires-clause-next g t c =
    back (λ (z : List (NodeView g.row.R.Denot)). IsRowNext g.R.Rank.KEYS g.R.Rank.key z c.row_after.new.self.entries.entries c.row_after.new.self.nodes.items c.get-found.result.now.node c.get-found.result.now.solution.tag c.in_ok-next.next) c.open_row.new.self.tree.now c.row_after.new.self.tree.now c.row_after.ensures.tree c.in_ok-next.ensures.next

pub after-advance-requires-clause-queue_room : goal.after-advance-requires-clause-queue_room
after-advance-requires-clause-queue_room g t c first =
    let at = goal.at.after-advance-requires-clause-queue_room g t c in
    let o = entry_owned g t at.After-get-found in
    let a = row_of g t at.In_ok-open_row o in
    back (λ (z : List (NodeView g.row.R.Denot)). can_enter (length (members z c.get-found.result.now.node c.get-found.result.now.group)) ≤ (stream_of c.row_after.new.self.nodes.items c.get-found.result.now.node c.get-found.result.now.group).room) c.args.self.now.tree.now c.row_after.new.self.tree.now (passed_tree g t at.After-row_after)
    (subst (λ (z : StreamView g.row.R.Denot). can_enter (length (members c.args.self.now.tree.now c.get-found.result.now.node c.get-found.result.now.group)) ≤ z.room) (sym (searched_stream o a (search_of g t at.After-row_after))) (c.in_ok-open_row.ensures.room first))

pub search-after-requires : goal.search-after-requires
search-after-requires g t c κs within =
    let at = goal.at.search-after-requires g t c in
    let a = room_of g t at.After-make_room in
    (child_smaller _ _ _ _ _ _ c.decreases a.known.node a.below a.child_within, (within.0, (within.1.0, (within.1.1, (a.formed, (c.requires.tie_free, a.known.right))))))

pub search-extend-requires : goal.search-extend-requires
search-extend-requires g t c κs within =
    let at = goal.at.search-extend-requires g t c in
    let a = room_of g t at.After-make_room in
    let b = child_of g t at.After-after a in
    let in_tree = back (λ (z : List (NodeView g.row.R.Denot)). c.args.node < length z) c.args.self.now.tree.now c.after.new.self.tree.now c.after.ensures.tree c.requires.node in
    let in_node = back (λ (z : List (NodeView g.row.R.Denot)). c.args.row < rows z c.args.node) c.args.self.now.tree.now c.after.new.self.tree.now c.after.ensures.tree c.requires.row in
    let left = left_or_none c.has_beside-beside.result c.left_search-earlier.result.0 (c.args.count - 1) c.left_search-earlier.result.1 (c.in-Some.top.tag.left + 1) c.left_search-earlier.ensures.beside c.left_search-earlier.ensures.apart in
    let few = left_few _ _ _ _ left in
    (left_smaller _ _ _ _ _ _ c.decreases a.last (same (λ (z : List (NodeView g.row.R.Denot)). length z) c.after.new.self.tree.now c.args.self.now.tree.now c.after.ensures.tree) few, (within.0, (within.1.0, (within.1.1, (c.after.ensures.formed, (back IsTieFreeTree c.args.self.now.tree.now c.after.new.self.tree.now c.after.ensures.tree c.requires.tie_free, (in_tree, (in_node, (few_below _ _ _ few b.in_row, left_within c.after.new.self.nodes.items c.args.node c.args.row (c.args.count - 1) c.left_search-earlier.result.0 c.left_search-earlier.result.1 c.in-Some.top.tag.left b.left left)))))))))

pub extend-search-requires : goal.extend-search-requires
extend-search-requires g t c κs within =
    (search_smaller _ _ _ _ c.decreases, (within.0, (within.1.0, (within.1.1, (c.requires.formed, (c.requires.tie_free, (c.requires.node, (c.requires.row, (some_is c.args.count c.if-count-eq0.false, c.requires.count)))))))))

pub search-step-requires-clause-tie_free : goal.search-step-requires-clause-tie_free
search-step-requires-clause-tie_free g t c =
    let at = goal.at.search-step-requires-clause-tie_free g t c in
    let a = room_of g t at.After-make_room in
    let b = child_of g t at.After-after a in
    let l = left_of g t at.After-extend a b in
    subst IsTieFreeTree (sym l.searched.tree) c.requires.tie_free

pub search-step-requires-clause-node : goal.search-step-requires-clause-node
search-step-requires-clause-node g t c =
    let at = goal.at.search-step-requires-clause-node g t c in
    let a = room_of g t at.After-make_room in
    let b = child_of g t at.After-after a in
    let l = left_of g t at.After-extend a b in
    subst (λ (z : List (NodeView g.row.R.Denot)). c.args.node < length z) (sym l.searched.tree) c.requires.node

pub search-step-requires-clause-row : goal.search-step-requires-clause-row
search-step-requires-clause-row g t c =
    let at = goal.at.search-step-requires-clause-row g t c in
    let a = room_of g t at.After-make_room in
    let b = child_of g t at.After-after a in
    let l = left_of g t at.After-extend a b in
    subst (λ (z : List (NodeView g.row.R.Denot)). c.args.row < rows z c.args.node) (sym l.searched.tree) c.requires.row

pub search-step-requires-clause-child : goal.search-step-requires-clause-child
search-step-requires-clause-child g t c =
    let at = goal.at.search-step-requires-clause-child g t c in
    let a = room_of g t at.After-make_room in
    let b = child_of g t at.After-after a in
    let l = left_of g t at.After-extend a b in
    l.in_row

pub search-step-requires-clause-step : goal.search-step-requires-clause-step
search-step-requires-clause-step g t c =
    let at = goal.at.search-step-requires-clause-step g t c in
    let a = room_of g t at.After-make_room in
    let b = child_of g t at.After-after a in
    let l = left_of g t at.After-extend a b in
    record {
      top = subst (λ (z : ProductView g.row.R.Denot). IsProductTop z (c.args.count - 1) c.in-Some.top) (sym l.product) (record { some = a.some; first = a.first; room = c.in_ok-make_room.ensures.room; frontier_room = c.in_ok-make_room.ensures.frontier_room });
      beside =
          λ later.
          subst (λ (y : List (NodeView g.row.R.Denot)). IsTrue c.has_beside-beside.result ↔ (c.in-Some.top.tag.right ≡ (stream_of c.extend.new.self.nodes.items (child y c.args.node (c.args.count - 1)) (group_named y c.args.node c.args.row (c.args.count - 1))).head)) (sym l.searched.tree)
          (subst (λ z. IsTrue c.has_beside-beside.result ↔ (c.in-Some.top.tag.right ≡ z)) (sym l.head)
          (asked_beside a b c.has_beside-beside.result (subst (λ n. IsTrue c.has_beside-beside.result ↔ ((0 < c.args.count - 1) × HasHead (lists_of n (slice_index (lists_of n c.args.node).children (c.args.count - 1))) c.in-Some.top.tag.right)) c.as_slice.ensures.value c.has_beside-beside.ensures) later));
      below =
          subst (λ (y : List (NodeView g.row.R.Denot)). IsAnswered g.R.Rank.KEYS g.R.Rank.key y c.extend.new.self.entries.entries c.in-Some.top.tag.right c.in_ok-below.below) (sym l.searched.tree)
          (answered_stays g.R.Rank.KEYS g.R.Rank.key c.args.self.now.tree.now (suc c.args.node) c.after.new.self.entries.entries c.extend.new.self.entries.entries c.in-Some.top.tag.right c.in_ok-below.below (in_longer _ _ _ a.known.right b.grown.store.longer) l.searched.extended.store c.in_ok-below.ensures.answer);
      across = λ later e. left_reached g.R.Rank.KEYS g.R.Rank.key c.extend.new.self.tree.now c.after.new.self.tree.now c.extend.new.self.nodes.items c.args.node c.args.row (c.args.count - 1) c.left_search-earlier.result.0 c.left_search-earlier.result.1 (c.in-Some.top.tag.left + 1) (sym c.extend.ensures.tree) (c.left_search-earlier.ensures.beside e).0 (c.left_search-earlier.ensures.beside e).1 c.in_ok-extend.ensures.reached;
    }

pub search-left_search-earlier-requires-clause-node : goal.search-left_search-earlier-requires-clause-node
search-left_search-earlier-requires-clause-node g t c =
    let at = goal.at.search-left_search-earlier-requires-clause-node g t c in
    let a = room_of g t at.After-make_room in
    let b = child_of g t at.After-after a in
    in_same _ _ _ c.requires.node b.formed.all_nodes

pub search-left_search-earlier-requires-clause-child : goal.search-left_search-earlier-requires-clause-child
search-left_search-earlier-requires-clause-child g t c =
    let at = goal.at.search-left_search-earlier-requires-clause-child g t c in
    let a = room_of g t at.After-make_room in
    let b = child_of g t at.After-after a in
    at_below _ _ _ b.in_row refl

pub search-left_search-earlier-requires-clause-left : goal.search-left_search-earlier-requires-clause-left
search-left_search-earlier-requires-clause-left g t c =
    let at = goal.at.search-left_search-earlier-requires-clause-left g t c in
    let a = room_of g t at.After-make_room in
    let b = child_of g t at.After-after a in
    b.left

pub search-has_beside-beside-requires-clause-node : goal.search-has_beside-beside-requires-clause-node
search-has_beside-beside-requires-clause-node g t c =
    let at = goal.at.search-has_beside-beside-requires-clause-node g t c in
    let a = room_of g t at.After-make_room in
    let b = child_of g t at.After-after a in
    subst (λ n. c.args.node < length n) (sym c.as_slice.ensures.value) (in_same _ _ _ c.requires.node b.formed.all_nodes)

pub search-has_beside-beside-requires-clause-child : goal.search-has_beside-beside-requires-clause-child
search-has_beside-beside-requires-clause-child g t c =
    let at = goal.at.search-has_beside-beside-requires-clause-child g t c in
    let a = room_of g t at.After-make_room in
    let b = child_of g t at.After-after a in
    subst (λ n. c.args.count - 1 < length (lists_of n c.args.node).children) (sym c.as_slice.ensures.value) (in_same _ _ _ a.in_kids (b.formed.all_children c.args.node c.requires.node))

pub search-has_beside-beside-requires-clause-below : goal.search-has_beside-beside-requires-clause-below
search-has_beside-beside-requires-clause-below g t c =
    let at = goal.at.search-has_beside-beside-requires-clause-below g t c in
    let a = room_of g t at.After-make_room in
    let b = child_of g t at.After-after a in
    subst (λ n. slice_index (lists_of n c.args.node).children (c.args.count - 1) < length n) (sym c.as_slice.ensures.value)
    (child_in _ _ _ _ (b.formed.children c.args.node (c.args.count - 1) c.requires.node a.in_kids) a.child_within b.formed.all_nodes)

pub search-make_room-requires-clause-node : goal.search-make_room-requires-clause-node
search-make_room-requires-clause-node g t c =
    in_same _ _ _ c.requires.node c.requires.formed.all_nodes

pub search-make_room-requires-clause-child : goal.search-make_room-requires-clause-child
search-make_room-requires-clause-child g t c =
    last_below _ _ c.requires.some c.requires.count

pub extend-returns : goal.extend-returns
extend-returns g t c =
    record {
      formed = c.search.ensures.formed;
      tree = c.search.ensures.tree;
      extended = c.search.ensures.extended;
      reached =
          let known : c.known.result ≡ part_known c.args.self.now.nodes.items c.args.node c.args.row c.args.count = c.known.ensures ∙ ap (λ z. known_of z c.args.row c.args.count) (sym (lists_at c.args.self.now.nodes.items c.args.node c.index.result.now c.index.ensures (in_same _ _ _ c.requires.node c.requires.formed.all_nodes))) in
          let known_same : part_known c.args.self.now.nodes.items c.args.node c.args.row c.args.count ≡ c.args.place = place_is _ _ _ known c.if-place-known.false c.requires.place in
          subst (λ z. OnOk c.search.result (IsReached g.R.Rank.KEYS g.R.Rank.key c.args.self.now.tree.now c.search.new.self.nodes.items c.args.node c.args.row c.args.count z)) known_same c.search.ensures.reached;
      room = c.search.ensures.room;
      refused = c.search.ensures.refused;
      queues = c.search.ensures.queues;
      cost = c.search.ensures.cost;
    }

pub search-step-requires-clause-formed : goal.search-step-requires-clause-formed
search-step-requires-clause-formed g t c =
    c.extend.ensures.formed

pub after-open_row-requires-clause-formed : goal.after-open_row-requires-clause-formed
after-open_row-requires-clause-formed g t c =
    c.requires.formed

pub after-open_row-requires-clause-tie_free : goal.after-open_row-requires-clause-tie_free
after-open_row-requires-clause-tie_free g t c =
    c.requires.tie_free

pub after-advance-requires-clause-formed : goal.after-advance-requires-clause-formed
after-advance-requires-clause-formed g t c =
    c.row_after.ensures.formed

pub after-advance-requires-clause-tie_free : goal.after-advance-requires-clause-tie_free
after-advance-requires-clause-tie_free g t c =
    tie_free_twice c.args.self.now.tree.now c.open_row.new.self.tree.now c.row_after.new.self.tree.now c.open_row.ensures.tree c.row_after.ensures.tree c.requires.tie_free

pub after-advance-requires-clause-last : goal.after-advance-requires-clause-last
after-advance-requires-clause-last g t c =
    let at = goal.at.after-advance-requires-clause-last g t c in
    let o = entry_owned g t at.After-get-found in
    let s = search_of g t at.After-row_after in
    let none = next_read c.args.self.now.entries.entries c.args.entry c.next_of.result None c.requires.entry c.next_of.ensures.next c.in_default.is in
    record {
      within = in_longer _ _ _ c.requires.entry s.extended.store.longer;
      node = s.extended.store.nodes c.args.entry c.requires.entry ∙ o.node_is;
      group = s.extended.store.groups c.args.entry c.requires.entry ∙ o.group_is;
      none = s.extended.store.above c.args.entry c.requires.entry (below_next _ _ o.node_is) ∙ none;
    }

pub after-advance-requires-clause-room : goal.after-advance-requires-clause-room
after-advance-requires-clause-room g t c =
    c.in_ok-next.ensures.room

pub after-returns : goal.after-returns
after-returns g t c =
    let at = goal.at.after-returns g t c in
    let o = entry_owned g t at.After-get-found in
    let a = row_of g t at.In_ok-open_row o in
    let s = search_of g t at.After-row_after in
    let tree : c.row_after.new.self.tree.now ≡ c.args.self.now.tree.now = two_calls c.args.self.now.tree.now c.open_row.new.self.tree.now c.row_after.new.self.tree.now c.open_row.ensures.tree c.row_after.ensures.tree in
    let stays : c.advance.new.self.tree.now ≡ c.args.self.now.tree.now = two_calls c.args.self.now.tree.now c.row_after.new.self.tree.now c.advance.new.self.tree.now tree c.advance.ensures.tree in
    let formed = subst (λ z. IsStreams g.R.Rank.KEYS g.R.Rank.key z c.advance.new.self.entries.entries c.advance.new.self.nodes.items) stays c.advance.ensures.formed in
    record {
      formed = c.advance.ensures.formed;
      tree = stays;
      grown = linked_grown o a s c.advance.new.self.entries.entries c.advance.new.self.nodes.items formed c.advance.ensures.store c.advance.ensures.above c.advance.ensures.products c.advance.ensures.growth;
      answer = subst (λ (z : List (NodeView g.row.R.Denot)). IsAnswered g.R.Rank.KEYS g.R.Rank.key z c.advance.new.self.entries.entries c.args.entry c.advance.result) stays (subst (λ (z : List (NodeView g.row.R.Denot)). IsAnswered g.R.Rank.KEYS g.R.Rank.key z c.advance.new.self.entries.entries c.args.entry c.advance.result) (sym c.advance.ensures.tree) c.advance.ensures.answer);
      known =
          let none = next_read c.args.self.now.entries.entries c.args.entry c.next_of.result None c.requires.entry c.next_of.ensures.next c.in_default.is in
          λ some. not_some (next_of c.args.self.now.entries.entries c.args.entry) none some;
      queues = linked_queues o a s c.advance.new.self.entries.entries c.advance.new.self.nodes.items formed c.advance.ensures.store c.advance.ensures.above c.advance.ensures.products c.advance.ensures.growth;
      cost =
          let last : c.advance.new.steps ≤ c.row_after.new.steps + 11 + 4 * bit_length (length (members c.args.self.now.tree.now c.get-found.result.now.node c.get-found.result.now.group) + 1) =
          subst (λ (z : List (NodeView g.row.R.Denot)). c.advance.new.steps ≤ c.row_after.new.steps + 11 + 4 * bit_length (length (members z c.get-found.result.now.node c.get-found.result.now.group) + 1)) tree c.advance.ensures.cost in
          searched_steps o a s c.advance.new.steps (λ b members. fewer_digits _ _ _ _ last (members c.get-found.result.now.node c.get-found.result.now.group));
    }

pub search-overflow_sub-child : goal.search-overflow_sub-child
search-overflow_sub-child g t c =
    one_within c.args.count c.requires.some

pub search-returns-in_err-below : goal.search-returns-in_err-below
search-returns-in_err-below g t c =
    let at = goal.at.search-returns-in_err-below g t c in
    let a = room_of g t at.After-make_room in
    let b = child_of g t at.After-after a in
    record {
      formed = c.after.ensures.formed;
      tree = c.after.ensures.tree;
      extended = asked_extended a b;
      reached = none_done (IsReached g.R.Rank.KEYS g.R.Rank.key c.args.self.now.tree.now c.after.new.self.nodes.items c.args.node c.args.row c.args.count (part_known c.args.self.now.nodes.items c.args.node c.args.row c.args.count)) c.from_residual-in_err-below.result c.from_residual-in_err-below.ensures.0;
      room = none_done (0 < c.after.new.self.entries.spare) c.from_residual-in_err-below.result c.from_residual-in_err-below.ensures.0;
      refused = on_err c.from_residual-in_err-below.result (asked_unstepped a b);
      queues = asked_queues a b;
      cost = asked_within a b;
    }

pub search-returns-in_err-extend : goal.search-returns-in_err-extend
search-returns-in_err-extend g t c =
    let at = goal.at.search-returns-in_err-extend g t c in
    let a = room_of g t at.After-make_room in
    let b = child_of g t at.After-after a in
    let l = left_of g t at.After-extend a b in
    record {
      formed = c.extend.ensures.formed;
      tree = two_calls c.args.self.now.tree.now c.after.new.self.tree.now c.extend.new.self.tree.now c.after.ensures.tree c.extend.ensures.tree;
      extended = left_extended a b l;
      reached = none_done (IsReached g.R.Rank.KEYS g.R.Rank.key c.args.self.now.tree.now c.extend.new.self.nodes.items c.args.node c.args.row c.args.count (part_known c.args.self.now.nodes.items c.args.node c.args.row c.args.count)) c.from_residual-in_err-extend.result c.from_residual-in_err-extend.ensures.0;
      room = none_done (0 < c.extend.new.self.entries.spare) c.from_residual-in_err-extend.result c.from_residual-in_err-extend.ensures.0;
      refused = on_err c.from_residual-in_err-extend.result (unstepped_on c.args.node c.args.self.now.nodes.items c.after.new.self.nodes.items c.extend.new.self.nodes.items (asked_unstepped a b) c.in_err-extend.ensures.refused);
      queues = left_queues a b l;
      cost = left_steps a b l c.extend.new.steps (one_later _) (later_digits _ _);
    }

pub after-returns-in_err-open_row : goal.after-returns-in_err-open_row
after-returns-in_err-open_row g t c =
    let at = goal.at.after-returns-in_err-open_row g t c in
    let o = entry_owned g t at.After-get-found in
    record {
      formed = c.open_row.ensures.formed;
      tree = c.open_row.ensures.tree;
      grown =
          subst (λ v. IsGrown (parent c.args.self.now.tree.now) v c.args.self.now.entries.entries c.args.self.now.nodes.items c.open_row.new.self.entries.entries c.open_row.new.self.nodes.items) (sym o.node_is)
          (opened_grown c.args.self.now.tree.now c.get-found.result.now.node c.args.self.now.entries.entries c.open_row.new.self.entries.entries c.args.self.now.nodes.items c.open_row.new.self.nodes.items (ap (λ z. z.entries) c.open_row.ensures.entries) c.open_row.ensures.above);
      answer = none_given (IsAnswered g.R.Rank.KEYS g.R.Rank.key c.args.self.now.tree.now c.open_row.new.self.entries.entries c.args.entry) c.from_residual.result c.from_residual.ensures.0;
      known =
          let none = next_read c.args.self.now.entries.entries c.args.entry c.next_of.result None c.requires.entry c.next_of.ensures.next c.in_default.is in
          λ some. not_some (next_of c.args.self.now.entries.entries c.args.entry) none some;
      queues = λ v r k. queue_grown (length (product_of c.open_row.new.self.nodes.items v r k).frontier) (max 1 (length (product_of c.args.self.now.nodes.items v r k).frontier)) (is_below (parent c.args.self.now.tree.now) (node_of c.args.self.now.entries.entries c.args.entry) v) (c.open_row.ensures.queues v r k);
      cost = only_opened o c.args.steps.now c.open_row.new.steps (opened_steps c.args.steps.now c.next_of.new.steps c.get-found.new.steps c.open_row.new.steps (3 * child_count c.args.self.now.tree.now c.get-found.result.now.node) c.next_of.ensures.cost c.get-found.ensures.cost c.open_row.ensures.cost);
    }

pub after-returns-in_err-next : goal.after-returns-in_err-next
after-returns-in_err-next g t c =
    let at = goal.at.after-returns-in_err-next g t c in
    let o = entry_owned g t at.After-get-found in
    let a = row_of g t at.In_ok-open_row o in
    let s = search_of g t at.After-row_after in
    record {
      formed = c.row_after.ensures.formed;
      tree = two_calls c.args.self.now.tree.now c.open_row.new.self.tree.now c.row_after.new.self.tree.now c.open_row.ensures.tree c.row_after.ensures.tree;
      grown = searched_grown o a s;
      answer = none_given (IsAnswered g.R.Rank.KEYS g.R.Rank.key c.args.self.now.tree.now c.row_after.new.self.entries.entries c.args.entry) c.from_residual-in_err-next.result c.from_residual-in_err-next.ensures.0;
      known =
          let none = next_read c.args.self.now.entries.entries c.args.entry c.next_of.result None c.requires.entry c.next_of.ensures.next c.in_default.is in
          λ some. not_some (next_of c.args.self.now.entries.entries c.args.entry) none some;
      queues = searched_queues o a s;
      cost = searched_steps o a s c.row_after.new.steps (λ b members. later_steps _ _);
    }

pub search-returns-in_err-make_room : goal.search-returns-in_err-make_room
search-returns-in_err-make_room g t c =
    let at = goal.at.search-returns-in_err-make_room g t c in
    let a = room_of g t at.After-make_room in
    record {
      formed = a.formed;
      tree = refl {a = c.args.self.now.tree.now};
      extended = made_none a;
      reached = none_done (IsReached g.R.Rank.KEYS g.R.Rank.key c.args.self.now.tree.now c.make_room.new.nodes.items c.args.node c.args.row c.args.count (part_known c.args.self.now.nodes.items c.args.node c.args.row c.args.count)) c.from_residual.result c.from_residual.ensures.0;
      room = none_done (0 < c.args.self.now.entries.spare) c.from_residual.result c.from_residual.ensures.0;
      refused = on_err c.from_residual.result (made_unstepped a);
      queues = made_queues a c.make_room.new.nodes.items (λ w s k. queue_itself _ _);
      cost =
          let kids = count_few g.R.Rank.KEYS g.R.Rank.key c.args.self.now.tree.now c.args.self.now.entries.entries c.args.self.now.nodes.items c.requires.formed c.args.node c.args.row c.args.count c.requires.node c.requires.row c.requires.count in
          λ k b one bits members queues. none_within g.R.Rank.KEYS g.R.Rank.key c.args.self.now.tree.now c.requires.formed.tree c.args.node c.args.count b c.args.steps.now kids;
    }

pub search-returns-in_default : goal.search-returns-in_default
search-returns-in_default g t c =
    record {
      formed = back (λ (z : List (Linked (Found g.row.R.Denot))). IsStreams g.R.Rank.KEYS g.R.Rank.key c.args.self.now.tree.now z c.args.self.now.nodes.items) c.args.self.now.entries.entries c.reserve.new.self.entries c.reserve.ensures.entries c.requires.formed;
      tree = refl {a = c.args.self.now.tree.now};
      extended = back (λ (z : List (Linked (Found g.row.R.Denot))). IsExtended c.args.self.now.tree.now c.args.node c.args.row c.args.count c.args.self.now.entries.entries c.args.self.now.nodes.items z c.args.self.now.nodes.items) c.args.self.now.entries.entries c.reserve.new.self.entries c.reserve.ensures.entries (extended_none g.R.Rank.KEYS g.R.Rank.key c.args.self.now.tree.now c.args.node c.args.row c.args.count c.args.self.now.entries.entries c.args.self.now.nodes.items);
      reached =
          let last : suc (c.args.count - 1) ≡ c.args.count = last_is c.args.count c.requires.some in
          let empty = ap (λ n. (product_at n c.args.row (c.args.count - 1)).frontier) (lists_at c.args.self.now.nodes.items c.args.node c.index.result.now c.index.ensures (in_same _ _ _ c.requires.node c.requires.formed.all_nodes)) ∙ no_top c.product_top.result (product_at c.index.result.now c.args.row (c.args.count - 1)).frontier c.in_default.is c.product_top.ensures.variant in
          let done = sums_done g.R.Rank.KEYS g.R.Rank.key c.args.self.now.tree.now c.args.self.now.entries.entries c.args.self.now.nodes.items c.requires.formed c.args.node c.args.row (c.args.count - 1) c.requires.node c.requires.row (last_below _ _ c.requires.some c.requires.count) empty in
          on_ok c.reserve.result (subst (λ z. IsReached g.R.Rank.KEYS g.R.Rank.key c.args.self.now.tree.now c.args.self.now.nodes.items c.args.node c.args.row z (part_known c.args.self.now.nodes.items c.args.node c.args.row c.args.count)) last (inr (all_found _ _ _ done (ap (λ z. part_known c.args.self.now.nodes.items c.args.node c.args.row z) last))));
      room = c.reserve.ensures.ok;
      refused = on_err c.reserve.result (λ s k. (refl, refl, refl));
      queues = λ v r k. queue_itself (length (product_of c.args.self.now.nodes.items v r k).frontier) (below_kids c.args.self.now.tree.now c.args.node c.args.count v + cond (nat_eq v c.args.node) 1 0);
      cost =
          let kids = count_few g.R.Rank.KEYS g.R.Rank.key c.args.self.now.tree.now c.args.self.now.entries.entries c.args.self.now.nodes.items c.requires.formed c.args.node c.args.row c.args.count c.requires.node c.requires.row c.requires.count in
          λ k b one bits members queues. none_within g.R.Rank.KEYS g.R.Rank.key c.args.self.now.tree.now c.requires.formed.tree c.args.node c.args.count b c.args.steps.now kids;
    }

pub extend-returns-then-place-known : goal.extend-returns-then-place-known
extend-returns-then-place-known g t c =
    record {
      formed = back (λ (z : List (Linked (Found g.row.R.Denot))). IsStreams g.R.Rank.KEYS g.R.Rank.key c.args.self.now.tree.now z c.args.self.now.nodes.items) c.args.self.now.entries.entries c.reserve.new.self.entries c.reserve.ensures.entries c.requires.formed;
      tree = refl {a = c.args.self.now.tree.now};
      extended = back (λ (z : List (Linked (Found g.row.R.Denot))). IsExtended c.args.self.now.tree.now c.args.node c.args.row c.args.count c.args.self.now.entries.entries c.args.self.now.nodes.items z c.args.self.now.nodes.items) c.args.self.now.entries.entries c.reserve.new.self.entries c.reserve.ensures.entries (extended_none g.R.Rank.KEYS g.R.Rank.key c.args.self.now.tree.now c.args.node c.args.row c.args.count c.args.self.now.entries.entries c.args.self.now.nodes.items);
      reached =
          let known : c.known.result ≡ part_known c.args.self.now.nodes.items c.args.node c.args.row c.args.count = c.known.ensures ∙ ap (λ z. known_of z c.args.row c.args.count) (sym (lists_at c.args.self.now.nodes.items c.args.node c.index.result.now c.index.ensures (in_same _ _ _ c.requires.node c.requires.formed.all_nodes))) in
          on_ok c.reserve.result (elim c.then-place-known.branch [
            | extend-then-place-known-via-then-place-known w ↦ inl (subst (λ z. c.args.place < z) known w.if-place-known.true)
            | extend-then-place-known-via-else-place-known+then-count-eq0 w ↦
                let none : 0 ≡ c.args.count = sym w.if-count-eq0.true in
                subst (λ z. IsReached g.R.Rank.KEYS g.R.Rank.key c.args.self.now.tree.now c.args.self.now.nodes.items c.args.node c.args.row z c.args.place) none (reached_none g.R.Rank.KEYS g.R.Rank.key c.args.self.now.tree.now c.args.self.now.entries.entries c.args.self.now.nodes.items c.requires.formed c.args.node c.args.row c.args.place c.requires.node (known_before _ _ _ _ known w.if-place-known.false (ap (λ z. part_known c.args.self.now.nodes.items c.args.node c.args.row z) none)))
          ]);
      room = c.reserve.ensures.ok;
      refused = on_err c.reserve.result (λ s k. (refl, refl, refl));
      queues = λ v r k. queue_itself (length (product_of c.args.self.now.nodes.items v r k).frontier) (below_kids c.args.self.now.tree.now c.args.node c.args.count v + cond (nat_eq v c.args.node) 1 0);
      cost =
          let kids = count_few g.R.Rank.KEYS g.R.Rank.key c.args.self.now.tree.now c.args.self.now.entries.entries c.args.self.now.nodes.items c.requires.formed c.args.node c.args.row c.args.count c.requires.node c.requires.row c.requires.count in
          λ k b one bits members queues. none_within g.R.Rank.KEYS g.R.Rank.key c.args.self.now.tree.now c.requires.formed.tree c.args.node c.args.count b c.args.steps.now kids;
    }

pub after-returns-in-Some : goal.after-returns-in-Some
after-returns-in-Some g t c =
    record {
      formed = c.requires.formed;
      tree = refl {a = c.args.self.now.tree.now};
      grown = opened_grown c.args.self.now.tree.now (node_of c.args.self.now.entries.entries c.args.entry) c.args.self.now.entries.entries c.args.self.now.entries.entries c.args.self.now.nodes.items c.args.self.now.nodes.items refl (λ w other. refl);
      answer = next_read c.args.self.now.entries.entries c.args.entry c.next_of.result (Some c.in-Some.next) c.requires.entry c.next_of.ensures.next c.in-Some.is;
      known = λ some. (refl, refl, few_steps _ _ c.next_of.ensures.cost);
      queues = λ v r k. queue_itself (length (product_of c.args.self.now.nodes.items v r k).frontier) (is_below (parent c.args.self.now.tree.now) (node_of c.args.self.now.entries.entries c.args.entry) v);
      cost = λ k b one bits few queues. first_step c.args.steps.now c.next_of.new.steps b (20 * kids_size c.args.self.now.tree.now (node_of c.args.self.now.entries.entries c.args.entry) (child_count c.args.self.now.tree.now (node_of c.args.self.now.entries.entries c.args.entry)) * (1 + b)) c.next_of.ensures.cost;
    }

pub search-returns : goal.search-returns
search-returns g t c =
    let at = goal.at.search-returns g t c in
    let a = room_of g t at.After-make_room in
    let b = child_of g t at.After-after a in
    let l = left_of g t at.After-extend a b in
    record {
      formed = c.step.ensures.formed;
      tree = two_calls c.args.self.now.tree.now c.extend.new.self.tree.now c.step.new.self.tree.now l.searched.tree c.step.ensures.tree;
      extended = subst (λ (y : List (Linked (Found g.row.R.Denot))). IsExtended c.args.self.now.tree.now c.args.node c.args.row c.args.count c.args.self.now.entries.entries c.args.self.now.nodes.items y c.step.new.self.nodes.items) (sym (same (λ z. z.entries) c.step.new.self.entries c.extend.new.self.entries c.step.ensures.entries)) (one_more_extended a b l c.step.new.self.nodes.items c.step.ensures.changed);
      reached =
          let known_same : part_known c.extend.new.self.nodes.items c.args.node c.args.row c.args.count ≡ part_known c.args.self.now.nodes.items c.args.node c.args.row c.args.count =
          ap (λ z. part_known c.extend.new.self.nodes.items c.args.node c.args.row z) (sym a.last) ∙ ap (λ (z : ProductView g.row.R.Denot). length z.found) l.product ∙ ap length a.found ∙ ap (λ z. part_known c.args.self.now.nodes.items c.args.node c.args.row z) a.last in
          let more : (c.args.count - 1) + 1 ≡ c.args.count = next_last c.args.count a.last in
          subst (λ z. IsReached g.R.Rank.KEYS g.R.Rank.key c.args.self.now.tree.now c.step.new.self.nodes.items c.args.node c.args.row c.args.count z) known_same
          (subst (λ z. IsReached g.R.Rank.KEYS g.R.Rank.key c.args.self.now.tree.now c.step.new.self.nodes.items c.args.node c.args.row z (part_known c.extend.new.self.nodes.items c.args.node c.args.row z)) more
          (subst (λ (y : List (NodeView g.row.R.Denot)). IsReached g.R.Rank.KEYS g.R.Rank.key y c.step.new.self.nodes.items c.args.node c.args.row ((c.args.count - 1) + 1) (part_known c.extend.new.self.nodes.items c.args.node c.args.row ((c.args.count - 1) + 1))) l.searched.tree c.step.ensures.reached));
      room = back (λ z. 0 < z.spare) c.extend.new.self.entries c.step.new.self.entries c.step.ensures.entries c.in_ok-extend.ensures.room;
      refused = tt;
      queues = one_more_queues a b l c.step.new.self.nodes.items c.step.ensures.changed c.step.ensures.queue;
      cost = left_steps a b l c.step.new.steps (one_later _) c.step.ensures.cost;
    }

-- # The next solution of a row

module _ (g : Over) (t : ℕ) where
  row_kids : (c : row_after-After-child_count-count g t) → c.child_count-count.result ≡ child_count c.args.self.now.tree.now c.args.node
  row_kids c = c.child_count-count.ensures ∙ ap (λ n. length n.children) (sym (lists_at c.args.self.now.nodes.items c.args.node c.index.result.now c.index.ensures (in_same _ _ _ c.requires.top.node c.requires.formed.all_nodes))) ∙ c.requires.formed.all_children c.args.node c.requires.top.node

  only_of : (c : row_after-After-child_count-count g t) → c.child_count-count.result ≡ 1 → IsOnlyChild g.R.Rank.KEYS g.R.Rank.key c.args.self.now.tree.now c.args.self.now.entries.entries c.args.self.now.nodes.items c.args.node c.args.top.now.tag
  only_of c one = only_child c.requires.formed c.requires.top (sym (row_kids c) ∙ one)

  asked_formed : (c : row_after-After-after g t) → IsStreams g.R.Rank.KEYS g.R.Rank.key c.args.self.now.tree.now c.after.new.self.entries.entries c.after.new.self.nodes.items
  asked_formed c = subst (λ (z : List (NodeView g.row.R.Denot)). IsStreams g.R.Rank.KEYS g.R.Rank.key z c.after.new.self.entries.entries c.after.new.self.nodes.items) c.after.ensures.tree c.after.ensures.formed

fewer_kids : (s s' k n : ℕ) → s + 6 * k ≤ s' + n → s + 3 * k ≤ s' + n
fewer_kids s s' k n h = omega arith

offered_steps : (s s' s'' k n : ℕ) → s' + 6 * k ≤ s + n → s'' ≤ s' + 3 * k → s'' + 3 * k ≤ s + n
offered_steps s s' s'' k n h l = omega arith

three_more : (s : ℕ) → s ≤ s + 3
three_more s = omega arith

pub row_after-after-requires : goal.row_after-after-requires
row_after-after-requires g t c κs within =
    let at = goal.at.row_after-after-requires g t c in
    let o = only_of g t at.After-child_count-count c.if-count-eq1.true in
    (only_smaller _ _ _ _ _ c.decreases o.sum.node o.below o.within, (within.0, (within.1.0, (within.1.1, (c.requires.formed, (c.requires.tie_free, o.sum.right))))))

pub row_after-extend-requires : goal.row_after-extend-requires
row_after-extend-requires g t c κs within =
    let at = goal.at.row_after-extend-requires g t c in
    let kids = row_kids g t at.After-child_count-count in
    let many : child_count c.args.self.now.tree.now c.args.node ≢ 1 = λ e. c.if-count-eq1.false (kids ∙ e) in
    let whole = kids ∙ sym (c.requires.top.opened many) in
    let known = subst (λ k. c.args.top.now.tag.place < part_known c.args.self.now.nodes.items c.args.node c.args.top.now.tag.row k) (sym whole) (c.requires.top.known many) in
    (extend_smaller _ _ _ _ c.decreases c.requires.top.node (kids_few _ _ _ _ kids (kids_below_most (parent c.args.self.now.tree.now) c.args.node (length c.args.self.now.tree.now)) c.requires.formed.tree.shaped.few_nodes), (within.0, (within.1.0, (within.1.1, (c.requires.formed, (c.requires.tie_free, (c.requires.top.node, (c.requires.top.row, (at_most_same _ _ whole, next_within _ _ _ known (omega (arith, c.in-Some.ensures)))))))))))

pub row_after-row_offer-requires-clause-opened : goal.row_after-row_offer-requires-clause-opened
row_after-row_offer-requires-clause-opened g t c =
    let at = goal.at.row_after-row_offer-requires-clause-opened g t c in
    let many : child_count c.args.self.now.tree.now c.args.node ≢ 1 = λ e. c.if-count-eq1.false (row_kids g t at.After-child_count-count ∙ e) in
    ap (λ (z : List (NodeStreamsView g.row.R.Denot)). length (products_of z c.args.node c.args.top.now.tag.row)) c.as_slice-nodes.ensures.value ∙ c.extend.ensures.extended.count ∙ c.requires.top.opened many ∙ ap (λ (z : List (NodeView g.row.R.Denot)). child_count z c.args.node) (sym c.extend.ensures.tree)

pub row_after-returns-in_default-clause-cost : goal.row_after-returns-in_default-clause-cost
row_after-returns-in_default-clause-cost g t c k b one bits few queues = fewer_kids _ _ _ _ (none_within g.R.Rank.KEYS g.R.Rank.key c.args.self.now.tree.now c.requires.formed.tree c.args.node (child_count c.args.self.now.tree.now c.args.node) b c.args.steps.now (at_most_same _ _ refl))

pub row_after-returns-in_err-below-clause-extended : goal.row_after-returns-in_err-below-clause-extended
row_after-returns-in_err-below-clause-extended g t c =
    let at = goal.at.row_after-returns-in_err-below-clause-extended g t c in
    child_extended c.requires.top (only_of g t at.After-child_count-count c.if-count-eq1.true) (asked_formed g t at.After-after) c.after.ensures.grown

pub row_after-returns-in_err-below-clause-cost : goal.row_after-returns-in_err-below-clause-cost
row_after-returns-in_err-below-clause-cost g t c =
    let at = goal.at.row_after-returns-in_err-below-clause-cost g t c in
    child_steps c.requires.top (only_of g t at.After-child_count-count c.if-count-eq1.true) (asked_formed g t at.After-after) c.after.ensures.grown _ _ _ c.after.ensures.cost (three_more _)

pub row_after-returns-in_err-reserve-clause-extended : goal.row_after-returns-in_err-reserve-clause-extended
row_after-returns-in_err-reserve-clause-extended g t c =
    let at = goal.at.row_after-returns-in_err-reserve-clause-extended g t c in
    back (λ (z : List (Linked (Found g.row.R.Denot))). IsExtended c.args.self.now.tree.now c.args.node c.args.top.now.tag.row (child_count c.args.self.now.tree.now c.args.node) c.args.self.now.entries.entries c.args.self.now.nodes.items z c.after.new.self.nodes.items) c.after.new.self.entries.entries c.reserve.new.self.entries c.reserve.ensures.entries
    (child_extended c.requires.top (only_of g t at.After-child_count-count c.if-count-eq1.true) (asked_formed g t at.After-after) c.after.ensures.grown)

pub row_after-returns-in_err-reserve-clause-cost : goal.row_after-returns-in_err-reserve-clause-cost
row_after-returns-in_err-reserve-clause-cost g t c =
    let at = goal.at.row_after-returns-in_err-reserve-clause-cost g t c in
    child_steps c.requires.top (only_of g t at.After-child_count-count c.if-count-eq1.true) (asked_formed g t at.After-after) c.after.ensures.grown _ _ _ c.after.ensures.cost (three_more _)

pub row_after-child_offer-requires-clause-below : goal.row_after-child_offer-requires-clause-below
row_after-child_offer-requires-clause-below g t c =
    let at = goal.at.row_after-child_offer-requires-clause-below g t c in
    back (λ (z : List (Linked (Found g.row.R.Denot))). IfSome c.in_ok-below.below (λ i. i < length z)) c.after.new.self.entries.entries c.reserve.new.self.entries c.reserve.ensures.entries
    (child_below c.requires.top (only_of g t at.After-child_count-count c.if-count-eq1.true) (asked_formed g t at.After-after) c.after.ensures.grown c.in_ok-below.below c.in_ok-below.ensures.answer)

pub row_after-child_offer-requires-clause-exchange : goal.row_after-child_offer-requires-clause-exchange
row_after-child_offer-requires-clause-exchange g t c =
    let at = goal.at.row_after-child_offer-requires-clause-exchange g t c in
    back (λ (z : List (Linked (Found g.row.R.Denot))). IfSome c.in_ok-below.below (CanExchange g.R.Rank.KEYS g.R.Rank.key z (record { rank = c.args.top.now.rank; tag = c.args.top.now.tag.cell }))) c.after.new.self.entries.entries c.reserve.new.self.entries c.reserve.ensures.entries
    (child_exchange c.requires.top (only_of g t at.After-child_count-count c.if-count-eq1.true) (asked_formed g t at.After-after) c.after.ensures.grown c.in_ok-below.below c.in_ok-below.ensures.answer)

pub row_after-returns-then-count-eq1-clause-extended : goal.row_after-returns-then-count-eq1-clause-extended
row_after-returns-then-count-eq1-clause-extended g t c =
    let at = goal.at.row_after-returns-then-count-eq1-clause-extended g t c in
    back (λ (z : List (Linked (Found g.row.R.Denot))). IsExtended c.args.self.now.tree.now c.args.node c.args.top.now.tag.row (child_count c.args.self.now.tree.now c.args.node) c.args.self.now.entries.entries c.args.self.now.nodes.items z c.after.new.self.nodes.items) c.after.new.self.entries.entries c.reserve.new.self.entries c.reserve.ensures.entries
    (child_extended c.requires.top (only_of g t at.After-child_count-count c.if-count-eq1.true) (asked_formed g t at.After-after) c.after.ensures.grown)

pub row_after-returns-then-count-eq1-clause-next : goal.row_after-returns-then-count-eq1-clause-next
row_after-returns-then-count-eq1-clause-next g t c =
    let at = goal.at.row_after-returns-then-count-eq1-clause-next g t c in
    back (λ (z : List (Linked (Found g.row.R.Denot))). IsRowNext g.R.Rank.KEYS g.R.Rank.key c.args.self.now.tree.now z c.after.new.self.nodes.items c.args.node c.args.top.now.tag c.child_offer.result) c.after.new.self.entries.entries c.reserve.new.self.entries c.reserve.ensures.entries
    (child_next c.requires.top (only_of g t at.After-child_count-count c.if-count-eq1.true) (asked_formed g t at.After-after) c.after.ensures.grown c.in_ok-below.below c.in-Some.place c.child_offer.result (omega (arith, c.in-Some.ensures)) c.in_ok-below.ensures.answer
    (along (λ (z : List (Linked (Found g.row.R.Denot))). IsChildOffer g.R.Rank.KEYS g.R.Rank.key z c.args.top.now c.in-Some.place c.in_ok-below.below c.child_offer.result) c.reserve.new.self.entries c.after.new.self.entries.entries c.reserve.ensures.entries c.child_offer.ensures.offer))

pub row_after-returns-then-count-eq1-clause-cost : goal.row_after-returns-then-count-eq1-clause-cost
row_after-returns-then-count-eq1-clause-cost g t c =
    let at = goal.at.row_after-returns-then-count-eq1-clause-cost g t c in
    child_steps c.requires.top (only_of g t at.After-child_count-count c.if-count-eq1.true) (asked_formed g t at.After-after) c.after.ensures.grown _ _ _ c.after.ensures.cost c.child_offer.ensures.cost

pub row_after-returns-in_err-extend-clause-cost : goal.row_after-returns-in_err-extend-clause-cost
row_after-returns-in_err-extend-clause-cost g t c =
    let at = goal.at.row_after-returns-in_err-extend-clause-cost g t c in
    let kids = row_kids g t at.After-child_count-count in
    let x = subst (λ z. IsWithinSteps c.args.self.now.tree.now c.args.self.now.nodes.items (λ v. below_kids c.args.self.now.tree.now c.args.node z v + cond (nat_eq v c.args.node) 1 0) (λ b. 20 * kids_size c.args.self.now.tree.now c.args.node z * (1 + b)) c.args.steps.now (c.extend.new.steps + 6 * z)) kids c.extend.ensures.cost in
    λ k b one bits few queues. fewer_kids _ _ _ _ (x k b one bits few queues)

pub row_after-returns-clause-extended : goal.row_after-returns-clause-extended
row_after-returns-clause-extended g t c =
    let at = goal.at.row_after-returns-clause-extended g t c in
    subst (λ z. IsExtended c.args.self.now.tree.now c.args.node c.args.top.now.tag.row z c.args.self.now.entries.entries c.args.self.now.nodes.items c.extend.new.self.entries.entries c.extend.new.self.nodes.items) (row_kids g t at.After-child_count-count) c.extend.ensures.extended

pub row_after-returns-clause-queues : goal.row_after-returns-clause-queues
row_after-returns-clause-queues g t c =
    let at = goal.at.row_after-returns-clause-queues g t c in
    subst (λ z. AreQueuesGrown (λ v. below_kids c.args.self.now.tree.now c.args.node z v + cond (nat_eq v c.args.node) 1 0) c.args.self.now.nodes.items c.extend.new.self.nodes.items) (row_kids g t at.After-child_count-count) c.extend.ensures.queues

pub row_after-returns-clause-cost : goal.row_after-returns-clause-cost
row_after-returns-clause-cost g t c =
    let at = goal.at.row_after-returns-clause-cost g t c in
    let kids = row_kids g t at.After-child_count-count in
    let x = subst (λ z. IsWithinSteps c.args.self.now.tree.now c.args.self.now.nodes.items (λ v. below_kids c.args.self.now.tree.now c.args.node z v + cond (nat_eq v c.args.node) 1 0) (λ b. 20 * kids_size c.args.self.now.tree.now c.args.node z * (1 + b)) c.args.steps.now (c.extend.new.steps + 6 * z)) kids c.extend.ensures.cost in
    let offered = subst (λ (z : List (NodeView g.row.R.Denot)). c.row_offer.new.steps ≤ c.extend.new.steps + 3 * child_count z c.args.node) c.extend.ensures.tree c.row_offer.ensures.cost in
    λ k b one bits few queues. offered_steps _ _ _ _ _ (x k b one bits few queues) offered

pub row_after-returns-clause-next : goal.row_after-returns-clause-next
row_after-returns-clause-next g t c =
    let at = goal.at.row_after-returns-clause-next g t c in
    let kids = row_kids g t at.After-child_count-count in
    let many : child_count c.args.self.now.tree.now c.args.node ≢ 1 = λ e. c.if-count-eq1.false (kids ∙ e) in
    let tree = c.extend.ensures.tree in
    let place : c.in-Some.place ≡ c.args.top.now.tag.place + 1 = omega (arith, c.in-Some.ensures) in
    let formed = subst (λ (z : List (NodeView g.row.R.Denot)). IsStreams g.R.Rank.KEYS g.R.Rank.key z c.extend.new.self.entries.entries c.extend.new.self.nodes.items) tree c.extend.ensures.formed in
    let reached = subst (λ k. IsReached g.R.Rank.KEYS g.R.Rank.key c.args.self.now.tree.now c.extend.new.self.nodes.items c.args.node c.args.top.now.tag.row k c.in-Some.place) kids c.in_ok-extend.ensures.reached in
    row_next g.R.Rank.KEYS g.R.Rank.key c.args.self.now.tree.now c.extend.new.self.entries.entries c.extend.new.self.nodes.items formed c.args.node c.args.top.now.tag c.in-Some.place c.row_offer.result c.requires.top.node c.requires.top.row many (c.extend.ensures.extended.count ∙ c.requires.top.opened many) place reached
    (subst (λ (z : List (NodeView g.row.R.Denot)). IsRowOffer g.R.Rank.KEYS g.R.Rank.key z c.extend.new.self.entries.entries c.extend.new.self.nodes.items c.args.node (record c.args.top.now.tag { place = c.in-Some.place }) c.row_offer.result) tree
    (subst (λ (z : List (NodeStreamsView g.row.R.Denot)). IsRowOffer g.R.Rank.KEYS g.R.Rank.key c.extend.new.self.tree.now c.extend.new.self.entries.entries z c.args.node (record c.args.top.now.tag { place = c.in-Some.place }) c.row_offer.result) c.as_slice-nodes.ensures.value
    (record { none = c.row_offer.ensures.none; source = c.row_offer.ensures.source; known = c.row_offer.ensures.known; parts = c.row_offer.ensures.parts; rank = c.row_offer.ensures.key })))
