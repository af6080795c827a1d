use Rattle.std.proofs.Common.{◌≡◌, ◌≢◌, ℕ, suc, ◌+◌, ◌*◌, ◌<◌, ◌≤◌, None, Some, Option, List, [], ◌∷◌, ◌++◌, length, slice_set, get_or, refl, sym, ap, ◌∙◌, subst, arith}
use Rattle.std.specs.List.Sorted.{IsPermutation}
use Rattle.std.proofs.lemmas.List.Sorted.{IsPermutation-refl}
use Rattle.tdp_core.specs.TreeView.{NodeView, members}
use Rattle.stream_store.specs.declared.linked.Linked.{Linked}
use Rattle.take2_heap.specs.declared.entry.Entry.{Entry}
use Rattle.suffix_streams.specs.declared.stream.Found.{Found}
use Rattle.suffix_streams.specs.declared.source.Source.{Source}
use Rattle.suffix_streams.specs.NodeStreamsView.{NodeStreamsView, with_queue}
use Rattle.suffix_streams.specs.TreeStreams.{IsStreams, node_list, group_list_of, node_of, group_of, node_size, lists_of, stream_of}
use Rattle.suffix_streams.specs.Growing.{IsAnswered, IsStoreGrown}
use Rattle.suffix_streams.specs.Offers.{offers}
use Rattle.suffix_streams.proofs.Along.{back}
use Rattle.suffix_streams.proofs.Changes.{lists_other}
use Rattle.suffix_streams.proofs.Kept.{held_itself}
use Rattle.suffix_streams.proofs.Merging.{queued_products}
use Rattle.suffix_streams.proofs.Entries.{stream_owned}
use Rattle.suffix_streams.proofs.State.{count_more}
use Rattle.suffix_streams.proofs.Stores.{next_value, node_length, store_stays}
use Rattle.suffix_streams.proofs.Linked.{entry_held}
use Rattle.suffix_streams.proofs.Takes.{some_given, none_given}
use Rattle.rank_key.proofs.BitLemmas.{bit_length_rises}
use Rattle.suffix_streams.specs.Links.{owned, IsLinkedAt}
use Rattle.suffix_streams.specs.Rankings.{group_list}
use Rattle.suffix_streams.proofs.QueuePass.{IsGroupTop, IsQueuePassed, IsEntryLinked, group_top, queue_passed, passed_grows, entry_linked}
use Rattle.suffix_streams.proofs.solutions.Solutions.advance.Given.{Over}
use Rattle.suffix_streams.proofs.solutions.Solutions.advance.Goals.{After-give, After-push_reserved-entry, After-set_next}
use Rattle.suffix_streams.proofs.ListEnds.{at_more}
use Rattle.suffix_streams.proofs.solutions.Solutions.advance.Goals as goal

-- # Numbers

in_equal : (v n m : ℕ) → v < n → m ≡ n → v < m
in_equal v n m l e = omega arith

one_longer : (n k m : ℕ) → m ≡ k → k ≡ suc n → m ≡ n + 1
one_longer n k m e f = omega arith

in_longer : (v n m : ℕ) → v < n → m ≡ n + 1 → v < m
in_longer v n m l e = omega arith

at_end : (v n m : ℕ) → v ≡ n → m ≡ n + 1 → v < m
at_end v n m e f = omega arith

no_more : (n m k : ℕ) → m ≡ n → m ≤ n + k
no_more n m k e = omega arith

one_fewer : (n m : ℕ) → n < m → n + 1 ≤ m + 1
one_fewer n m h = omega arith

suc_fewer : (n m : ℕ) → suc n ≤ m → n + 1 ≤ m + 1
suc_fewer n m h = omega arith

given_steps : (s p b d : ℕ) → p ≤ s + 9 + 4 * b → b ≤ d → p ≤ s + 9 + 4 * d
given_steps s p b d h l = omega arith

linked_steps : (s p q r b : ℕ) → p ≤ s + 9 + 4 * b → q ≡ p + 1 → r ≡ q + 1 → r ≤ s + 11 + 4 * b
linked_steps s p q r b h e f = omega arith

two_more : (s s' b : ℕ) → s' ≤ s + 9 + 4 * b → s' ≤ s + 11 + 4 * b
two_more s s' b h = omega arith

-- nothing was offered to a queue of none
nothing : {E : Type 0} (a b c : Option E) (es : List E) → a ≡ None → b ≡ None → c ≡ None → es ≡ [] → IsPermutation (offers a None (offers c None (offers b None es))) []
nothing a b c es ea eb ec e =
    subst (λ z. IsPermutation (offers z None (offers c None (offers b None es))) []) (sym ea)
    (subst (λ z. IsPermutation (offers z None (offers b None es)) []) (sym ec) (subst (λ z. IsPermutation (offers z None es) []) (sym eb) (subst (λ z. IsPermutation z []) (sym e) (IsPermutation-refl []))))

-- # What the proofs share

module _ (g : Over) where
  top_of : (c : After-give g) → IsGroupTop g.R.Rank.KEYS g.R.Rank.key c.args.self.now.tree.now c.args.self.now.entries.entries c.args.self.now.nodes.items c.args.last c.args.node c.args.group c.args.top.now
  top_of c = group_top g.R.Rank.KEYS g.R.Rank.key c.args.self.now.tree.now c.args.self.now.entries.entries c.args.self.now.nodes.items c.args.last c.args.node c.args.group c.args.top.now c.requires.formed c.requires.last c.requires.top

  -- one solution follows
  passed_of : (c : After-give g) (e : Entry g.row.R.Denot Source) → c.give.result ≡ Some e → IsQueuePassed g.R.Rank.KEYS g.R.Rank.key c.args.self.now.tree.now c.args.self.now.entries.entries c.args.self.now.nodes.items c.args.node c.args.group (e ∷ (stream_of c.give.new.self.nodes.items c.args.node c.args.group).queue)
  passed_of c e is =
      let f = c.give.ensures.given in
      let s = some_given g.R.Rank.KEYS g.R.Rank.key c.args.next f.0 f.1 (stream_of c.args.self.now.nodes.items c.args.node c.args.group).queue (stream_of c.give.new.self.nodes.items c.args.node c.args.group).queue c.give.result e is f.4 in
      queue_passed c.args.top.now (top_of c) c.requires.tie_free c.args.next f.0 f.1 (e ∷ (stream_of c.give.new.self.nodes.items c.args.node c.args.group).queue) c.requires.formed f.2 f.3 s.0 c.requires.row c.requires.number c.requires.next

  -- or none
  ended_of : (c : After-give g) → c.give.result ≡ None → IsQueuePassed g.R.Rank.KEYS g.R.Rank.key c.args.self.now.tree.now c.args.self.now.entries.entries c.args.self.now.nodes.items c.args.node c.args.group []
  ended_of c is =
      let f = c.give.ensures.given in
      let s = none_given g.R.Rank.KEYS g.R.Rank.key c.args.next f.0 f.1 (stream_of c.args.self.now.nodes.items c.args.node c.args.group).queue (stream_of c.give.new.self.nodes.items c.args.node c.args.group).queue c.give.result is f.4 in
      queue_passed c.args.top.now (top_of c) c.requires.tie_free c.args.next f.0 f.1 [] c.requires.formed f.2 f.3 (nothing c.args.next f.0 f.1 (stream_of c.args.self.now.nodes.items c.args.node c.args.group).queue s.0 s.1 s.2 s.3) c.requires.row c.requires.number c.requires.next

  same_entries : (c : After-give g) → c.give.new.self.entries.entries ≡ c.args.self.now.entries.entries
  same_entries c = ap (λ z. z.entries) c.give.ensures.entries

  -- the nodes but this one are as they were
  others_of : (c : After-give g) (v : ℕ) → v ≢ c.args.node → lists_of c.give.new.self.nodes.items v ≡ lists_of c.args.self.now.nodes.items v
  others_of c v other = ap (λ (z : (List (NodeStreamsView g.row.R.Denot))). lists_of z v) c.give.ensures.changed ∙ lists_other c.args.self.now.nodes.items c.args.node v (with_queue (lists_of c.args.self.now.nodes.items c.args.node) c.args.group (stream_of c.give.new.self.nodes.items c.args.node c.args.group).queue (stream_of c.give.new.self.nodes.items c.args.node c.args.group).room) other

  -- one more entry
  pushed_of : (c : After-push_reserved-entry g) → c.push_reserved-entry.new.self.entries ≡ c.args.self.now.entries.entries ++ (record { value = record { node = c.args.node; group = c.args.group; solution = c.in_ok-found.found }; next = None } ∷ [])
  pushed_of c =
      let e : Linked (Found g.row.R.Denot) = record { value = record { node = c.args.node; group = c.args.group; solution = c.in_ok-found.found }; next = None } in
      c.push_reserved-entry.ensures.entries ∙ ap (λ (z : (List (Linked (Found g.row.R.Denot)))). z ++ (e ∷ [])) (ap (λ z. z.entries) c.give.ensures.entries)

  longer_of : (c : After-push_reserved-entry g) → length c.push_reserved-entry.new.self.entries ≡ length c.args.self.now.entries.entries + 1
  longer_of c = one_longer _ _ _ (ap length (pushed_of c)) (count_more c.args.self.now.entries.entries (record { value = record { node = c.args.node; group = c.args.group; solution = c.in_ok-found.found }; next = None }))

  linked_of : (c : After-set_next g) → IsGroupTop g.R.Rank.KEYS g.R.Rank.key c.args.self.now.tree.now c.args.self.now.entries.entries c.args.self.now.nodes.items c.args.last c.args.node c.args.group c.args.top.now → c.push_reserved-entry.new.self.entries ≡ c.args.self.now.entries.entries ++ (record { value = record { node = c.args.node; group = c.args.group; solution = c.in_ok-found.found }; next = None } ∷ [])
      → IsEntryLinked c.args.self.now.tree.now c.args.self.now.entries.entries c.set_next.new.self.entries c.args.last (record { node = c.args.node; group = c.args.group; solution = c.in_ok-found.found })
  linked_of c o pushed =
      entry_linked o c.in_ok-found.found c.push_reserved-entry.new.self.entries c.set_next.new.self.entries c.push_reserved-entry.result c.requires.formed c.requires.last.within c.requires.last.node c.requires.last.group c.requires.last.none (c.push_reserved-entry.ensures.id ∙ ap length (ap (λ z. z.entries) c.give.ensures.entries)) pushed c.set_next.ensures.entries

pub give-requires-clause-formed : goal.give-requires-clause-formed
give-requires-clause-formed g c = c.requires.formed

pub give-requires-clause-node : goal.give-requires-clause-node
give-requires-clause-node g c = (group_top g.R.Rank.KEYS g.R.Rank.key c.args.self.now.tree.now c.args.self.now.entries.entries c.args.self.now.nodes.items c.args.last c.args.node c.args.group c.args.top.now c.requires.formed c.requires.last c.requires.top).node

pub give-requires-clause-group : goal.give-requires-clause-group
give-requires-clause-group g c = (group_top g.R.Rank.KEYS g.R.Rank.key c.args.self.now.tree.now c.args.self.now.entries.entries c.args.self.now.nodes.items c.args.last c.args.node c.args.group c.args.top.now c.requires.formed c.requires.last c.requires.top).group

pub give-requires-clause-room : goal.give-requires-clause-room
give-requires-clause-room g c = c.requires.queue_room

pub push_reserved-entry-requires : goal.push_reserved-entry-requires
push_reserved-entry-requires g c = back (λ z. 0 < z.spare) c.args.self.now.entries c.give.new.self.entries c.give.ensures.entries c.requires.room

pub returns-in_err-found : goal.returns-in_err-found
returns-in_err-found g c =
    let at = goal.at.returns-in_err-found g c in
    let o = top_of g at.After-give in
    let none = c.in_err-found.was in
    let p = ended_of g at.After-give none in
    let entries = same_entries g at.After-give in
    let nodes = c.give.ensures.none none in
    record {
      answer =
          let link = subst (λ o. IsLinkedAt (node_list c.args.self.now.entries.entries) (group_list_of c.args.self.now.entries.entries) c.args.last o) c.requires.last.none (c.requires.formed.linked c.args.last (in_equal _ _ _ c.requires.last.within (node_length c.args.self.now.entries.entries))) in
          subst (λ o. IsAnswered g.R.Rank.KEYS g.R.Rank.key c.args.self.now.tree.now c.give.new.self.entries.entries c.args.last o) (sym c.from_residual.ensures)
          (subst (λ z. IsAnswered g.R.Rank.KEYS g.R.Rank.key c.args.self.now.tree.now z c.args.last None) (sym entries)
          (ap (λ z. length (group_list g.R.Rank.KEYS g.R.Rank.key c.args.self.now.tree.now z (group_of c.args.self.now.entries.entries c.args.last))) c.requires.last.node ∙ ap (λ z. length (group_list g.R.Rank.KEYS g.R.Rank.key c.args.self.now.tree.now c.args.node z)) c.requires.last.group ∙ sym (p.ends refl) ∙ stream_owned c.args.self.now.entries.entries c.args.node c.args.group
          ∙ ap (λ z. owned (node_list c.args.self.now.entries.entries) (group_list_of c.args.self.now.entries.entries) z c.args.group) (sym c.requires.last.node) ∙ ap (λ z. owned (node_list c.args.self.now.entries.entries) (group_list_of c.args.self.now.entries.entries) (node_of c.args.self.now.entries.entries c.args.last) z) (sym c.requires.last.group) ∙ sym link));
      formed =
          back (λ (z : (List (NodeView g.row.R.Denot))). IsStreams g.R.Rank.KEYS g.R.Rank.key z c.give.new.self.entries.entries c.give.new.self.nodes.items) c.args.self.now.tree.now c.give.new.self.tree.now c.give.ensures.tree
          (back (λ (z : (List (Linked (Found g.row.R.Denot)))). IsStreams g.R.Rank.KEYS g.R.Rank.key c.args.self.now.tree.now z c.give.new.self.nodes.items) c.args.self.now.entries.entries c.give.new.self.entries.entries entries
          (back (λ (z : (List (NodeStreamsView g.row.R.Denot))). IsStreams g.R.Rank.KEYS g.R.Rank.key c.args.self.now.tree.now c.args.self.now.entries.entries z) c.args.self.now.nodes.items c.give.new.self.nodes.items nodes c.requires.formed));
      growth = λ v. no_more _ _ _ (ap (λ (z : (List (Linked (Found g.row.R.Denot)))). node_size z v) entries);
      store = back (λ (z : (List (Linked (Found g.row.R.Denot)))). IsStoreGrown c.args.node c.args.self.now.entries.entries z) c.args.self.now.entries.entries c.give.new.self.entries.entries entries (store_stays c.args.node c.args.self.now.entries.entries);
      products = ap (λ (z : (List (NodeStreamsView g.row.R.Denot))). (lists_of z c.args.node).products) nodes;
      above = λ v other. others_of g at.After-give v other;
      tree = c.give.ensures.tree;
      cost = two_more _ _ _ (given_steps _ _ _ _ c.give.ensures.cost (bit_length_rises _ _ (one_fewer _ _ (subst (λ (z : (List (NodeStreamsView g.row.R.Denot))). length (stream_of z c.args.node c.args.group).queue < length (members c.args.self.now.tree.now c.args.node c.args.group)) (sym nodes) (c.requires.formed.streams c.args.node c.args.group o.node o.group).few))));
    }

pub set_next-requires-clause-id : goal.set_next-requires-clause-id
set_next-requires-clause-id g c = in_longer _ _ _ c.requires.last.within (longer_of g (goal.at.set_next-requires-clause-id g c).After-push_reserved-entry)

pub set_next-requires-clause-to : goal.set_next-requires-clause-to
set_next-requires-clause-to g c = at_end _ _ _ (c.push_reserved-entry.ensures.id ∙ ap length (ap (λ z. z.entries) c.give.ensures.entries)) (longer_of g (goal.at.set_next-requires-clause-to g c).After-push_reserved-entry)

pub set_next-requires-clause-none : goal.set_next-requires-clause-none
set_next-requires-clause-none g c d =
    let es = c.args.self.now.entries.entries in
    let e : Linked (Found g.row.R.Denot) = record { value = record { node = c.args.node; group = c.args.group; solution = c.in_ok-found.found }; next = None } in
    ap (λ (z : (List (Linked (Found g.row.R.Denot)))). (get_or z c.args.last d).next) (pushed_of g (goal.at.set_next-requires-clause-none g c).After-push_reserved-entry)
    ∙ ap (λ (x : Linked (Found g.row.R.Denot)). x.next) (at_more es e d c.args.last c.requires.last.within)
    ∙ sym (next_value es c.args.last d c.requires.last.within) ∙ c.requires.last.none

pub returns : goal.returns
returns g c =
    let at = goal.at.returns g c in
    let o = top_of g at.After-give in
    let e = linked_of g at.After-set_next o (pushed_of g at.After-push_reserved-entry) in
    let p = passed_of g at.After-give c.in_ok-found.found c.in_ok-found.was in
    let given = some_given g.R.Rank.KEYS g.R.Rank.key c.args.next c.give.ensures.given.0 c.give.ensures.given.1 (stream_of c.args.self.now.nodes.items c.args.node c.args.group).queue (stream_of c.give.new.self.nodes.items c.args.node c.args.group).queue c.give.result c.in_ok-found.found c.in_ok-found.was c.give.ensures.given.4 in
    record {
      cost = linked_steps _ _ _ _ _ (given_steps _ _ _ _ c.give.ensures.cost (bit_length_rises _ _ (suc_fewer _ _ p.few))) c.push_reserved-entry.ensures.cost c.set_next.ensures.cost;
      store = e.store;
      products = ap (λ (z : (List (NodeStreamsView g.row.R.Denot))). (lists_of z c.args.node).products) c.give.ensures.changed ∙ queued_products g.R.Rank.KEYS g.R.Rank.key c.args.self.now.tree.now c.args.self.now.entries.entries c.args.self.now.entries.entries c.args.self.now.nodes.items c.requires.formed (held_itself c.args.self.now.entries.entries) c.args.node c.args.group o.node o.group (stream_of c.give.new.self.nodes.items c.args.node c.args.group).queue (stream_of c.give.new.self.nodes.items c.args.node c.args.group).room c.args.node;
      formed =
          back (λ (z : (List (NodeView g.row.R.Denot))). IsStreams g.R.Rank.KEYS g.R.Rank.key z c.set_next.new.self.entries c.give.new.self.nodes.items) c.args.self.now.tree.now c.give.new.self.tree.now c.give.ensures.tree
          (back (λ (z : (List (NodeStreamsView g.row.R.Denot))). IsStreams g.R.Rank.KEYS g.R.Rank.key c.args.self.now.tree.now c.set_next.new.self.entries z) (slice_set c.args.self.now.nodes.items c.args.node (with_queue (lists_of c.args.self.now.nodes.items c.args.node) c.args.group (stream_of c.give.new.self.nodes.items c.args.node c.args.group).queue (stream_of c.give.new.self.nodes.items c.args.node c.args.group).room)) c.give.new.self.nodes.items c.give.ensures.changed
          (passed_grows c.in_ok-found.found (stream_of c.give.new.self.nodes.items c.args.node c.args.group).queue p (stream_of c.give.new.self.nodes.items c.args.node c.args.group).room c.set_next.new.self.entries (entry_held c.args.self.now.entries.entries c.set_next.new.self.entries e.store) e.owners e.linked e.others e.longer given.1));
      tree = c.give.ensures.tree;
      answer = e.answer ∙ ap Some (sym (c.push_reserved-entry.ensures.id ∙ ap length (ap (λ z. z.entries) c.give.ensures.entries)));
      growth = λ v. e.growth v;
      above = λ v other. others_of g at.After-give v other;
    }
