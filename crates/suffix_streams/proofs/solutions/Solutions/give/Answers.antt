use Rattle.std.proofs.Common.{◌≡◌, ◌≢◌, ℕ, ◌+◌, ◌*◌, ◌<◌, ◌≤◌, min, inl, Option, Some, None, IsSome, List, length, get_or, slice_set, refl, sym, ap, ◌∙◌, subst, arith}
use Rattle.std.proofs.lemmas.Bool.{false≢true}
use Rattle.stream_store.specs.declared.linked.Linked.{Linked}
use Rattle.tdp_core.specs.TreeView.{NodeView, members}
use Rattle.tdp_model.specs.KeyTuple.{KeyOf}
use Rattle.take2_heap.specs.declared.entry.Entry.{Entry}
use Rattle.rank_key.specs.Bits.{bit_length}
use Rattle.suffix_streams.specs.declared.stream.Found.{Found}
use Rattle.suffix_streams.specs.declared.source.Source.{Source}
use Rattle.suffix_streams.specs.NodeStreamsView.{NodeStreamsView, stream_at, with_queue}
use Rattle.suffix_streams.specs.TreeStreams.{IsStreams, lists_of, stream_of}
use Rattle.suffix_streams.specs.Firsts.{IsFirstBelow, IsGiven, can_enter}
use Rattle.suffix_streams.proofs.Changes.{lists_same}
use Rattle.suffix_streams.proofs.Heads.{lists_at}
use Rattle.suffix_streams.proofs.Opening.{put_back}
use Rattle.suffix_streams.proofs.Numbers.{in_same}
use Rattle.suffix_streams.proofs.solutions.Solutions.give.Goals as goal

in_streams : (v n k m : ℕ) → v < n → k ≡ n → k ≡ m → v < m
in_streams v n k m l e f = omega arith

room_left : (j r r' : ℕ) → min 2 (2 * j + 1) ≤ r → r ≡ r' → 0 < r'
room_left j r r' few e = omega arith

room_right : (j r r' : ℕ) → min 2 (2 * j + 2) ≤ r → r ≡ r' → 1 < r'
room_right j r r' few e = omega arith

no_place : (p : ℕ) → 0 < p → p + 1 ≢ 1
no_place p some e = omega arith

one_place : (p : ℕ) → p ≤ 0 → p ≡ 0
one_place p none = omega arith

next_one : (p : ℕ) → p ≡ 0 → 1 ≡ p + 1
next_one p e = omega arith

few_steps : (s p b n : ℕ) → p ≤ s + 1 + 4 * b → b ≡ n → p ≤ s + 9 + 4 * n
few_steps s p b n h e = omega arith

first_steps : (s f p b n : ℕ) → p ≤ f + 1 + 4 * b → f ≤ s + 8 → b ≡ n → p ≤ s + 9 + 4 * n
first_steps s f p b n h l e = omega arith

-- only the queue of group k of node v changed
queue_alone : {R : Type 0} (n : List (NodeStreamsView R)) (v k : ℕ) (old new : NodeStreamsView R) → v < length n → old ≡ get_or n v old → new ≡ with_queue old k (stream_at new k).queue (stream_at new k).room
    → slice_set n v new ≡ slice_set n v (with_queue (lists_of n v) k (stream_of (slice_set n v new) v k).queue (stream_of (slice_set n v new) v k).room)
queue_alone {R} n v k old new inside read changed =
    let before : old ≡ lists_of n v = sym (lists_at n v old read inside) in
    let after : new ≡ lists_of (slice_set n v new) v = sym (lists_same n v new inside) in
    ap (λ (z : NodeStreamsView R). slice_set n v z) (changed ∙ ap (λ (z : NodeStreamsView R). with_queue z k (stream_at new k).queue (stream_at new k).room) before)
    ∙ ap (λ (z : NodeStreamsView R). slice_set n v (with_queue (lists_of n v) k (stream_at z k).queue (stream_at z k).room)) after

-- what was given, in terms of the nodes
given_in : {R : Type 0} (d : ℕ) (key : R → KeyOf d 16) (n : List (NodeStreamsView R)) (v k : ℕ) (old new : NodeStreamsView R) (next left right o : Option (Entry R Source)) → v < length n → old ≡ get_or n v old → IsGiven d key next left right (stream_at old k).queue (stream_at new k).queue o
    → IsGiven d key next left right (stream_of n v k).queue (stream_of (slice_set n v new) v k).queue o
given_in {R} d key n v k old new next left right o inside read given =
    subst (λ (z : NodeStreamsView R). IsGiven d key next left right (stream_of n v k).queue (stream_at z k).queue o) (sym (lists_same n v new inside))
    (subst (λ (z : NodeStreamsView R). IsGiven d key next left right (stream_at z k).queue (stream_at new k).queue o) (sym (lists_at n v old read inside)) given)

-- where the first solution of member j enters, there is room for two, or for j if that is fewer
room_below : {R : Type 0} (d : ℕ) (key : R → KeyOf d 16) (t : List (NodeView R)) (es : List (Linked (Found R))) (v k j room : ℕ) (first : Option (Entry R Source)) → IsFirstBelow d key t es v k 1 j first → IsSome first → can_enter (length (members t v k)) ≤ room → min 2 j ≤ room
room_below d key t es v k j room (Some e) below some few = omega (arith, below.1, few)
room_below d key t es v k j room None below some few = absurd (false≢true some)

pub firsts_below-left-requires-clause-formed : goal.firsts_below-left-requires-clause-formed
firsts_below-left-requires-clause-formed g c =
    subst (λ (z : List (NodeStreamsView g.row.R.Denot)). IsStreams g.R.Rank.KEYS g.R.Rank.key c.args.self.now.tree.now c.args.self.now.entries.entries z) (sym c.as_slice.ensures.value) c.requires.formed

pub give-requires-clause-group : goal.give-requires-clause-group
give-requires-clause-group g c =
    let inside : c.args.node < length c.args.self.now.nodes.items = in_same _ _ _ c.requires.node c.requires.formed.all_nodes in
    in_streams _ _ _ _ c.requires.group (c.requires.formed.all_streams c.args.node c.requires.node) (ap (λ (z : NodeStreamsView g.row.R.Denot). length z.streams) (lists_at c.args.self.now.nodes.items c.args.node c.index_mut.result.now c.index_mut.ensures.value inside))

pub give-requires-2-clause-group : goal.give-requires-2-clause-group
give-requires-2-clause-group g c =
    let inside : c.args.node < length c.args.self.now.nodes.items = in_same _ _ _ c.requires.node c.requires.formed.all_nodes in
    in_streams _ _ _ _ c.requires.group (c.requires.formed.all_streams c.args.node c.requires.node) (ap (λ (z : NodeStreamsView g.row.R.Denot). length z.streams) (lists_at c.args.self.now.nodes.items c.args.node c.index_mut-2.result.now c.index_mut-2.ensures.value inside))

pub give-requires-2-clause-left_room : goal.give-requires-2-clause-left_room
give-requires-2-clause-left_room g c some =
    let n = c.args.self.now.nodes.items in
    let inside : c.args.node < length n = in_same _ _ _ c.requires.node c.requires.formed.all_nodes in
    let room = c.requires.room (one_place _ c.if-top-gt0.false) in
    let enters = room_below g.R.Rank.KEYS g.R.Rank.key c.args.self.now.tree.now c.args.self.now.entries.entries c.args.node c.args.group (2 * c.args.top.now.tag.member + 1) (stream_of n c.args.node c.args.group).room c.firsts_below-left.result.0 c.firsts_below-left.ensures.left some room in
    room_left c.args.top.now.tag.member _ _ enters (ap (λ (z : NodeStreamsView g.row.R.Denot). (stream_at z c.args.group).room) (lists_at n c.args.node c.index_mut-2.result.now c.index_mut-2.ensures.value inside))

pub give-requires-2-clause-right_room : goal.give-requires-2-clause-right_room
give-requires-2-clause-right_room g c some =
    let n = c.args.self.now.nodes.items in
    let inside : c.args.node < length n = in_same _ _ _ c.requires.node c.requires.formed.all_nodes in
    let room = c.requires.room (one_place _ c.if-top-gt0.false) in
    let enters = room_below g.R.Rank.KEYS g.R.Rank.key c.args.self.now.tree.now c.args.self.now.entries.entries c.args.node c.args.group (2 * c.args.top.now.tag.member + 2) (stream_of n c.args.node c.args.group).room c.firsts_below-left.result.1 c.firsts_below-left.ensures.right some room in
    room_right c.args.top.now.tag.member _ _ enters (ap (λ (z : NodeStreamsView g.row.R.Denot). (stream_at z c.args.group).room) (lists_at n c.args.node c.index_mut-2.result.now c.index_mut-2.ensures.value inside))

pub returns : goal.returns
returns g c =
    let n = c.args.self.now.nodes.items in
    let inside : c.args.node < length n = in_same _ _ _ c.requires.node c.requires.formed.all_nodes in
    let one : 1 ≡ c.args.top.now.tag.place + 1 = next_one _ (one_place _ c.if-top-gt0.false) in
    record {
      tree = refl;
      entries = refl;
      changed = queue_alone n c.args.node c.args.group c.index_mut-2.result.now c.give-2.new.self inside c.index_mut-2.ensures.value c.give-2.ensures.changed;
      given = (
        c.firsts_below-left.result.0,
        c.firsts_below-left.result.1,
        subst (λ p. IsFirstBelow g.R.Rank.KEYS g.R.Rank.key c.args.self.now.tree.now c.args.self.now.entries.entries c.args.node c.args.group p (2 * c.args.top.now.tag.member + 1) c.firsts_below-left.result.0) one c.firsts_below-left.ensures.left,
        subst (λ p. IsFirstBelow g.R.Rank.KEYS g.R.Rank.key c.args.self.now.tree.now c.args.self.now.entries.entries c.args.node c.args.group p (2 * c.args.top.now.tag.member + 2) c.firsts_below-left.result.1) one c.firsts_below-left.ensures.right,
        given_in g.R.Rank.KEYS g.R.Rank.key n c.args.node c.args.group c.index_mut-2.result.now c.give-2.new.self c.args.next c.firsts_below-left.result.0 c.firsts_below-left.result.1 c.give-2.result inside c.index_mut-2.ensures.value c.give-2.ensures.given,
      );
      none = λ is. put_back n c.args.node c.index_mut-2.result.now c.give-2.new.self c.index_mut-2.ensures.value (c.give-2.ensures.none is);
      cost = first_steps _ _ _ _ _ c.give-2.ensures.cost c.firsts_below-left.ensures.cost (ap (λ (z : NodeStreamsView g.row.R.Denot). bit_length (length (stream_at z c.args.group).queue + 1)) (sym (lists_same n c.args.node c.give-2.new.self inside)));
    }

pub give-requires-clause-left_room : goal.give-requires-clause-left_room
give-requires-clause-left_room g c some = absurd (false≢true some)

pub give-requires-clause-right_room : goal.give-requires-clause-right_room
give-requires-clause-right_room g c some = absurd (false≢true some)

pub returns-then-top-gt0 : goal.returns-then-top-gt0
returns-then-top-gt0 g c =
    let n = c.args.self.now.nodes.items in
    let inside : c.args.node < length n = in_same _ _ _ c.requires.node c.requires.formed.all_nodes in
    record {
      tree = refl;
      entries = refl;
      changed = queue_alone n c.args.node c.args.group c.index_mut.result.now c.give.new.self inside c.index_mut.ensures.value c.give.ensures.changed;
      given = (None, None, inl (no_place _ c.if-top-gt0.true), inl (no_place _ c.if-top-gt0.true), given_in g.R.Rank.KEYS g.R.Rank.key n c.args.node c.args.group c.index_mut.result.now c.give.new.self c.args.next None None c.give.result inside c.index_mut.ensures.value c.give.ensures.given);
      none = λ is. put_back n c.args.node c.index_mut.result.now c.give.new.self c.index_mut.ensures.value (c.give.ensures.none is);
      cost = few_steps _ _ _ _ c.give.ensures.cost (ap (λ (z : NodeStreamsView g.row.R.Denot). bit_length (length (stream_at z c.args.group).queue + 1)) (sym (lists_same n c.args.node c.give.new.self inside)));
    }
