use Rattle.std.proofs.Common.{ℕ, ◌≡◌, ◌+◌, ◌*◌, ◌<◌, ◌≤◌, List, [], length, sym, ap, ◌∙◌, subst, arith}
use Rattle.std.proofs.lemmas.List.{set-get_or}
use Rattle.rank_key.specs.Bits.{bit_length}
use Rattle.take2_heap.specs.Heap.{Heap}
use Rattle.suffix_streams.specs.declared.source.Source.{Source}
use Rattle.suffix_streams.specs.Firsts.{IsGiven}
use Rattle.suffix_streams.specs.StreamView.{StreamView}
use Rattle.suffix_streams.specs.NodeStreamsView.{NodeStreamsView, stream_at, with_queue}
use Rattle.suffix_streams.proofs.NodeFacts.{in_queues, queue_read, queue_changed}
use Rattle.suffix_streams.proofs.Takes.{all_given, none_moved, given_steps}
use Rattle.suffix_streams.proofs.Numbers.{in_same}
use Rattle.suffix_streams.proofs.node.NodeStreams.give.Goals as goal

room_left : (a b : ℕ) → 1 < a → a ≤ b + 1 → 0 < b
room_left a b some few = omega arith

-- a node with the queue that it has
queue_itself : {R : Type 0} (n : NodeStreamsView R) (k : ℕ) → with_queue n k (stream_at n k).queue (stream_at n k).room ≡ n
queue_itself {R} n k = ap (λ (z : List (StreamView R)). (let m : NodeStreamsView R = record n { streams = z } in m)) (set-get_or n.streams k (record { head = 0; queue = []; room = 0 }))

pub returns : goal.returns
returns g c =
    let h0 = c.index_mut-queue.result.now in
    let h3 = c.take.new.queue in
    let o = queue_changed _ c.self.inside.heads.first c.self.inside.streams.items _ c.args.self.now c.self.view_is c.args.group c.requires.group c.take.new.queue c.index_mut-queue.result.now c.index_mut-queue.ensures.value in
    record {
      changed = o.2 ∙ ap (λ (s : StreamView g.row.R.Denot). with_queue c.args.self.now c.args.group s.queue s.room) (sym o.1);
      given =
          subst (λ (s : StreamView g.row.R.Denot). IsGiven g.R.Rank.KEYS g.R.Rank.key c.args.next c.args.left c.args.right (stream_at c.args.self.now c.args.group).queue s.queue c.take.result) (sym o.1)
          (subst (λ (s : StreamView g.row.R.Denot). IsGiven g.R.Rank.KEYS g.R.Rank.key c.args.next c.args.left c.args.right s.queue c.take.new.queue.entries c.take.result) (sym o.0)
          (all_given g.R.Rank.KEYS g.R.Rank.key c.args.next c.args.left c.args.right c.index_mut-queue.result.now c.offer.new.queue c.offer-2.new.queue c.take.new.queue c.take.result c.offer.ensures.moved c.offer-2.ensures.moved c.take.ensures.given c.take.ensures.none c.take.ensures.least));
      none = λ is.
          let same : c.take.new.queue ≡ c.index_mut-queue.result.now =
          none_moved g.R.Rank.KEYS g.R.Rank.key c.args.next c.args.left c.args.right c.index_mut-queue.result.now c.offer.new.queue c.offer-2.new.queue c.take.new.queue c.take.result c.offer.ensures.moved c.offer-2.ensures.moved c.take.ensures.given c.take.ensures.none c.offer.ensures.none c.offer-2.ensures.none is in
          o.2 ∙ ap (λ (h : Heap g.row.R.Denot Source). with_queue c.args.self.now c.args.group h.entries h.spare) same ∙ ap (λ (s : StreamView g.row.R.Denot). with_queue c.args.self.now c.args.group s.queue s.room) (sym o.0) ∙ queue_itself c.args.self.now c.args.group;
      cost =
          subst (λ (s : StreamView g.row.R.Denot). c.take.new.steps ≤ c.args.steps.now + 1 + 4 * bit_length (length s.queue + 1)) (sym o.1)
          (given_steps g.R.Rank.KEYS g.R.Rank.key c.args.next c.args.left c.args.right c.index_mut-queue.result.now c.offer.new.queue c.offer-2.new.queue c.take.new.queue c.take.result c.offer.ensures.moved c.offer-2.ensures.moved c.take.ensures.given c.take.ensures.none _ _ _ _ c.offer.ensures.cost c.offer-2.ensures.cost c.take.ensures.cost);
    }

pub index_mut-queue-requires : goal.index_mut-queue-requires
index_mut-queue-requires g c = in_same _ _ _ (in_queues _ c.self.inside.heads.first c.self.inside.streams.items _ c.args.self.now c.self.view_is c.args.group c.requires.group) c.self.inside.streams.ok.0

pub offer-requires : goal.offer-requires
offer-requires g c = record { room = λ left. subst (λ (s : StreamView g.row.R.Denot). 0 < s.room) (queue_read _ c.self.inside.heads.first c.self.inside.streams.items _ c.args.self.now c.self.view_is c.args.group c.requires.group c.index_mut-queue.result.now c.index_mut-queue.ensures.value) (c.requires.left_room left) }

pub offer-requires-2 : goal.offer-requires-2
offer-requires-2 g c = record { room = λ right. room_left _ _ (subst (λ (s : StreamView g.row.R.Denot). 1 < s.room) (queue_read _ c.self.inside.heads.first c.self.inside.streams.items _ c.args.self.now c.self.view_is c.args.group c.requires.group c.index_mut-queue.result.now c.index_mut-queue.ensures.value) (c.requires.right_room right)) c.offer.ensures.spare }
