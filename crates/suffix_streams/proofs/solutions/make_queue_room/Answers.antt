use Rattle.std.proofs.Common.{◌≤◌, OnOk, slice_set, sym, ap, ◌∙◌, subst}
use Rattle.suffix_streams.specs.Firsts.{can_enter}
use Rattle.suffix_streams.specs.NodeStreamsView.{stream_at, with_queue}
use Rattle.suffix_streams.specs.TreeStreams.{lists_of, stream_of}
use Rattle.suffix_streams.proofs.Changes.{lists_same}
use Rattle.suffix_streams.proofs.Heads.{lists_at}
use Rattle.suffix_streams.proofs.solutions.make_queue_room.Goals as goal

pub returns : goal.returns
returns g c =
    let n = c.args.nodes.now.items in
    let v = c.args.node in
    let was = lists_at n v c.index_mut.result.now c.index_mut.ensures.value c.requires.node in
    let is = lists_same n v c.reserve_queue.new.self c.requires.node in
    let stream = ap (λ m. stream_at m c.args.group) is in
    record {
      changed =
          ap (λ m. slice_set n v m) (c.reserve_queue.ensures.changed ∙ ap (λ m. with_queue m c.args.group (stream_at m c.args.group).queue (stream_at c.reserve_queue.new.self c.args.group).room) (sym was))
          ∙ ap (λ s. slice_set n v (with_queue (lists_of n v) c.args.group (stream_of n v c.args.group).queue s.room)) (sym stream);
      room = subst (λ s. OnOk c.reserve_queue.result (can_enter c.args.members ≤ s.room)) (sym stream) c.reserve_queue.ensures.room;
    }
