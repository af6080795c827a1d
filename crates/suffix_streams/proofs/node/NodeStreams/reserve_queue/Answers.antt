use Rattle.std.proofs.Common.{◌≤◌, OnOk, sym, ap, ◌∙◌, subst}
use Rattle.suffix_streams.specs.Firsts.{can_enter}
use Rattle.suffix_streams.specs.StreamView.{StreamView}
use Rattle.suffix_streams.specs.NodeStreamsView.{stream_at, with_queue}
use Rattle.suffix_streams.proofs.NodeFacts.{in_queues, queue_changed}
use Rattle.suffix_streams.proofs.Numbers.{in_same}
use Rattle.suffix_streams.proofs.node.NodeStreams.reserve_queue.Goals as goal

pub index_mut-queue-requires : goal.index_mut-queue-requires
index_mut-queue-requires g c = in_same _ _ _ (in_queues _ c.self.inside.heads.first c.self.inside.streams.items _ c.args.self.now c.self.view_is c.args.group c.requires.group) c.self.inside.streams.ok.0

pub returns : goal.returns
returns g c =
    let o = queue_changed _ c.self.inside.heads.first c.self.inside.streams.items _ c.args.self.now c.self.view_is c.args.group c.requires.group c.reserve.new.self c.index_mut-queue.result.now c.index_mut-queue.ensures.value in
    record {
      room = subst (λ (s : StreamView g.row.R.Denot). OnOk c.reserve.result (can_enter c.args.members ≤ s.room)) (sym o.1) (subst (λ n. OnOk c.reserve.result (n ≤ c.reserve.new.self.spare)) c.entering.ensures c.reserve.ensures.ok);
      changed =
          o.2
          ∙ ap (λ q. with_queue c.args.self.now c.args.group q c.reserve.new.self.spare) (c.reserve.ensures.entries ∙ sym (ap (λ (s : StreamView g.row.R.Denot). s.queue) o.0))
          ∙ ap (λ (s : StreamView g.row.R.Denot). with_queue c.args.self.now c.args.group (stream_at c.args.self.now c.args.group).queue s.room) (sym o.1);
    }
