use Rattle.std.proofs.Common.{[], length, slice_index_or, ap, ◌∙◌}
use Rattle.suffix_streams.specs.NodeStreamsView.{NodeStreamsView}
use Rattle.suffix_streams.proofs.node.NodeStreams.product_count.Goals as goal

pub returns : goal.returns
returns g c = c.count_of.ensures ∙ ap (λ (n : NodeStreamsView g.row.R.Denot). length (slice_index_or n.products c.args.row [])) c.self.view_is
