use Rattle.std.proofs.Common.{◌≡◌, ◌+◌, List, [], ◌∷◌, ◌++◌, length, sym, ap, ◌∙◌, subst}
use Rattle.suffix_streams.specs.NodeStreamsView.{NodeStreamsView}
use Rattle.suffix_streams.specs.TreeStreams.{lists_of}
use Rattle.suffix_streams.specs.Beginnings.{IsEmptyNode}
use Rattle.suffix_streams.proofs.BeginNodes.{empties_more}
use Rattle.suffix_streams.proofs.Errors.{none_done}
use Rattle.suffix_streams.proofs.ListEnds.{length_behind}
use Rattle.suffix_streams.proofs.beginning.add_empty_nodes.Goals as goal

pub loop-node-preserved : goal.loop-node-preserved
loop-node-preserved g c =
    let t = c.args.tree.now in
    let same : c.push.new.self.items ≡ c.loop-node.nodes.items ++ (c.in_ok-empty.empty ∷ []) = c.in_ok-push.ensures.items in
    record {
      count = ap length same ∙ length_behind c.loop-node.nodes.items c.in_ok-empty.empty ∙ ap (λ z. z + 1) c.loop-node.invariant.count;
      empty = λ v l. subst (λ (ns : List (NodeStreamsView g.row.R.Denot)). IsEmptyNode t v (lists_of ns v)) (sym same)
          (empties_more g.R.Rank.KEYS g.R.Rank.key t c.loop-node.nodes.items c.in_ok-empty.empty c.loop-node.node c.loop-node.invariant.count c.loop-node.invariant.empty c.in_ok-empty.ensures v l);
    }

pub returns-in_err-empty : goal.returns-in_err-empty
returns-in_err-empty g c =
    record {
      count = none_done _ c.from_residual.result c.from_residual.ensures.0;
      empty = none_done _ c.from_residual.result c.from_residual.ensures.0;
    }

pub returns-in_err-push : goal.returns-in_err-push
returns-in_err-push g c =
    record {
      count = none_done _ c.from_residual-in_err-push.result c.from_residual-in_err-push.ensures.0;
      empty = none_done _ c.from_residual-in_err-push.result c.from_residual-in_err-push.ensures.0;
    }
