use Rattle.std.proofs.Common.{◌≡◌, ap, ◌∙◌, arith}
use Rattle.suffix_streams.specs.StreamView.{headed}
use Rattle.suffix_streams.specs.TreeStreams.{open_rows}
use Rattle.suffix_streams.proofs.HeadedStreams.{headed_none}
use Rattle.tdp_core.specs.TreeView.{child_count}
use Rattle.suffix_streams.proofs.Errors.{none_given}
use Rattle.suffix_streams.proofs.beginning.empty_node.Goals as goal

pub returns : goal.returns
returns g c =
    let t = c.args.tree.now in
    let kids : c.len.result ≡ child_count t c.args.node = omega (arith, c.len.ensures, c.in_ok-children.ensures.count) in
    record {
      children = c.in_ok-children.ensures;
      no_streams = ap (λ z. headed c.new.result.first z) c.in_ok-streams.ensures.items ∙ headed_none c.new.result.first;
      all_rows = c.in_ok-products.ensures.count ∙ c.rows_to_open-rows.ensures ∙ ap (λ n. open_rows n c.len-2.result) kids ∙ ap (λ n. open_rows (child_count t c.args.node) n) c.len-2.ensures;
      no_products = c.in_ok-products.ensures.none;
    }

pub returns-in_err-children : goal.returns-in_err-children
returns-in_err-children g c = none_given _ c.from_residual.result c.from_residual.ensures.0

pub returns-in_err-products : goal.returns-in_err-products
returns-in_err-products g c = none_given _ c.from_residual-in_err-products.result c.from_residual-in_err-products.ensures.0

pub returns-in_err-streams : goal.returns-in_err-streams
returns-in_err-streams g c = none_given _ c.from_residual-in_err-streams.result c.from_residual-in_err-streams.ensures.0
