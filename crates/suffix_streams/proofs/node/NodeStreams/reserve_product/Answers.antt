use Rattle.std.proofs.Common.{OnOk, ◌<◌, sym, ap, ◌∙◌, subst}
use Rattle.std.proofs.lemmas.Bool.{lt-ltb}
use Rattle.suffix_streams.proofs.Errors.{ok_then}
use Rattle.suffix_streams.specs.NodeStreamsView.{with_product}
use Rattle.suffix_streams.specs.ProductView.{ProductView}
use Rattle.suffix_streams.proofs.NodeFacts.{product_changed, product_read}
use Rattle.suffix_streams.proofs.node.NodeStreams.reserve_product.Goals as goal

pub returns : goal.returns
returns g c =
    let o = product_changed c.self.inside.children.items _ _ c.args.self.now c.args.row c.args.child c.reserve.new.self c.self.view_is c.requires.child in
    let same = product_read c.self.inside.children.items _ _ c.args.self.now c.args.row c.args.child c.product_mut-product.result.now c.self.view_is c.product_mut-product.ensures.value in
    record {
      changed = o.1 ∙ ap (λ (p : ProductView g.row.R.Denot). with_product c.args.self.now c.args.row c.args.child p) (sym o.0);
      found = ap (λ (p : ProductView g.row.R.Denot). p.found) o.0 ∙ c.reserve.ensures.found ∙ ap (λ (p : ProductView g.row.R.Denot). p.found) same;
      ranks = ap (λ (p : ProductView g.row.R.Denot). p.ranks) o.0 ∙ c.reserve.ensures.ranks ∙ ap (λ (p : ProductView g.row.R.Denot). p.ranks) same;
      frontier = ap (λ (p : ProductView g.row.R.Denot). p.frontier) o.0 ∙ c.reserve.ensures.frontier ∙ ap (λ (p : ProductView g.row.R.Denot). p.frontier) same;
      room = subst (λ (p : ProductView g.row.R.Denot). OnOk c.reserve.result (0 < p.room)) (sym o.0) c.reserve.ensures.room;
      frontier_room = subst (λ (p : ProductView g.row.R.Denot). OnOk c.reserve.result (0 < c.args.child → 0 < p.frontier_room)) (sym o.0) (ok_then c.reserve.result (λ room later. room (lt-ltb 0 c.args.child later)) c.reserve.ensures.frontier_room);
    }
