use Rattle.std.proofs.Common.{◌≡◌, ◌<◌, ◌↔◌, IsSome, IfSome, length, slice_index_or, subst}
use Rattle.take2_heap.specs.Order.{IsLeast}
use Rattle.take2_heap.specs.declared.entry.Entry.{Entry}
use Rattle.suffix_streams.specs.declared.cell.Cell.{Cell}
use Rattle.suffix_streams.specs.ProductView.{ProductView}
use Rattle.suffix_streams.proofs.Takes.{one_there, one_first, one_least}
use Rattle.suffix_streams.proofs.product.Product.top.Goals as goal

pub returns : goal.returns
returns g c =
    let p = c.self.inside in
    record {
      top = subst (λ (q : ProductView g.row.R.Denot). IfSome p.last (λ e. (d : Entry g.row.R.Denot Cell) → e ≡ slice_index_or q.frontier 0 d)) c.self.view_is (one_first g.R.Rank.KEYS g.R.Rank.key p.last p.waiting.entries c.self.invariant.3);
      variant = subst (λ (q : ProductView g.row.R.Denot). IsSome p.last ↔ (0 < length q.frontier)) c.self.view_is (one_there g.R.Rank.KEYS g.R.Rank.key p.last p.waiting.entries c.self.invariant.3);
      least = subst (λ (q : ProductView g.row.R.Denot). IfSome p.last (λ e. IsLeast g.R.Rank.KEYS g.R.Rank.key e q.frontier)) c.self.view_is (one_least g.R.Rank.KEYS g.R.Rank.key p.last p.waiting.entries c.self.invariant.3 c.self.invariant.2);
    }
