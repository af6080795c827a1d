use Rattle.std.proofs.Common.{◌≡◌, ◌+◌, ◌*◌, ◌<◌, ◌≤◌, ◌^◌, ◌∷◌, ◌++◌, [], IsSome, length, slice_index_or, sym, ap, ◌∙◌, subst}
use Rattle.std.specs.List.Sorted.{IsPermutation}
use Rattle.rank_key.specs.Bits.{bit_length}
use Rattle.suffix_streams.specs.Offers.{offers}
use Rattle.take2_heap.specs.Order.{IsLeast}
use Rattle.suffix_streams.specs.NodeStreamsView.{product_at, with_product}
use Rattle.suffix_streams.specs.ProductView.{ProductView, with_rank}
use Rattle.suffix_streams.proofs.NodeFacts.{product_changed, product_read}
use Rattle.suffix_streams.proofs.node.NodeStreams.step_product.Goals as goal

pub step-requires-clause-top : goal.step-requires-clause-top
step-requires-clause-top g c =
    let same = product_read c.self.inside.children.items _ _ c.args.self.now c.args.row c.args.child c.product_mut-product.result.now c.self.view_is c.product_mut-product.ensures.value in
    subst (λ (p : ProductView g.row.R.Denot). 0 < length p.frontier) (sym same) c.requires.top

pub step-requires-clause-frontier_room : goal.step-requires-clause-frontier_room
step-requires-clause-frontier_room g c =
    let same = product_read c.self.inside.children.items _ _ c.args.self.now c.args.row c.args.child c.product_mut-product.result.now c.self.view_is c.product_mut-product.ensures.value in
    subst (λ (p : ProductView g.row.R.Denot). IsSome c.args.across → 0 < p.frontier_room) (sym same) c.requires.frontier_room

pub step-requires-clause-room : goal.step-requires-clause-room
step-requires-clause-room g c =
    let same = product_read c.self.inside.children.items _ _ c.args.self.now c.args.row c.args.child c.product_mut-product.result.now c.self.view_is c.product_mut-product.ensures.value in
    subst (λ (p : ProductView g.row.R.Denot). 0 < p.room) (sym same) c.requires.room

pub returns : goal.returns
returns g c =
    let o = product_changed c.self.inside.children.items _ _ c.args.self.now c.args.row c.args.child c.step.new.self c.self.view_is c.requires.child in
    let same = product_read c.self.inside.children.items _ _ c.args.self.now c.args.row c.args.child c.product_mut-product.result.now c.self.view_is c.product_mut-product.ensures.value in
    record {
      found =
          λ d.
          subst (λ (p : ProductView g.row.R.Denot). 0 < length p.frontier → p.found ≡ (product_at c.args.self.now c.args.row c.args.child).found ++ (slice_index_or p.frontier 0 d).tag ∷ []) (sym o.0)
          (subst (λ (p : ProductView g.row.R.Denot). 0 < length c.step.new.self.frontier → c.step.new.self.found ≡ p.found ++ (slice_index_or c.step.new.self.frontier 0 d).tag ∷ []) same (c.step.ensures.found d));
      limit = subst (λ (p : ProductView g.row.R.Denot). length p.frontier ≤ 2 ^ 64) (sym o.0) c.step.ensures.limit;
      ranks =
          λ d.
          subst (λ (p : ProductView g.row.R.Denot). 0 < length p.frontier → p.ranks ≡ with_rank (product_at c.args.self.now c.args.row c.args.child).ranks (slice_index_or p.frontier 0 d).rank) (sym o.0)
          (subst (λ (p : ProductView g.row.R.Denot). 0 < length c.step.new.self.frontier → c.step.new.self.ranks ≡ with_rank p.ranks (slice_index_or c.step.new.self.frontier 0 d).rank) same (c.step.ensures.ranks d));
      moved =
          λ d.
          subst (λ (p : ProductView g.row.R.Denot). IsPermutation (offers c.args.down c.args.across (product_at c.args.self.now c.args.row c.args.child).frontier) (slice_index_or (product_at c.args.self.now c.args.row c.args.child).frontier 0 d ∷ p.frontier)) (sym o.0)
          (subst (λ (p : ProductView g.row.R.Denot). IsPermutation (offers c.args.down c.args.across p.frontier) (slice_index_or p.frontier 0 d ∷ c.step.new.self.frontier)) same (c.step.ensures.moved d));
      cost = subst (λ (p : ProductView g.row.R.Denot). c.step.new.steps ≤ c.args.steps.now + 1 + 2 * bit_length (length p.frontier) + bit_length (length p.frontier + 1)) same c.step.ensures.cost;
      ended =
          subst (λ (p : ProductView g.row.R.Denot). length p.frontier ≡ 0 → (p.found ≡ (product_at c.args.self.now c.args.row c.args.child).found) × (p.ranks ≡ (product_at c.args.self.now c.args.row c.args.child).ranks)) (sym o.0)
          (subst (λ (p : ProductView g.row.R.Denot). length c.step.new.self.frontier ≡ 0 → (c.step.new.self.found ≡ p.found) × (c.step.new.self.ranks ≡ p.ranks)) same c.step.ensures.ended);
      changed = o.1 ∙ ap (λ (p : ProductView g.row.R.Denot). with_product c.args.self.now c.args.row c.args.child p) (sym o.0);
      least = λ d. subst (λ z. IsLeast g.R.Rank.KEYS g.R.Rank.key (slice_index_or z.frontier 0 d) z.frontier) same (c.step.ensures.least d);
      next = λ d. subst (λ (p : ProductView g.row.R.Denot). 0 < length p.frontier → IsLeast g.R.Rank.KEYS g.R.Rank.key (slice_index_or p.frontier 0 d) p.frontier) (sym o.0) (c.step.ensures.next d);
    }
