use Rattle.std.proofs.Common.{◌≡◌, ◌≢◌, ℕ, ◌<◌, List, [], length, get_or, sym, ap, ◌∙◌, subst, arith}
use Rattle.tdp_core.specs.TreeView.{group_named}
use Rattle.suffix_streams.specs.NodeStreamsView.{NodeStreamsView, product_at}
use Rattle.suffix_streams.specs.Rankings.{child}
use Rattle.suffix_streams.specs.TreeStreams.{IsHeaded, products_of, stream_of}
use Rattle.suffix_streams.proofs.Entries.{headed_of}
use Rattle.suffix_streams.proofs.Heads.{lists_at}
use Rattle.suffix_streams.proofs.PartRows.{first_cell, in_products, in_found, product_cell}
use Rattle.suffix_streams.proofs.Numbers.{in_same, same_few}
use Rattle.suffix_streams.proofs.solutions.Solutions.part_cell.Goals as goal

is_some : (k n m : ℕ) → k ≡ m → n ≡ m → k ≢ 0 → 0 < n
is_some k n m e f some = omega arith

is_none : (k n m : ℕ) → k ≡ m → n ≡ m → k ≡ 0 → n ≡ 0
is_none k n m e f none = omega arith

pub child_head-right-requires-clause-headed : goal.child_head-right-requires-clause-headed
child_head-right-requires-clause-headed g c =
    subst (λ (z : List (NodeStreamsView g.row.R.Denot)). IsHeaded g.R.Rank.KEYS g.R.Rank.key c.args.self.now.tree.now c.args.self.now.entries.entries z c.args.node c.args.row) (sym c.as_slice.ensures.value)
    (headed_of g.R.Rank.KEYS g.R.Rank.key c.args.self.now.tree.now c.args.self.now.entries.entries c.args.self.now.nodes.items c.requires.formed c.args.node c.args.row c.requires.node c.requires.row)

pub returns-else-product_count-eq0-clause-sum : goal.returns-else-product_count-eq0-clause-sum
returns-else-product_count-eq0-clause-sum g c =
    let n = c.args.self.now.nodes.items in
    let inside : c.args.node < length n = in_same _ _ _ c.requires.node c.requires.formed.all_nodes in
    let lists = lists_at n c.args.node c.index-lists.result.now c.index-lists.ensures inside in
    let some : 0 < length (products_of n c.args.node c.args.row) = is_some _ _ _ c.product_count.ensures (ap (λ m. length (get_or m.products c.args.row [])) lists) c.if-product_count-eq0.false in
    product_cell g.R.Rank.KEYS g.R.Rank.key c.args.self.now.tree.now c.args.self.now.entries.entries n c.requires.formed c.args.node c.args.row c.args.child c.args.place c.cell.result c.requires.node c.requires.row c.requires.child some c.requires.place
    (λ x. c.cell.ensures x ∙ ap (λ m. get_or (product_at m c.args.row c.args.child).found c.args.place x) (sym lists))

pub child_head-right-requires-clause-formed : goal.child_head-right-requires-clause-formed
child_head-right-requires-clause-formed g c = c.requires.formed.tree

pub child_head-right-requires-clause-node : goal.child_head-right-requires-clause-node
child_head-right-requires-clause-node g c = c.requires.node

pub child_head-right-requires-clause-row : goal.child_head-right-requires-clause-row
child_head-right-requires-clause-row g c = c.requires.row

pub child_head-right-requires-clause-child : goal.child_head-right-requires-clause-child
child_head-right-requires-clause-child g c = c.requires.child

pub returns-then-product_count-eq0 : goal.returns-then-product_count-eq0
returns-then-product_count-eq0 g c =
    record {
      cost = same_few _ _ c.child_head-right.ensures.cost;
      sum =
          let n = c.args.self.now.nodes.items in
          let inside : c.args.node < length n = in_same _ _ _ c.requires.node c.requires.formed.all_nodes in
          let lists = lists_at n c.args.node c.index-lists.result.now c.index-lists.ensures inside in
          let none : length (products_of n c.args.node c.args.row) ≡ 0 = is_none _ _ _ c.product_count.ensures (ap (λ m. length (get_or m.products c.args.row [])) lists) c.if-product_count-eq0.true in
          first_cell g.R.Rank.KEYS g.R.Rank.key c.args.self.now.tree.now c.args.self.now.entries.entries n c.requires.formed c.requires.tie_free c.args.node c.args.row c.args.child c.args.place c.child_head-right.result c.requires.node c.requires.row c.requires.child none c.requires.place
          (c.child_head-right.ensures.head ∙ ap (λ (z : List (NodeStreamsView g.row.R.Denot)). (stream_of z (child c.args.self.now.tree.now c.args.node c.args.child) (group_named c.args.self.now.tree.now c.args.node c.args.row c.args.child)).head) c.as_slice.ensures.value);
    }

pub cell-requires-clause-child : goal.cell-requires-clause-child
cell-requires-clause-child g c =
    let n = c.args.self.now.nodes.items in
    let lists = lists_at n c.args.node c.index-lists.result.now c.index-lists.ensures (in_same _ _ _ c.requires.node c.requires.formed.all_nodes) in
    in_products g.R.Rank.KEYS g.R.Rank.key c.args.self.now.tree.now c.args.self.now.entries.entries n c.requires.formed c.args.node c.args.row c.args.child c.index-lists.result.now lists c.requires.node c.requires.row c.requires.child
    (is_some _ _ _ c.product_count.ensures (ap (λ m. length (get_or m.products c.args.row [])) lists) c.if-product_count-eq0.false)

pub cell-requires-clause-place : goal.cell-requires-clause-place
cell-requires-clause-place g c =
    let n = c.args.self.now.nodes.items in
    let lists = lists_at n c.args.node c.index-lists.result.now c.index-lists.ensures (in_same _ _ _ c.requires.node c.requires.formed.all_nodes) in
    in_found g.R.Rank.KEYS g.R.Rank.key c.args.self.now.tree.now c.args.self.now.entries.entries n c.requires.formed c.args.node c.args.row c.args.child c.args.place c.index-lists.result.now lists
    (is_some _ _ _ c.product_count.ensures (ap (λ m. length (get_or m.products c.args.row [])) lists) c.if-product_count-eq0.false) c.requires.place
