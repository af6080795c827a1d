use Rattle.std.proofs.Common.{[], ◌≡◌, suc, ℕ, ◌+◌, ◌<◌, ◌≤◌, length, get_or, is_some, sym, ap, ◌∙◌, subst, arith}
use Rattle.tdp_core.specs.TreeView.{parent}
use Rattle.tdp_core.proofs.Children.{kids_below_most}
use Rattle.take2_heap.specs.Order.{IsLeast}
use Rattle.suffix_streams.specs.NodeStreamsView.{product_at, known_of}
use Rattle.suffix_streams.specs.TreeStreams.{products_of, product_of, part_known}
use Rattle.suffix_streams.proofs.Heads.{lists_at}
use Rattle.suffix_streams.proofs.Entries.{parts_of, child_in}
use Rattle.suffix_streams.proofs.RowOffers.{offered_cell, offered_key, offered_sum, IsTopSum, top_sum}
use Rattle.suffix_streams.proofs.reads.known_sum.Given.{Over}
use Rattle.suffix_streams.proofs.reads.known_sum.Goals.{After-index-nodes-part, After-cell-cell, In-Some}
use Rattle.suffix_streams.proofs.Numbers.{in_same, in_equal, child_fits}
use Rattle.suffix_streams.proofs.reads.known_sum.Goals as goal

-- # Numbers

next_in : (c n m : ℕ) → c < n → n ≡ m → c + 1 ≤ m
next_in c n m l e = omega arith

next_is : (c : ℕ) → c + 1 ≡ suc c
next_is c = omega arith

few_steps : (s : ℕ) → s ≤ s + 3
few_steps s = omega arith

-- # What the proofs share

module _ (g : Over) where
  product_is : (c : After-index-nodes-part g) → product_of c.args.nodes.now c.args.part.node c.args.part.row c.args.part.child ≡ product_at c.index-nodes-part.result c.args.part.row c.args.part.child
  product_is c = ap (λ n. product_at n c.args.part.row c.args.part.child) (lists_at c.args.nodes.now c.args.part.node c.index-nodes-part.result c.index-nodes-part.is (in_same _ _ _ c.requires.node c.requires.formed.all_nodes))

  products_are : (c : After-index-nodes-part g) → length (products_of c.args.nodes.now c.args.part.node c.args.part.row) ≡ length (get_or c.index-nodes-part.result.products c.args.part.row [])
  products_are c = ap (λ n. length (get_or n.products c.args.part.row [])) (lists_at c.args.nodes.now c.args.part.node c.index-nodes-part.result c.index-nodes-part.is (in_same _ _ _ c.requires.node c.requires.formed.all_nodes))

  within : (c : After-index-nodes-part g) → c.args.place < part_known c.args.nodes.now c.args.part.node c.args.part.row (suc c.args.part.child)
  within c =
      let more : c.args.part.child + 1 ≡ suc c.args.part.child = next_is c.args.part.child in
      subst (λ k. c.args.place < part_known c.args.nodes.now c.args.part.node c.args.part.row k) more c.requires.place

  cell_is : (c : After-cell-cell g) → product_of c.args.nodes.now c.args.part.node c.args.part.row c.args.part.child ≡ product_at c.index-nodes-part.result c.args.part.row c.args.part.child → c.cell-cell.result ≡ get_or (product_of c.args.nodes.now c.args.part.node c.args.part.row c.args.part.child).found c.args.place c.cell-cell.result
  cell_is c same = c.cell-cell.ensures c.cell-cell.result ∙ ap (λ p. get_or p.found c.args.place c.cell-cell.result) (sym same)

  -- the top of the frontier is this solution
  top_of : (c : In-Some g) → product_of c.args.nodes.now c.args.part.node c.args.part.row c.args.part.child ≡ product_at c.index-nodes-part.result c.args.part.row c.args.part.child → c.args.place < part_known c.args.nodes.now c.args.part.node c.args.part.row (suc c.args.part.child)
      → IsTopSum g.R.Rank.KEYS g.R.Rank.key c.args.tree.now c.args.entries.now.entries c.args.nodes.now c.args.part.node c.args.part.row c.args.part.child c.args.place c.in-Some.top
  top_of c same known =
      let more : c.args.part.child + 1 ≡ suc c.args.part.child = next_is c.args.part.child in
      top_sum g.R.Rank.KEYS g.R.Rank.key c.args.tree.now c.args.entries.now.entries c.args.nodes.now c.requires.formed c.args.part.node c.args.part.row c.args.part.child c.args.place c.requires.node c.requires.row c.requires.child known
      c.in-Some.top (subst (λ p. 0 < length p.frontier) (sym same) (c.product_top.ensures.variant.0 (ap is_some c.in-Some.is))) (λ x. c.in-Some.ensures.top x ∙ ap (λ p. get_or p.frontier 0 x) (sym same))
      (subst (λ p. IsLeast g.R.Rank.KEYS g.R.Rank.key c.in-Some.top p.frontier) (sym same) c.in-Some.ensures.least)
      (omega (arith, ap (λ p. length p.found) same, ap (λ k. known_of c.index-nodes-part.result c.args.part.row k) more, c.known.ensures, c.if-known-place.true))

pub overflow_add-part : goal.overflow_add-part
overflow_add-part g c =
    child_fits _ _ _ (child_in g.R.Rank.KEYS g.R.Rank.key c.args.tree.now c.args.entries.now.entries c.args.nodes.now c.requires.formed c.args.part.node c.args.part.row c.args.part.child c.requires.node c.requires.row c.requires.child) (kids_below_most (parent c.args.tree.now) c.args.part.node (length c.args.tree.now)) c.requires.formed.tree.shaped.few_nodes

pub cell-cell-requires-clause-place : goal.cell-cell-requires-clause-place
cell-cell-requires-clause-place g c =
    let at = goal.at.cell-cell-requires-clause-place g c in
    in_equal _ _ _ (within g at.After-index-nodes-part) (ap (λ p. length p.found) (product_is g at.After-index-nodes-part))

pub cell_rank-rank-requires-clause-parts : goal.cell_rank-rank-requires-clause-parts
cell_rank-rank-requires-clause-parts g c = parts_of g.R.Rank.KEYS g.R.Rank.key c.args.tree.now c.args.entries.now.entries c.args.nodes.now c.requires.formed c.args.part.node c.args.part.row c.args.part.child c.requires.node c.requires.row c.requires.child

pub cell_rank-rank-requires-clause-cell : goal.cell_rank-rank-requires-clause-cell
cell_rank-rank-requires-clause-cell g c =
    let at = goal.at.cell_rank-rank-requires-clause-cell g c in
    offered_cell g.R.Rank.KEYS g.R.Rank.key c.args.tree.now c.args.entries.now.entries c.args.nodes.now c.requires.formed c.args.part.node c.args.part.row c.args.part.child c.args.place c.requires.node c.requires.row c.requires.child (within g at.After-index-nodes-part)
    c.cell-cell.result (cell_is g at.After-cell-cell (product_is g at.After-index-nodes-part))

pub offset_bounds-nodes-part : goal.offset_bounds-nodes-part
offset_bounds-nodes-part g c = omega (arith, c.requires.formed.all_nodes, c.requires.node)

pub bounds-nodes-part : goal.bounds-nodes-part
bounds-nodes-part g c = in_same _ _ _ c.requires.node c.requires.formed.all_nodes

pub known-requires : goal.known-requires
known-requires g c = record { count = next_in _ _ _ c.requires.child (products_are g (goal.at.known-requires g c).After-index-nodes-part) }

pub overflow_add-place : goal.overflow_add-place
overflow_add-place g c =
    let at = goal.at.overflow_add-place g c in
    let more : c.args.part.child + 1 ≡ suc c.args.part.child = next_is c.args.part.child in
    omega (arith, within g at.After-index-nodes-part, ap (λ p. length p.found) (product_is g at.After-index-nodes-part), ap (λ k. known_of c.index-nodes-part.result c.args.part.row k) more, c.known.ensures, c.known.type_inv)

pub product_top-requires : goal.product_top-requires
product_top-requires g c = record { child = in_equal _ _ _ c.requires.child (products_are g (goal.at.product_top-requires g c).After-index-nodes-part) }

pub returns-in-Some : goal.returns-in-Some
returns-in-Some g c =
    let at = goal.at.returns-in-Some g c in
    record {
      key = (top_of g at.In-Some (product_is g at.After-index-nodes-part) (within g at.After-index-nodes-part)).rank;
      sum = (top_of g at.In-Some (product_is g at.After-index-nodes-part) (within g at.After-index-nodes-part)).sum;
      cost = few_steps _;
    }

pub cell-cell-requires-clause-child : goal.cell-cell-requires-clause-child
cell-cell-requires-clause-child g c = in_equal _ _ _ c.requires.child (products_are g (goal.at.cell-cell-requires-clause-child g c).After-index-nodes-part)

pub cell_rank-rank-requires-clause-formed : goal.cell_rank-rank-requires-clause-formed
cell_rank-rank-requires-clause-formed g c = c.requires.formed.tree

pub cell_rank-rank-requires-clause-node : goal.cell_rank-rank-requires-clause-node
cell_rank-rank-requires-clause-node g c = c.requires.node

pub cell_rank-rank-requires-clause-row : goal.cell_rank-rank-requires-clause-row
cell_rank-rank-requires-clause-row g c = c.requires.row

pub returns : goal.returns
returns g c =
    let at = goal.at.returns g c in
    record {
      cost = c.cell_rank-rank.ensures.cost;
      key =
          c.cell_rank-rank.ensures.key
          ∙ offered_key g.R.Rank.KEYS g.R.Rank.key c.args.tree.now c.args.entries.now.entries c.args.nodes.now c.requires.formed c.args.part.node c.args.part.row c.args.part.child c.args.place c.requires.node c.requires.row c.requires.child (within g at.After-index-nodes-part)
          c.cell-cell.result (cell_is g at.After-cell-cell (product_is g at.After-index-nodes-part));
      sum =
          offered_sum g.R.Rank.KEYS g.R.Rank.key c.args.tree.now c.args.entries.now.entries c.args.nodes.now c.requires.formed c.args.part.node c.args.part.row c.args.part.child c.args.place c.requires.node c.requires.row c.requires.child (within g at.After-index-nodes-part)
          c.cell-cell.result (cell_is g at.After-cell-cell (product_is g at.After-index-nodes-part));
    }
