use Rattle.std.proofs.Common.{Fits, w32, ◌≡◌, ℕ, ◌<◌, ◌≤◌, length, arith}
use Rattle.tdp_core.specs.TreeView.{parent}
use Rattle.tdp_core.proofs.Children.{kids_below_most}
use Rattle.suffix_streams.proofs.Heads.{children_count, kid_within, stream_within, head_is}
use Rattle.suffix_streams.proofs.reads.child_head.Goals as goal

same_in : (v u n : ℕ) → v ≡ u → u < n → v < n
same_in v u n e l = omega arith

in_all : (v n m : ℕ) → v < n → m ≡ n → v < m
in_all v n m l e = omega arith

child_fits : (i k n : ℕ) → i < k → k ≤ n → n ≤ 16 → Fits w32 i
child_fits i k n l most few = omega arith

pub overflow_cast-child : goal.overflow_cast-child
overflow_cast-child g c = child_fits _ _ _ c.requires.child (kids_below_most (parent c.args.tree.now) c.args.node (length c.args.tree.now)) c.requires.formed.shaped.few_nodes

pub bounds-nodes-child_node : goal.bounds-nodes-child_node
bounds-nodes-child_node g c =
    kid_within g.R.Rank.KEYS g.R.Rank.key c.args.tree.now c.requires.formed c.args.entries.now.entries c.args.nodes.now c.args.node c.args.row c.args.child c.requires.headed c.requires.node c.requires.child
    c.index-nodes-node.result c.index-nodes-node.is c.child-child_node.result c.child-child_node.ensures

pub head-requires : goal.head-requires
head-requires g c = record {
  group =
      stream_within g.R.Rank.KEYS g.R.Rank.key c.args.tree.now c.requires.formed c.args.entries.now.entries c.args.nodes.now c.args.node c.args.row c.args.child c.requires.headed c.requires.node c.requires.child
      c.index-nodes-node.result c.index-nodes-node.is c.child-child_node.result c.index-nodes-child_node.result c.group_of-group.result c.child-child_node.ensures c.index-nodes-child_node.is c.group_of-group.ensures.named;
}

pub returns : goal.returns
returns g c =
    let head =
    head_is g.R.Rank.KEYS g.R.Rank.key c.args.tree.now c.requires.formed c.args.entries.now.entries c.args.nodes.now c.args.node c.args.row c.args.child c.requires.headed c.requires.node c.requires.child
    c.index-nodes-node.result c.index-nodes-node.is c.child-child_node.result c.index-nodes-child_node.result c.group_of-group.result c.head.result c.child-child_node.ensures c.index-nodes-child_node.is c.group_of-group.ensures.named c.head.ensures in
    record {
      head = head;
      within = same_in _ _ _ head (c.requires.headed.heads c.args.child c.requires.child);
      cost = c.group_of-group.ensures.counted;
    }

pub offset_bounds-nodes-child_node : goal.offset_bounds-nodes-child_node
offset_bounds-nodes-child_node g c =
    let within = kid_within g.R.Rank.KEYS g.R.Rank.key c.args.tree.now c.requires.formed c.args.entries.now.entries c.args.nodes.now c.args.node c.args.row c.args.child c.requires.headed c.requires.node c.requires.child c.index-nodes-node.result c.index-nodes-node.is c.child-child_node.result c.child-child_node.ensures in
    omega (arith, within)

pub bounds-nodes-node : goal.bounds-nodes-node
bounds-nodes-node g c = in_all _ _ _ c.requires.node c.requires.headed.all_nodes

pub group_of-group-requires-clause-node : goal.group_of-group-requires-clause-node
group_of-group-requires-clause-node g c = c.requires.node

pub group_of-group-requires-clause-row : goal.group_of-group-requires-clause-row
group_of-group-requires-clause-row g c = c.requires.row

pub group_of-group-requires-clause-child : goal.group_of-group-requires-clause-child
group_of-group-requires-clause-child g c = c.requires.child

pub child-child_node-requires : goal.child-child_node-requires
child-child_node-requires g c =
    let all = children_count g.R.Rank.KEYS g.R.Rank.key c.args.tree.now c.args.entries.now.entries c.args.nodes.now c.args.node c.args.row c.index-nodes-node.result c.requires.headed c.requires.node c.index-nodes-node.is in
    record { place = in_all _ _ _ c.requires.child all }
