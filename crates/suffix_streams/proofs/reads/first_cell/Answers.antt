use Rattle.std.proofs.Common.{◌≡◌, ◌≢◌, ℕ, suc, ◌-◌, ◌<◌, length, refl, sym, subst, arith}
use Rattle.tdp_core.specs.TreeView.{child_count}
use Rattle.suffix_streams.specs.Firsts.{IsFirstCell}
use Rattle.suffix_streams.proofs.Heads.{children_count}
use Rattle.suffix_streams.proofs.Numbers.{in_same}
use Rattle.suffix_streams.proofs.reads.first_cell.Goals as goal

last_is : (k n m i : ℕ) → k ≡ n → n ≡ m → m ≡ suc i → k - 1 ≡ i
last_is k n m i e f h = omega arith

last_in : (k n m : ℕ) → k ≡ n → n ≡ m → k ≢ 0 → k - 1 < m
last_in k n m e f some = omega arith

pub returns-then-children-eq0-clause-parts : goal.returns-then-children-eq0-clause-parts
returns-then-children-eq0-clause-parts g c i kids =
    let all : length c.index-nodes-node.result.children ≡ child_count c.args.tree.now c.args.node = children_count g.R.Rank.KEYS g.R.Rank.key c.args.tree.now c.args.entries.now.entries c.args.nodes.now c.args.node c.args.row c.index-nodes-node.result c.requires.headed c.requires.node c.index-nodes-node.is in
    absurd (omega (arith, all, kids, c.child_count-children.ensures, c.if-children-eq0.true))

pub returns-clause-parts : goal.returns-clause-parts
returns-clause-parts g c i kids =
    let t = c.args.tree.now in
    let es = c.args.entries.now.entries in
    let all : length c.index-nodes-node.result.children ≡ child_count t c.args.node = children_count g.R.Rank.KEYS g.R.Rank.key t es c.args.nodes.now c.args.node c.args.row c.index-nodes-node.result c.requires.headed c.requires.node c.index-nodes-node.is in
    let last : c.child_count-children.result - 1 ≡ i = last_is _ _ _ _ c.child_count-children.ensures all kids in
    let in_kids : c.child_count-children.result - 1 < child_count t c.args.node = last_in _ _ _ c.child_count-children.ensures all c.if-children-eq0.false in
    let h = c.requires.headed in
    subst (λ z. IsFirstCell t es c.args.node c.args.row z (record { left = 0; right = c.child_head-right.result })) last
    (subst (λ z. IsFirstCell t es c.args.node c.args.row (c.child_count-children.result - 1) (record { left = 0; right = z })) (sym c.child_head-right.ensures.head)
    (record {
      left = refl;
      right = h.heads (c.child_count-children.result - 1) in_kids;
      node = (h.owners (c.child_count-children.result - 1) in_kids).0;
      group = (h.owners (c.child_count-children.result - 1) in_kids).1;
      place = h.places (c.child_count-children.result - 1) in_kids;
    }))

pub bounds-nodes-node : goal.bounds-nodes-node
bounds-nodes-node g c = in_same _ _ _ c.requires.node c.requires.headed.all_nodes

pub child_head-right-requires-clause-formed : goal.child_head-right-requires-clause-formed
child_head-right-requires-clause-formed g c = c.requires.formed

pub child_head-right-requires-clause-node : goal.child_head-right-requires-clause-node
child_head-right-requires-clause-node g c = c.requires.node

pub child_head-right-requires-clause-row : goal.child_head-right-requires-clause-row
child_head-right-requires-clause-row g c = c.requires.row

pub child_head-right-requires-clause-headed : goal.child_head-right-requires-clause-headed
child_head-right-requires-clause-headed g c = c.requires.headed

pub child_head-right-requires-clause-child : goal.child_head-right-requires-clause-child
child_head-right-requires-clause-child g c =
    let all : length c.index-nodes-node.result.children ≡ child_count c.args.tree.now c.args.node = children_count g.R.Rank.KEYS g.R.Rank.key c.args.tree.now c.args.entries.now.entries c.args.nodes.now c.args.node c.args.row c.index-nodes-node.result c.requires.headed c.requires.node c.index-nodes-node.is in
    last_in _ _ _ c.child_count-children.ensures all c.if-children-eq0.false
