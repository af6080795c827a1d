use Rattle.std.proofs.Common.{◌≡◌, ◌<◌, length, slice_index, ap, subst, sym, ◌∙◌, inl, inr, Some, arith}
use Rattle.tdp_core.specs.RawView.{raw_len, raw_rank}
use Rattle.proof_check.proofs.Nodes.{all_nodes}
use Rattle.proof_check.proofs.Parts.{empty_part, named_part, named_row, row_part}
use Rattle.proof_check.proofs.Counts.{at_list}
use Rattle.proof_check.proofs.open_places.base_part.Goals as goal
use Rattle.proof_check.proofs.open_places.base_part.Goals.{then-at-node-2-via-then-at-node-2}
use Rattle.proof_check.proofs.open_places.base_part.Goals.{then-at-node-2-via-else-at-node-2+then-above-node}

pub named_rank-requires-clause-above : goal.named_rank-requires-clause-above
named_rank-requires-clause-above g c =
    let up = slice_index c.args.join.now.parent c.args.at in
    let x = c.if-at-node-2.false in let y = c.if-at-node.false in
    (named_row c.args.join.now c.args.tree.now g.R.Rank.KEYS g.R.Rank.key c.requires.ready.bounded c.requires.ready.ordered c.requires.ready.long
    c.args.at c.requires.at (omega (arith, x, y)) (slice_index c.args.start.now up) (c.requires.rows up c.if-above-node.false)).0

pub named_rank-requires-clause-each : goal.named_rank-requires-clause-each
named_rank-requires-clause-each g c =
    let up = slice_index c.args.join.now.parent c.args.at in
    let x = c.if-at-node-2.false in let y = c.if-at-node.false in
    (named_row c.args.join.now c.args.tree.now g.R.Rank.KEYS g.R.Rank.key c.requires.ready.bounded c.requires.ready.ordered c.requires.ready.long
    c.args.at c.requires.at (omega (arith, x, y)) (slice_index c.args.start.now up) (c.requires.rows up c.if-above-node.false)).1

pub bounds-start-at : goal.bounds-start-at
bounds-start-at g c = let few = c.requires.ready.ordered.few in let l = c.requires.at in omega (arith, few, l)

pub row-requires-clause-row : goal.row-requires-clause-row
row-requires-clause-row g c =
    subst (λ z. slice_index c.args.start.now c.args.at < raw_len z.raw c.args.at) (sym c.tree.view_is) (c.requires.rows c.args.at c.if-at-node.true)

pub row-requires-clause-node : goal.row-requires-clause-node
row-requires-clause-node g c =
    let b = c.requires.ready.bounded in
    at_list _ _ _ c.requires.at
    (ap (λ z. length z.raw.shapes) c.tree.view_is ∙ b.bounded.rows.nodes
    ∙ all_nodes b.query b.tables c.args.join.now c.requires.ready.ordered c.requires.ready.long)

pub bounds-start-above : goal.bounds-start-above
bounds-start-above g c = omega (arith, c.requires.ready.ordered.few, c.requires.ready.node)

pub named_rank-requires-clause-node : goal.named_rank-requires-clause-node
named_rank-requires-clause-node g c =
    let b = c.requires.ready.bounded in
    at_list _ _ _ c.requires.at
    (b.bounded.each_node ∙ all_nodes b.query b.tables c.args.join.now c.requires.ready.ordered c.requires.ready.long)

pub returns-then-at-node : goal.returns-then-at-node
returns-then-at-node g c =
    let d = g.R.Rank.KEYS in let key = g.R.Rank.key in let start = c.args.start.now in
    let at = c.args.at in
    ap Some (subst (λ z. key c.row.result.rank ≡ raw_rank z.raw d key at (slice_index start at)) c.tree.view_is c.row.ensures.rank)
    ∙ sym (row_part c.args.join.now c.args.tree.now d key c.args.node start at c.if-at-node.true)

pub returns-then-at-node-2 : goal.returns-then-at-node-2
returns-then-at-node-2 g c =
    ap Some c.zero.ensures
    ∙ sym (empty_part c.args.join.now c.args.tree.now g.R.Rank.KEYS g.R.Rank.key c.args.node c.args.start.now c.args.at c.if-at-node.false
    (elim c.then-at-node-2.branch [
      | then-at-node-2-via-then-at-node-2 w ↦ inl w.if-at-node-2.true
      | then-at-node-2-via-else-at-node-2+then-above-node w ↦ inr w.if-above-node.true
    ]))

pub returns : goal.returns
returns g c =
    c.named_rank.ensures
    ∙ sym (named_part c.args.join.now c.args.tree.now g.R.Rank.KEYS g.R.Rank.key c.args.node c.args.start.now c.args.at
    c.if-at-node.false c.if-at-node-2.false c.if-above-node.false)

pub bounds-join-at : goal.bounds-join-at
bounds-join-at g c = let few = c.requires.ready.ordered.few in let l = c.requires.at in omega (arith, few, l)
