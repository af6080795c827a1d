use Rattle.std.proofs.Common.{Some, length, option_map, sym, ap, ◌∙◌, arith}
use Rattle.proof_check.specs.BoundedRows.{rank_of_bound}
use Rattle.proof_check.proofs.BoundReads.{at_node, own_items, own_read, rank_items, rank_read}
use Rattle.proof_check.proofs.covering.own_rank.Goals as goal

pub returns-in_err-number : goal.returns-in_err-number
returns-in_err-number g c =
    let b = c.index-bounds.result.now in
    let at = at_node c.args.tree.now c.tree.inside.bounds.items c.args.node b (ap (λ t. t.bounds) c.tree.view_is) c.index-bounds.ensures in
    let few = ap length (own_items c.args.tree.now c.args.node b c.requires.node at) in
    let none = own_read c.args.tree.now c.args.node b c.requires.node at c.args.row _ (omega arith) c.index.ensures ∙ c.in_err-number.was in
    ap (option_map g.R.Rank.key) c.from_residual.ensures
    ∙ sym (ap (option_map (rank_of_bound c.args.tree.now g.R.Rank.KEYS g.R.Rank.key c.args.node)) none)

pub returns : goal.returns
returns g c =
    let b = c.index-bounds.result.now in
    let at = at_node c.args.tree.now c.tree.inside.bounds.items c.args.node b (ap (λ t. t.bounds) c.tree.view_is) c.index-bounds.ensures in
    let few = ap length (own_items c.args.tree.now c.args.node b c.requires.node at) in
    let is = own_read c.args.tree.now c.args.node b c.requires.node at c.args.row _ (omega arith) c.index.ensures ∙ c.in_ok-number.was in
    let ranks = ap length (rank_items c.args.tree.now c.args.node b c.requires.node at) in
    let inside = c.requires.each c.in_ok-number.number is in
    ap Some (sym (rank_read c.args.tree.now c.args.node b c.requires.node at g.R.Rank.KEYS g.R.Rank.key c.in_ok-number.number _ (omega arith) c.index-2.ensures))
    ∙ sym (ap (option_map (rank_of_bound c.args.tree.now g.R.Rank.KEYS g.R.Rank.key c.args.node)) is)
