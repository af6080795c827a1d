use Rattle.std.proofs.Common.{sym, ap, ◌∙◌}
use Rattle.proof_check.proofs.BoundReads.{at_node, own_items}
use Rattle.proof_check.proofs.deviations.own_numbers.Goals as goal

pub returns : goal.returns
returns g c =
    let b = c.index.result.now in
    let at = at_node c.args.tree.now c.tree.inside.bounds.items c.args.node b (ap (λ t. t.bounds) c.tree.view_is) c.index.ensures in
    c.as_slice.ensures.value ∙ sym (own_items c.args.tree.now c.args.node b c.requires at)
