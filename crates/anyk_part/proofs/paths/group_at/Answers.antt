use Rattle.std.proofs.Common.{rules, ◌≡◌, ◌<◌, get_or, subst, sym, arith}
use Rattle.tdp_core.specs.TreeView.{parent, rows, child_count}
use Rattle.anyk_part.proofs.paths.group_at.Goals as goal

pub bounds-chosen-parent : goal.bounds-chosen-parent
bounds-chosen-parent g c =
    let some : 0 < c.args.node = search rules in
    let is : c.shape.result.now.parent ≡ parent c.args.tree.now c.args.node = search rules in
    omega (arith, c.requires.formed.shaped.parents_first c.args.node some c.requires.node, c.requires.formed.shaped.few_nodes, is, c.requires.node)

pub group_of-requires : goal.group_of-requires
group_of-requires g c =
    let t = c.args.tree.now in
    let some : 0 < c.args.node = search rules in
    let is : c.shape.result.now.parent ≡ parent t c.args.node = search rules in
    let earlier = c.requires.formed.shaped.parents_first c.args.node some c.requires.node in
    record {
      node = omega (arith, earlier, is, c.requires.node);
      row = subst (λ p. get_or c.args.chosen.now p 0 < rows t p) (sym is) (c.requires.rows (parent t c.args.node) earlier);
      child = subst (λ p. get_or c.args.places.now c.args.node 0 < child_count t p) (sym is) (c.requires.places c.args.node some c.requires.node).1;
    }
