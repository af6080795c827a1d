use Rattle.std.proofs.Common.{◌≡◌, ◌-◌, ◌∙◌, suc, length, sym, ap, arith}
use Rattle.tdp_core.specs.RawView.{shape_parent}
use Rattle.semi_join.proofs.FirstOnes.{children_among}
use Rattle.semi_join.proofs.Kids.{kid_added, kid_passed}
use Rattle.semi_join.proofs.node.children_of.Goals as goal
use Rattle.semi_join.proofs.node.children_of.Goals.{then-shape-node+in_ok-push, else-shape-node}

pub loop-later-preserved : goal.loop-later-preserved
loop-later-preserved g c =
    let is = ap (λ s. s.parent) (sym c.shape.ensures) in
    elim c.if-shape-node.branch [
      | then-shape-node+in_ok-push w ↦
          ap (λ v. v.items) w.children-is ∙ w.in_ok-push.ensures.items
          ∙ kid_added (shape_parent c.args.raw.now.shapes) c.args.node c.loop-later.later _ (omega arith) c.loop-later.invariant (is ∙ w.if-shape-node.true)
      | else-shape-node w ↦
          ap (λ v. v.items) w.children-is
          ∙ kid_passed (shape_parent c.args.raw.now.shapes) c.args.node c.loop-later.later _ (omega arith) c.loop-later.invariant (λ e. w.if-shape-node.false (sym is ∙ e))
    ]

pub loop-later-init : goal.loop-later-init
loop-later-init g c = c.new-children.ensures.items ∙ ap (children_among (shape_parent c.args.raw.now.shapes) c.args.node) {x = 0} (omega arith)

pub shape-requires : goal.shape-requires
shape-requires g c = omega (arith, c.nodes-count.ensures.count)

pub returns : goal.returns
returns g c =
    let all : c.loop-later.later - suc c.args.node ≡ length c.args.raw.now.shapes - suc c.args.node = omega (arith, c.nodes-count.ensures.count, c.requires) in
    c.loop-later.invariant ∙ ap (children_among (shape_parent c.args.raw.now.shapes) c.args.node) all
