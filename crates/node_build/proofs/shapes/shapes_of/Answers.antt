use Rattle.std.proofs.Common.{◌≡◌, ℕ, length, refl, subst, arith}
use Rattle.node_build.specs.Shapes.{AreShapesOf}
use Rattle.node_build.proofs.Collected.{no_shapes, shapes_push}
use Rattle.node_build.proofs.Shaped.{item_known}
use Rattle.node_build.proofs.shapes.shapes_of.Goals as goal

pub loop-node-init : goal.loop-node-init
loop-node-init c tables fits = no_shapes c.args.query.now tables c.args.join.now c.new-shapes.result.items c.new-shapes.ensures.items

pub caps_of-requires-clause-item : goal.caps_of-requires-clause-item
caps_of-requires-clause-item c = item_known c.args.query.now.query c.args.join.now c.requires.tree c.loop-node.node c.loop-node-test.true

pub loop-node-preserved : goal.loop-node-preserved
loop-node-preserved c tables fits =
    let eight : length c.caps_of.result ≡ 8 = omega arith in
    shapes_push c.args.query.now tables c.args.join.now c.loop-node.node c.loop-node.shapes.items c.push.new.self.items _ c.in_ok-push.ensures.items refl refl eight
    (c.caps_of.ensures tables fits) (c.loop-node.invariant tables fits)

pub returns : goal.returns
returns c tables fits =
    let all : c.loop-node.node ≡ c.args.join.now.count = omega arith in
    subst (λ (n : ℕ). AreShapesOf c.args.query.now tables c.args.join.now n c.loop-node.shapes.items) all (c.loop-node.invariant tables fits)
