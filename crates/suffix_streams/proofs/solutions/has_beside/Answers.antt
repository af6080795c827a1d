use Rattle.std.proofs.Common.{◌≡◌, ℕ, ◌<◌, ◌↔◌, IsTrue, false, length, slice_index, sym, ap, ◌∙◌, subst, arith}
use Rattle.std.proofs.lemmas.Bool.{false≢true}
use Rattle.suffix_streams.specs.NodeStreamsView.{HasHead}
use Rattle.suffix_streams.specs.TreeStreams.{lists_of}
use Rattle.suffix_streams.proofs.Heads.{lists_at}
use Rattle.suffix_streams.proofs.solutions.has_beside.Given.{Over}
use Rattle.suffix_streams.proofs.solutions.has_beside.Goals.{After-child-child_node}
use Rattle.suffix_streams.proofs.solutions.has_beside.Goals as goal

-- in a row's first product no sum is beside another one
none_beside : {P : Type 0} (n : ℕ) → n ≡ 0 → IsTrue false ↔ ((0 < n) × P)
none_beside n e = (λ y. absurd (false≢true y), λ h. absurd (omega (arith, h.0, e)))

module _ (g : Over) where
  child_is : (c : After-child-child_node g) → slice_index (lists_of c.args.nodes.now c.args.node).children c.args.child ≡ c.child-child_node.result
  child_is c = ap (λ n. slice_index n.children c.args.child) (lists_at c.args.nodes.now c.args.node c.index-nodes-node.result c.index-nodes-node.is c.requires.node) ∙ sym c.child-child_node.ensures

  child_within : (c : After-child-child_node g) → c.child-child_node.result < length c.args.nodes.now
  child_within c = subst (λ v. v < length c.args.nodes.now) (child_is c) c.requires.below

pub child-child_node-requires : goal.child-child_node-requires
child-child_node-requires g c = record { place = subst (λ n. c.args.child < length n.children) (lists_at c.args.nodes.now c.args.node c.index-nodes-node.result c.index-nodes-node.is c.requires.node) c.requires.child }

pub bounds-nodes-child_node : goal.bounds-nodes-child_node
bounds-nodes-child_node g c = child_within g c

pub offset_bounds-nodes-child_node : goal.offset_bounds-nodes-child_node
offset_bounds-nodes-child_node g c = omega (arith, child_within g c)

pub returns : goal.returns
returns g c =
    let called = (goal.at.returns g c).After-child-child_node in
    let below = lists_at c.args.nodes.now c.child-child_node.result c.index-nodes-child_node.result c.index-nodes-child_node.is (child_within g called) in
    let told = subst (λ n. IsTrue c.is_head.result ↔ HasHead n c.args.right) (sym (ap (λ u. lists_of c.args.nodes.now u) (child_is g called) ∙ below)) c.is_head.ensures in
    (λ y. (omega (arith, c.if-child-eq0.false), told.0 y), λ h. told.1 h.1)

pub returns-then-child-eq0 : goal.returns-then-child-eq0
returns-then-child-eq0 g c = none_beside c.args.child c.if-child-eq0.true
