use Rattle.std.proofs.Common.{length, refl, ap, ◌∙◌, arith, below_more}
use Rattle.proof_check.proofs.Counts.{below_count, none_below}
use Rattle.proof_check.proofs.covering.first_weak.Goals as goal

pub returns-then-has_weak_row : goal.returns-then-has_weak_row
returns-then-has_weak_row g c query tables cert few bounded = (
  below_count _ _ _ c.loop-node-test.true
      (c.nodes-node-end.ensures.count ∙ ap (λ z. length z.raw.shapes) c.tree.view_is ∙ bounded.rows.nodes),
  c.if-has_weak_row.ensures.weak refl query tables cert few bounded,
  c.loop-node.invariant query tables cert few bounded,
)

pub loop-node-preserved : goal.loop-node-preserved
loop-node-preserved g c query tables cert few bounded =
    below_more _ _ (c.loop-node.invariant query tables cert few bounded)
    (c.if-has_weak_row.ensures.covered refl query tables cert few bounded)

pub loop-node-init : goal.loop-node-init
loop-node-init g c query tables cert few bounded v l = absurd (none_below _ l)

pub has_weak_row-requires-clause-node : goal.has_weak_row-requires-clause-node
has_weak_row-requires-clause-node g c =
    below_count _ _ _ c.loop-node-test.true (c.nodes-node-end.ensures.count ∙ ap (λ z. length z.raw.shapes) c.tree.view_is)

pub returns : goal.returns
returns g c query tables cert few bounded v l =
    c.loop-node.invariant query tables cert few bounded v (omega (
      arith,
      l,
      c.loop-node-test.false,
      c.nodes-node-end.ensures.count,
      ap (λ z. length z.raw.shapes) c.tree.view_is,
      bounded.rows.nodes,
    ))

pub has_weak_row-requires-clause-ordered : goal.has_weak_row-requires-clause-ordered
has_weak_row-requires-clause-ordered g c = c.requires.ordered

pub has_weak_row-requires-clause-bounded : goal.has_weak_row-requires-clause-bounded
has_weak_row-requires-clause-bounded g c = c.requires.bounded
