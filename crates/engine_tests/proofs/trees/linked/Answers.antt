use Rattle.std.proofs.Common.{sym, arith}
use Rattle.engine_tests.proofs.SmallTree.{small_held, small_shaped, root_children, leaf_children}
use Rattle.engine_tests.proofs.trees.linked.Goals as goal

pub new-requires : goal.new-requires
new-requires g c = record { shapes = small_shaped; held = small_held g.R.Rank.key g.met.R.Rank.holds g.met.R.Rank.rows_held (omega (arith, c.requires.slots)) c.requires.limit g.met.R.Rank.below_rows g.met.R.Rank.rows_fit }

pub add-requires-clause-children : goal.add-requires-clause-children
add-requires-clause-children g c = sym (rw c.in_ok-tree.ensures root_children)

pub add-requires-2-clause-children : goal.add-requires-2-clause-children
add-requires-2-clause-children g c = sym (rw (c.in_ok-add.ensures.shapes, c.in_ok-tree.ensures) leaf_children)

pub add-requires-3-clause-children : goal.add-requires-3-clause-children
add-requires-3-clause-children g c = sym (rw (c.in_ok-add-2.ensures.shapes, c.in_ok-add.ensures.shapes, c.in_ok-tree.ensures) leaf_children)

pub returns-clause-child : goal.returns-clause-child
returns-clause-child g c =
    rw (c.in_ok-add-3.ensures.shapes, c.in_ok-add-2.ensures.shapes, c.in_ok-add.ensures.shapes, c.in_ok-tree.ensures) (omega (arith, root_children))
