use Rattle.std.proofs.Common.{[], sym, ap, subst, ◌∙◌, arith}
use Rattle.tdp_core.specs.TreeView.{child_count}
use Rattle.tdp_core.specs.WellFormed.{IsFormed, IsTieFreeTree}
use Rattle.engine_tests.proofs.Held.{row_in}
use Rattle.engine_tests.proofs.SmallTree.{small_data, small_formed, nodes_held, small_fits, one_child}
use Rattle.engine_tests.proofs.SmallTies.{small_tie_free}
use Rattle.engine_tests.proofs.small_tree.small_tree.Goals as goal

pub of_row-top-requires-clause-held : goal.of_row-top-requires-clause-held
of_row-top-requires-clause-held g c = row_in g.R.Rank.key g.met.R.Rank.holds g.met.R.Rank.rows_held c.requires.slots c.requires.limit [] 1 4 tt (omega arith) (omega arith)

pub of_row-later-requires-clause-held : goal.of_row-later-requires-clause-held
of_row-later-requires-clause-held g c = row_in g.R.Rank.key g.met.R.Rank.holds g.met.R.Rank.rows_held c.requires.slots c.requires.limit [] 0 3 tt (omega arith) (omega arith)

pub of_row-sooner-requires-clause-held : goal.of_row-sooner-requires-clause-held
of_row-sooner-requires-clause-held g c = row_in g.R.Rank.key g.met.R.Rank.holds g.met.R.Rank.rows_held c.requires.slots c.requires.limit [] 0 1 tt (omega arith) (omega arith)

pub join-whole-requires : goal.join-whole-requires
join-whole-requires g c = small_fits g.R.Rank.key g.met.R.Rank.holds g.met.R.Rank.rows_held c.requires.slots c.requires.limit (g.R.Rank.key c.of_row-top.result) (g.R.Rank.key c.of_row-sooner.result) c.of_row-top.ensures c.of_row-sooner.ensures

pub from_parts-requires : goal.from_parts-requires
from_parts-requires g c =
    subst (IsFormed g.R.Rank.KEYS g.R.Rank.key) (sym (small_data c.in_ok-two.ensures c.in_ok-root.ensures c.in_ok-leaf.ensures))
    (small_formed _ _ _ _ g.R.Rank.KEYS g.R.Rank.key c.of_row-top.ensures c.of_row-later.ensures c.of_row-sooner.ensures c.join-whole.ensures.sum
    (nodes_held g.R.Rank.key g.met.R.Rank.holds g.met.R.Rank.rows_held c.requires.slots c.requires.limit g.met.R.Rank.below_rows g.met.R.Rank.rows_fit _ _ _ _))

pub returns-clause-tie_free : goal.returns-clause-tie_free
returns-clause-tie_free g c =
    subst IsTieFreeTree (sym (c.from_parts.ensures ∙ small_data c.in_ok-two.ensures c.in_ok-root.ensures c.in_ok-leaf.ensures)) (small_tie_free _ _ _ _)

pub returns-clause-child : goal.returns-clause-child
returns-clause-child g c = ap (λ t. child_count t 0) (c.from_parts.ensures ∙ small_data c.in_ok-two.ensures c.in_ok-root.ensures c.in_ok-leaf.ensures) ∙ one_child _ _ _ _
