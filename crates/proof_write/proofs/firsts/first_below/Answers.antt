use Rattle.std.proofs.Common.{◌<◌, None, get_or, length, sym, subst, ap, ◌∙◌}
use Rattle.tdp_core.specs.TreeView.{child_count, group_count, members, parent, rows}
use Rattle.tdp_core.proofs.TreeFacts.{member_is_row}
use Rattle.tdp_core.proofs.LoopCounts.{then_less}
use Rattle.proof_write.proofs.firsts.first_below.Given.{Over}
use Rattle.proof_write.proofs.firsts.first_below.Goals.{After-group_of-group}
use Rattle.proof_write.proofs.firsts.first_below.Goals as goal

module _ (g : Over) where
  -- the group that the parent's row names is there
  group_there : (c : After-group_of-group g) → c.group_of-group.result < group_count c.args.tree.now c.args.node
  group_there c =
      rw (c.group_of-group.ensures.named, c.child_place.ensures.place, ap (λ s. s.parent) c.shape.ensures)
      (c.requires.formed.named c.args.node c.in_ok-row.row c.requires.below c.requires.node
      (c.requires.rows c.in_ok-row.row (ap (λ s. get_or c.args.chosen.now s.parent None) (sym c.shape.ensures) ∙ c.in_ok-row.was)))

  group_full : (c : After-group_of-group g) → 0 < length (members c.args.tree.now c.args.node c.group_of-group.result)
  group_full c = c.requires.formed.inhabited c.args.node c.group_of-group.result c.requires.node (group_there c)

pub group_of-group-requires-clause-row : goal.group_of-group-requires-clause-row
group_of-group-requires-clause-row g c =
    subst (λ p. c.in_ok-row.row < rows c.args.tree.now p) (sym (ap (λ s. s.parent) c.shape.ensures))
    (c.requires.rows c.in_ok-row.row (ap (λ s. get_or c.args.chosen.now s.parent None) (sym c.shape.ensures) ∙ c.in_ok-row.was))

pub member-requires-clause-group : goal.member-requires-clause-group
member-requires-clause-group g c = group_there g (goal.at.member-requires-clause-group g c).After-group_of-group

pub member-requires-clause-place : goal.member-requires-clause-place
member-requires-clause-place g c = group_full g (goal.at.member-requires-clause-place g c).After-group_of-group

pub returns-clause-inside : goal.returns-clause-inside
returns-clause-inside g c =
    subst (λ x. x < rows c.args.tree.now c.args.node) (sym c.member.ensures.member)
    (member_is_row g.R.Rank.KEYS g.R.Rank.key c.args.tree.now c.requires.formed c.args.node c.group_of-group.result 0 c.requires.node
    (group_full g (goal.at.returns-clause-inside g c).After-group_of-group))

pub group_of-group-requires-clause-node : goal.group_of-group-requires-clause-node
group_of-group-requires-clause-node g c =
    let low = c.requires.formed.shaped.parents_first c.args.node c.requires.below c.requires.node in
    subst (λ p. p < length c.args.tree.now) (sym (ap (λ s. s.parent) c.shape.ensures)) (then_less _ _ _ low c.requires.node)

pub group_of-group-requires-clause-child : goal.group_of-group-requires-clause-child
group_of-group-requires-clause-child g c =
    subst (λ p. c.child_place.result < child_count c.args.tree.now p) (sym (ap (λ s. s.parent) c.shape.ensures)) c.child_place.ensures.within

pub member-requires-clause-node : goal.member-requires-clause-node
member-requires-clause-node g c = c.requires.node
