use Rattle.std.proofs.Common.{map, option_map}
use Rattle.proof_check.specs.Levels.{AreLists}
use Rattle.proof_check.proofs.deviations.lists_by_group.Given as goal

abbrev pub invariant-loop-group : goal.invariant-loop-group
invariant-loop-group g l =
    AreLists l.join l.tree g.R.Rank.KEYS g.R.Rank.key l.node (option_map g.R.Rank.key l.last) l.groups l.least l.group
    (map (λ v. v.items) l.lists.items)
