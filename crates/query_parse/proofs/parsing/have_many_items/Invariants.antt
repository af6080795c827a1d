use Rattle.std.proofs.Common.{◌≡◌, ◌≤◌, ◌+◌, drop}
use Rattle.query_parse.specs.Parse.{items_in}
use Rattle.query_parse.proofs.parsing.have_many_items.Given as goal

abbrev pub invariant-loop-branch : goal.invariant-loop-branch
invariant-loop-branch l = record {
  within : l.spare ≤ 16;
  counted : items_in (drop l.branch-index l.branches) + 16 ≡ items_in l.branches + l.spare;
}
