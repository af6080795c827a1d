use Rattle.union_all.specs.Firsts.{IsFirstBranch}
use Rattle.union_all.specs.Merge.{lists_of, queries_of}
use Rattle.union_all.proofs.firsts.first_branch.Given as goal

abbrev pub invariant-loop-b : goal.invariant-loop-b
invariant-loop-b g l = IsFirstBranch (queries_of l.branches) l.tables (lists_of l.branches) l.b l.first
