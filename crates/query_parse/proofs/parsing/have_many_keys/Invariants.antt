use Rattle.std.proofs.Common.{◌≡◌, drop}
use Rattle.query_parse.proofs.Limited.{have_many_keys}
use Rattle.query_parse.proofs.parsing.have_many_keys.Given as goal

abbrev pub invariant-loop-branch : goal.invariant-loop-branch
invariant-loop-branch l = have_many_keys (drop l.branch-index l.branches) ≡ have_many_keys l.branches
