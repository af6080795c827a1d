use Rattle.std.proofs.Common.{◌≡◌}
use Rattle.verdict.specs.Loading.{odd_branch}
use Rattle.verdict.specs.AcceptedInput.{queries_in}
use Rattle.command_input.proofs.Shapes.{odd_after}
use Rattle.command_input.proofs.binding.odd_branch.Given as goal

abbrev pub invariant-loop-branch : goal.invariant-loop-branch
invariant-loop-branch l = odd_after (queries_in l.queries) l.branch ≡ odd_branch (queries_in l.queries)
