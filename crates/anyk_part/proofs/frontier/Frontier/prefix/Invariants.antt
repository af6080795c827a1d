use Rattle.std.proofs.Common.{◌≡◌, ◌+◌, ◌≤◌, ◌++◌, take, drop, length}
use Rattle.anyk_part.specs.Chains.{chain, IsChain}
use Rattle.anyk_part.proofs.frontier.Frontier.prefix.Given as goal

abbrev pub invariant-loop-before : goal.invariant-loop-before
invariant-loop-before g l = record {
  within : l.node ≤ l.fn.count;
  long : length l.chosen ≡ 16;
  chained : IsChain l.fn.self.links.entries l.node l.before;
  rows : chain l.fn.self.links.entries l.fn.count l.fn.last ≡ chain l.fn.self.links.entries l.node l.before ++ drop l.node (take l.fn.count l.chosen);
  cost : l.steps + l.node ≤ l.fn.steps + l.fn.count;
}

abbrev pub decreases-loop-before : goal.decreases-loop-before
decreases-loop-before g l = l.node
