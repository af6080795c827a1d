use Rattle.std.proofs.Common.{◌≡◌, ◌≤◌, true, length, map, drop}
use Rattle.cmd_words.specs.NamedPairs.{named_pair, are_distinct}
use Rattle.cmd_words.proofs.Distinct.{Holds}
use Rattle.cmd_words.proofs.pairs.name_distinct_tables.Given as goal

abbrev pub invariant-loop-at : goal.invariant-loop-at
invariant-loop-at l = record {
  within : l.at ≤ length l.named;
  distinct : are_distinct (map named_pair (drop l.at l.named)) ≡ true;
  held : Holds l.names (drop l.at l.named);
}

abbrev pub decreases-loop-at : goal.decreases-loop-at
decreases-loop-at l = l.at
