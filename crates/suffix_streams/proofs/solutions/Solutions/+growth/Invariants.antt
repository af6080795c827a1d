use Rattle.std.proofs.Common.{◌+◌, ◌-◌, ◌*◌, length}
use Rattle.suffix_streams.specs.TreeStreams.{node_of}
use Rattle.suffix_streams.proofs.solutions.Solutions.+growth.Given as goal

abbrev pub decreases-after : goal.decreases-after
decreases-after g l = 64 * (length l.self.now.tree.now - node_of l.self.now.entries.entries l.entry) + 63

abbrev pub decreases-extend : goal.decreases-extend
decreases-extend g l = 64 * (length l.self.now.tree.now - l.node) + 2 * l.count + 1

abbrev pub decreases-search : goal.decreases-search
decreases-search g l = 64 * (length l.self.now.tree.now - l.node) + 2 * l.count

abbrev pub decreases-row_after : goal.decreases-row_after
decreases-row_after g l = 64 * (length l.self.now.tree.now - l.node) + 40
