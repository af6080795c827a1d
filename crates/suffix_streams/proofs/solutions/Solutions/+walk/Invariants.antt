use Rattle.std.proofs.Common.{◌+◌, ◌-◌, ◌*◌, length}
use Rattle.suffix_streams.specs.TreeStreams.{node_of}
use Rattle.suffix_streams.proofs.solutions.Solutions.+walk.Given as goal

abbrev pub decreases-add_entry_rows : goal.decreases-add_entry_rows
decreases-add_entry_rows g l = 64 * (length l.self.now.tree.now - node_of l.self.now.entries.entries l.entry) + 63

abbrev pub decreases-add_part_rows : goal.decreases-add_part_rows
decreases-add_part_rows g l = 64 * (length l.self.now.tree.now - l.part.node) + 2 * l.part.child

abbrev pub decreases-add_sum_rows : goal.decreases-add_sum_rows
decreases-add_sum_rows g l = 64 * (length l.self.now.tree.now - l.part.node) + 2 * l.part.child + 1
