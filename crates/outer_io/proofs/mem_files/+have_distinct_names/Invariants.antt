use Rattle.std.proofs.Common.{length}
use Rattle.outer_io.proofs.mem_files.«+have_distinct_names».Given as goal

abbrev pub decreases-have_distinct_names : goal.decreases-have_distinct_names
decreases-have_distinct_names l = length l.files.now
