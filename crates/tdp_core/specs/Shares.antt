-- The most steps that one answer of a tree takes.
use Rattle.std.specs.Prelude.{ℕ, ◌+◌, ◌*◌, cond, nat_lt, List, [], ◌∷◌, slice_index, length}
use Rattle.rank_key.specs.Bits.{bit_length}
use Rattle.tdp_core.specs.TreeView.{NodeView, group_count, row_count}

-- what the bound depends on beside the number of calls: the number of nodes, of all rows, and of
-- the root's groups
abbrev pub size_of : {R : Type 0} → List (NodeView R) → List ℕ
size_of t = length t ∷ (row_count t ∷ (group_count t 0 ∷ []))

-- The most steps of a call after `calls` calls over `nodes` nodes that have `rows` rows in all: 24
-- for each node and each binary digit of `rows + (calls + 1) * nodes`, and 24 for each node. None
-- over a tree without a solution, whose root has no group.
abbrev pub most_steps : ℕ → ℕ → ℕ → ℕ → ℕ
most_steps nodes rows root_groups calls = cond (nat_lt 0 root_groups)
    (24 * (nodes * (1 + bit_length (rows + (calls + 1) * nodes)))) 0

-- the same over a tree of that size
abbrev pub share_of : List ℕ → ℕ → ℕ
share_of size calls = most_steps (slice_index size 0) (slice_index size 1)
    (slice_index size 2) calls
