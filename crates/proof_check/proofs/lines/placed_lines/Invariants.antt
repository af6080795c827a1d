use Rattle.std.proofs.Common.{◌≡◌, ◌≤◌, List, length, map}
use Rattle.anyk_model.specs.Table.{Table}
use Rattle.anyk_model.specs.Query.{Query}
use Rattle.join_tree.specs.declared.tree.JoinTree.{JoinTree}
use Rattle.proof_model.specs.ProofView.{proof_view}
use Rattle.proof_check.specs.BoundedRows.{HasProblemRows}
use Rattle.proof_check.specs.Lines.{ArePlacedLines}
use Rattle.proof_check.proofs.lines.placed_lines.Given as goal

abbrev pub invariant-loop-bound : goal.invariant-loop-bound
invariant-loop-bound g l = record {
  each_node : length l.bounds.items ≡ length l.raw.shapes;
  placed : (query : Query) (tables : List Table) (join : JoinTree) → length query.order ≤ g.R.Rank.KEYS
      → HasProblemRows query tables join g.R.Rank.KEYS g.R.Rank.key l.raw
      → ArePlacedLines query tables join g.R.Rank.KEYS g.R.Rank.key l.raw (proof_view l.proof) l.bound-index l.tops.items
      (map (λ b. b.ranks.items) l.bounds.items);
}
