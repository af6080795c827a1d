use Rattle.std.proofs.Common.{◌≡◌, ◌<◌, ◌≤◌, ◌+◌, ◌*◌, ℕ, length, get_or}
use Rattle.std.specs.List.{All}
use Rattle.tdp_core.specs.NamedRows.{columns_in, row_across}
use Rattle.tdp_core.specs.TreeView.{kids_below}
use Rattle.link_index.specs.NumberedLists.{AreMore}
use Rattle.node_build.specs.Links.{NamesLinks}
use Rattle.node_build.specs.Nodes.{parent_of}
use Rattle.node_build.specs.Rows.{lists_of}
use Rattle.node_build.proofs.node.child_links.Given as goal

abbrev pub invariant-loop-child : goal.invariant-loop-child
invariant-loop-child g l = record {
  more : AreMore l.initial.links l.links;
  count : length (columns_in l.lists.items) ≡ kids_below (parent_of l.source.join.now) l.node l.child;
  long : All (λ column. length column ≡ length l.rows.rows.now) (columns_in l.lists.items);
  names : (r : ℕ) → r < length l.rows.rows.now
      → NamesLinks l.source.query.now l.source.tables.now l.source.join.now (lists_of l.source.columns.now.own.items) (lists_of l.source.columns.now.above.items) l.links l.node (get_or l.rows.rows.now r 0) l.child
      (row_across (columns_in l.lists.items) r);
  cost : l.steps ≤ l.initial.steps + length l.rows.rows.now * kids_below (parent_of l.source.join.now) l.node l.child;
}
