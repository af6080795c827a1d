use Rattle.std.proofs.Common.{◌≡◌, ◌≤◌, ◌+◌, length, take}
use Rattle.std.specs.Vec.{vec_capacity}
use Rattle.anyk_model.specs.Table.{table_at}
use Rattle.link_index.specs.NumberedLists.{AreMore}
use Rattle.node_build.specs.Links.{AreLinks}
use Rattle.node_build.proofs.links.list_numbers.Given as goal

abbrev pub invariant-loop-row : goal.invariant-loop-row
invariant-loop-row g l = record {
  more : AreMore l.initial.links l.links;
  links : AreLinks l.links l.node l.rows-2.tables.now (table_at l.rows-2.tables.now l.rows-2.table) (take l.row-index l.rows) l.columns l.numbers.items;
  long : l.numbers.len ≡ l.row-index;
  room : length l.rows ≤ vec_capacity l.numbers;
  cost : l.steps ≤ l.initial.steps + l.row-index;
}
