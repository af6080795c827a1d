-- Rows of a table that are rows of a node.
use Rattle.std.specs.Prelude.{◌≡◌, ℕ}
use Rattle.bound_query.specs.Items.{item_at}
use Rattle.node_build.specs.Nodes.{item_of}
use Rattle.node_build.specs.declared.source.NodeSource.{NodeSource}
use Rattle.node_build.specs.declared.table_row.TableRows.{TableRows}

-- the rows are of the table of node v's item
pub record AreRowsOf (source : NodeSource) (v : ℕ) (rows : TableRows) : Type 0 where
  pub tables : rows.tables.now ≡ source.tables.now
  pub table : rows.table ≡ (item_at source.query.now.query.items (item_of source.join.now v)).table
