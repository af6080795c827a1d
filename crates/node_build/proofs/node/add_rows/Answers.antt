use Rattle.std.proofs.Common.{◌≡◌, ℕ, List, length, get_or, sym, subst}
use Rattle.std.specs.List.{All}
use Rattle.tdp_core.specs.RawRows.{rows_of}
use Rattle.tdp_core.proofs.RawRowLists.{names_are}
use Rattle.rankings.proofs.Members.{get_member}
use Rattle.node_build.specs.Rows.{lists_of}
use Rattle.node_build.specs.Sources.{child_count}
use Rattle.node_build.proofs.ColumnRows.{columns_fit}
use Rattle.node_build.proofs.Fitting.{children_are}
use Rattle.node_build.proofs.Items.{item_below_16}
use Rattle.node_build.proofs.node.add_rows.Goals as goal

pub node_columns-requires-clause-rows : goal.node_columns-requires-clause-rows
node_columns-requires-clause-rows g c = λ k inside.
    let there = c.requires.rows (get_or c.args.rows.now k 0) (get_member c.args.rows.now k 0 inside) in
    record { node = c.requires.node; first = there.0; row_there = there.1 }

pub fill_node-requires-clause-fits : goal.fill_node-requires-clause-fits
fill_node-requires-clause-fits g c =
    let query = c.args.source.now.query.now in
    let tables = c.args.source.now.tables.now in
    let join = c.args.source.now.join.now in
    let node = c.args.node in
    let shapes = c.args.tree.now.shapes in
    let columns = c.in_ok-columns.columns in
    let made = c.in_ok-columns.ensures in
    let wide = subst (All (λ (ks : List ℕ). length ks ≡ child_count c.args.source.now node)) (sym (names_are columns.rows columns.owns.items columns.named.rows made.whole)) made.wide in
    columns_fit query tables join (lists_of c.args.source.now.columns.now.own.items) (lists_of c.args.source.now.columns.now.above.items) shapes c.requires.shapes node c.requires.node
    (item_below_16 query.query join c.requires.ready.tree node c.requires.node) g.R.Rank.KEYS g.R.Rank.key c.node_columns.new.links (length c.args.rows.now) (child_count c.args.source.now node) c.args.rows.now (rows_of columns) made.rows wide
    (children_are query tables join shapes c.requires.shapes node c.requires.node)
