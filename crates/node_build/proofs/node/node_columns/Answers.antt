use Rattle.std.proofs.Common.{◌≡◌, ◌<◌, ◌∙◌, ℕ, List, [], length, get_or, sym, ap, subst, arith}
use Rattle.std.proofs.lemmas.List.{length-map}
use Rattle.anyk_model.specs.Table.{table_at}
use Rattle.tdp_core.proofs.RankedRowLists.{rows_length}
use Rattle.node_build.specs.Links.{AreLinks, HasRowsOf}
use Rattle.tdp_core.specs.RawRows.{raw_rows}
use Rattle.node_build.specs.Nodes.{item_of, parent_of}
use Rattle.node_build.specs.Rows.{lists_of}
use Rattle.node_build.specs.Sources.{rank_key_at}
use Rattle.bound_query.specs.Weights.{table_in}
use Rattle.node_build.proofs.ColumnRows.{columns_hold}
use Rattle.node_build.proofs.Costs.{node_cost}
use Rattle.node_build.proofs.Items.{table_there}
use Rattle.node_build.proofs.LinkLists.{links_kept}
use Rattle.node_build.proofs.Naming.{kids_below_lem, list_at, lists_length, own_there}
use Rattle.node_build.proofs.Numbering.{more_trans}
use Rattle.node_build.proofs.Shaped.{item_known}
use Rattle.node_build.proofs.node.node_columns.Goals as goal

pub table_of-table-requires : goal.table_of-table-requires
table_of-table-requires g c = item_known c.args.source.now.query.now.query c.args.source.now.join.now c.requires.ready.tree c.args.node c.requires.node

pub index-requires : goal.index-requires
index-requires g c = omega (arith, c.requires.columns.own_count, lists_length c.args.source.now.columns.now.own.items, c.requires.node)

pub invariant_of-of_table : goal.invariant_of-of_table
invariant_of-of_table g c = record {
  known = let known = item_known c.args.source.now.query.now.query c.args.source.now.join.now c.requires.ready.tree c.args.node c.requires.node in
      table_there c.args.source.now.query.now c.args.source.now.tables.now c.requires.ready.fits (item_of c.args.source.now.join.now c.args.node) c.table_of-table.result known c.table_of-table.ensures;
  first = λ k l. (c.requires.rows k l).first;
  rows_there = λ k l. rw c.table_of-table.ensures (c.requires.rows k l).row_there;
}

pub links_of-requires-clause-columns : goal.links_of-requires-clause-columns
links_of-requires-clause-columns g c =
    let vs = c.args.source.now.columns.now.own.items in
    let node = c.args.node in
    let inside : node < length vs = omega (arith, c.requires.columns.own_count, lists_length vs, c.requires.node) in
    let list : c.as_slice-own.result.now ≡ get_or (lists_of vs) node [] = c.as_slice-own.ensures.value ∙ sym (list_at vs node c.index.result.now inside c.index.ensures) in
    own_there c.args.source.now.query.now c.args.source.now.tables.now c.requires.ready.fits c.args.source.now.join.now (lists_of vs) (lists_of c.args.source.now.columns.now.above.items) c.requires.columns
    node c.table_of-table.result c.as_slice-own.result.now c.requires.node list c.table_of-table.ensures

pub of-rows-requires : goal.of-rows-requires
of-rows-requires g c =
    let key_at = rank_key_at c.args.source.now g.R.Rank.KEYS c.args.node in
    let keys = ap length c.in_ok-ranks.ensures in
    omega (arith, ap length c.in_ok-numbers.ensures.items, keys, length-map c.args.rows.now key_at, length-map c.in_ok-ranks.ranks.items g.R.Rank.key)

pub returns-in_err-named-clause-cost : goal.returns-in_err-named-clause-cost
returns-in_err-named-clause-cost g c =
    let join = c.args.source.now.join.now in
    let few = kids_below_lem (parent_of join) c.args.node join.count (omega (arith, c.requires.node)) in
    node_cost c.args.steps.now c.links_of.new.steps c.child_links.new.steps (length c.args.rows.now) _ join.count few c.in_ok-owns.ensures.cost c.in_err-named.ensures.cost

pub returns-in_err-ranks-clause-cost : goal.returns-in_err-ranks-clause-cost
returns-in_err-ranks-clause-cost g c =
    let join = c.args.source.now.join.now in
    let few = kids_below_lem (parent_of join) c.args.node join.count (omega (arith, c.requires.node)) in
    node_cost c.args.steps.now c.links_of.new.steps c.child_links.new.steps (length c.args.rows.now) _ join.count few c.in_ok-owns.ensures.cost c.in_ok-named.ensures.cost

pub returns-in_err-numbers-clause-cost : goal.returns-in_err-numbers-clause-cost
returns-in_err-numbers-clause-cost g c =
    let join = c.args.source.now.join.now in
    let few = kids_below_lem (parent_of join) c.args.node join.count (omega (arith, c.requires.node)) in
    node_cost c.args.steps.now c.links_of.new.steps c.child_links.new.steps (length c.args.rows.now) _ join.count few c.in_ok-owns.ensures.cost c.in_ok-named.ensures.cost

pub returns-clause-cost : goal.returns-clause-cost
returns-clause-cost g c =
    let join = c.args.source.now.join.now in
    let few = kids_below_lem (parent_of join) c.args.node join.count (omega (arith, c.requires.node)) in
    node_cost c.args.steps.now c.links_of.new.steps c.child_links.new.steps (length c.args.rows.now) _ join.count few c.in_ok-owns.ensures.cost c.in_ok-named.ensures.cost

pub returns-clause-more : goal.returns-clause-more
returns-clause-more g c = more_trans c.args.links.now c.links_of.new.links c.child_links.new.links c.in_ok-owns.ensures.more c.in_ok-named.ensures.more

pub returns-clause-whole : goal.returns-clause-whole
returns-clause-whole g c =
    let ranks = c.in_ok-ranks.ranks.items in
    let numbers = c.in_ok-numbers.numbers.items in
    let rows = c.args.rows.now in
    let same = ap length c.in_ok-numbers.ensures.items in
    let key_at = rank_key_at c.args.source.now g.R.Rank.KEYS c.args.node in
    let keys = ap length c.in_ok-ranks.ensures in
    let long : length numbers ≡ length ranks = omega (arith, same, keys, length-map rows key_at, length-map ranks g.R.Rank.key) in
    let count = ap length c.of-rows.ensures ∙ rows_length ranks numbers long in
    record { all_own = omega (arith, c.in_ok-owns.ensures.links.count, same, count); all_named = omega (arith, c.in_ok-named.ensures.count, same, count) }

pub returns-clause-rows : goal.returns-clause-rows
returns-clause-rows g c =
    let query = c.args.source.now.query.now in
    let tables = c.args.source.now.tables.now in
    let join = c.args.source.now.join.now in
    let vs = c.args.source.now.columns.now.own.items in
    let above = lists_of c.args.source.now.columns.now.above.items in
    let node = c.args.node in
    let rows = c.args.rows.now in
    let owns = c.in_ok-owns.owns.items in
    let new = c.child_links.new.links in
    let table = table_at tables c.table_of-table.result in
    let own = c.as_slice-own.result.now in
    let inside : node < length vs = omega (arith, c.requires.columns.own_count, lists_length vs, c.requires.node) in
    let list : own ≡ get_or (lists_of vs) node [] = c.as_slice-own.ensures.value ∙ sym (list_at vs node c.index.result.now inside c.index.ensures) in
    let kept = links_kept node tables table own c.links_of.new.links new rows owns c.in_ok-named.ensures.more c.in_ok-owns.ensures.links in
    let at = subst (λ (t : ℕ). AreLinks new node tables (table_at tables t) rows own owns) c.table_of-table.ensures kept in
    let links = subst (λ (l : List ℕ). AreLinks new node tables (table_in tables query.query.items (item_of join node)) rows l owns) list at in
    subst (λ rs. HasRowsOf query tables join (lists_of vs) above g.R.Rank.KEYS g.R.Rank.key new node (length rows) rows (raw_rows rs owns c.in_ok-named.named.rows)) (sym c.of-rows.ensures)
    (columns_hold query tables join (lists_of vs) above g.R.Rank.KEYS g.R.Rank.key new node rows c.in_ok-ranks.ranks.items c.in_ok-numbers.numbers.items owns c.in_ok-named.named.rows
    c.in_ok-numbers.ensures.items c.in_ok-ranks.ensures links c.in_ok-named.ensures.count c.in_ok-named.ensures.names)
