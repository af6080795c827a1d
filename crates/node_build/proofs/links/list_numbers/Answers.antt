use Rattle.std.proofs.Common.{◌≤◌, ◌+◌, take, length, get_or, sym, subst, arith}
use Rattle.anyk_model.specs.Table.{table_at}
use Rattle.link_index.specs.NumberedLists.{IsNumbered}
use Rattle.node_build.specs.Links.{AreLinks, values_in}
use Rattle.node_build.proofs.LinkLists.{links_more, listed, values_length}
use Rattle.node_build.proofs.Numbering.{more_trans}
use Rattle.node_build.proofs.links.list_numbers.Goals as goal

pub loop-row-preserved : goal.loop-row-preserved
loop-row-preserved g c =
    let l = c.loop-row.invariant in
    let i = c.loop-row.row-index in
    let rows = c.args.rows.now.rows.now in
    let tables = c.args.rows.now.tables.now in
    let table = table_at tables c.args.rows.now.table in
    let node = c.args.node in
    let columns = c.args.columns.now in
    let old = c.loop-row.links in
    let new = c.number_of.new.self in
    let values = values_in tables table (get_or rows i 0) columns in
    let several : 2 ≤ length values = subst (λ n. 2 ≤ n) (sym (values_length tables table (get_or rows i 0) columns)) c.requires.several in
    let numbered = subst (IsNumbered new node c.in_ok-number.number) c.in_ok-values.ensures c.in_ok-number.ensures.number in
    let here = listed new node c.in_ok-number.number values several numbered in
    let more = c.in_ok-number.ensures.more in
    record {
      more = more_trans c.args.links.now old new l.more more;
      links = subst (AreLinks new node tables table (take (i + 1) rows) columns) (sym c.push_reserved.ensures.items)
          (links_more node tables table columns old new rows c.loop-row.numbers.items i c.in_ok-number.number more c.loop-row-test.true l.links here);
      long = omega (arith, c.push_reserved.ensures.len, l.long);
      room = omega (arith, c.push_reserved.ensures.capacity, l.room);
      cost = omega (arith, c.in_ok-number.ensures.cost, l.cost);
    }
