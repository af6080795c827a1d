use Rattle.std.proofs.Common.{◌≡◌, ◌≢◌, ◌<◌, ◌≤◌, ◌+◌, ◌*◌, ◌∙◌, ◌∷◌, ◌++◌, ℕ, List, [], length, get_or, sym, ap, subst, arith, length-append}
use Rattle.std.specs.List.{All}
use Rattle.std.proofs.lemmas.List.Elements.{All-push}
use Rattle.tdp_core.specs.NamedRows.{NamedView, columns_in, row_across}
use Rattle.tdp_core.specs.TreeView.{kids_below}
use Rattle.tdp_core.proofs.Children.{kids_below_child, kids_below_other}
use Rattle.anyk_model.specs.Table.{Table, table_at}
use Rattle.bound_query.specs.Weights.{table_in}
use Rattle.node_build.specs.Nodes.{item_of, parent_of}
use Rattle.node_build.specs.Rows.{lists_of}
use Rattle.node_build.proofs.ChildColumns.{across_length, across_push, columns_push, row_there, rows_count, rows_wide}
use Rattle.node_build.proofs.Costs.{one_column, columns_within}
use Rattle.node_build.proofs.Naming.{above_there, kids_first, list_at, lists_length, names_more, names_none, names_skip}
use Rattle.node_build.proofs.Numbering.{more_same, more_trans}
use Rattle.node_build.proofs.Results.{failed, if_ok_map, on_ok}
use Rattle.std.proofs.lemmas.Result.{IfOk-from_err}
use Rattle.node_build.specs.Links.{IsLink, NamesLinks, values_at, values_in}
use Rattle.node_build.proofs.node.child_links.Goals as goal

pub loop-child-init : goal.loop-child-init
loop-child-init g c =
    let first = kids_first (parent_of c.args.source.now.join.now) c.args.node in
    let none : columns_in c.new-lists.result.items ≡ [] = ap columns_in c.new-lists.ensures.items in
    record {
      more = more_same c.args.links.now;
      count = ap length none ∙ sym first;
      long = λ k d l. absurd (omega (arith, l, ap length none));
      names = λ r l. names_none c.args.source.now.query.now c.args.source.now.tables.now c.args.source.now.join.now (lists_of c.args.source.now.columns.now.own.items) (lists_of c.args.source.now.columns.now.above.items)
          c.args.links.now c.args.node (get_or c.args.rows.now.rows.now r 0) (row_across (columns_in c.new-lists.result.items) r);
      cost = omega arith;
    }

pub loop-child-preserved-then-join-child : goal.loop-child-preserved-then-join-child
loop-child-preserved-then-join-child g c =
    let other : parent_of c.args.source.now.join.now c.loop-child.child ≢ c.args.node = c.if-join-child.true in
    let same = kids_below_other (parent_of c.args.source.now.join.now) c.args.node c.loop-child.child other in
    let before = c.loop-child.invariant in
    record {
      more = before.more;
      count = before.count ∙ sym same;
      long = before.long;
      names = λ r l. names_skip c.args.source.now.query.now c.args.source.now.tables.now c.args.source.now.join.now (lists_of c.args.source.now.columns.now.own.items) (lists_of c.args.source.now.columns.now.above.items)
          c.loop-child.links c.args.node (get_or c.args.rows.now.rows.now r 0) c.loop-child.child (row_across (columns_in c.loop-child.lists.items) r) other (before.names r l);
      cost = subst (λ (n : ℕ). c.loop-child.steps ≤ c.args.steps.now + length c.args.rows.now.rows.now * n) (sym same) before.cost;
    }

pub index-requires : goal.index-requires
index-requires g c = omega (arith, c.requires.columns.above_count, lists_length c.args.source.now.columns.now.above.items, c.loop-child-test.true)

pub links_of-requires-clause-columns : goal.links_of-requires-clause-columns
links_of-requires-clause-columns g c =
    let vs = c.args.source.now.columns.now.above.items in
    let child = c.loop-child.child in
    let table = c.args.rows.now.table in
    let inside : child < length vs = omega (arith, c.requires.columns.above_count, lists_length vs, c.loop-child-test.true) in
    let list : c.as_slice-above.result.now ≡ get_or (lists_of vs) child [] = c.as_slice-above.ensures.value ∙ sym (list_at vs child c.index.result.now inside c.index.ensures) in
    let there = above_there c.args.source.now.query.now c.args.source.now.tables.now c.requires.fits c.args.source.now.join.now (lists_of c.args.source.now.columns.now.own.items) (lists_of vs) c.requires.columns
    child c.args.node table c.as_slice-above.result.now (omega arith) (omega arith) c.if-join-child.false list c.requires.rows.table in
    subst (λ (ts : List Table). (k : ℕ) → k < length c.as_slice-above.result.now → get_or c.as_slice-above.result.now k 0 < length (table_at ts table).names) (sym c.requires.rows.tables) there

pub links_of-requires-clause-node : goal.links_of-requires-clause-node
links_of-requires-clause-node g c = omega (arith, c.loop-child.invariant.more.count, c.requires.links, c.loop-child-test.true)

pub returns-in_err-list : goal.returns-in_err-list
returns-in_err-list g c =
    let r = c.from_residual.result in
    let e = c.from_residual.ensures.0 in
    record {
      more = failed r _ e;
      count = IfOk-from_err r _ e;
      wide = IfOk-from_err r _ e;
      names = IfOk-from_err r _ e;
      cost = columns_within (parent_of c.args.source.now.join.now) c.args.node c.loop-child.child c.args.source.now.join.now.count (length c.args.rows.now.rows.now) c.args.steps.now c.loop-child.steps c.links_of.new.steps
          (omega arith) c.loop-child-test.true c.if-join-child.false c.loop-child.invariant.cost c.in_err-list.ensures.cost;
    }

pub returns-in_err-push : goal.returns-in_err-push
returns-in_err-push g c =
    let r = c.from_residual-in_err-push.result in
    let e = c.from_residual-in_err-push.ensures.0 in
    record {
      more = failed r _ e;
      count = IfOk-from_err r _ e;
      wide = IfOk-from_err r _ e;
      names = IfOk-from_err r _ e;
      cost = columns_within (parent_of c.args.source.now.join.now) c.args.node c.loop-child.child c.args.source.now.join.now.count (length c.args.rows.now.rows.now) c.args.steps.now c.loop-child.steps c.links_of.new.steps
          (omega arith) c.loop-child-test.true c.if-join-child.false c.loop-child.invariant.cost c.in_ok-list.ensures.cost;
    }

pub loop-child-preserved : goal.loop-child-preserved
loop-child-preserved g c =
    let query = c.args.source.now.query.now in
    let tables = c.args.source.now.tables.now in
    let join = c.args.source.now.join.now in
    let vs = c.args.source.now.columns.now.above.items in
    let own = lists_of c.args.source.now.columns.now.own.items in
    let child = c.loop-child.child in
    let before = c.loop-child.invariant in
    let rows = c.args.rows.now.rows.now in
    let below : parent_of join child ≡ c.args.node = c.if-join-child.false in
    let one = kids_below_child (parent_of join) c.args.node child (omega arith) below in
    let inside : child < length vs = omega (arith, c.requires.columns.above_count, lists_length vs, c.loop-child-test.true) in
    let list : c.as_slice-above.result.now ≡ get_or (lists_of vs) child [] = c.as_slice-above.ensures.value ∙ sym (list_at vs child c.index.result.now inside c.index.ensures) in
    let columns = columns_in c.loop-child.lists.items in
    let column = c.in_ok-list.list.items in
    let now : columns_in c.push.new.self.items ≡ columns ++ column ∷ [] = columns_push c.loop-child.lists.items c.push.new.self.items c.in_ok-list.list c.in_ok-push.ensures.items in
    let links = c.in_ok-list.ensures.links in
    let values : (row : ℕ) → values_in c.args.rows.now.tables.now (table_at c.args.rows.now.tables.now c.args.rows.now.table) row c.as_slice-above.result.now
    ≡ values_at query tables join own (lists_of vs) c.args.node row (get_or (lists_of vs) child []) =
    λ row. ap (λ (ts : List Table). values_in ts (table_at ts c.args.rows.now.table) row c.as_slice-above.result.now) c.requires.rows.tables
    ∙ ap (λ (t : ℕ). values_in tables (table_at tables t) row c.as_slice-above.result.now) c.requires.rows.table
    ∙ ap (λ (l : List ℕ). values_in tables (table_in tables query.query.items (item_of join c.args.node)) row l) list in
    record {
      more = more_trans c.args.links.now c.loop-child.links c.links_of.new.links before.more c.in_ok-list.ensures.more;
      count = ap length now ∙ length-append columns (column ∷ []) ∙ ap (λ (n : ℕ). n + 1) before.count ∙ sym one;
      long = subst (All (λ (xs : List ℕ). length xs ≡ length rows)) (sym now) (All-push (λ (xs : List ℕ). length xs ≡ length rows) columns column before.long links.count);
      names = λ r l.
          let here = subst (λ (xs : List ℕ). IsLink c.links_of.new.links child (get_or column r 0) xs) (values (get_or rows r 0)) (links.each r l) in
          names_more query tables join own (lists_of vs) c.loop-child.links c.links_of.new.links c.args.node (get_or rows r 0) child (row_across columns r) (row_across (columns_in c.push.new.self.items) r)
          (get_or column r 0) c.in_ok-list.ensures.more (omega arith) below (across_length columns r ∙ before.count) (across_push columns (columns_in c.push.new.self.items) column r now) (before.names r l) here;
      cost = one_column c.args.steps.now c.loop-child.steps c.links_of.new.steps (length rows) _ _ one before.cost c.in_ok-list.ensures.cost;
    }

pub returns : goal.returns
returns g c =
    let join = c.args.source.now.join.now in
    let node = c.args.node in
    let before = c.loop-child.invariant in
    let all : c.loop-child.child ≡ join.count = omega arith in
    let rows = c.args.rows.now.rows.now in
    let columns = columns_in c.loop-child.lists.items in
    let r = c.of_columns.result in
    let many : length columns ≡ kids_below (parent_of join) node join.count = before.count ∙ ap (kids_below (parent_of join) node) all in
    record {
      more = on_ok r before.more;
      count = if_ok_map r (λ (v : NamedView) is. ap (λ (x : NamedView). length x.rows) is ∙ rows_count columns (length rows)) c.of_columns.ensures;
      wide = if_ok_map r (λ (v : NamedView) is. subst (λ (x : NamedView). All (λ (row : List ℕ). length row ≡ kids_below (parent_of join) node join.count) x.rows) (sym is) (rows_wide columns (length rows) _ many)) c.of_columns.ensures;
      names = if_ok_map r (λ (v : NamedView) is k l.
          let at : get_or v.rows k [] ≡ row_across columns k = ap (λ (x : NamedView). get_or x.rows k []) is ∙ row_there columns (length rows) k l in
          subst (NamesLinks c.args.source.now.query.now c.args.source.now.tables.now join (lists_of c.args.source.now.columns.now.own.items) (lists_of c.args.source.now.columns.now.above.items)
          c.loop-child.links node (get_or rows k 0) join.count) (sym at)
          (subst (λ (n : ℕ). NamesLinks c.args.source.now.query.now c.args.source.now.tables.now join (lists_of c.args.source.now.columns.now.own.items) (lists_of c.args.source.now.columns.now.above.items)
          c.loop-child.links node (get_or rows k 0) n (row_across columns k)) all (before.names k l))) c.of_columns.ensures;
      cost = subst (λ (n : ℕ). c.loop-child.steps ≤ c.args.steps.now + length rows * kids_below (parent_of join) node n) all before.cost;
    }
