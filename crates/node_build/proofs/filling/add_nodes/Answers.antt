use Rattle.std.proofs.Common.{◌≡◌, ◌<◌, ◌∙◌, ℕ, List, [], length, get_or, refl, sym, ap, subst, arith}
use Rattle.std.proofs.Math.Nat.{mul-le-mul_right}
use Rattle.std.proofs.lemmas.List.Sums.{sum_by-take-le, sum_by_more, sum_by_more_le}
use Rattle.tdp_core.specs.RawView.{rows_at}
use Rattle.rankings.specs.Order.{IsMember}
use Rattle.node_build.specs.PartialTrees.{AreFilled, HasOnlyMore}
use Rattle.node_build.specs.Links.{HasRowsOf}
use Rattle.node_build.specs.Rows.{lists_of}
use Rattle.node_build.specs.Shapes.{AreShapesOf}
use Rattle.node_build.proofs.Costs.{lists_within, one_list}
use Rattle.node_build.proofs.Growing.{filled_more}
use Rattle.node_build.proofs.Naming.{list_at, lists_length}
use Rattle.node_build.proofs.Results.{failed}
use Rattle.node_build.proofs.filling.add_nodes.Goals as goal

pub bounds-rows-node : goal.bounds-rows-node
bounds-rows-node g c = omega (arith, c.requires.rows.count, lists_length c.args.rows.now, c.loop-node-test.true)

pub loop-node-init : goal.loop-node-init
loop-node-init g c = record { shapes = refl; count = c.requires.links; filled = c.requires.none; cost = omega arith }

pub add_rows-requires-clause-rows : goal.add_rows-requires-clause-rows
add_rows-requires-clause-rows g c row m =
    let vs = c.args.rows.now in
    let node = c.loop-node.node in
    let inside : node < length vs = omega (arith, c.requires.rows.count, lists_length vs, c.loop-node-test.true) in
    let list : c.as_slice-list.result.now ≡ get_or (lists_of vs) node [] = c.as_slice-list.ensures.value ∙ sym (list_at vs node c.index-rows-node.result inside c.index-rows-node.is) in
    let h = ((c.requires.rows.each node (omega arith)).members row).0 (subst (λ (xs : List ℕ). IsMember row xs) list m) in
    (h.0, h.1)

pub add_rows-requires-clause-shapes : goal.add_rows-requires-clause-shapes
add_rows-requires-clause-shapes g c = subst (AreShapesOf c.args.source.now.query.now c.args.source.now.tables.now c.args.source.now.join.now c.args.source.now.join.now.count) (sym c.loop-node.invariant.shapes) c.requires.shapes

pub add_rows-requires-clause-empty : goal.add_rows-requires-clause-empty
add_rows-requires-clause-empty g c = c.loop-node.invariant.filled.empty c.loop-node.node (omega arith)

pub add_rows-requires-clause-room : goal.add_rows-requires-clause-room
add_rows-requires-clause-room g c =
    let vs = c.args.rows.now in
    let node = c.loop-node.node in
    let inside : node < length vs = omega (arith, c.requires.rows.count, lists_length vs, c.loop-node-test.true) in
    let list : c.as_slice-list.result.now ≡ get_or (lists_of vs) node [] = c.as_slice-list.ensures.value ∙ sym (list_at vs node c.index-rows-node.result inside c.index-rows-node.is) in
    let size = ap (λ (xs : List ℕ). length xs) list in
    let more = sum_by_more_le (λ (xs : List ℕ). length xs) (lists_of vs) node [] (omega (arith, inside, lists_length vs)) in
    omega (arith, size, more, c.loop-node.invariant.filled.total, c.requires.room)

pub returns : goal.returns
returns g c = record {
  shapes = subst (AreShapesOf c.args.source.now.query.now c.args.source.now.tables.now c.args.source.now.join.now c.args.source.now.join.now.count) (sym c.loop-node.invariant.shapes) c.requires.shapes;
  filled = let own = lists_of c.args.source.now.columns.now.own.items in
      let above = lists_of c.args.source.now.columns.now.above.items in
      let lists = c.loop-node.links in
      let all : c.loop-node.node ≡ c.args.source.now.join.now.count = omega arith in
      record {
        own = own;
        above = above;
        lists = lists;
        columns = c.requires.columns;
        filled = subst (λ (n : ℕ). AreFilled c.args.source.now.query.now c.args.source.now.tables.now c.args.source.now.join.now own above g.R.Rank.KEYS g.R.Rank.key lists n (lists_of c.args.rows.now) c.loop-node.tree) all c.loop-node.invariant.filled;
      };
  cost = let most = mul-le-mul_right c.args.source.now.join.now.count (sum_by-take-le (λ (xs : List ℕ). length xs) (lists_of c.args.rows.now) c.loop-node.node) in
      omega (arith, most, c.loop-node.invariant.cost);
}

pub returns-in_err-add_rows : goal.returns-in_err-add_rows
returns-in_err-add_rows g c = record {
  cost = let vs = c.args.rows.now in
      let node = c.loop-node.node in
      let inside : node < length vs = omega (arith, c.requires.rows.count, lists_length vs, c.loop-node-test.true) in
      let list : c.as_slice-list.result.now ≡ get_or (lists_of vs) node [] = c.as_slice-list.ensures.value ∙ sym (list_at vs node c.index-rows-node.result inside c.index-rows-node.is) in
      let more = sum_by_more_le (λ (xs : List ℕ). length xs) (lists_of vs) node [] (subst (λ (n : ℕ). node < n) (sym (lists_length vs)) inside) in
      lists_within c.args.steps.now c.loop-node.steps c.add_rows.new.steps _ _ _ _ c.args.source.now.join.now.count (ap (λ (xs : List ℕ). length xs) list) more
      c.loop-node.invariant.cost c.in_err-add_rows.ensures.cost;
  shapes = failed c.from_residual.result _ c.from_residual.ensures.0;
  filled = failed c.from_residual.result _ c.from_residual.ensures.0;
}

pub loop-node-preserved : goal.loop-node-preserved
loop-node-preserved g c =
    let query = c.args.source.now.query.now in
    let tables = c.args.source.now.tables.now in
    let join = c.args.source.now.join.now in
    let own = lists_of c.args.source.now.columns.now.own.items in
    let above = lists_of c.args.source.now.columns.now.above.items in
    let vs = c.args.rows.now in
    let node = c.loop-node.node in
    let old = c.loop-node.links in
    let new = c.add_rows.new.links in
    let before = c.loop-node.invariant in
    let now = c.in_ok-add_rows.ensures in
    let inside : node < length vs = omega (arith, c.requires.rows.count, lists_length vs, c.loop-node-test.true) in
    let there : node < length (lists_of vs) = subst (λ (n : ℕ). node < n) (sym (lists_length vs)) inside in
    let list : c.as_slice-list.result.now ≡ get_or (lists_of vs) node [] = c.as_slice-list.ensures.value ∙ sym (list_at vs node c.index-rows-node.result inside c.index-rows-node.is) in
    let one = sum_by_more (λ (xs : List ℕ). length xs) (lists_of vs) node [] there in
    record {
      shapes = now.others.shapes ∙ before.shapes;
      count = now.more.count ∙ before.count;
      filled = filled_more query tables join own above g.R.Rank.KEYS g.R.Rank.key old new node (lists_of vs) c.loop-node.tree c.add_rows.new.tree now.more there before.filled
          (subst (λ (xs : List ℕ). HasOnlyMore node (length xs) c.loop-node.tree c.add_rows.new.tree) list now.others)
          (subst (λ (xs : List ℕ). HasRowsOf query tables join own above g.R.Rank.KEYS g.R.Rank.key new node (length xs) xs (rows_at c.add_rows.new.tree node)) list now.rows);
      cost = one_list c.args.steps.now c.loop-node.steps c.add_rows.new.steps _ _ _ _ join.count (ap (λ (xs : List ℕ). length xs) list) one before.cost now.cost;
    }

pub add_rows-requires-clause-ready : goal.add_rows-requires-clause-ready
add_rows-requires-clause-ready g c = c.requires.ready

pub add_rows-requires-clause-columns : goal.add_rows-requires-clause-columns
add_rows-requires-clause-columns g c = c.requires.columns

pub add_rows-requires-clause-node : goal.add_rows-requires-clause-node
add_rows-requires-clause-node g c = c.loop-node-test.true

pub add_rows-requires-clause-links : goal.add_rows-requires-clause-links
add_rows-requires-clause-links g c = c.loop-node.invariant.count

pub add_rows-requires-clause-each_node : goal.add_rows-requires-clause-each_node
add_rows-requires-clause-each_node g c = c.loop-node.invariant.filled.each_node
