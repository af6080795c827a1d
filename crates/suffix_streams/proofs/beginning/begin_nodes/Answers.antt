use Rattle.suffix_streams.proofs.Errors.{none_done}
use Rattle.std.proofs.Common.{◌≡◌, ℕ, ◌+◌, ◌-◌, ◌*◌, ◌<◌, ◌≤◌, List, [], length, sym, subst, arith}
use Rattle.tdp_core.specs.TreeView.{row_count}
use Rattle.stream_store.specs.declared.linked.Linked.{Linked}
use Rattle.suffix_streams.specs.declared.stream.Found.{Found}
use Rattle.suffix_streams.specs.Beginnings.{IsBegunFrom}
use Rattle.suffix_streams.proofs.BeginNodes.{from_none, rows_more}
use Rattle.suffix_streams.proofs.ViewStart.{start_steps}
use Rattle.suffix_streams.proofs.beginning.begin_nodes.Goals as goal

below_start : (v n : ℕ) → 0 < v → v ≤ n → v - 1 < n
below_start v n some few = omega arith

one_back : (v : ℕ) → 0 < v → v ≡ v - 1 + 1
one_back v some = omega arith

at_most : (v n : ℕ) → v ≡ n → v ≤ n
at_most v n e = omega arith

one_less : (v n : ℕ) → v ≤ n → v - 1 ≤ n
one_less v n few = omega arith

none_left : (v : ℕ) → v ≤ 0 → v ≡ 0
none_left v few = omega arith

more_within : (s n : ℕ) → s ≤ s + n
more_within s n = omega arith

pub loop-node-init : goal.loop-node-init
loop-node-init g c =
    let t = c.args.tree.now in
    record {
      begun = subst (λ (es : List (Linked (Found g.row.R.Denot))). IsBegunFrom g.R.Rank.KEYS g.R.Rank.key t es c.add_empty_nodes.new.nodes.items c.nodes-node.result) (sym c.requires.entries)
          (subst (IsBegunFrom g.R.Rank.KEYS g.R.Rank.key t [] c.add_empty_nodes.new.nodes.items) (sym c.nodes-node.ensures.count)
          (from_none g.R.Rank.KEYS g.R.Rank.key t c.add_empty_nodes.new.nodes.items c.in_ok-add_empty_nodes.ensures.count c.in_ok-add_empty_nodes.ensures.empty));
      cost = more_within _ _;
      within = at_most _ _ c.nodes-node.ensures.count;
    }

pub loop-node-preserved : goal.loop-node-preserved
loop-node-preserved g c =
    let t = c.args.tree.now in
    record {
      begun = c.in_ok-begin_node.ensures.begun;
      cost = omega (arith, c.begin_node.ensures.cost, c.loop-node.invariant.cost, rows_more g.R.Rank.KEYS g.R.Rank.key t (c.loop-node.node - 1) c.loop-node.node (omega (arith, c.loop-node-test.true, c.loop-node.invariant.within)) (omega (arith, c.loop-node-test.true)));
      within = one_less _ _ c.loop-node.invariant.within;
    }

pub begin_node-requires-clause-node : goal.begin_node-requires-clause-node
begin_node-requires-clause-node g c = below_start c.loop-node.node (length c.args.tree.now) c.loop-node-test.true c.loop-node.invariant.within

pub begin_node-requires-clause-formed : goal.begin_node-requires-clause-formed
begin_node-requires-clause-formed g c = c.nodes-node.ensures.formed

pub begin_node-requires-clause-begun : goal.begin_node-requires-clause-begun
begin_node-requires-clause-begun g c = subst (IsBegunFrom g.R.Rank.KEYS g.R.Rank.key c.args.tree.now c.loop-node.entries.entries c.loop-node.nodes.items) (one_back c.loop-node.node c.loop-node-test.true) c.loop-node.invariant.begun

pub returns-in_err-add_empty_nodes : goal.returns-in_err-add_empty_nodes
returns-in_err-add_empty_nodes g c =
    record {
      cost = more_within c.args.steps.now (16 * length c.args.tree.now * (1 + row_count c.args.tree.now));
      formed = none_done _ c.from_residual.result c.from_residual.ensures.0;
      begun = none_done _ c.from_residual.result c.from_residual.ensures.0;
    }

pub returns-in_err-begin_node : goal.returns-in_err-begin_node
returns-in_err-begin_node g c =
    record {
      formed = none_done _ c.from_residual-in_err-begin_node.result c.from_residual-in_err-begin_node.ensures.0;
      begun = none_done _ c.from_residual-in_err-begin_node.result c.from_residual-in_err-begin_node.ensures.0;
      cost =
          let t = c.args.tree.now in
          omega (
            arith,
            c.begin_node.ensures.cost,
            c.loop-node.invariant.cost,
            rows_more g.R.Rank.KEYS g.R.Rank.key t (c.loop-node.node - 1) c.loop-node.node (omega (arith, c.loop-node-test.true, c.loop-node.invariant.within)) (omega (arith, c.loop-node-test.true)),
            start_steps g.R.Rank.KEYS g.R.Rank.key t c.nodes-node.ensures.formed (c.loop-node.node - 1) (omega (arith, c.loop-node.invariant.within)),
          );
    }

pub returns : goal.returns
returns g c =
    record {
      formed = c.nodes-node.ensures.formed;
      begun =
          let none : c.loop-node.node ≡ 0 = none_left _ c.loop-node-test.false in
          subst (IsBegunFrom g.R.Rank.KEYS g.R.Rank.key c.args.tree.now c.loop-node.entries.entries c.loop-node.nodes.items) none c.loop-node.invariant.begun;
      cost = omega (arith, c.loop-node.invariant.cost, start_steps g.R.Rank.KEYS g.R.Rank.key c.args.tree.now c.nodes-node.ensures.formed c.loop-node.node (omega (arith, c.loop-node.invariant.within)));
    }
