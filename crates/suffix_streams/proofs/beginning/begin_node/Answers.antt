use Rattle.std.proofs.Common.{◌≡◌, ℕ, ◌+◌, ◌*◌, ◌<◌, ◌≤◌, length, refl, arith}
use Rattle.tdp_core.specs.TreeView.{group_count}
use Rattle.tdp_core.proofs.TreeFacts.{group_count_within}
use Rattle.suffix_streams.specs.TreeStreams.{lists_of}
use Rattle.suffix_streams.proofs.HeadedStreams.{next_head_none}
use Rattle.suffix_streams.proofs.Errors.{none_done}
use Rattle.suffix_streams.proofs.BeginNodes.{from_in, in_from}
use Rattle.suffix_streams.proofs.Numbers.{in_equal}
use Rattle.suffix_streams.proofs.beginning.begin_node.Goals as goal

-- # Numbers

at_end : (i n m : ℕ) → n ≤ i → i ≤ n → n ≡ m → i ≡ m
at_end i n m a b e = omega arith

no_steps : (s : ℕ) → s ≤ s + 5 * 0
no_steps s = omega arith

more_steps : (s l l' i : ℕ) → l ≤ s + 5 * i → l' ≤ l + 5 → l' ≤ s + 5 * (i + 1)
more_steps s l l' i h m = omega arith

last_steps : (s l l' i n m rows : ℕ) → l ≤ s + 5 * i → l' ≤ l + 5 → i < n → n ≡ m → m ≤ rows → l' ≤ s + 5 * rows
last_steps s l l' i n m rows h more k e few = omega arith

all_steps : (s l i n m rows : ℕ) → l ≤ s + 5 * i → i ≤ n → n ≡ m → m ≤ rows → l ≤ s + 5 * rows
all_steps s l i n m rows h k e few = omega arith

-- # The loop

pub loop-group-init : goal.loop-group-init
loop-group-init g c =
    let begun = from_in g.R.Rank.KEYS g.R.Rank.key c.args.tree.now c.args.entries.now.entries c.args.nodes.now.items c.args.node (c.args.node + 1) refl c.requires.begun in
    record {
      begun = begun;
      heads = next_head_none (lists_of c.args.nodes.now.items c.args.node).streams (length c.args.entries.now.entries) begun.own;
      cost = no_steps _;
    }

pub loop-group-preserved : goal.loop-group-preserved
loop-group-preserved g c =
    record {
      begun = c.in_ok-begin_group.ensures.begun;
      heads = c.in_ok-begin_group.ensures.heads;
      cost = more_steps _ _ _ _ c.loop-group.invariant.cost c.begin_group.ensures.cost;
    }

pub begin_group-requires-clause-formed : goal.begin_group-requires-clause-formed
begin_group-requires-clause-formed g c = c.requires.formed

pub begin_group-requires-clause-node : goal.begin_group-requires-clause-node
begin_group-requires-clause-node g c = c.requires.node

pub begin_group-requires-clause-group : goal.begin_group-requires-clause-group
begin_group-requires-clause-group g c = in_equal _ _ _ c.loop-group-test.true c.groups-group-end.ensures

pub begin_group-requires-clause-begun : goal.begin_group-requires-clause-begun
begin_group-requires-clause-begun g c = c.loop-group.invariant.begun

pub begin_group-requires-clause-heads : goal.begin_group-requires-clause-heads
begin_group-requires-clause-heads g c = c.loop-group.invariant.heads

pub returns : goal.returns
returns g c =
    record {
      cost =
          all_steps _ _ _ _ _ _ c.loop-group.invariant.cost c.loop-group.auto.group-end c.groups-group-end.ensures
          (group_count_within g.R.Rank.KEYS g.R.Rank.key c.args.tree.now c.requires.formed c.args.node c.requires.node);
      begun =
          let all : c.loop-group.group ≡ group_count c.args.tree.now c.args.node = at_end _ _ _ c.loop-group-test.false c.loop-group.auto.group-end c.groups-group-end.ensures in
          in_from g.R.Rank.KEYS g.R.Rank.key c.args.tree.now c.loop-group.entries.entries c.loop-group.nodes.items c.args.node c.loop-group.group all c.loop-group.invariant.begun;
    }

pub returns-in_err-begin_group : goal.returns-in_err-begin_group
returns-in_err-begin_group g c =
    record {
      begun = none_done _ c.from_residual.result c.from_residual.ensures.0;
      cost =
          last_steps _ _ _ _ _ _ _ c.loop-group.invariant.cost c.begin_group.ensures.cost c.loop-group-test.true c.groups-group-end.ensures
          (group_count_within g.R.Rank.KEYS g.R.Rank.key c.args.tree.now c.requires.formed c.args.node c.requires.node);
    }
