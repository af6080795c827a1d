use Rattle.suffix_streams.proofs.Errors.{none_given}
use Rattle.std.proofs.Common.{ℕ, ◌+◌, ◌≤◌, refl, arith}
use Rattle.suffix_streams.proofs.ViewPrefixes.{all_prefixes}
use Rattle.suffix_streams.proofs.ViewStart.{start_view}
use Rattle.suffix_streams.proofs.streams.Streams.new.Goals as goal

no_steps : (s n : ℕ) → s ≤ s + n
no_steps s n = omega arith

pub invariant_of-result : goal.invariant_of-result
invariant_of-result g c =
    start_view g.R.Rank.KEYS g.R.Rank.key c.args.tree.now c.in_ok-begin_nodes.ensures.formed c.requires c.begin_nodes.new.entries.entries c.begin_nodes.new.nodes.items 0 refl c.in_ok-begin_nodes.ensures.begun

pub returns : goal.returns
returns g c =
    record {
      prefixes =
          let view = start_view g.R.Rank.KEYS g.R.Rank.key c.args.tree.now c.in_ok-begin_nodes.ensures.formed c.requires c.begin_nodes.new.entries.entries c.begin_nodes.new.nodes.items 0 refl c.in_ok-begin_nodes.ensures.begun in
          all_prefixes g.R.Rank.KEYS g.R.Rank.key c.args.tree.now c.begin_nodes.new.entries.entries c.begin_nodes.new.nodes.items view.streams;
      tree = refl;
      calls = refl;
      cost = c.begin_nodes.ensures.cost;
    }

pub returns-in_err-begin_nodes : goal.returns-in_err-begin_nodes
returns-in_err-begin_nodes g c =
    record {
      tree = none_given _ c.from_residual-in_err-begin_nodes.result c.from_residual-in_err-begin_nodes.ensures.0;
      prefixes = none_given _ c.from_residual-in_err-begin_nodes.result c.from_residual-in_err-begin_nodes.ensures.0;
      calls = none_given _ c.from_residual-in_err-begin_nodes.result c.from_residual-in_err-begin_nodes.ensures.0;
      cost = c.begin_nodes.ensures.cost;
    }

pub returns-in_err-of_entries : goal.returns-in_err-of_entries
returns-in_err-of_entries g c =
    record {
      tree = none_given _ c.from_residual.result c.from_residual.ensures.0;
      prefixes = none_given _ c.from_residual.result c.from_residual.ensures.0;
      calls = none_given _ c.from_residual.result c.from_residual.ensures.0;
      cost = no_steps _ _;
    }

pub returns-in_err-of_nodes : goal.returns-in_err-of_nodes
returns-in_err-of_nodes g c =
    record {
      tree = none_given _ c.from_residual-in_err-of_nodes.result c.from_residual-in_err-of_nodes.ensures.0;
      prefixes = none_given _ c.from_residual-in_err-of_nodes.result c.from_residual-in_err-of_nodes.ensures.0;
      calls = none_given _ c.from_residual-in_err-of_nodes.result c.from_residual-in_err-of_nodes.ensures.0;
      cost = no_steps _ _;
    }

pub begin_nodes-requires-clause-nodes : goal.begin_nodes-requires-clause-nodes
begin_nodes-requires-clause-nodes g c = c.new-nodes.ensures.items

pub begin_nodes-requires-clause-entries : goal.begin_nodes-requires-clause-entries
begin_nodes-requires-clause-entries g c = c.new-entries.ensures.entries
