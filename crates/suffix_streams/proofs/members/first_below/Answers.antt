use Rattle.std.proofs.Common.{◌≡◌, ℕ, ◌+◌, ◌<◌, ◌≤◌, length, get_or, refl, inr, arith}
use Rattle.tdp_core.specs.TreeView.{members}
use Rattle.tdp_core.proofs.TreeFacts.{member_is_row}
use Rattle.suffix_streams.proofs.Entries.{headed_of}
use Rattle.suffix_streams.proofs.members.first_below.Goals as goal

below_end : (k n m : ℕ) → k ≡ n → m < k → m < n
below_end k n m e l = omega arith

past_end : (k n m : ℕ) → k ≡ n → k ≤ m → n ≤ m
past_end k n m e l = omega arith

few_steps : (s : ℕ) → s ≤ s + 4
few_steps s = omega arith

pub first_solution-requires-clause-headed : goal.first_solution-requires-clause-headed
first_solution-requires-clause-headed g c =
    let t = c.args.tree.now in
    let within : c.args.member < length (members t c.args.node c.args.group) = below_end _ _ _ c.group_len.ensures c.if-member-group_len.false in
    headed_of g.R.Rank.KEYS g.R.Rank.key t c.args.entries.now.entries c.args.nodes.now c.requires.formed c.args.node (get_or (members t c.args.node c.args.group) c.args.member 0) c.requires.node
    (member_is_row g.R.Rank.KEYS g.R.Rank.key t c.requires.formed.tree c.args.node c.args.group c.args.member c.requires.node within)

pub group_len-requires-clause-node : goal.group_len-requires-clause-node
group_len-requires-clause-node g c = c.requires.node

pub group_len-requires-clause-group : goal.group_len-requires-clause-group
group_len-requires-clause-group g c = c.requires.group

pub first_solution-requires-clause-formed : goal.first_solution-requires-clause-formed
first_solution-requires-clause-formed g c = c.requires.formed.tree

pub first_solution-requires-clause-node : goal.first_solution-requires-clause-node
first_solution-requires-clause-node g c = c.requires.node

pub first_solution-requires-clause-group : goal.first_solution-requires-clause-group
first_solution-requires-clause-group g c = c.requires.group

pub returns : goal.returns
returns g c =
    record {
      below = (refl, below_end _ _ _ c.group_len.ensures c.if-member-group_len.false, c.first_solution.ensures.first);
      cost = c.first_solution.ensures.cost;
    }

pub returns-then-member-group_len : goal.returns-then-member-group_len
returns-then-member-group_len g c =
    record {
      below = inr (past_end _ _ _ c.group_len.ensures c.if-member-group_len.true);
      cost = few_steps _;
    }
