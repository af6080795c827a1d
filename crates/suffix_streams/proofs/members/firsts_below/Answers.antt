use Rattle.std.proofs.Common.{◌≡◌, ℕ, ◌+◌, ◌*◌, ◌≤◌, subst, arith}
use Rattle.suffix_streams.specs.Firsts.{IsFirstBelow}
use Rattle.suffix_streams.proofs.members.firsts_below.Goals as goal

-- the steps of both
both_steps : (s a b : ℕ) → a ≤ s + 4 → b ≤ a + 4 → b ≤ s + 8
both_steps s a b h k = omega arith

pub returns : goal.returns
returns g c =
    let second : 2 * c.args.member + 1 + 1 ≡ 2 * c.args.member + 2 = omega arith in
    record {
      left = c.first_below.ensures.below;
      right = subst (λ m. IsFirstBelow g.R.Rank.KEYS g.R.Rank.key c.args.tree.now c.args.entries.now.entries c.args.node c.args.group 1 m c.first_below-2.result) second c.first_below-2.ensures.below;
      cost = both_steps _ _ _ c.first_below.ensures.cost c.first_below-2.ensures.cost;
    }

pub first_below-requires-clause-formed : goal.first_below-requires-clause-formed
first_below-requires-clause-formed g c = c.requires.formed

pub first_below-requires-clause-node : goal.first_below-requires-clause-node
first_below-requires-clause-node g c = c.requires.node

pub first_below-requires-clause-group : goal.first_below-requires-clause-group
first_below-requires-clause-group g c = c.requires.group

pub first_below-requires-2-clause-formed : goal.first_below-requires-2-clause-formed
first_below-requires-2-clause-formed g c = c.requires.formed

pub first_below-requires-2-clause-node : goal.first_below-requires-2-clause-node
first_below-requires-2-clause-node g c = c.requires.node

pub first_below-requires-2-clause-group : goal.first_below-requires-2-clause-group
first_below-requires-2-clause-group g c = c.requires.group
