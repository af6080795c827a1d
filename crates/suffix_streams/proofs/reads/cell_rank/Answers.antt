use Rattle.std.proofs.Common.{◌≡◌, ℕ, ◌+◌, ◌≤◌, get_or, refl, ap, ◌∙◌, arith}
use Rattle.tdp_model.specs.KeyTuple.{key_add, key_none}
use Rattle.suffix_streams.specs.Rankings.{part_list}
use Rattle.suffix_streams.proofs.Heads.{head_key}
use Rattle.suffix_streams.proofs.Firsts.{cell_fits}
use Rattle.suffix_streams.proofs.reads.cell_rank.Goals as goal

three_steps : (s p r j : ℕ) → p ≤ s + 1 → r ≡ p + 1 → j ≡ r + 1 → j ≤ s + 3
three_steps s p r j a b e = omega arith

pub join-requires : goal.join-requires
join-requires g c =
    let r = c.requires.parts.rights c.args.cell.now.right c.requires.cell.right c.requires.cell.node c.requires.cell.group in
    let k = head_key g.R.Rank.KEYS g.R.Rank.key c.args.entries.now.entries c.args.cell.now.right c.args.cell.now.right c.get-right.result.now _ refl c.get-right.ensures.value r.1 in
    cell_fits g.R.Rank.KEYS g.R.Rank.key c.args.tree.now c.requires.formed c.args.entries.now.entries c.args.nodes.now c.args.part.node c.args.part.row c.args.part.child c.args.cell.now c.requires.node c.requires.parts c.requires.cell _ _ c.part_rank-left.ensures.key k

pub returns : goal.returns
returns g c =
    let r = c.requires.parts.rights c.args.cell.now.right c.requires.cell.right c.requires.cell.node c.requires.cell.group in
    let k = head_key g.R.Rank.KEYS g.R.Rank.key c.args.entries.now.entries c.args.cell.now.right c.args.cell.now.right c.get-right.result.now _ refl c.get-right.ensures.value r.1 in
    record {
      key =
          c.join.ensures.sum ∙ ap (λ z. key_add g.R.Rank.KEYS 16 z (g.R.Rank.key c.get-right.result.now.solution.rank)) c.part_rank-left.ensures.key
          ∙ ap (λ z. key_add g.R.Rank.KEYS 16 (get_or (part_list g.R.Rank.KEYS g.R.Rank.key c.args.tree.now c.args.part.node c.args.part.row c.args.part.child) c.args.cell.now.left (key_none g.R.Rank.KEYS 16)) z) k;
      cost = three_steps _ _ _ _ c.part_rank-left.ensures.cost c.get-right.ensures.cost c.join.ensures.counted;
    }

pub part_rank-left-requires-clause-formed : goal.part_rank-left-requires-clause-formed
part_rank-left-requires-clause-formed g c = c.requires.formed

pub part_rank-left-requires-clause-node : goal.part_rank-left-requires-clause-node
part_rank-left-requires-clause-node g c = c.requires.node

pub part_rank-left-requires-clause-row : goal.part_rank-left-requires-clause-row
part_rank-left-requires-clause-row g c = c.requires.row

pub part_rank-left-requires-clause-all_nodes : goal.part_rank-left-requires-clause-all_nodes
part_rank-left-requires-clause-all_nodes g c = c.requires.parts.node

pub part_rank-left-requires-clause-count : goal.part_rank-left-requires-clause-count
part_rank-left-requires-clause-count g c = c.requires.parts.count

pub part_rank-left-requires-clause-lefts : goal.part_rank-left-requires-clause-lefts
part_rank-left-requires-clause-lefts g c = c.requires.parts.lefts

pub part_rank-left-requires-clause-place : goal.part_rank-left-requires-clause-place
part_rank-left-requires-clause-place g c = c.requires.cell.left
