use Rattle.std.proofs.Common.{◌≡◌, ℕ, ◌+◌, ◌<◌, ◌≤◌, refl, sym, ap, ◌∙◌, subst, arith}
use Rattle.tdp_core.specs.TreeView.{rows, best, number}
use Rattle.tdp_core.proofs.TreeFacts.{member_is_row}
use Rattle.suffix_streams.specs.Firsts.{HasFirstParts}
use Rattle.suffix_streams.specs.TreeStreams.{IsHeaded}
use Rattle.suffix_streams.proofs.members.first_solution.Goals as goal

four_steps : (s a b c d : ℕ) → a ≡ s + 1 → b ≡ a + 1 → c ≡ b + 1 → d ≤ c + 1 → d ≤ s + 4
four_steps s a b c d e f h l = omega arith

pub best-rank-requires-clause-row : goal.best-rank-requires-clause-row
best-rank-requires-clause-row g c =
    subst (λ r. r < rows c.args.tree.now c.args.node) (sym c.member-row.ensures.member)
    (member_is_row g.R.Rank.KEYS g.R.Rank.key c.args.tree.now c.requires.formed c.args.node c.args.group c.args.member c.requires.node c.requires.member)

pub row_at-number-requires-clause-row : goal.row_at-number-requires-clause-row
row_at-number-requires-clause-row g c =
    subst (λ r. r < rows c.args.tree.now c.args.node) (sym c.member-row.ensures.member)
    (member_is_row g.R.Rank.KEYS g.R.Rank.key c.args.tree.now c.requires.formed c.args.node c.args.group c.args.member c.requires.node c.requires.member)

pub first_cell-cell-requires-clause-row : goal.first_cell-cell-requires-clause-row
first_cell-cell-requires-clause-row g c =
    subst (λ r. r < rows c.args.tree.now c.args.node) (sym c.member-row.ensures.member)
    (member_is_row g.R.Rank.KEYS g.R.Rank.key c.args.tree.now c.requires.formed c.args.node c.args.group c.args.member c.requires.node c.requires.member)

pub member-row-requires-clause-node : goal.member-row-requires-clause-node
member-row-requires-clause-node g c = c.requires.node

pub member-row-requires-clause-group : goal.member-row-requires-clause-group
member-row-requires-clause-group g c = c.requires.group

pub member-row-requires-clause-place : goal.member-row-requires-clause-place
member-row-requires-clause-place g c = c.requires.member

pub row_at-number-requires-clause-node : goal.row_at-number-requires-clause-node
row_at-number-requires-clause-node g c = c.requires.node

pub best-rank-requires-clause-node : goal.best-rank-requires-clause-node
best-rank-requires-clause-node g c = c.requires.node

pub first_cell-cell-requires-clause-node : goal.first_cell-cell-requires-clause-node
first_cell-cell-requires-clause-node g c = c.requires.node

pub first_cell-cell-requires-clause-formed : goal.first_cell-cell-requires-clause-formed
first_cell-cell-requires-clause-formed g c = c.requires.formed

pub first_cell-cell-requires-clause-headed : goal.first_cell-cell-requires-clause-headed
first_cell-cell-requires-clause-headed g c = subst (IsHeaded g.R.Rank.KEYS g.R.Rank.key c.args.tree.now c.args.entries.now.entries c.args.nodes.now c.args.node) (sym c.member-row.ensures.member) c.requires.headed

pub returns : goal.returns
returns g c =
    record {
      first = (
        refl,
        c.best-rank.ensures.best ∙ ap (best c.args.tree.now g.R.Rank.KEYS g.R.Rank.key c.args.node) c.member-row.ensures.member,
        subst (λ r. HasFirstParts c.args.tree.now c.args.entries.now.entries c.args.node r c.first_cell-cell.result) c.member-row.ensures.member c.first_cell-cell.ensures.parts,
        c.member-row.ensures.member,
        c.row_at-number.ensures.number ∙ ap (number c.args.tree.now c.args.node) c.member-row.ensures.member,
      );
      cost = four_steps _ _ _ _ _ c.member-row.ensures.counted c.row_at-number.ensures.counted c.best-rank.ensures.counted c.first_cell-cell.ensures.cost;
    }
