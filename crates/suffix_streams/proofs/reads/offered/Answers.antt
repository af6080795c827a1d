use Rattle.std.proofs.Common.{ℕ, ◌+◌, ◌≤◌, Option, None, Some, IfSome, refl, sym, subst, arith}
use Rattle.take2_heap.specs.declared.entry.Entry.{Entry}
use Rattle.suffix_streams.specs.declared.cell.Cell.{Cell}
use Rattle.suffix_streams.specs.TreeStreams.{IsCell, IsOffer}
use Rattle.suffix_streams.proofs.reads.offered.Goals as goal

no_steps : (s : ℕ) → s ≤ s + 3
no_steps s = omega arith

pub cell_rank-rank-requires-clause-formed : goal.cell_rank-rank-requires-clause-formed
cell_rank-rank-requires-clause-formed g c = c.requires.formed

pub cell_rank-rank-requires-clause-parts : goal.cell_rank-rank-requires-clause-parts
cell_rank-rank-requires-clause-parts g c = c.requires.parts

pub cell_rank-rank-requires-clause-cell : goal.cell_rank-rank-requires-clause-cell
cell_rank-rank-requires-clause-cell g c =
    subst (λ (o : Option Cell). IfSome o (IsCell g.R.Rank.KEYS g.R.Rank.key c.args.tree.now c.args.entries.now.entries c.args.nodes.now c.args.part.node c.args.part.row c.args.part.child)) c.in_ok-cell.was c.requires.cell

pub cell_rank-rank-requires-clause-node : goal.cell_rank-rank-requires-clause-node
cell_rank-rank-requires-clause-node g c = c.requires.node

pub cell_rank-rank-requires-clause-row : goal.cell_rank-rank-requires-clause-row
cell_rank-rank-requires-clause-row g c = c.requires.row

pub returns : goal.returns
returns g c =
    record {
      offer =
          let e : Entry g.row.R.Denot Cell = record { rank = c.cell_rank-rank.result; tag = c.in_ok-cell.cell } in
          subst (λ (o : Option Cell). IsOffer g.R.Rank.KEYS g.R.Rank.key c.args.tree.now c.args.entries.now.entries c.args.part.node c.args.part.row c.args.part.child o (Some e)) (sym c.in_ok-cell.was) (refl, c.cell_rank-rank.ensures.key);
      cost = c.cell_rank-rank.ensures.cost;
    }

pub returns-in_err-cell : goal.returns-in_err-cell
returns-in_err-cell g c =
    record {
      offer =
          subst (λ (o : Option Cell). IsOffer g.R.Rank.KEYS g.R.Rank.key c.args.tree.now c.args.entries.now.entries c.args.part.node c.args.part.row c.args.part.child o c.from_residual.result) (sym c.in_err-cell.was)
          (subst (λ (o : Option (Entry g.row.R.Denot Cell)). IsOffer g.R.Rank.KEYS g.R.Rank.key c.args.tree.now c.args.entries.now.entries c.args.part.node c.args.part.row c.args.part.child None o) (sym c.from_residual.ensures) tt);
      cost = no_steps _;
    }
