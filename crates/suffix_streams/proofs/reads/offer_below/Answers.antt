use Rattle.std.proofs.Common.{sym, ◌∙◌, arith}
use Rattle.take2_heap.specs.declared.entry.Entry.{Entry}
use Rattle.suffix_streams.specs.declared.cell.Cell.{Cell}
use Rattle.suffix_streams.proofs.Exchanges.{exchanged_none, exchanged}
use Rattle.suffix_streams.proofs.reads.offer_below.Goals as goal

pub returns-in_err-cell : goal.returns-in_err-cell
returns-in_err-cell g c =
    record {
      cost = omega arith;
      offer = exchanged_none g.R.Rank.KEYS g.R.Rank.key c.args.entries.now.entries c.args.top.now c.args.below c.from_residual.result (sym c.down_cell.ensures ∙ c.in_err-cell.was) c.from_residual.ensures;
    }

pub returns : goal.returns
returns g c =
    record {
      offer =
          let e : Entry g.row.R.Denot Cell = record { rank = c.swap-rank.result; tag = c.in_ok-cell.cell } in
          exchanged g.R.Rank.KEYS g.R.Rank.key c.args.entries.now.entries c.args.top.now c.get.result.now c.get-2.result.now c.get.ensures.value c.args.below e (sym c.down_cell.ensures ∙ c.in_ok-cell.was) c.get-2.ensures.value c.swap-rank.ensures.swapped;
      cost = omega (arith, c.get.ensures.cost, c.get-2.ensures.cost, c.swap-rank.ensures.counted);
    }
