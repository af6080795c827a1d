use Rattle.std.proofs.Common.{List, [], ◌∷◌, cond, map, sym, ap, ◌∙◌}
use Rattle.suffix_streams.proofs.Errors.{none_given}
use Rattle.suffix_streams.proofs.product.Sums.of.Goals as goal

pub returns-in_err-sums : goal.returns-in_err-sums
returns-in_err-sums g c =
    record {
      ranks = none_given _ c.from_residual.result c.from_residual.ensures.0;
      cells = none_given _ c.from_residual.result c.from_residual.ensures.0;
    }

pub returns-in_err-cells : goal.returns-in_err-cells
returns-in_err-cells g c =
    record {
      ranks = none_given _ c.from_residual-in_err-cells.result c.from_residual-in_err-cells.ensures.0;
      cells = none_given _ c.from_residual-in_err-cells.result c.from_residual-in_err-cells.ensures.0;
    }

pub returns-in_ok-sums : goal.returns-in_ok-sums
returns-in_ok-sums g c =
    record {
      cells = ap (λ l. map (λ e. e.tag) l) c.in_ok-sums.ensures;
      ranks = ap (λ l. map (λ e. e.rank) l) c.in_ok-sums.ensures ∙ ap (λ b. cond {A = List g.row.R.Denot} b (c.args.sum.rank ∷ []) []) (sym c.if-keeps_ranks.true);
    }

pub returns-in_ok-cells : goal.returns-in_ok-cells
returns-in_ok-cells g c =
    record {
      ranks = ap (λ b. cond {A = List g.row.R.Denot} b (c.args.sum.rank ∷ []) []) (sym c.if-keeps_ranks.false);
      cells = c.in_ok-cells.ensures;
    }
