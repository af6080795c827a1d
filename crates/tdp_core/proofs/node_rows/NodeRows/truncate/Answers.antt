use Rattle.std.proofs.Common.{take, ap, ◌∙◌}
use Rattle.tdp_core.specs.RankedRows.{ranked_rows}
use Rattle.tdp_core.proofs.RankedRowLists.{rows_take}
use Rattle.tdp_core.proofs.node_rows.NodeRows.truncate.Goals as goal

pub returns : goal.returns
returns g c =
    let t = c.self.inside in
    let n = c.args.count in
    ap (λ l. ranked_rows l c.truncate-2.new.self.items) c.truncate.ensures.items ∙ ap (ranked_rows (take n t.ranks.items)) c.truncate-2.ensures.items
    ∙ rows_take t.ranks.items t.numbers.items n ∙ ap (take n) c.self.view_is
