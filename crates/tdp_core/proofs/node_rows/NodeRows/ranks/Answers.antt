use Rattle.std.proofs.Common.{map, sym, ap, ◌∙◌}
use Rattle.tdp_core.proofs.RankedRowLists.{ranks_are}
use Rattle.tdp_core.proofs.node_rows.NodeRows.ranks.Goals as goal

pub returns : goal.returns
returns g c =
    let t = c.self.inside in
    c.deref.ensures.value ∙ sym (ranks_are t.ranks.items t.numbers.items c.self.invariant) ∙ ap (map (λ x. x.rank)) c.self.view_is
