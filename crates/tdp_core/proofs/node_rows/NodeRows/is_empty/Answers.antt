use Rattle.std.proofs.Common.{◌≡◌, length, nat_eq, ap, ◌∙◌, arith}
use Rattle.tdp_core.proofs.RankedRowLists.{rows_length}
use Rattle.tdp_core.proofs.node_rows.NodeRows.is_empty.Goals as goal

pub returns : goal.returns
returns g c =
    let t = c.self.inside in
    let long : t.numbers.len ≡ length c.args.self.now = omega (arith, rows_length t.ranks.items t.numbers.items c.self.invariant, ap length c.self.view_is, t.numbers.ok.0) in
    c.is_empty.ensures ∙ ap (λ n. nat_eq n 0) long
