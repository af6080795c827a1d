use Rattle.std.proofs.Common.{◌≤◌, take, sym, ap, ◌∙◌, arith, take_all}
use Rattle.tdp_core.specs.NamedRows.{NamedView, pieces}
use Rattle.tdp_core.proofs.NamedPieces.{pieces_length, pieces_take}
use Rattle.tdp_core.proofs.named_groups.NamedGroups.truncate.Goals as goal

pub returns-then-count-self : goal.returns-then-count-self
returns-then-count-self c =
    let t = c.self.inside in
    let n = c.args.count in
    let less : n ≤ t.count = omega arith in
    ap (λ l. record { width = t.width; rows = pieces t.width n l }) c.truncate.ensures.items
    ∙ ap (λ ps. record { width = t.width; rows = ps }) (pieces_take t.width t.count n t.named.items less)
    ∙ ap (λ (v : NamedView). record { width = v.width; rows = take n v.rows }) c.self.view_is

pub returns-else-count-self : goal.returns-else-count-self
returns-else-count-self c =
    let t = c.self.inside in
    let n = c.args.count in
    let all = take_all n (pieces t.width t.count t.named.items) (omega (arith, pieces_length t.width t.count t.named.items)) in
    sym c.self.view_is
    ∙ ap (λ ps. record { width = t.width; rows = ps }) (sym all)
    ∙ ap (λ (v : NamedView). record { width = v.width; rows = take n v.rows }) c.self.view_is
