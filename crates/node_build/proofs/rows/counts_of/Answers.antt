use Rattle.std.proofs.Common.{◌∙◌, ℕ, List, Vec, Global, length, map, ap, arith}
use Rattle.std.proofs.lemmas.List.{take_all}
use Rattle.node_build.specs.Rows.{lists_of}
use Rattle.node_build.proofs.Collected.{counts_more}
use Rattle.node_build.proofs.rows.counts_of.Goals as goal

pub loop-list-preserved : goal.loop-list-preserved
loop-list-preserved c =
    counts_more c.args.rows.now c.loop-list.list-index c.list-item.result c.loop-list.counts.items c.push.new.self.items c.len.result (omega arith) c.list-item.is
    (c.len.ensures ∙ c.list-item.result.ok.0) c.in_ok-push.ensures.items c.loop-list.invariant

pub returns : goal.returns
returns c =
    let rows = c.args.rows.now in
    let whole = take_all c.loop-list.list-index rows (omega arith) in
    c.loop-list.invariant ∙ ap (λ (vs : List (Vec ℕ Global)). map length (lists_of vs)) whole
