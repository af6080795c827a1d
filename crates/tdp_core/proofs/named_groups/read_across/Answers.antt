use Rattle.std.proofs.Common.{◌<◌, [], ◌∷◌, ◌++◌, length, take, sym, ap, ◌∙◌, arith}
use Rattle.std.proofs.lemmas.List.{get_or_default}
use Rattle.tdp_core.specs.NamedRows.{columns_in, row_across}
use Rattle.tdp_core.proofs.NamedPieces.{across_more, column_at, columns_length}
use Rattle.tdp_core.proofs.named_groups.read_across.Goals as goal

pub index-requires : goal.index-requires
index-requires c =
    let i = c.loop-column.column-index in
    let within : i < length (columns_in c.args.columns.now) = omega (arith, columns_length c.args.columns.now, c.loop-column-test.true) in
    let here = ap length (column_at c.args.columns.now i c.column-item.result c.loop-column-test.true c.column-item.is) in
    omega (arith, c.requires i [] within, here, c.column-item.result.ok.0)

pub loop-column-preserved : goal.loop-column-preserved
loop-column-preserved c =
    let i = c.loop-column.column-index in
    let v = c.column-item.result in
    let place = c.args.place in
    let within : i < length (columns_in c.args.columns.now) = omega (arith, columns_length c.args.columns.now, c.loop-column-test.true) in
    let here = ap length (column_at c.args.columns.now i v c.loop-column-test.true c.column-item.is) in
    let inside : place < length v.items = omega (arith, c.requires i [] within, here) in
    c.in_ok-push.ensures.items
    ∙ ap (λ l. l ++ c.index.result.now ∷ []) c.loop-column.invariant
    ∙ ap (λ x. row_across (columns_in (take i c.args.columns.now)) place ++ x ∷ []) (c.index.ensures ∙ get_or_default v.items place c.index.result.now 0 inside)
    ∙ sym (across_more c.args.columns.now i v place c.loop-column-test.true c.column-item.is)
