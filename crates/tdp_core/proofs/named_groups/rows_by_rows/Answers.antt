use Rattle.std.proofs.Common.{◌≡◌, ◌+◌, [], ◌∷◌, ◌++◌, length, sym, ap, ◌∙◌, arith}
use Rattle.std.proofs.lemmas.List.FromFn.{length-map-range_with_len, map-range_with_len_more}
use Rattle.tdp_core.specs.NamedRows.{NamedView, columns_in, row_across}
use Rattle.tdp_core.proofs.named_groups.rows_by_rows.Goals as goal

pub push-requires-clause-few : goal.push-requires-clause-few
push-requires-clause-few c =
    let columns = columns_in c.args.columns.now in
    let long = length-map-range_with_len (row_across columns) 0 c.loop-place.place in
    omega (arith, long, ap (λ (v : NamedView). length v.rows) c.loop-place.invariant, c.requires.few)

pub loop-place-preserved : goal.loop-place-preserved
loop-place-preserved c =
    let columns = columns_in c.args.columns.now in
    let i = c.loop-place.place in
    let before = c.loop-place.invariant in
    let here : 0 + i ≡ i = omega arith in
    c.in_ok-push.ensures.ok
    ∙ ap (λ row. record { width = c.loop-place.named.width; rows = c.loop-place.named.rows ++ row ∷ [] }) (c.deref.ensures.value ∙ c.in_ok-read_across.ensures)
    ∙ ap (λ (v : NamedView). record { width = v.width; rows = v.rows ++ row_across columns i ∷ [] }) before
    ∙ ap (λ rows. record { width = length columns; rows = rows }) (sym (map-range_with_len_more (row_across columns) 0 i i here))
