use Rattle.std.proofs.Common.{◌++◌, ◌∙◌, ap, append_assoc, refl, List, ℕ}
use Rattle.std.specs.Prelude.{codes}
use Rattle.query_select.specs.declared.select.ColumnRef.{ColumnRef}
use Rattle.query_parse.specs.Text.{column_text, columns_text}
use Rattle.query_parse.proofs.Listed.{one_more, rest_of, whole}
use Rattle.query_parse.proofs.writing.push_columns.Goals as goal

more_text : ColumnRef → List ℕ
more_text column = codes ", " ++ column_text column

pub loop-column-preserved : goal.loop-column-preserved
unfolding more_text
loop-column-preserved c =
    let x = c.column-item.result in
    one_more more_text c.push_column.new.text.items (rest_of c.args.columns.now) c.loop-column.column-index c.loop-column.text.items c.loop-column.invariant
    x c.push_column-in-loop-column.new.text.items c.loop-column-test.true c.column-item.is
    (c.in_ok-push_column-2.ensures ∙ ap (λ (l : List ℕ). l ++ column_text x) c.in_ok-extend_from_slice.ensures.items
    ∙ append_assoc c.loop-column.text.items (codes ", ") (column_text x))

pub returns : goal.returns
unfolding more_text columns_text
returns c =
    whole columns_text column_text more_text (λ y ys. refl) c.args.columns.now c.first-item.result
    c.args.text.now.items c.push_column.new.text.items c.loop-column.text.items c.loop-column.column-index c.in-len1-up.len_at_least c.first-item.is
    c.in_ok-push_column.ensures
    c.loop-column-test.false c.loop-column.invariant
