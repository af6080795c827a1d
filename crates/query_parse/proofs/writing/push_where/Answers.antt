use Rattle.std.proofs.Common.{◌++◌, ◌∙◌, ap, append_assoc, refl, List, ℕ}
use Rattle.std.specs.Prelude.{codes}
use Rattle.query_select.specs.declared.select.Equality.{Equality}
use Rattle.query_parse.specs.Text.{equality_text, where_text}
use Rattle.query_parse.proofs.Listed.{one_more, rest_of, whole}
use Rattle.query_parse.proofs.writing.push_where.Goals as goal

more_text : Equality → List ℕ
more_text equality = codes " and " ++ equality_text equality

pub loop-equality-preserved : goal.loop-equality-preserved
unfolding more_text
loop-equality-preserved c =
    let x = c.equality-item.result in
    one_more more_text c.push_equality.new.text.items (rest_of c.args.equalities.now) c.loop-equality.equality-index c.loop-equality.text.items c.loop-equality.invariant
    x c.push_equality-in-loop-equality.new.text.items c.loop-equality-test.true c.equality-item.is
    (c.in_ok-push_equality-2.ensures ∙ ap (λ (l : List ℕ). l ++ equality_text x) c.in_ok-extend_from_slice-2.ensures.items
    ∙ append_assoc c.loop-equality.text.items (codes " and ") (equality_text x))

pub returns : goal.returns
unfolding more_text where_text
returns c =
    let x = c.first-item.result in
    whole where_text (λ (y : Equality). codes " where " ++ equality_text y) more_text (λ y ys. refl) c.args.equalities.now x
    c.args.text.now.items c.push_equality.new.text.items c.loop-equality.text.items c.loop-equality.equality-index c.in-len1-up.len_at_least c.first-item.is
    (c.in_ok-push_equality.ensures ∙ ap (λ (l : List ℕ). l ++ equality_text x) c.in_ok-extend_from_slice.ensures.items
    ∙ append_assoc c.args.text.now.items (codes " where ") (equality_text x))
    c.loop-equality-test.false c.loop-equality.invariant
