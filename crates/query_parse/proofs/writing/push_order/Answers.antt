use Rattle.std.proofs.Common.{◌++◌, ◌∙◌, ap, append_assoc, refl, List, ℕ}
use Rattle.std.specs.Prelude.{codes}
use Rattle.query_select.specs.declared.select.KeyRef.{KeyRef}
use Rattle.query_parse.specs.Text.{key_text, order_text}
use Rattle.query_parse.proofs.Listed.{one_more, rest_of, whole}
use Rattle.query_parse.proofs.writing.push_order.Goals as goal

more_text : KeyRef → List ℕ
more_text key = codes ", " ++ key_text key

pub loop-key-preserved : goal.loop-key-preserved
unfolding more_text
loop-key-preserved c =
    let x = c.key-item.result in
    one_more more_text c.push_key.new.text.items (rest_of c.args.keys.now) c.loop-key.key-index c.loop-key.text.items c.loop-key.invariant
    x c.push_key-in-loop-key.new.text.items c.loop-key-test.true c.key-item.is
    (c.in_ok-push_key-2.ensures ∙ ap (λ (l : List ℕ). l ++ key_text x) c.in_ok-extend_from_slice-2.ensures.items
    ∙ append_assoc c.loop-key.text.items (codes ", ") (key_text x))

pub returns : goal.returns
unfolding more_text order_text
returns c =
    let x = c.first-item.result in
    whole order_text (λ (y : KeyRef). codes " order by " ++ key_text y) more_text (λ y ys. refl) c.args.keys.now x
    c.args.text.now.items c.push_key.new.text.items c.loop-key.text.items c.loop-key.key-index c.in-len1-up.len_at_least c.first-item.is
    (c.in_ok-push_key.ensures ∙ ap (λ (l : List ℕ). l ++ key_text x) c.in_ok-extend_from_slice.ensures.items
    ∙ append_assoc c.args.text.now.items (codes " order by ") (key_text x))
    c.loop-key-test.false c.loop-key.invariant
