use Rattle.std.proofs.Common.{◌++◌, ◌∙◌, ap, append_assoc, refl, List, ℕ}
use Rattle.std.specs.Prelude.{codes}
use Rattle.query_select.specs.declared.select.ItemRef.{ItemRef}
use Rattle.query_parse.specs.Text.{item_text, items_text}
use Rattle.query_parse.proofs.Listed.{one_more, rest_of, whole}
use Rattle.query_parse.proofs.writing.push_items.Goals as goal

more_text : ItemRef → List ℕ
more_text item = codes ", " ++ item_text item

pub loop-item-preserved : goal.loop-item-preserved
unfolding more_text
loop-item-preserved c =
    let x = c.item-item.result in
    one_more more_text c.push_item.new.text.items (rest_of c.args.items.now) c.loop-item.item-index c.loop-item.text.items c.loop-item.invariant
    x c.push_item-in-loop-item.new.text.items c.loop-item-test.true c.item-item.is
    (c.in_ok-push_item-2.ensures ∙ ap (λ (l : List ℕ). l ++ item_text x) c.in_ok-extend_from_slice.ensures.items
    ∙ append_assoc c.loop-item.text.items (codes ", ") (item_text x))

pub returns : goal.returns
unfolding more_text items_text
returns c =
    whole items_text item_text more_text (λ y ys. refl) c.args.items.now c.first-item.result
    c.args.text.now.items c.push_item.new.text.items c.loop-item.text.items c.loop-item.item-index c.in-len1-up.len_at_least c.first-item.is
    c.in_ok-push_item.ensures
    c.loop-item-test.false c.loop-item.invariant
