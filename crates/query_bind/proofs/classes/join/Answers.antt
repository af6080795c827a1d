use Rattle.std.proofs.Common.{◌≡◌, ◌++◌, ◌∷◌, [], ◌∙◌, sym, ap, subst, map, length, List}
use Rattle.std.proofs.lemmas.List.{length-map}
use Rattle.query_bind.specs.Labels.{IsLabelling, least_in}
use Rattle.query_bind.specs.Relabelling.{with_least}
use Rattle.bound_query.specs.StoredParts.{column_view}
use Rattle.query_bind.specs.declared.classes.Member.{Member}
use Rattle.query_bind.proofs.Labels.{joins, labels_alike, written_back}
use Rattle.query_bind.proofs.Order.{same_true}
use Rattle.query_bind.proofs.classes.join.Goals as goal

pub returns-then-eq : goal.returns-then-eq
returns-then-eq c = λ es e left right known.
    let ms = c.args.classes.now.items in
    let label_a = c.least_of-a.ensures ∙ ap (λ (l : List Member). least_in l (column_view c.args.left)) c.as_slice.ensures.value in
    let label_b = c.least_of-b.ensures ∙ ap (λ (l : List Member). least_in l (column_view c.args.right)) c.as_slice-2.ensures.value in
    let one = same_true (column_view c.least_of-a.result) (column_view c.least_of-b.result) (sym c.eq.ensures ∙ c.if-eq.true) in
    labels_alike es (least_in ms) e (column_view c.args.right) right (ap (least_in ms) left ∙ sym label_a ∙ one ∙ label_b) known

pub returns : goal.returns
returns c = λ es e left right known.
    let ms = c.args.classes.now.items in
    let p = c.in_order.result in
    let label_a = c.least_of-a.ensures ∙ ap (λ (l : List Member). least_in l (column_view c.args.left)) c.as_slice.ensures.value in
    let label_b = c.least_of-b.ensures ∙ ap (λ (l : List Member). least_in l (column_view c.args.right)) c.as_slice-2.ensures.value in
    let pushed = c.in_ok-push.ensures.items in
    let now : c.relabel.new.classes ≡ map (with_least p.0 p.1) (ms ++ record { column = p.1; least = p.1 } ∷ []) =
    c.relabel.ensures ∙ ap (map (with_least p.0 p.1)) (c.as_mut_slice.ensures.value ∙ pushed) in
    let size : length c.relabel.new.classes ≡ length c.push.new.self.items =
    ap length c.relabel.ensures ∙ length-map c.as_mut_slice.result.now (with_least p.0 p.1) ∙ ap length c.as_mut_slice.ensures.value in
    subst (λ (l : List Member). IsLabelling (es ++ e ∷ []) (least_in l))
    (sym (written_back c.relabel.new.classes c.push.new.self.items c.push.new.self.len size (c.push.new.self.ok.0) ∙ now))
    (joins ms p es e known (column_view c.args.left) (column_view c.args.right) c.least_of-a.result c.least_of-b.result label_a label_b c.in_order.ensures.both c.in_order.ensures.order left right)
