use Rattle.std.proofs.Common.{◌≡◌, ◌∙◌, ℕ, List, [], ap, codes, if◌then◌else◌, length, subst}
use Rattle.std.specs.Result.{OnOk}
use Rattle.anyk_model.specs.Output.{numbered}
use Rattle.answer_print.specs.WrittenRecords.{HasFields}
use Rattle.answer_print.proofs.Pushing.{hidden, shown, two_groups}
use Rattle.answer_print.proofs.titles.push_number_titles.Goals as goal
use Rattle.answer_print.proofs.titles.push_number_titles.Goals.{then-style, else-style, then-style-2, else-style-2}

pub returns : goal.returns
returns c = λ fields has.
    let query = c.args.query.now.query in
    let style = c.args.style.now in
    let rank_titles = numbered (codes "rank") (length query.order) in
    let row_titles = numbered (codes "row") (length query.items) in
    let ranks : numbered (codes "rank") c.if-style.ranks ≡ (if style.ranks then rank_titles else []) =
    elim c.if-style.branch [
      | then-style w ↦ ap (numbered (codes "rank")) (w.ranks-is ∙ w.keys-ranks.ensures.keys) ∙ shown style.ranks rank_titles w.if-style.true
      | else-style w ↦ ap (numbered (codes "rank")) w.ranks-is ∙ hidden style.ranks rank_titles w.if-style.false
    ] in
    let rows : numbered (codes "row") c.if-style-2.rows ≡ (if style.rows then row_titles else []) =
    elim c.if-style-2.branch [
      | then-style-2 w ↦ ap (numbered (codes "row")) (w.rows-is ∙ w.items-rows.ensures.items) ∙ shown style.rows row_titles w.if-style-2.true
      | else-style-2 w ↦ ap (numbered (codes "row")) w.rows-is ∙ hidden style.rows row_titles w.if-style-2.false
    ] in
    subst (λ (fs : List (List ℕ)). OnOk c.push_numbered-2.result (HasFields fs c.push_numbered-2.new.records.begun)) (two_groups fields _ _ _ _ ranks rows)
    (c.push_numbered-2.ensures _ (c.in_ok-push_numbered.ensures fields has))
