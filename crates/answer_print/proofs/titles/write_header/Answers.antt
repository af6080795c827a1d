use Rattle.std.proofs.Common.{◌≡◌, ◌++◌, [], ℕ, List, append_assoc, codes, if◌then◌else◌, length, map, subst}
use Rattle.std.specs.Result.{OnOk}
use Rattle.anyk_model.specs.Output.{column_name, cursor_title, numbered, record_text}
use Rattle.answer_print.specs.StyleView.{style_view}
use Rattle.answer_print.specs.WrittenRecords.{HasFields}
use Rattle.answer_print.proofs.titles.write_header.Goals as goal

pub returns : goal.returns
returns c =
    let query = c.args.query.now.query in
    let tables = c.args.tables.now in
    let style = style_view c.args.style.now in
    let title : List (List ℕ) = cursor_title style in
    let names : List (List ℕ) = map (column_name query tables) query.list in
    let numbers : List (List ℕ) = (if style.ranks then numbered (codes "rank") (length query.order) else []) ++ (if style.rows then numbered (codes "row") (length query.items) else []) in
    let first = subst (λ (fields : List (List ℕ)). HasFields fields c.push_optional.new.records.begun) c.title_of_cursor.ensures (c.in_ok-push_optional.ensures [] c.begin.ensures) in
    subst (λ (fields : List (List ℕ)). OnOk c.end.result (c.end.new.self.text ≡ record_text fields)) (append_assoc title names numbers)
    (c.end.ensures ((title ++ names) ++ numbers) (c.in_ok-push_number_titles.ensures (title ++ names) (c.in_ok-push_names.ensures title first)))
