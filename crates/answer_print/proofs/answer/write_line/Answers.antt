use Rattle.std.proofs.Common.{◌≡◌, ◌++◌, [], ℕ, List, append_assoc, if◌then◌else◌, length, map, subst, take}
use Rattle.std.specs.Fmt.{decimal, signed_decimal}
use Rattle.std.specs.Result.{OnOk}
use Rattle.anyk_model.specs.Output.{optional_field, record_text}
use Rattle.anyk_model.specs.Query.{OrderKey, sum_of, value_of}
use Rattle.answer_print.specs.StyleView.{style_view}
use Rattle.answer_print.proofs.answer.write_line.Goals as goal

pub returns : goal.returns
returns c =
    let query = c.args.query.now.query in
    let tables = c.args.tables.now in
    let style = style_view c.args.style.now in
    let chosen = take (length query.items) c.args.rows.now in
    let named : List (List ℕ) = optional_field style.cursor in
    let values : List (List ℕ) = map (value_of query tables chosen) query.list in
    let numbers : List (List ℕ) = (if style.ranks then map (λ (k : OrderKey). signed_decimal (sum_of query tables chosen k)) query.order else []) ++ (if style.rows then map decimal chosen else []) in
    subst (λ (fields : List (List ℕ)). OnOk c.end.result (c.end.new.self.text ≡ record_text fields)) (append_assoc named values numbers)
    (c.end.ensures ((named ++ values) ++ numbers)
    (c.in_ok-push_shown.ensures (named ++ values) (c.in_ok-push_values.ensures named (c.in_ok-push_optional.ensures [] c.begin.ensures))))
