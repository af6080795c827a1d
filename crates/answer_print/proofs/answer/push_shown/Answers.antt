use Rattle.std.proofs.Common.{◌∙◌, ◌++◌, ℕ, List, [], OnOk, if◌then◌else◌, length, map, refl, subst, sym, take}
use Rattle.std.specs.Fmt.{decimal, signed_decimal}
use Rattle.std.proofs.lemmas.List.{append-nil}
use Rattle.anyk_model.specs.Query.{OrderKey, sum_of}
use Rattle.answer_print.specs.WrittenRecords.{HasFields}
use Rattle.answer_print.proofs.Pushing.{hidden, shown, two_groups}
use Rattle.answer_print.proofs.answer.push_shown.Goals as goal
use Rattle.answer_print.proofs.answer.push_shown.Goals.{then-style+in_ok-push_each_sum, else-style}

pub returns-then-style-2 : goal.returns-then-style-2
returns-then-style-2 c = λ fields has.
    let query = c.args.query.now.query in
    let style = c.args.style.now in
    let chosen = take (length query.items) c.args.rows.now in
    let sums : List (List ℕ) = map (λ (k : OrderKey). signed_decimal (sum_of query c.args.tables.now chosen k)) query.order in
    let before : HasFields (fields ++ (if style.ranks then sums else [])) c.if-style.records.begun =
    elim c.if-style.branch [
      | then-style+in_ok-push_each_sum w ↦ rw (w.records-is, w.if-style.true) (w.in_ok-push_each_sum.ensures fields has)
      | else-style w ↦ rw (w.records-is, w.if-style.false, append-nil) has
    ] in
    subst (λ (fs : List (List ℕ)). OnOk c.push_rows.result (HasFields fs c.push_rows.new.records.begun)) (two_groups fields _ _ _ _ refl (shown style.rows (map decimal chosen) c.if-style-2.true))
    (c.push_rows.ensures _ before)

pub returns-else-style-2 : goal.returns-else-style-2
returns-else-style-2 c = λ fields has.
    let query = c.args.query.now.query in
    let style = c.args.style.now in
    let chosen = take (length query.items) c.args.rows.now in
    let sums : List (List ℕ) = map (λ (k : OrderKey). signed_decimal (sum_of query c.args.tables.now chosen k)) query.order in
    let before : HasFields (fields ++ (if style.ranks then sums else [])) c.if-style.records.begun =
    elim c.if-style.branch [
      | then-style+in_ok-push_each_sum w ↦ rw (w.records-is, w.if-style.true) (w.in_ok-push_each_sum.ensures fields has)
      | else-style w ↦ rw (w.records-is, w.if-style.false, append-nil) has
    ] in
    subst (λ (fs : List (List ℕ)). HasFields fs c.if-style.records.begun)
    (sym (append-nil _) ∙ two_groups fields _ [] _ _ refl (hidden style.rows (map decimal chosen) c.if-style-2.false)) before
