use Rattle.std.proofs.Common.{◌∙◌, ◌+◌, ◌++◌, ◌∷◌, ℕ, List, [], OnOk, if◌then◌else◌, map, refl, subst, sym}
use Rattle.std.specs.Fmt.{decimal, signed_decimal}
use Rattle.std.proofs.lemmas.List.{append-nil}
use Rattle.anyk_model.specs.Query.{OrderKey, sum_of}
use Rattle.answer_print.specs.WrittenRecords.{HasFields}
use Rattle.answer_print.proofs.Pushing.{hidden, shown, two_groups}
use Rattle.union_all.specs.Rows.{rows_of}
use Rattle.union_all.proofs.line.push_shown.Goals as goal
use Rattle.union_all.proofs.line.push_shown.Goals.{then-style+in_ok-push_sums, else-style}

pub returns-then-style-2 : goal.returns-then-style-2
returns-then-style-2 c = λ fields has.
    let query = c.args.query.now in
    let style = c.args.style.now in
    let chosen = rows_of query c.args.tagged.now.rows in
    let sums : List (List ℕ) = map (λ (k : OrderKey). signed_decimal (sum_of query.query c.args.tables.now chosen k)) query.query.order in
    let places : List (List ℕ) = decimal (c.args.tagged.now.branch + 1) ∷ map decimal chosen in
    let before : HasFields (fields ++ (if style.ranks then sums else [])) c.if-style.records.begun =
    elim c.if-style.branch [
      | then-style+in_ok-push_sums w ↦ rw (w.records-is, w.if-style.true) (w.in_ok-push_sums.ensures fields has)
      | else-style w ↦ rw (w.records-is, w.if-style.false, append-nil) has
    ] in
    subst (λ (fs : List (List ℕ)). OnOk c.push_places.result (HasFields fs c.push_places.new.records.begun)) (two_groups fields _ _ _ _ refl (shown style.rows places c.if-style-2.true))
    (c.push_places.ensures _ before)

pub returns-else-style-2 : goal.returns-else-style-2
returns-else-style-2 c = λ fields has.
    let query = c.args.query.now in
    let style = c.args.style.now in
    let chosen = rows_of query c.args.tagged.now.rows in
    let sums : List (List ℕ) = map (λ (k : OrderKey). signed_decimal (sum_of query.query c.args.tables.now chosen k)) query.query.order in
    let places : List (List ℕ) = decimal (c.args.tagged.now.branch + 1) ∷ map decimal chosen in
    let before : HasFields (fields ++ (if style.ranks then sums else [])) c.if-style.records.begun =
    elim c.if-style.branch [
      | then-style+in_ok-push_sums w ↦ rw (w.records-is, w.if-style.true) (w.in_ok-push_sums.ensures fields has)
      | else-style w ↦ rw (w.records-is, w.if-style.false, append-nil) has
    ] in
    subst (λ (fs : List (List ℕ)). HasFields fs c.if-style.records.begun)
    (sym (append-nil _) ∙ two_groups fields _ [] _ _ refl (hidden style.rows places c.if-style-2.false)) before
