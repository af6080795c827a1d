use Rattle.std.proofs.Common.{◌∙◌, ◌++◌, ◌∷◌, ℕ, List, [], OnOk, append_assoc, codes, if◌then◌else◌, length, refl, subst, sym}
use Rattle.std.proofs.lemmas.List.{append-nil}
use Rattle.anyk_model.specs.Output.{numbered}
use Rattle.answer_print.specs.WrittenRecords.{HasFields}
use Rattle.answer_print.proofs.Pushing.{hidden, shown, two_groups}
use Rattle.union_all.proofs.header.push_number_titles.Goals as goal
use Rattle.union_all.proofs.header.push_number_titles.Goals.{then-style+in_ok-push_numbered, else-style}

pub returns-in_ok-push : goal.returns-in_ok-push
returns-in_ok-push c = λ fields has.
    let style = c.args.style.now in
    let rank_titles = numbered (codes "rank") (length c.args.query.now.query.order) in
    let row_titles : List (List ℕ) = codes "branch" ∷ numbered (codes "row") c.args.most in
    let before : HasFields (fields ++ (if style.ranks then rank_titles else [])) c.if-style.records.begun =
    elim c.if-style.branch [
      | then-style+in_ok-push_numbered w ↦ rw (w.records-is, w.if-style.true, ← w.keys.ensures.keys) (w.in_ok-push_numbered.ensures fields has)
      | else-style w ↦ rw (w.records-is, w.if-style.false, append-nil) has
    ] in
    subst (λ (fs : List (List ℕ)). OnOk c.push_numbered-then-style-2.result (HasFields fs c.push_numbered-then-style-2.new.records.begun))
    (append_assoc _ (codes "branch" ∷ []) _ ∙ two_groups fields _ row_titles _ _ refl (shown style.rows row_titles c.if-style-2.true))
    (c.push_numbered-then-style-2.ensures _ (c.in_ok-push.ensures _ before))

pub returns-else-style-2 : goal.returns-else-style-2
returns-else-style-2 c = λ fields has.
    let style = c.args.style.now in
    let rank_titles = numbered (codes "rank") (length c.args.query.now.query.order) in
    let row_titles : List (List ℕ) = codes "branch" ∷ numbered (codes "row") c.args.most in
    let before : HasFields (fields ++ (if style.ranks then rank_titles else [])) c.if-style.records.begun =
    elim c.if-style.branch [
      | then-style+in_ok-push_numbered w ↦ rw (w.records-is, w.if-style.true, ← w.keys.ensures.keys) (w.in_ok-push_numbered.ensures fields has)
      | else-style w ↦ rw (w.records-is, w.if-style.false, append-nil) has
    ] in
    subst (λ (fs : List (List ℕ)). HasFields fs c.if-style.records.begun)
    (sym (append-nil _) ∙ two_groups fields _ [] _ _ refl (hidden style.rows row_titles c.if-style-2.false)) before
