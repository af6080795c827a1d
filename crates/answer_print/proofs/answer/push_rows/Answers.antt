use Rattle.std.proofs.Common.{ℕ, List, map, take, refl, subst, ap, ◌∙◌, ◌++◌}
use Rattle.std.specs.Fmt.{decimal}
use Rattle.std.proofs.lemmas.List.{take_all}
use Rattle.answer_print.specs.WrittenRecords.{HasFields}
use Rattle.answer_print.proofs.Pushing.{element_more}
use Rattle.answer_print.proofs.answer.push_rows.Goals as goal

pub loop-row-preserved : goal.loop-row-preserved
loop-row-preserved c = λ fields has.
    let rows = take c.items-items.result c.args.rows.now in
    let more = element_more decimal fields rows c.loop-row.row-index 0 _ refl c.loop-row-test.true in
    subst (λ (fs : List (List ℕ)). HasFields fs c.push_number.new.records.begun) more (c.in_ok-push_number.ensures _ (c.loop-row.invariant fields has))

pub returns : goal.returns
returns c = λ fields has.
    let all = take_all _ _ c.loop-row-test.false ∙ ap (λ (n : ℕ). take n c.args.rows.now) c.items-items.ensures.items in
    subst (λ (rows : List ℕ). HasFields (fields ++ map decimal rows) c.loop-row.records.begun) all (c.loop-row.invariant fields has)
