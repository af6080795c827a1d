use Rattle.std.proofs.Common.{◌-◌, ◌++◌, ◌∷◌, [], ◌∙◌, ℕ, List, OnOk, sym, subst}
use Rattle.anyk_model.specs.Table.{field_at, table_at}
use Rattle.answer_print.specs.WrittenRecords.{HasFields}
use Rattle.table_store.proofs.Own.{own_is_lem}
use Rattle.answer_print.proofs.answer.push_value.Goals as goal

pub returns-in-Some : goal.returns-in-Some
returns-in-Some c = λ fields has.
    let field = field_at (table_at c.args.tables.now c.args.table) (c.args.row - 1) c.args.column in
    let own = own_is_lem field c.in-Some.number (sym c.own_number.ensures ∙ c.in-Some.is) in
    subst (λ (x : List ℕ). OnOk c.push_number.result (HasFields (fields ++ x ∷ []) c.push_number.new.records.begun)) (sym own.1) (c.push_number.ensures fields has)
