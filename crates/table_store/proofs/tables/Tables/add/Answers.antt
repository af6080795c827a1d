use Rattle.std.proofs.Common.{◌≤◌, ◌+◌, ◌∷◌, ◌++◌, [], ◌∙◌, List, ap, length, sym, subst, arith}
use Rattle.std.proofs.lemmas.List.{length-map}
use Rattle.anyk_model.specs.Table.{Table}
use Rattle.table_store.specs.StoredTables.{IsStored, stored_view}
use Rattle.table_store.specs.Tables.{stored_views}
use Rattle.table_store.specs.Values.{with_tables}
use Rattle.table_store.proofs.Kept.{keeps_push, shown_push}
use Rattle.table_store.proofs.tables.Tables.add.Goals as goal

pub invariant_of-self-2 : goal.invariant_of-self-2
invariant_of-self-2 c =
    let old = c.self.inside.tables.items in
    let few : length old + 1 ≤ 16 = omega (arith, c.requires.few, ap length c.self.view_is, length-map old stored_view) in
    let whole =
    subst (λ (tables : List Table). IsStored (with_tables [] (tables ++ stored_view c.args.table ∷ [])) c.args.table) (sym c.self.view_is) c.requires.stored in
    rw c.in_ok-push.ensures.items (keeps_push old c.args.table c.self.invariant whole c.requires.sound few)

pub returns-clause-added : goal.returns-clause-added
returns-clause-added c =
    ap stored_views c.in_ok-push.ensures.items ∙ shown_push c.self.inside.tables.items c.args.table
    ∙ ap (λ (tables : List Table). tables ++ stored_view c.args.table ∷ []) c.self.view_is
