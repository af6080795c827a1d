-- What a table that is added does to the tables that were there.
use Rattle.std.proofs.Common.{◌≡◌, ◌≤◌, ◌+◌, ℕ, List, [], ◌∷◌, ◌++◌, length, refl, sym, ap, subst, ◌∙◌, arith, length-append}
use Rattle.std.specs.List.{AllByRecursion}
use Rattle.std.proofs.lemmas.List.{map-append}
use Rattle.anyk_model.specs.Table.{Table}
use Rattle.table_store.specs.StoredTables.{IsStored, stored_view}
use Rattle.table_store.specs.Tables.{IsSound, KeepsTables, stored_views}
use Rattle.table_store.specs.Values.{Extends, with_rows, with_tables}
use Rattle.table_store.specs.declared.stored.StoredTable.{StoredTable}
use Rattle.table_store.proofs.Stands.{all_push, stands_more, with_rows_extends}

whole_more : (old new : List (List ℕ)) (stored : List StoredTable) → Extends old new → AllByRecursion (IsStored old) stored → AllByRecursion (IsStored new) stored
whole_more old new [] more all = tt
whole_more old new (s ∷ stored) more all = (
  record { stand = stands_more old new s.rows.cells.items s.rows.fields more all.0.stand; size = all.0.size },
  whole_more old new stored more all.1,
)

-- the texts of one more table come after those of the others
pub with_tables_push : (texts : List (List ℕ)) (tables : List Table) (table : Table) → with_tables texts (tables ++ table ∷ []) ≡ with_rows (with_tables texts tables) table.rows
with_tables_push texts [] table = refl
with_tables_push texts (t ∷ tables) table = with_tables_push (with_rows texts t.rows) tables table

module _ (stored : List StoredTable) (s : StoredTable) where
  -- the texts before and after
  abbrev old : List (List ℕ)
  old = with_tables [] (stored_views stored)

  abbrev new : List (List ℕ)
  new = with_tables [] (stored_views (stored ++ s ∷ []))

  -- a table that is stored stands after the others
  pub shown_push : stored_views (stored ++ s ∷ []) ≡ stored_views stored ++ stored_view s ∷ []
  shown_push = map-append stored_view stored (s ∷ [])

  extends : Extends old new
  extends =
      let e = with_rows_extends old (stored_view s).rows in
      (e.0, ap (with_tables []) shown_push ∙ with_tables_push [] (stored_views stored) (stored_view s) ∙ e.1)

  pub keeps_push : KeepsTables stored → IsStored (with_tables [] (stored_views stored ++ stored_view s ∷ [])) s → IsSound (stored_view s)
      → length stored + 1 ≤ 16 → KeepsTables (stored ++ s ∷ [])
  keeps_push kept whole sound few = record {
    whole = all_push (IsStored new) stored s (whole_more old new stored extends kept.whole)
        (subst (λ (tables : List Table). IsStored (with_tables [] tables) s) (sym shown_push) whole);
    sound = subst (AllByRecursion IsSound) (sym shown_push) (all_push IsSound (stored_views stored) (stored_view s) kept.sound sound);
    few = omega (arith, few, length-append stored (s ∷ []));
  }
