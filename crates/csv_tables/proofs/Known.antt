-- The texts of tables, as one is added.
use Rattle.std.proofs.Common.{◌≡◌, List, [], ◌∷◌, ◌++◌, ℕ, take, length, sym, ap, ◌∙◌}
use Rattle.std.proofs.Math.Seq.{take-append_seam}
use Rattle.anyk_model.specs.Table.{Table}
use Rattle.table_store.specs.Values.{Extends, with_rows, with_tables}
use Rattle.table_store.proofs.Kept.{with_tables_push}

-- the texts with those of one more table, as it is shown, are those of all tables
pub texts_after : (old new : List (List ℕ)) (tables : List Table) (table shown : Table) → old ≡ with_tables [] tables → new ≡ with_rows old table.rows
    → shown ≡ table → new ≡ with_tables [] (tables ++ shown ∷ [])
texts_after old new tables table shown known more shows =
    more ∙ ap (λ t. with_rows t table.rows) known ∙ sym (with_tables_push [] tables table)
    ∙ ap (λ (t : Table). with_tables [] (tables ++ t ∷ [])) (sym shows)

-- those that were there, if the others are taken off
pub texts_back : (old new cut : List (List ℕ)) → Extends old new → cut ≡ take (length old) new → cut ≡ old
texts_back old new cut more e = e ∙ ap (take (length old)) more.1 ∙ take-append_seam old more.0
