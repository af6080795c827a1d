-- Where a reading of rows stands.
use Rattle.std.proofs.Common.{Err, option_map, ◌≡◌, ◌+◌, ℕ, List, [], ◌∷◌, ◌++◌, length, Option, Some, None, refl, sym, ap, ◌∙◌, arith, append_assoc, length-append}
use Rattle.std.specs.Option.{option_or}
use Rattle.std.proofs.lemmas.List.{append-nil}
use Rattle.anyk_model.specs.Table.{Fields, Flaw, Table, flaw_of, row_flaw, rows_flaw, table_of}
use Rattle.anyk_model.proofs.Flaws.{rows_flaw_append}
use Rattle.csv_tables.specs.PlainTables.{with_row}
use Rattle.table_store.specs.Tables.{IsSound}
use Rattle.csv_tables.specs.Faults.{fault_of, refusal}
use Rattle.csv_tables.specs.declared.fault.TableFault.{TableFault}
use Rattle.csv_tables.proofs.Refusals.{flaw_tells, option_or_some}

-- some of all records are the rows of the table and have no flaw, the others are left
pub record ReadsRows (names : List (List ℕ)) (all left : List Fields) (count : ℕ) (table : Table) : Type 0 where
  pub done : List Fields
  pub split : all ≡ done ++ left
  pub sound : rows_flaw (length names) 1 done ≡ None
  pub counted : count ≡ length done
  pub shows : table ≡ table_of (names ∷ done)

pub reads_none : (names : List (List ℕ)) (all : List Fields) (table : Table) → table ≡ table_of (names ∷ []) → ReadsRows names all all 0 table
reads_none names all table shows = record { done = []; split = refl; sound = refl; counted = refl; shows = shows }

-- with none left, all are read
pub reads_all : {names : List (List ℕ)} {all left : List Fields} {count : ℕ} {table : Table} → left ≡ []
    → (r : ReadsRows names all left count table) → r.done ≡ all
reads_all none r = sym (r.split ∙ ap (λ (l : List Fields). r.done ++ l) none ∙ append-nil r.done)

module _ (names : List (List ℕ)) (all left after : List Fields) (count : ℕ) (table : Table) (fields : Fields)
    (r : ReadsRows names all left count table) (left_is : left ≡ fields ∷ after) where
  -- the flaw of the next row is that of all records
  pub turn_fault : (fault : TableFault) → Err fault ≡ refusal (row_flaw (length names) (count + 1) fields)
      → option_map fault_of (rows_flaw (length names) 1 all) ≡ Some fault
  turn_fault fault refused =
      ap (λ l. option_map fault_of (rows_flaw (length names) 1 l)) r.split
      ∙ ap (option_map fault_of) (rows_flaw_append (length names) 1 r.done left r.sound)
      ∙ (λ i. option_map fault_of (rows_flaw (length names) (number i) (left_is i)))
      ∙ option_or_some (row_flaw (length names) (count + 1) fields) (rows_flaw (length names) (count + 1 + 1) after) fault
      (flaw_tells (row_flaw (length names) (count + 1) fields) fault refused)
    where
      number : 1 + length r.done ≡ count + 1
      number = omega (arith, r.counted)

  -- the next row is read too, if it has no flaw
  pub reads_more : row_flaw (length names) (count + 1) fields ≡ None → (more : Table) → more ≡ with_row table fields
      → ReadsRows names all after (count + 1) more
  reads_more none more more_is = record {
    done = r.done ++ fields ∷ [];
    split = r.split ∙ ap (λ (l : List Fields). r.done ++ l) left_is ∙ sym (append_assoc r.done (fields ∷ []) after);
    sound = rows_flaw_append (length names) 1 r.done (fields ∷ []) r.sound
        ∙ ap (λ (k : ℕ). option_or (row_flaw (length names) k fields) None) (omega (arith, r.counted))
        ∙ ap (λ (o : Option Flaw). option_or o None) none;
    counted = omega (arith, r.counted, length-append r.done (fields ∷ []));
    shows = more_is ∙ ap (λ (t : Table). with_row t fields) r.shows;
  }

-- the table of records that have no flaw
pub sound_table : (records : List Fields) → flaw_of records ≡ None → IsSound (table_of records)
sound_table [] e = cc
sound_table (names ∷ rows) e = e
