-- `load` is accepted: its stages, one after another.
use Rattle.std.proofs.Common.{◌≡◌, ◌⊎◌, ◌≤◌, ◌+◌, ◌*◌, ◌/◌, ℕ, List, [], ◌∷◌, length, Option, Some, None, option_map, Result, Ok, Err, refl, sym, ap, ◌∙◌, inl, inr, arith}
use Rattle.std.specs.Prelude.{codes}
use Rattle.std.proofs.lemmas.Bool.{cases_eq, le-ltb}
use Rattle.csv.specs.Reading.{strip_bom}
use Rattle.csv.specs.Writing.{fields_text, is_blank}
use Rattle.outer_io.specs.Files.{Files}
use Rattle.anyk_model.specs.Table.{Fields, Flaw, Table, flaw_of, table_of}
use Rattle.make_input.specs.Input.{draw, load_query, table_files, table_text}
use Rattle.make_input.proofs.Short.{files_short}
use Rattle.query_bind.specs.declared.fault.BindFault.{BindFault}
use Rattle.refusals.specs.Reason as reason
use Rattle.refusals.specs.Reason.{Reason, status_of}
use Rattle.verdict.specs.Faults.{of_bind, of_flaw}
use Rattle.verdict.specs.AcceptedInput.{AcceptedInput, found_of}
use Rattle.verdict.specs.Loading.{Loaded, bound_in, first_uses, most_bytes, no_certificate, short_enough, sound_table}
use Rattle.verdict.specs.Loading.{tables_in, with_steps}
use Rattle.verdict.specs.MadeFiles.{made_files}
use Rattle.verdict.specs.Outcome.{IsReason}
use Rattle.session_script.specs.Script.{unless}
use Rattle.verdict.specs.Stages.{followed, then_by}
use Rattle.verdict.specs.Verdict.{IsLoaded, IsVerdict}
use Rattle.verdict.specs.Words.{Asked, Command, a_command, load, no_command}
use Rattle.verdict.proofs.One.{one_verdict}
use Rattle.load_law.specs.Laws.{LoadAccepted, LoadEnds}
use Rattle.load_law.proofs.Bound.{bind_sound, four_tables, load_bound, names_1, names_2, names_3, names_4}
use Rattle.load_law.proofs.Parsed.{load_parsed, load_select}
use Rattle.load_law.proofs.Records.{IsHeaderOf, made_count, made_records, made_rows, no_flaw}
use Rattle.load_law.proofs.Shaped.{load_is_shaped, load_shape}
use Rattle.load_law.proofs.Weights.{rows_weighed}

-- ---- the tables

header_1 : IsHeaderOf (codes "a,b,w\n") names_1
unfolding strip_bom is_blank fields_text
header_1 = record { written = refl; bare = λ rest. refl; three = refl; sound = refl }

header_2 : IsHeaderOf (codes "b,c,w\n") names_2
unfolding strip_bom is_blank fields_text
header_2 = record { written = refl; bare = λ rest. refl; three = refl; sound = refl }

header_3 : IsHeaderOf (codes "c,d,w\n") names_3
unfolding strip_bom is_blank fields_text
header_3 = record { written = refl; bare = λ rest. refl; three = refl; sound = refl }

header_4 : IsHeaderOf (codes "d,e,w\n") names_4
unfolding strip_bom is_blank fields_text
header_4 = record { written = refl; bare = λ rest. refl; three = refl; sound = refl }

file_short : (name bytes : List ℕ) → length bytes ≤ 67108864 → short_enough name bytes ≡ Ok bytes
file_short name bytes few = let within = le-ltb most_bytes (length bytes) few in rw within refl

module _ (name header : List ℕ) (names : Fields) (rows x : ℕ) (is : IsHeaderOf header names) (few : rows ≤ 100000) where
  abbrev text : List ℕ
  text = table_text header (rows / 100 + 1) rows x

  abbrev table : Table
  table = record { names = names; rows = made_rows (rows / 100 + 1) rows x }

  table_sound : sound_table name text ≡ Ok table
  table_sound =
      ap (λ (found : List Fields). unless (option_map (of_flaw name) (flaw_of found)) (table_of found)) (made_records header names (rows / 100 + 1) rows x is (omega arith) (omega arith))
      ∙ ap (λ (flaw : Option Flaw). unless (option_map (of_flaw name) flaw) table) (no_flaw header names (rows / 100 + 1) rows x is few)

  table_found : (file : List ℕ) → length text ≤ 67108864 → then_by (short_enough file text) (sound_table name) ≡ Ok table
  table_found file short = ap (λ (bytes : Result (List ℕ) Reason). then_by bytes (sound_table name)) (file_short file text short) ∙ table_sound

-- a table and the tables after it
tables_then : (first : Result Table Reason) (later : Result (List Table) Reason) (t : Table) (ts : List Table) → first ≡ Ok t → later ≡ Ok ts
    → then_by first (λ table. then_by later (λ tables. Ok (table ∷ tables))) ≡ Ok (t ∷ ts)
tables_then first later t ts e f = rw (e, f) refl

module _ (number rows : ℕ) (few : rows ≤ 100000) where
  abbrev modulus : ℕ
  modulus = rows / 100 + 1

  abbrev rows_1 : List Fields
  rows_1 = made_rows modulus rows number

  abbrev rows_2 : List Fields
  rows_2 = made_rows modulus rows (draw number (2 * rows))

  abbrev rows_3 : List Fields
  rows_3 = made_rows modulus rows (draw number (4 * rows))

  abbrev rows_4 : List Fields
  rows_4 = made_rows modulus rows (draw number (6 * rows))

  abbrev load_tables : List Table
  load_tables = four_tables rows_1 rows_2 rows_3 rows_4

  tables_found : tables_in (made_files number rows) table_files (first_uses load_select.items) ≡ Ok load_tables
  tables_found =
      let short = files_short number rows few in
      tables_then _ _ _ _ (table_found (codes "P1") (codes "a,b,w\n") names_1 rows number header_1 few (codes "P1.csv") short.1.0)
      (tables_then _ _ _ _ (table_found (codes "P2") (codes "b,c,w\n") names_2 rows (draw number (2 * rows)) header_2 few (codes "P2.csv") short.1.1.0)
      (tables_then _ _ _ _ (table_found (codes "P3") (codes "c,d,w\n") names_3 rows (draw number (4 * rows)) header_3 few (codes "P3.csv") short.1.1.1.0)
      (tables_then _ _ _ _ (table_found (codes "P4") (codes "d,e,w\n") names_4 rows (draw number (6 * rows)) header_4 few (codes "P4.csv") short.1.1.1.1.0)
      refl)))

  query_found : bound_in (load_select ∷ []) load_tables ≡ Ok (load_bound ∷ [])
  query_found =
      ap (λ (fault : Option BindFault). then_by (unless (option_map (of_bind None) fault) load_bound) (λ query. Ok (query ∷ [])))
      (bind_sound rows_1 rows_2 rows_3 rows_4 (rows_weighed modulus rows number) (rows_weighed modulus rows (draw number (2 * rows)))
      (rows_weighed modulus rows (draw number (4 * rows))) (rows_weighed modulus rows (draw number (6 * rows))))

  -- ---- the stages

  abbrev load_found : Loaded
  load_found = record { queries = load_bound ∷ []; tables = load_tables; best = None; steps = []; proof = no_certificate }

  loaded : (given : Files) → IsLoaded (a_command (load number rows)) given (Ok load_found)
  loaded given =
      followed {a = load_query} refl (followed {a = load_select ∷ []} (followed {a = load_select} load_parsed refl)
      (followed {a = with_steps []} refl (followed {a = load_select ∷ []} refl
      (followed {a = load_tables} (sym tables_found) (followed {a = load_bound ∷ []} (sym query_found) refl)))))

  pub is_accepted : (given : Files) → IsVerdict (a_command (load number rows)) given (Ok (found_of load_found (load_shape rows ∷ [])))
  is_accepted given =
      let shaped = load_is_shaped rows_1 rows_2 rows_3 rows_4 rows (made_count modulus rows number) (made_count modulus rows (draw number (2 * rows)))
      (made_count modulus rows (draw number (4 * rows))) (made_count modulus rows (draw number (6 * rows))) few in
      followed {a = load_found} (loaded given)
      (followed {a = load_shape rows ∷ []} (followed {a = load_shape rows} shaped (followed {a = []} refl refl)) refl)

pub accepted : LoadAccepted
accepted number rows in_range some few given = (found_of (load_found number rows few) (load_shape rows ∷ []), is_accepted number rows few given)

-- ---- how a call ends

accepted_only : {found : AcceptedInput} {refusal : Reason} → ◌≡◌ {A = Result AcceptedInput Reason} (Ok found) (Err refusal) → ⊥
accepted_only e = cc

is_command : {command : Command} → ◌≡◌ {A = Asked} (a_command command) no_command → ⊥
is_command e = cc

module _ (number rows : ℕ) (found : AcceptedInput) (v : IsVerdict (a_command (load number rows)) [] (Ok found)) where
  ends_by : (e : Reason) → IsReason (a_command (load number rows)) (Some []) e → (status_of e ≡ 0) ⊎ ((status_of e ≡ 11) ⊎ (status_of e ≡ 12))
  ends_by reason.Usage h = absurd (is_command h)
  ends_by (reason.ReadFault name) h = absurd h
  ends_by reason.WriteFault h = inr (inl refl)
  ends_by reason.NoMemory h = inr (inr refl)
  ends_by e h = absurd (accepted_only (one_verdict (a_command (load number rows)) [] (Ok found) (Err e) v h))

same_end : (a b : ℕ) → a ≡ b → (a ≡ 0) ⊎ ((a ≡ 11) ⊎ (a ≡ 12)) → (b ≡ 0) ⊎ ((b ≡ 11) ⊎ (b ≡ 12))
same_end a b e (inl h) = inl (sym e ∙ h)
same_end a b e (inr (inl h)) = inr (inl (sym e ∙ h))
same_end a b e (inr (inr h)) = inr (inr (sym e ∙ h))

pub ends : LoadEnds
ends number rows in_range some few told old new status outcome = elim (cases_eq status 0) [
  | inl e ↦ inl e
  | inr ne ↦
      let refused = outcome.refused ne in
      let v = accepted number rows in_range some few [] in
      same_end (status_of refused.0) status refused.1 (ends_by number rows v.0 v.1 refused.0 refused.2.fits)
]
