-- Tables that are read one after another.
use Rattle.std.proofs.Common.{◌≡◌, ◌+◌, ◌<◌, ◌≤◌, ◌∷◌, ◌++◌, [], ℕ, List, length, drop, get_or, unwrap_or, Option, Result, Ok, Err, refl, sym, ap, subst, ◌∙◌, inl, inr, IfOk, OnOk}
use Rattle.std.proofs.lemmas.List.{append_assoc, append-nil, drop_all, drop_more}
use Rattle.outer_io.specs.Files.{Files}
use Rattle.anyk_model.specs.Table.{Table}
use Rattle.rankings.specs.Order.{IsMember}
use Rattle.std.specs.Result.{result_and}
use Rattle.refusals.specs.declared.refusal.Refusal.{Refusal}
use Rattle.refusals.specs.Reason.{Reason}
use Rattle.verdict.specs.Loading.{file_in, files_read, go_on, known_file, sound_table, table_in, tables_in}
use Rattle.verdict.specs.StageResults.{Pure, Shelved, Staged, NoTurn}
use Rattle.verdict.specs.Stages.{Is, then_by}
use Rattle.verdict.proofs.Staging.{found_within, pure_staged, refusal_within, wider_staged}
use Rattle.command_input.specs.Entries.{IsEntryOf, table_after, tables_of}
use Rattle.command_input.specs.StageViews.{said_as, tables_result_view}

-- ---- one table

module _ (named : List (List ℕ × List ℕ)) (entry : List ℕ × List ℕ) (is_entry : IsEntryOf named entry) (tables : List Table) where
  its_file : known_file named entry.0 ≡ entry.1
  its_file = ap (λ (o : Option (List ℕ)). unwrap_or o []) is_entry

  read_is : (files : Files) → table_after tables (then_by (file_in files entry.1) (sound_table entry.0)) ≡ table_after tables (table_in files named entry.0)
  read_is files = sym (ap (λ (name : List ℕ). table_after tables (then_by (file_in files name) (sound_table entry.0))) its_file)

  -- its file is refused
  pub file_refused : (old new : Shelved) (e : Reason) → Staged (λ files. Is (file_in files entry.1)) (λ files file. file ≡ entry.1) old new (Err e)
      → Staged (λ files. Is (table_after tables (table_in files named entry.0))) (λ files file. file ≡ entry.1) old new (Err e)
  file_refused old new e =
      refusal_within (λ files. Is (file_in files entry.1)) (λ files file. file ≡ entry.1)
      (λ files. Is (table_after tables (table_in files named entry.0))) (λ files file. file ≡ entry.1) old new e
      (λ files h. ap (λ (r : Result (List ℕ) Reason). table_after tables (then_by r (sound_table entry.0))) h ∙ read_is files)
      (λ files file h. h)

  -- its file is read, and then its records
  pub file_read : (old new : Shelved) (bytes : List ℕ) (r : Result (List Table) Reason) → Staged (λ files. Is (file_in files entry.1)) (λ files file. file ≡ entry.1) old new (Ok bytes)
      → Pure (Is (table_after tables (sound_table entry.0 bytes))) r
      → Staged (λ files. Is (table_after tables (table_in files named entry.0))) (λ files file. file ≡ entry.1) old new r
  file_read old new bytes r s h =
      found_within (λ files. Is (file_in files entry.1)) (λ files file. file ≡ entry.1) (λ files. Is (table_after tables (sound_table entry.0 bytes))) NoTurn
      (λ files. Is (table_after tables (table_in files named entry.0))) (λ files file. file ≡ entry.1) old new new bytes r
      (λ files file_is result_is. result_is ∙ ap (λ (f : Result (List ℕ) Reason). table_after tables (then_by f (sound_table entry.0))) file_is ∙ read_is files)
      (λ files name file_is no_turn. absurd no_turn) s (pure_staged (Is (table_after tables (sound_table entry.0 bytes))) new r h)

-- ---- one table after another

-- the tables that come after others
abbrev behind : List Table → Result (List Table) Reason → Result (List Table) Reason
behind tables r = then_by r (λ later. Ok (tables ++ later))

-- the tables up to i are these: with those that are left to read they are the whole
abbrev pub IsReached : List (List ℕ × List ℕ) → List (List ℕ × List ℕ) → ℕ → Files → Result (List Table) Reason → Type 0
IsReached named all i files (Ok tables) =
    (behind tables (tables_in files named (tables_of (drop i all))) ≡ tables_in files named (tables_of all))
    × ((file : List ℕ) → IsMember file (files_read files named (tables_of (drop i all))) → IsMember file (files_read files named (tables_of all)))
IsReached named all i files (Err e) = ⊥

module _ (named all : List (List ℕ × List ℕ)) (i : ℕ) (entry : List ℕ × List ℕ) (inside : i < length all) (is : entry ≡ get_or all i entry)
    (is_entry : IsEntryOf named entry) (tables : List Table) where
  left : drop i all ≡ entry ∷ drop (i + 1) all
  left = drop_more all i entry inside ∙ ap (λ (x : List ℕ × List ℕ). x ∷ drop (i + 1) all) (sym is)

  step_by : (later : Result (List Table) Reason) (t : Table)
      → behind tables (then_by later (λ tables. Ok (t ∷ tables))) ≡ behind (tables ++ t ∷ []) later
  step_by (Ok later) t = ap Ok (sym (append_assoc tables (t ∷ []) later))
  step_by (Err e) t = refl

  abbrev later_in : Files → Result (List Table) Reason
  later_in files = tables_in files named (tables_of (drop (i + 1) all))

  here_is : (files : Files) → tables_in files named (tables_of (drop i all)) ≡ then_by (table_in files named entry.0) (λ t. then_by (later_in files) (λ tables. Ok (t ∷ tables)))
  here_is files = ap (λ (l : List (List ℕ × List ℕ)). tables_in files named (tables_of l)) left

  read_here : (files : Files) → files_read files named (tables_of (drop i all))
      ≡ known_file named entry.0 ∷ go_on (table_in files named entry.0) (files_read files named (tables_of (drop (i + 1) all)))
  read_here files = ap (λ (l : List (List ℕ × List ℕ)). files_read files named (tables_of l)) left

  after_ok : (files : Files) (new : List Table) → Ok new ≡ table_after tables (table_in files named entry.0)
      → IsReached named all i files (Ok tables) → IsReached named all (i + 1) files (Ok new)
  after_ok files new e h = by (table_in files named entry.0) refl e
    where
      by : (r : Result Table Reason) → table_in files named entry.0 ≡ r → Ok new ≡ table_after tables r → IsReached named all (i + 1) files (Ok new)
      by (Err x) found e = cc
      by (Ok t) found e =
          let is_new : new ≡ tables ++ t ∷ [] = cc in (
            ap (λ (l : List Table). behind l (later_in files)) is_new ∙ sym (step_by (later_in files) t)
                ∙ sym (ap (behind tables) (here_is files ∙ ap (λ (r : Result Table Reason). then_by r (λ t. then_by (later_in files) (λ tables. Ok (t ∷ tables)))) found)) ∙ h.0,
            λ file m. h.1 file (let P : List (List ℕ) → Type 0 = IsMember file in
                subst P (sym (read_here files ∙ ap (λ (r : Result Table Reason). known_file named entry.0 ∷ go_on r (files_read files named (tables_of (drop (i + 1) all)))) found)) (inr m)),
          )

  after_err : (files : Files) (e : Reason) → Err e ≡ table_after tables (table_in files named entry.0)
      → IsReached named all i files (Ok tables) → Is (tables_in files named (tables_of all)) (Err e)
  after_err files e h reached = by (table_in files named entry.0) refl h
    where
      by : (r : Result Table Reason) → table_in files named entry.0 ≡ r → Err e ≡ table_after tables r → Is (tables_in files named (tables_of all)) (Err e)
      by (Ok t) found h = cc
      by (Err x) found h =
          let same : e ≡ x = cc in
          ap Err same ∙ sym (ap (behind tables) (here_is files ∙ ap (λ (r : Result Table Reason). then_by r (λ t. then_by (later_in files) (λ tables. Ok (t ∷ tables)))) found)) ∙ reached.0

  turn_here : (files : Files) (file : List ℕ) → IsReached named all i files (Ok tables) → file ≡ entry.1 → IsMember file (files_read files named (tables_of all))
  turn_here files file reached same =
      reached.1 file (let P : List (List ℕ) → Type 0 = IsMember file in
      subst P (sym (read_here files)) (inl (same ∙ sym (its_file named entry is_entry tables))))

  -- one table more was read
  pub reached_more : (old mid new : Shelved) (tables' : List Table)
      → Staged (IsReached named all i) (λ files file. IsMember file (files_read files named (tables_of all))) old mid (Ok tables)
      → Staged (λ files. Is (table_after tables (table_in files named entry.0))) (λ files file. file ≡ entry.1) mid new (Ok tables')
      → Staged (IsReached named all (i + 1)) (λ files file. IsMember file (files_read files named (tables_of all))) old new (Ok tables')
  reached_more old mid new tables' =
      found_within (IsReached named all i) (λ files file. IsMember file (files_read files named (tables_of all)))
      (λ files. Is (table_after tables (table_in files named entry.0))) (λ files file. file ≡ entry.1)
      (IsReached named all (i + 1)) (λ files file. IsMember file (files_read files named (tables_of all))) old mid new tables (Ok tables')
      (λ files reached e. after_ok files tables' e reached) (λ files file reached same. turn_here files file reached same)

  -- one table is refused
  pub reached_refused : (old mid new : Shelved) (e : Reason)
      → Staged (IsReached named all i) (λ files file. IsMember file (files_read files named (tables_of all))) old mid (Ok tables)
      → Staged (λ files. Is (table_after tables (table_in files named entry.0))) (λ files file. file ≡ entry.1) mid new (Err e)
      → Staged (λ files. Is (tables_in files named (tables_of all))) (λ files file. IsMember file (files_read files named (tables_of all))) old new (Err e)
  reached_refused old mid new e =
      found_within (IsReached named all i) (λ files file. IsMember file (files_read files named (tables_of all)))
      (λ files. Is (table_after tables (table_in files named entry.0))) (λ files file. file ≡ entry.1)
      (λ files. Is (tables_in files named (tables_of all))) (λ files file. IsMember file (files_read files named (tables_of all))) old mid new tables (Err e)
      (λ files reached h. after_err files e h reached) (λ files file reached same. turn_here files file reached same)

-- all tables were read
pub reached_end : (named all : List (List ℕ × List ℕ)) (i : ℕ) (tables : List Table) (old new : Shelved) → length all ≤ i
    → Staged (IsReached named all i) (λ files file. IsMember file (files_read files named (tables_of all))) old new (Ok tables)
    → Staged (λ files. Is (tables_in files named (tables_of all))) (λ files file. IsMember file (files_read files named (tables_of all))) old new (Ok tables)
reached_end named all i tables old new end =
    wider_staged (IsReached named all i) (λ files. Is (tables_in files named (tables_of all))) (λ files file. IsMember file (files_read files named (tables_of all)))
    (λ files file. IsMember file (files_read files named (tables_of all))) old new (Ok tables)
    (λ files reached. sym (sym reached.0 ∙ ap (λ (l : List (List ℕ × List ℕ)). behind tables (tables_in files named (tables_of l))) (drop_all i all end)
    ∙ ap Ok (append-nil tables)))
    (λ files file m. m)

-- the tables are handed on if none was refused
pub handed_tables : {U : Type 0} (r : Result U Refusal) (tables : List Table) → tables_result_view (result_and r (Ok tables)) ≡ said_as tables r
handed_tables (Ok u) tables = refl
handed_tables (Err refusal) tables = refl

pub handed_count : {U : Type 0} (r : Result U Refusal) (tables : List Table) (n : ℕ) → OnOk r (length tables ≡ n) → IfOk (result_and r (Ok tables)) (λ (t : List Table). length t ≡ n)
handed_count (Ok u) tables n h = h
handed_count (Err refusal) tables n h = tt
