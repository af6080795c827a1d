-- If there is a short file for each name of the command line, no file is refused.
use Rattle.std.proofs.Common.{◌≡◌, ◌+◌, ◌∷◌, ◌++◌, [], ℕ, Bool, true, false, IsTrue, if◌then◌else◌, is_some, List, Option, Some, None, Result, Ok, Err, option_map, length, ◌≤◌, unwrap_or, refl, sym, subst, arith, inl, inr}
use Rattle.std.specs.List.{AllByRecursion, list_any}
use Rattle.std.specs.Str.{bytes_eq}
use Rattle.anyk_model.specs.Query.{Query}
use Rattle.anyk_model.specs.Table.{Flaw, Table, flaw_of, no_header, too_many_columns, duplicate_name, too_many_rows, ragged, records_of}
use Rattle.make_input.specs.Input.{query_file, table_files}
use Rattle.outer_io.specs.Counts.{Rose}
use Rattle.outer_io.specs.Files.{Files, bytes_of}
use Rattle.query_bind.specs.Bind.{bind_fault}
use Rattle.query_bind.specs.Binding.{bound_query}
use Rattle.query_bind.specs.declared.fault.BindFault.{BindFault}
use Rattle.query_bind.specs.declared.fault.BindFault.TheVariants as bind
use Rattle.query_parse.specs.declared.fault.ParseFault.{ParseFault}
use Rattle.query_parse.specs.declared.fault.ParseFault.TheVariants as parse
use Rattle.query_select.specs.declared.select.ItemRef.{ItemRef}
use Rattle.query_select.specs.declared.select.Select.{Select}
use Rattle.refusals.specs.Reason as reason
use Rattle.refusals.specs.Reason.{Reason}
use Rattle.verdict.specs.Faults.{of_bind, of_flaw, of_parse}
use Rattle.verdict.specs.Loading.{SideInput, IsParse, IsReading, Loaded, all_items, are_several, bound_as, bound_from, bound_in, file_in, file_with, first_uses, first_uses_after, known_file, loaded_in, most_bytes, odd_branch, sound_table, beside_in, with_steps, table_in, table_names, table_numbers, tables_in, told_branch, unknown_table, unknown_with}
use Rattle.verdict.specs.MadeFiles.{made_files}
use Rattle.verdict.specs.StageResults.{Causes, IsStageOf, Pure, Shelved}
use Rattle.session_script.specs.Script.{unless}
use Rattle.verdict.specs.Stages.{Is, Then, followed, refused, then_by}
use Rattle.verdict.specs.Verdict.{IsAccompanied, IsBoundInput, IsLoadedOn, IsRead, IsSelected, IsTabled}
use Rattle.verdict.specs.Words.{Named, InputFiles, load, nothing, input_files_of}
use Rattle.make_input.proofs.Short.{files_short}
use Rattle.command_input.proofs.Files.{short_bytes}
use Rattle.command_input.proofs.Shapes.{odd_told}

-- the result is not that a file is missing or too large
abbrev pub NoneRefused : {A : Type 0} → Result A Reason → Type 0
NoneRefused (Err (reason.NoFile name)) = ⊥
NoneRefused (Err (reason.TooLarge name)) = ⊥
NoneRefused result = Unit {0}

-- ---- stages, one after another

same_none : (A B : Type 0) (e : Reason) → NoneRefused {A = A} (Err e) → NoneRefused {A = B} (Err e)
same_none A B (reason.NoFile name) h = h
same_none A B (reason.TooLarge name) h = h
same_none A B e h = tt

is_none : {A : Type 0} (computed r : Result A Reason) → NoneRefused computed → Is computed r → NoneRefused r
is_none computed r none is = subst NoneRefused (sym is) none

then_none : {A B : Type 0} (First : Result A Reason → Type 0) (Second : A → Result B Reason → Type 0) (r : Result B Reason)
    → ((x : Result A Reason) → First x → NoneRefused x) → ((a : A) → First (Ok a) → (y : Result B Reason) → Second a y → NoneRefused y) → Then First Second r → NoneRefused r
then_none {A} {B} First Second _ first second (refused {reason = e} h) = same_none A B e (first (Err e) h)
then_none First Second _ first second (followed {a} {result} h k) = second a h result k

then_by_none : {A B : Type 0} (r : Result A Reason) (go : A → Result B Reason) → NoneRefused r → ((a : A) → NoneRefused (go a)) → NoneRefused (then_by r go)
then_by_none (Ok a) go none each = each a
then_by_none {A} {B} (Err e) go none each = same_none A B e none

-- ---- the parts

-- a file that is there and is read whole
abbrev IsShort : Option (List ℕ) → Type 0
IsShort None = ⊥
IsShort (Some bytes) = length bytes ≤ most_bytes

file_none : (name : List ℕ) (o : Option (List ℕ)) → IsShort o → NoneRefused (file_with name o)
file_none name None held = absurd held
file_none name (Some bytes) held = subst NoneRefused (sym (short_bytes name bytes held)) tt

parse_none : (bytes : List ℕ) (r : Result Select Reason) → IsParse bytes r → NoneRefused r
parse_none bytes (Ok select) h = tt
parse_none bytes (Err e) (fault, faults, some, is) = subst (λ (a : Reason). NoneRefused {A = Select} (Err a)) (sym is) (by fault)
  where
    by : (f : ParseFault) → NoneRefused {A = Select} (Err (of_parse f))
    by parse.TooLong = tt
    by (parse.Syntax at) = tt
    by parse.TooManyBranches = tt
    by parse.TooManyItems = tt
    by parse.TooManyKeys = tt
    by (parse.LimitRange at) = tt
    by parse.NoMemory = tt

unknown_none : (named : Named) (items : List ItemRef) (selects : List Select) → NoneRefused (unless (unknown_table named items) selects)
unknown_none named [] selects = tt
unknown_none named (item ∷ items) selects = by (bytes_of named item.table) (unknown_none named items selects)
  where
    by : (o : Option (List ℕ)) → NoneRefused (unless (unknown_table named items) selects) → NoneRefused (unless (unknown_with o item.at (unknown_table named items)) selects)
    by None later = tt
    by (Some file) later = later

table_none : (name bytes : List ℕ) (t : Table) (flaw : Option Flaw) → NoneRefused (unless (option_map (of_flaw name) flaw) t)
table_none name bytes t None = tt
table_none name bytes t (Some no_header) = tt
table_none name bytes t (Some too_many_columns) = tt
table_none name bytes t (Some (duplicate_name column)) = tt
table_none name bytes t (Some too_many_rows) = tt
table_none name bytes t (Some (ragged row)) = tt

bind_none : (branch : Option ℕ) (query : Query) (fault : Option BindFault) → NoneRefused (unless (option_map (of_bind branch) fault) query)
bind_none branch query None = tt
bind_none branch query (Some (bind.DuplicateAlias item)) = tt
bind_none branch query (Some (bind.UnknownAlias at)) = tt
bind_none branch query (Some (bind.UnknownColumn at)) = tt
bind_none branch query (Some (bind.Ambiguous at)) = tt
bind_none branch query (Some (bind.BadWeight item row column)) = tt
bind_none branch query (Some (bind.RankRange key)) = tt
bind_none branch query (Some bind.NoMemory) = tt

queries_none : (names : List (List ℕ)) (tables : List Table) (several : Bool) (number : ℕ) (selects : List Select)
    → NoneRefused (bound_from names tables several number selects)
queries_none names tables several number [] = tt
queries_none names tables several number (select ∷ selects) =
    let which = table_numbers names select.items in
    then_by_none (bound_as (told_branch several number) names tables select)
    (λ query. then_by (bound_from names tables several (number + 1) selects) (λ queries. Ok (query ∷ queries)))
    (bind_none (told_branch several number) (bound_query select tables which) (bind_fault select tables which))
    (λ query. then_by_none (bound_from names tables several (number + 1) selects) (λ queries. Ok (query ∷ queries))
    (queries_none names tables several (number + 1) selects) (λ queries. tt))

shapes_none : (queries : List Query) → NoneRefused (unless (odd_branch queries) queries)
shapes_none queries = by (odd_branch queries) refl
  where
    by : (o : Option Reason) → odd_branch queries ≡ o → NoneRefused (unless o queries)
    by None is = tt
    by (Some e) is = subst (λ (x : Reason). NoneRefused {A = List Query} (Err x)) (sym (odd_told queries e is).1) tt

-- ---- the tables that items use

-- an entry names the table
abbrev IsNamed : Named → List ℕ → Type 0
IsNamed named name = IsTrue (is_some (bytes_of named name))

named_all : (named : Named) (items : List ItemRef) → unknown_table named items ≡ None → AllByRecursion (IsNamed named) (table_names items)
named_all named [] known = tt
named_all named (item ∷ items) known = (by (bytes_of named item.table) known, named_all named items (later (bytes_of named item.table) known))
  where
    by : (o : Option (List ℕ)) → unknown_with o item.at (unknown_table named items) ≡ None → IsTrue (is_some o)
    by None e = cc
    by (Some file) e = refl

    later : (o : Option (List ℕ)) → unknown_with o item.at (unknown_table named items) ≡ None → unknown_table named items ≡ None
    later None e = cc
    later (Some file) e = e

uses_all : (P : List ℕ → Type 0) (earlier names : List (List ℕ)) → AllByRecursion P names → AllByRecursion P (first_uses_after earlier names)
uses_all P earlier [] all = tt
uses_all P earlier (name ∷ names) all =
    by (list_any (λ other. bytes_eq other name) earlier) (uses_all P earlier names all.1) (uses_all P (earlier ++ name ∷ []) names all.1)
  where
    by : (b : Bool) → AllByRecursion P (first_uses_after earlier names) → AllByRecursion P (first_uses_after (earlier ++ name ∷ []) names)
        → AllByRecursion P (if b then first_uses_after earlier names else name ∷ first_uses_after (earlier ++ name ∷ []) names)
    by true known new = known
    by false known new = (all.0, new)

-- there is a short file of the name in the entry
abbrev IsHeld : Files → List ℕ × List ℕ → Type 0
IsHeld files entry = IsShort (bytes_of files entry.1)

held_file : (files : Files) (named : Named) (name : List ℕ) → AllByRecursion (IsHeld files) named → IsNamed named name
    → IsShort (bytes_of files (known_file named name))
held_file files [] name held = λ is_named. absurd (let e : ◌≡◌ {A = Bool} false true = is_named in cc)
held_file files (entry ∷ named) name held = by (bytes_eq entry.0 name) (held_file files named name held.1)
  where
    by : (b : Bool) → (IsNamed named name → IsShort (bytes_of files (known_file named name))) → IsTrue (is_some (if b then Some entry.1 else bytes_of named name))
        → IsShort (bytes_of files (unwrap_or (if b then Some entry.1 else bytes_of named name) []))
    by true later is_named = held.0
    by false later is_named = later is_named

tables_none : (files : Files) (named : Named) (names : List (List ℕ)) → AllByRecursion (IsHeld files) named → AllByRecursion (IsNamed named) names → NoneRefused (tables_in files named names)
tables_none files named [] held all = tt
tables_none files named (name ∷ names) held all =
    let file = file_none (known_file named name) (bytes_of files (known_file named name)) (held_file files named name held all.0) in
    then_by_none (table_in files named name) (λ table. then_by (tables_in files named names) (λ tables. Ok (table ∷ tables)))
    (then_by_none (file_in files (known_file named name)) (sound_table name) file (λ bytes. table_none name bytes _ (flaw_of (records_of bytes))))
    (λ table. then_by_none (tables_in files named names) (λ tables. Ok (table ∷ tables)) (tables_none files named names held all.1) (λ tables. tt))

-- ---- all together

known_is : (o : Option Reason) (selects known : List Select) → Ok known ≡ unless o selects → (o ≡ None) × (known ≡ selects)
known_is None selects known e = (refl, cc)
known_is (Some e) selects known is = cc

-- a query file with one query and tables' files, without a script and without an item
module _ (query : List ℕ) (named : Named) (files : Files) (held : AllByRecursion (IsHeld files) named) where
  abbrev asked : InputFiles
  asked = record { query = query; several = false; aside = nothing; named = named; best_of = None }

  loaded_in_none : (queries : List Query) (tables : List Table) (beside : SideInput) → NoneRefused (loaded_in None queries tables beside)
  loaded_in_none queries tables beside =
      then_by_none (unless (odd_branch queries) queries) (λ queries. Ok (record { queries = queries; tables = tables; best = None; steps = beside.steps; proof = beside.proof }))
      (shapes_none queries) (λ queries. tt)

  bound_none : (selects : List Select) (tables : List Table) (beside : SideInput) (r : Result Loaded Reason) → IsBoundInput asked selects tables beside r → NoneRefused r
  bound_none selects tables beside r =
      then_none (Is (bound_in selects tables)) (λ bound. Is (loaded_in None bound tables beside)) r
      (λ x is. is_none (bound_in selects tables) x (queries_none (first_uses (all_items selects)) tables (are_several selects) 1 selects) is)
      (λ bound given y h. is_none (loaded_in None bound tables beside) y (loaded_in_none bound tables beside) h)

  tabled_none : (selects : List Select) (beside : SideInput) → unknown_table named (all_items selects) ≡ None → (r : Result Loaded Reason) → IsTabled asked files selects beside r → NoneRefused r
  tabled_none selects beside known r =
      let all = uses_all (IsNamed named) [] (table_names (all_items selects)) (named_all named (all_items selects) known) in
      then_none (Is (tables_in files named (first_uses (all_items selects)))) (λ tables. IsBoundInput asked selects tables beside) r
      (λ x is. is_none (tables_in files named (first_uses (all_items selects))) x (tables_none files named (first_uses (all_items selects)) held all) is)
      (λ tables given y h. bound_none selects tables beside y h)

  selected_none : (selects : List Select) (beside : SideInput) (r : Result Loaded Reason) → IsSelected asked files selects beside r → NoneRefused r
  selected_none selects beside r =
      then_none (Is (unless (unknown_table named (all_items selects)) selects)) (λ known. IsTabled asked files known beside) r
      (λ x is. is_none (unless (unknown_table named (all_items selects)) selects) x (unknown_none named (all_items selects) selects) is)
      (λ known given y h.
      let is = known_is (unknown_table named (all_items selects)) selects known given in
      tabled_none known beside (subst (λ (s : List Select). unknown_table named (all_items s) ≡ None) (sym is.1) is.0) y h)

  accompanied_none : (selects : List Select) (r : Result Loaded Reason) → IsAccompanied asked files selects r → NoneRefused r
  accompanied_none selects r =
      then_none (Is (beside_in files nothing)) (IsSelected asked files selects) r (λ x is. is_none (Ok (with_steps [])) x tt is)
      (λ beside given y h. selected_none selects beside y h)

  reading_none : (bytes : List ℕ) (r : Result (List Select) Reason) → IsReading false bytes r → NoneRefused r
  reading_none bytes r =
      then_none (IsParse bytes) (λ select. Is (Ok (select ∷ []))) r (parse_none bytes) (λ select given y h. is_none (Ok (select ∷ [])) y tt h)

  read_none : (bytes : List ℕ) (r : Result Loaded Reason) → IsRead asked files bytes r → NoneRefused r
  read_none bytes r = then_none (IsReading false bytes) (IsAccompanied asked files) r (reading_none bytes) (λ selects given y h. accompanied_none selects y h)

  pub loaded_none : IsShort (bytes_of files query) → (r : Result Loaded Reason) → IsLoadedOn asked files r → NoneRefused r
  loaded_none is_held r =
      then_none (Is (file_in files query)) (IsRead asked files) r (λ x is. is_none (file_in files query) x (file_none query (bytes_of files query) is_held) is)
      (λ bytes given y h. read_none bytes y h)

-- the files that are made
pub made_none : (number rows : ℕ) → rows ≤ 100000 → (r : Result Loaded Reason) → IsLoadedOn (input_files_of (load number rows)) (made_files number rows) r → NoneRefused r
made_none number rows few =
    let short = files_short number rows few in
    loaded_none query_file table_files (made_files number rows) (short.1.0, (short.1.1.0, (short.1.1.1.0, (short.1.1.1.1.0, tt)))) short.0

-- ---- a stage over known files, none of which is refused and none of which fails

no_rise : {A : Type 0} (before now : ℕ) → before ≡ 0 → now ≡ 0 → Rose before now → A
no_rise before now first last (inl risen) = absurd (omega (arith, first, last, risen))
no_rise before now first last (inr full) = absurd (omega (arith, last, full))

pub pure_told : {A : Type 0} (G : Files → Result A Reason → Type 0) (T : Files → List ℕ → Type 0) (files : Files) (old new : Shelved) (r : Result A Reason)
    → (G files r → NoneRefused r) → IsStageOf G T (Some files) r → old.faults ≡ 0 → new.faults ≡ 0 → Causes old new r → Pure (G files) r
pure_told G T files old new (Ok a) none fits first last caused = fits
pure_told G T files old new (Err reason.NoMemory) none fits first last caused = tt
pure_told G T files old new (Err (reason.NoFile name)) none fits first last caused = none fits
pure_told G T files old new (Err (reason.TooLarge name)) none fits first last caused = none fits
pure_told G T files old new (Err (reason.ReadFault name)) none fits first last caused = no_rise old.faults new.faults first last caused
pure_told G T files old new (Err reason.WriteFault) none fits first last caused = fits
pure_told G T files old new (Err reason.Usage) none fits first last caused = fits
pure_told G T files old new (Err e) none fits first last caused = fits
