-- What stands at a place of the tables, and how large they are.
use Rattle.std.proofs.Common.{◌≡◌, ◌≤◌, ◌<◌, ◌+◌, ◌-◌, ◌*◌, ℕ, zero, suc, nat_lt, None, List, [], ◌∷◌, length, get_or, sym, ap, subst, ◌∙◌, arith, Vec, Global}
use Rattle.std.specs.List.{AllByRecursion}
use Rattle.std.proofs.lemmas.Bool.{ltb-false}
use Rattle.std.proofs.lemmas.List.{get_or-map, length-map}
use Rattle.anyk_model.specs.Table.{Table, field_at, header_flaw, rows_flaw, table_at, too_many_columns}
use Rattle.table_store.specs.StoredTables.{IsStored, stored_view}
use Rattle.table_store.specs.Values.{IsNumber, number_of, with_tables}
use Rattle.table_store.specs.Tables.{IsSound, KeepsTables, stored_views}
use Rattle.table_store.specs.declared.stored.StoredTable.{StoredTable}
use Rattle.table_store.proofs.Cuts.{cut_rows_cell, cut_rows_length}
use Rattle.anyk_model.proofs.Flaws.{option_or_first, option_or_second, rows_few, unmet}
use Rattle.table_store.proofs.Numbers.{known_distinct, number_is}
use Rattle.table_store.proofs.Stands.{stands_at, stands_length}

-- ---- sound tables

sound_rows : (table : Table) → IsSound table → rows_flaw (length table.names) 1 table.rows ≡ None
sound_rows table sound =
    sym (option_or_second (header_flaw table.names) (rows_flaw (length table.names) 1 table.rows)
    (option_or_first (header_flaw table.names) (rows_flaw (length table.names) 1 table.rows) sound)) ∙ sound

-- a sound table has few rows and columns, and each row has a field for each column
sound_few_rows : (table : Table) → IsSound table → length table.rows ≤ 1048576
sound_few_rows table sound = let h = rows_few (length table.names) 1 table.rows (sound_rows table sound) (omega arith) in omega arith

pub sound_few_columns : (table : Table) → IsSound table → length table.names ≤ 64
sound_few_columns table sound =
    let h = option_or_first (header_flaw table.names) (rows_flaw (length table.names) 1 table.rows) sound in
    ltb-false 64 (length table.names) (unmet (nat_lt 64 (length table.names)) too_many_columns _ h).0

-- ---- places

all_at : {A : Type 0} (P : A → Type 0) (xs : List A) (i : ℕ) (d : A) → AllByRecursion P xs → i < length xs → P (get_or xs i d)
all_at P [] i d all inside = absurd (omega arith)
all_at P (x ∷ xs) zero d all inside = all.0
all_at P (x ∷ xs) (suc i) d all inside = all_at P xs i d all.1 (omega arith)

-- the table at a place is the one that is stored there
table_at_shown : (stored : List StoredTable) (t : ℕ) (s : StoredTable) → t < length stored → s ≡ get_or stored t s
    → table_at (stored_views stored) t ≡ stored_view s
table_at_shown stored t s inside e =
    get_or-map stored_view stored t s (record { names = []; rows = [] }) inside ∙ ap stored_view (sym e)

sound_at : (tables : List Table) (t : ℕ) → AllByRecursion IsSound tables → t < length tables → IsSound (table_at tables t)
sound_at tables t all inside = all_at IsSound tables t (record { names = []; rows = [] }) all inside

-- a place in a row below the last stands below the end
place_below : (width count r c : ℕ) → r < count → c < width → r * width + c < count * width
place_below width zero r c below there = absurd (omega arith)
place_below width (suc count) zero c below there = omega arith
place_below width (suc count) (suc r) c below there = let h = place_below width count r c (omega arith) there in omega arith

-- ---- the same, of what is stored

abbrev items : Vec ℕ Global → List ℕ
items v = v.items

-- a table that is read where it is stored, and the tables as a caller sees them
pub record IsRead (stored : List StoredTable) (t : ℕ) (s : StoredTable) (now : List Table) : Type 0 where
  pub inside : t < length stored
  pub table : table_at now t ≡ stored_view s
  pub rows : length (table_at now t).rows ≡ s.rows.count
  pub columns : length (table_at now t).names ≡ length s.names.items
  pub few_rows : s.rows.count ≤ 1048576
  pub few_columns : length s.names.items ≤ 64

pub is_read : (stored : List StoredTable) (t : ℕ) (s : StoredTable) (now : List Table) → KeepsTables stored → stored_views stored ≡ now → t < length now → s ≡ get_or stored t s
    → IsRead stored t s now
is_read stored t s now kept shown below at =
    let inside : t < length stored = omega (arith, below, ap length shown, length-map stored stored_view) in
    let table = sym (ap (λ (ts : List Table). table_at ts t) shown) ∙ table_at_shown stored t s inside at in
    let count = cut_rows_length (length s.names.items) s.rows.count s.rows.fields in
    let sound = subst IsSound (table_at_shown stored t s inside at) (sound_at (stored_views stored) t kept.sound (omega (arith, inside, length-map stored stored_view))) in
    record {
      inside = inside;
      table = table;
      rows = ap (λ (u : Table). length u.rows) table ∙ count;
      columns = ap (λ (u : Table). length u.names) table ∙ length-map s.names.items items;
      few_rows = omega (arith, count, sound_few_rows (stored_view s) sound);
      few_columns = omega (arith, length-map s.names.items items, sound_few_columns (stored_view s) sound);
    }

-- where the field of a row and a column is stored, and what stands there
pub record HasCell (s : StoredTable) (now : List Table) (field : List ℕ) (place : ℕ) : Type 0 where
  pub field_there : place < length s.rows.fields
  pub cell_there : place < length s.rows.cells.items
  pub shows : get_or s.rows.fields place [] ≡ field
  pub number : (n : ℕ) → n ≡ get_or s.rows.cells.items place n → n ≡ number_of now field

pub has_cell : (stored : List StoredTable) (t : ℕ) (s : StoredTable) (now : List Table) (row c w : ℕ) → KeepsTables stored → stored_views stored ≡ now → t < length now
    → s ≡ get_or stored t s → 1 ≤ row → row ≤ length (table_at now t).rows → c < length (table_at now t).names → w ≡ length s.names.items
    → HasCell s now (field_at (table_at now t) (row - 1) c) ((row - 1) * w + c)
has_cell stored t s now row c w kept shown below at first last column wide =
    let r = is_read stored t s now kept shown below at in
    let width = length s.names.items in
    let place = (row - 1) * width + c in
    let under : row - 1 < s.rows.count = omega (arith, first, last, r.rows) in
    let there : c < width = omega (arith, column, r.columns) in
    let whole = subst (IsStored (with_tables [] (stored_views stored))) (sym at) (all_at (IsStored (with_tables [] (stored_views stored))) stored t s kept.whole r.inside) in
    let field_there : place < length s.rows.fields = omega (arith, place_below width s.rows.count (row - 1) c under there, whole.size) in
    let cell_there : place < length s.rows.cells.items = omega (arith, field_there, stands_length _ s.rows.cells.items s.rows.fields whole.stand) in
    let shows = sym (ap (λ (u : Table). field_at u (row - 1) c) r.table ∙ cut_rows_cell width s.rows.count s.rows.fields (row - 1) c [] under there) in
    subst (λ (v : ℕ). HasCell s now (field_at (table_at now t) (row - 1) c) ((row - 1) * v + c)) (sym wide) (record {
      field_there = field_there;
      cell_there = cell_there;
      shows = shows;
      number = λ n cell.
          let stands = subst (IsNumber (with_tables [] (stored_views stored)) (get_or s.rows.fields place [])) (sym cell) (stands_at _ s.rows.cells.items s.rows.fields place n whole.stand cell_there) in
          number_is _ _ n (known_distinct (stored_views stored)) stands ∙ (λ i. number_of (shown i) (shows i));
    })
