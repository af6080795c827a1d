-- The records of a made file, and its table.
use Rattle.std.proofs.Common.{◌≡◌, ◌<◌, ◌≤◌, ℕ, zero, suc, ◌+◌, ◌*◌, ◌/◌, ◌%◌, ◌-◌, List, [], ◌∷◌, ◌++◌, map, length, None, false, refl, sym, ap, ◌∙◌, arith, append_assoc, append-nil, length-append}
use Rattle.std.specs.Prelude.{decimal}
use Rattle.std.specs.List.{AllByRecursion, list_any}
use Rattle.std.specs.Str.Parse.{AllDigits}
use Rattle.std.proofs.lemmas.Bool.{eq-eqb, le-ltb, ne_eqb}
use Rattle.std.proofs.lemmas.Fmt.{decimal_is_IsNumeral}
use Rattle.std.proofs.lemmas.Str.Parse.{digit_from_value}
use Rattle.csv.specs.Machine.{next_record}
use Rattle.csv.specs.Reading.{default_config, records, records_from, strip_bom}
use Rattle.csv.specs.Writing as csv
use Rattle.csv.specs.Writing.{default_writer, fields_text, is_blank, needs_byte, read_back}
use Rattle.csv.specs.declared.parser.State.TheVariants as st
use Rattle.csv.proofs.RoundTrip as csv_text
use Rattle.csv.proofs.RoundTrip.{read-write}
use Rattle.anyk_model.specs.Table.{Fields, flaw_of, header_flaw, most_rows, records_of, rows_flaw}
use Rattle.query_bind.proofs.Found.{all_append}
use Rattle.make_input.specs.Input.{draw, row_text, rows_text, table_text}

-- the fields of a made row, from the two draws after x
abbrev pub made_row : ℕ → ℕ → Fields
made_row modulus x =
    decimal (((draw x 1 / 128) / 4096) % modulus) ∷ decimal (((draw x 1 / 128) % 4096) % modulus) ∷ decimal ((draw x 2 / 65536) % 1000) ∷ []

-- the made rows, each from the two draws after those of the row before
unfoldable pub made_rows : ℕ → ℕ → ℕ → List Fields
made_rows modulus zero x = []
made_rows modulus (suc n) x = made_rows modulus n x ++ made_row modulus (draw x (2 * n)) ∷ []

-- ---- the text of a row

plain_digits : (bytes : List ℕ) → AllDigits 10 bytes → list_any (needs_byte default_writer) bytes ≡ false
plain_digits [] digits = refl
plain_digits (b ∷ bytes) digits =
    let bounds = digit_from_value b digits.0 in
    rw (ne_eqb b 44 (omega (arith, bounds)), ne_eqb b 34 (omega (arith, bounds)), ne_eqb b 13 (omega (arith, bounds)), ne_eqb b 10 (omega (arith, bounds)))
    (plain_digits bytes digits.1)

plain_decimal : (n : ℕ) → n < 2000000000 → list_any (needs_byte default_writer) (decimal n) ≡ false
plain_decimal n small = plain_digits (decimal n) (decimal_is_IsNumeral n (omega (arith, small))).0.1

three_written : (a b c : List ℕ) → list_any (needs_byte default_writer) a ≡ false → list_any (needs_byte default_writer) b ≡ false
    → list_any (needs_byte default_writer) c ≡ false → csv.row_text default_writer (a ∷ b ∷ c ∷ []) ≡ a ++ 44 ∷ [] ++ b ++ 44 ∷ [] ++ c ++ 10 ∷ []
unfolding is_blank fields_text
three_written a b c p q r = rw (p, q, r) (simp (append_assoc, append-nil))

row_written : (modulus x : ℕ) → 1 ≤ modulus → modulus ≤ 1001 → row_text modulus x ≡ csv.row_text default_writer (made_row modulus x)
unfolding row_text
row_written modulus x some few =
    sym (three_written _ _ _ (plain_decimal (((draw x 1 / 128) / 4096) % modulus) (omega arith))
    (plain_decimal (((draw x 1 / 128) % 4096) % modulus) (omega arith)) (plain_decimal ((draw x 2 / 65536) % 1000) (omega arith)))

-- ---- the text of rows

row_after : (rows : List Fields) (row : Fields) → csv_text.rows_text (rows ++ row ∷ []) ≡ csv_text.rows_text rows ++ csv.row_text default_writer row
unfolding csv_text.rows_text
row_after [] row = append-nil (csv.row_text default_writer row)
row_after (first ∷ rows) row =
    ap (λ (bytes : List ℕ). csv.row_text default_writer first ++ bytes) (row_after rows row)
    ∙ sym (append_assoc (csv.row_text default_writer first) (csv_text.rows_text rows) (csv.row_text default_writer row))

rows_written : (modulus n x : ℕ) → 1 ≤ modulus → modulus ≤ 1001 → rows_text modulus n x ≡ csv_text.rows_text (made_rows modulus n x)
unfolding rows_text made_rows csv_text.rows_text
rows_written modulus zero x some few = refl
rows_written modulus (suc n) x some few =
    rw (rows_written modulus n x some few, row_written modulus (draw x (2 * n)) some few)
    (sym (row_after (made_rows modulus n x) (made_row modulus (draw x (2 * n)))))

-- ---- reading them back

none_left : (more : ℕ) → records_from default_config more st.StartRecord [] ≡ []
unfolding records_from next_record
none_left zero = refl
none_left (suc n) = refl

read_rows : (rows : List Fields) (more : ℕ) → records_from default_config (length rows + more) st.StartRecord (csv_text.rows_text rows) ≡ map read_back rows
unfolding records_from csv_text.rows_text
read_rows [] more = let none : 0 + more ≡ more = omega arith in rw none (none_left more)
read_rows (row ∷ rows) more =
    let next : suc (length rows) + more ≡ suc (length rows + more) = omega arith in
    rw (next, read-write row (csv_text.rows_text rows)) (ap (λ (t : List Fields). read_back row ∷ t) (read_rows rows more))

text_longer : (rows : List Fields) → length rows ≤ length (csv_text.rows_text rows)
unfolding csv_text.rows_text
text_longer [] = omega arith
text_longer (row ∷ rows) =
    let more = text_longer rows in
    simp length-append (omega (arith, more))

all_read : (rows : List Fields) → records default_config (csv_text.rows_text rows) ≡ map read_back rows
all_read rows =
    let longer = text_longer rows in
    let more : length (csv_text.rows_text rows) + 1 ≡ length rows + (length (csv_text.rows_text rows) + 1 - length rows) = omega (arith, longer) in
    ap (λ (n : ℕ). records_from default_config n st.StartRecord (csv_text.rows_text rows)) more ∙ read_rows rows (length (csv_text.rows_text rows) + 1 - length rows)

wide_back : (rows : List Fields) → AllByRecursion (λ row. length row ≡ 3) rows → map read_back rows ≡ rows
wide_back [] wide = refl
wide_back ([] ∷ rows) wide = absurd (omega (arith, wide.0))
wide_back ((field ∷ row) ∷ rows) wide = ap (λ (t : List Fields). (field ∷ row) ∷ t) (wide_back rows wide.1)

-- ---- the rows that were made

-- what holds of each row that is made from any number
pub each_made : (P : Fields → Type 0) (modulus n x : ℕ) → ((y : ℕ) → P (made_row modulus y)) → AllByRecursion P (made_rows modulus n x)
unfolding made_rows
each_made P modulus zero x made = tt
each_made P modulus (suc n) x made =
    all_append P (made_rows modulus n x) (made_row modulus (draw x (2 * n)) ∷ []) (each_made P modulus n x made) (made (draw x (2 * n)), tt)

pub rows_wide : (modulus n x : ℕ) → AllByRecursion (λ row. length row ≡ 3) (made_rows modulus n x)
rows_wide modulus n x = each_made (λ row. length row ≡ 3) modulus n x (λ y. refl)

pub made_count : (modulus n x : ℕ) → length (made_rows modulus n x) ≡ n
unfolding made_rows
made_count modulus zero x = refl
made_count modulus (suc n) x =
    let before = made_count modulus n x in
    length-append (made_rows modulus n x) (made_row modulus (draw x (2 * n)) ∷ []) ∙ omega (arith, before)

-- ---- the records and the table of a made file

-- the header is the text of the names, and no byte order mark
pub record IsHeaderOf (header : List ℕ) (names : Fields) : Type 0 where
  pub written : header ≡ csv.row_text default_writer names
  pub bare : (rest : List ℕ) → strip_bom (header ++ rest) ≡ header ++ rest
  pub three : length names ≡ 3
  pub sound : header_flaw names ≡ None

pub made_records : (header : List ℕ) (names : Fields) (modulus rows x : ℕ) → IsHeaderOf header names → 1 ≤ modulus → modulus ≤ 1001
    → records_of (table_text header modulus rows x) ≡ names ∷ made_rows modulus rows x
unfolding csv_text.rows_text
made_records header names modulus rows x is some few =
    let text : header ++ rows_text modulus rows x ≡ csv_text.rows_text (names ∷ made_rows modulus rows x) =
    ap (λ (bytes : List ℕ). bytes ++ rows_text modulus rows x) is.written
    ∙ ap (λ (bytes : List ℕ). csv.row_text default_writer names ++ bytes) (rows_written modulus rows x some few) in
    ap (records default_config) (is.bare (rows_text modulus rows x) ∙ text) ∙ all_read (names ∷ made_rows modulus rows x)
    ∙ wide_back (names ∷ made_rows modulus rows x) (is.three, rows_wide modulus rows x)

rows_sound : (width n : ℕ) (rows : List Fields) → AllByRecursion (λ row. length row ≡ width) rows → n + length rows ≤ 1048577 → rows_flaw width n rows ≡ None
rows_sound width n [] wide few = refl
rows_sound width n (row ∷ rows) wide few =
    let within = le-ltb most_rows n (omega (arith, few)) in
    let same = eq-eqb (length row) width wide.0 in
    rw (within, same) (rows_sound width (n + 1) rows wide.1 (omega (arith, few)))

pub no_flaw : (header : List ℕ) (names : Fields) (modulus rows x : ℕ) → IsHeaderOf header names → rows ≤ 100000
    → flaw_of (names ∷ made_rows modulus rows x) ≡ None
no_flaw header names modulus rows x is few =
    let count = made_count modulus rows x in
    rw (is.sound, is.three) (rows_sound 3 1 (made_rows modulus rows x) (rows_wide modulus rows x) (omega (arith, count, few)))
