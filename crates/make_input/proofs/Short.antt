-- The made files are short: a row has at most 14 bytes.
use Rattle.std.proofs.Common.{◌<◌, ◌≤◌, ◌^◌, ℕ, zero, suc, ◌+◌, ◌*◌, ◌/◌, ◌%◌, List, [], ◌∷◌, ◌++◌, length, arith, length-append}
use Rattle.std.specs.Prelude.{codes, decimal}
use Rattle.std.specs.List.{AllByRecursion}
use Rattle.std.proofs.lemmas.Fmt.{length-decimal-le}
use Rattle.make_input.specs.Input.{draw, row_text, rows_text, table_text, files, load_query}

-- a number below the modulus has at most 4 digits
value_short : (modulus x : ℕ) → 1 ≤ modulus → modulus ≤ 1001 → length (decimal (x % modulus)) ≤ 4
value_short modulus x some few =
    let below : x % modulus < 10 ^ 4 = omega arith in
    let wide : x % modulus < 2 ^ 64 = omega arith in
    length-decimal-le 4 (x % modulus) (omega arith) below wide

weight_short : (x : ℕ) → length (decimal (x % 1000)) ≤ 3
weight_short x =
    let below : x % 1000 < 10 ^ 3 = omega arith in
    let wide : x % 1000 < 2 ^ 64 = omega arith in
    length-decimal-le 3 (x % 1000) (omega arith) below wide

parts_short : (a b c : List ℕ) → length a ≤ 4 → length b ≤ 4 → length c ≤ 3 → length (a ++ 44 ∷ [] ++ b ++ 44 ∷ [] ++ c ++ 10 ∷ []) ≤ 14
parts_short a b c h k l = simp length-append (omega arith)

row_short : (modulus x : ℕ) → 1 ≤ modulus → modulus ≤ 1001 → length (row_text modulus x) ≤ 14
unfolding row_text
row_short modulus x some few =
    parts_short _ _ _ (value_short modulus ((draw x 1 / 128) / 4096) some few) (value_short modulus ((draw x 1 / 128) % 4096) some few)
    (weight_short (draw x 2 / 65536))

rows_short : (modulus rows x : ℕ) → 1 ≤ modulus → modulus ≤ 1001 → length (rows_text modulus rows x) ≤ 14 * rows
unfolding rows_text
rows_short modulus zero x some few = omega arith
rows_short modulus (suc n) x some few =
    let before = rows_short modulus n x some few in
    let last = row_short modulus (draw x (2 * n)) some few in
    simp length-append (omega (arith, before, last))

table_short : (header : List ℕ) (rows x : ℕ) → length header ≤ 6 → rows ≤ 100000 → length (table_text header (rows / 100 + 1) rows x) ≤ 67108864
table_short header rows x narrow few =
    let lines = rows_short (rows / 100 + 1) rows x (omega arith) (omega arith) in
    simp length-append (omega (arith, lines))

-- the text of the query and each made file have at most 67,108,864 bytes
pub files_short : (number rows : ℕ) → rows ≤ 100000 → AllByRecursion (λ file. length file ≤ 67108864) (load_query ∷ files number rows)
files_short number rows few = (
  omega arith,
  (
    table_short (codes "a,b,w\n") rows number (omega arith) few,
    (
      table_short (codes "b,c,w\n") rows (draw number (2 * rows)) (omega arith) few,
      (
        table_short (codes "c,d,w\n") rows (draw number (4 * rows)) (omega arith) few,
        (table_short (codes "d,e,w\n") rows (draw number (6 * rows)) (omega arith) few, tt),
      ),
    ),
  ),
)
