-- Rows cut out of a flat list.
use Rattle.std.proofs.Common.{◌≡◌, ◌≤◌, ◌<◌, ◌+◌, ◌*◌, ℕ, zero, suc, List, [], ◌∷◌, ◌++◌, length, take, drop, get_or, refl, sym, ap, ◌∙◌, arith, length-drop, take_all}
use Rattle.std.proofs.lemmas.List.{drop-append-le, get_or-drop, get_or-take, take-append-drop, take-append-le}
use Rattle.anyk_model.specs.Table.{Fields}
use Rattle.table_store.specs.StoredTables.{cut_rows}
use Rattle.table_store.specs.Values.{with_fields, with_rows}
use Rattle.table_store.proofs.Stands.{with_fields_append}

pub cut_rows_length : {A : Type 0} (width count : ℕ) (xs : List A) → length (cut_rows width count xs) ≡ count
cut_rows_length width zero xs = refl
cut_rows_length width (suc count) xs = ap suc (cut_rows_length width count (drop width xs))

next_row : (width r c : ℕ) → width + (r * width + c) ≡ suc r * width + c
next_row width r c = omega arith

-- the cell of a row and a column
pub cut_rows_cell : {A : Type 0} (width count : ℕ) (xs : List A) (r c : ℕ) (d : A) → r < count → c < width
    → get_or (get_or (cut_rows width count xs) r []) c d ≡ get_or xs (r * width + c) d
cut_rows_cell width zero xs r c d below there = absurd (omega arith)
cut_rows_cell width (suc count) xs zero c d below there = get_or-take width xs c d there ∙ ap (λ (k : ℕ). get_or xs k d) (omega arith)
cut_rows_cell width (suc count) xs (suc r) c d below there =
    cut_rows_cell width count (drop width xs) r c d (omega arith) there ∙ get_or-drop width xs (r * width + c) d
    ∙ ap (λ (k : ℕ). get_or xs k d) (next_row width r c)

-- one more row
pub cut_rows_push : {A : Type 0} (width count : ℕ) (xs row : List A) → length xs ≡ count * width → length row ≡ width
    → cut_rows width (suc count) (xs ++ row) ≡ cut_rows width count xs ++ row ∷ []
cut_rows_push width zero [] row whole wide = ap (λ (l : List _). l ∷ []) (take_all width row (omega (arith, wide)))
cut_rows_push width zero (x ∷ xs) row whole wide = absurd (omega (arith, whole))
cut_rows_push {A} width (suc count) xs row whole wide =
    let room : width ≤ length xs = omega (arith, whole, next_row width count 0) in
    let left : length (drop width xs) ≡ count * width = omega (arith, length-drop width xs, whole, next_row width count 0) in
    let first = take-append-le width xs row room in
    let rest = drop-append-le width xs row room in
    (λ i. first i ∷ cut_rows width (suc count) (rest i)) ∙ ap (λ (l : List (List A)). take width xs ∷ l) (cut_rows_push width count (drop width xs) row left wide)

-- rows bring the texts of their fields
pub with_rows_cut : (texts : List (List ℕ)) (width count : ℕ) (fields : Fields) → length fields ≡ count * width
    → with_rows texts (cut_rows width count fields) ≡ with_fields texts fields
with_rows_cut texts width zero [] whole = refl
with_rows_cut texts width zero (f ∷ fields) whole = absurd (omega (arith, whole))
with_rows_cut texts width (suc count) fields whole =
    let left : length (drop width fields) ≡ count * width = omega (arith, length-drop width fields, whole, next_row width count 0) in
    with_rows_cut (with_fields texts (take width fields)) width count (drop width fields) left
    ∙ sym (with_fields_append texts (take width fields) (drop width fields))
    ∙ ap (with_fields texts) (take-append-drop width fields)
