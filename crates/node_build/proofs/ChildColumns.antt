-- The links that rows name for the children of their node, one column after another.
use Rattle.std.proofs.Common.{◌≡◌, ◌<◌, ◌+◌, ℕ, List, [], ◌∷◌, ◌++◌, length, get_or, ap, ◌∙◌, arith, Vec, Global}
use Rattle.std.specs.List.{All}
use Rattle.std.proofs.lemmas.List.{length-map, map-append}
use Rattle.std.proofs.lemmas.List.Elements.{All-from_get_or}
use Rattle.std.proofs.lemmas.List.FromFn.{get_or-map-range_with_len, length-map-range_with_len}
use Rattle.tdp_core.specs.NamedRows.{columns_in, row_across, rows_across}

-- one column more
pub columns_push : (vs now : List (Vec ℕ Global)) (v : Vec ℕ Global) → now ≡ vs ++ v ∷ [] → columns_in now ≡ columns_in vs ++ v.items ∷ []
columns_push vs now v is = ap columns_in is ∙ map-append (λ (w : Vec ℕ Global). w.items) vs (v ∷ [])

pub across_push : (columns now : List (List ℕ)) (column : List ℕ) (place : ℕ) → now ≡ columns ++ column ∷ [] → row_across now place ≡ row_across columns place ++ get_or column place 0 ∷ []
across_push columns now column place is = ap (λ (cs : List (List ℕ)). row_across cs place) is ∙ map-append (λ (xs : List ℕ). get_or xs place 0) columns (column ∷ [])

pub across_length : (columns : List (List ℕ)) (place : ℕ) → length (row_across columns place) ≡ length columns
across_length columns place = length-map columns (λ (xs : List ℕ). get_or xs place 0)

-- what stands in a row
pub row_there : (columns : List (List ℕ)) (n r : ℕ) → r < n → get_or (rows_across columns n) r [] ≡ row_across columns r
row_there columns n r inside = let here : 0 + r ≡ r = omega arith in get_or-map-range_with_len (row_across columns) 0 n r r [] inside here

pub rows_count : (columns : List (List ℕ)) (n : ℕ) → length (rows_across columns n) ≡ n
rows_count columns n = length-map-range_with_len (row_across columns) 0 n

pub rows_wide : (columns : List (List ℕ)) (n w : ℕ) → length columns ≡ w → All (λ (row : List ℕ). length row ≡ w) (rows_across columns n)
rows_wide columns n w wide = All-from_get_or (λ (row : List ℕ). length row ≡ w) (rows_across columns n) []
    (λ r inside. let h : r < n = omega (arith, inside, rows_count columns n) in ap length (row_there columns n r h) ∙ across_length columns r ∙ wide)
