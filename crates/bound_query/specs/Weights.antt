-- What rows add to the order keys of a query, and which weights are in range.
use Rattle.std.specs.Prelude.{◌≡◌, ℕ, ◌+◌, ◌-◌, ◌==◌, ◌≤◌, max, false, if◌then◌else◌, List, [], ◌∷◌, map, filter, get_or, Option, None, Some, unwrap_or, is_none, ℤ, pos, neg_ℤ, nat_abs}
use Rattle.std.specs.List.{AllByRecursion}
use Rattle.anyk_model.specs.Table.{Table, field_at, table_at}
use Rattle.anyk_model.specs.Weight.{weight_of}
use Rattle.anyk_model.specs.Query.{Item, Column, Term, OrderKey, total}
use Rattle.bound_query.specs.Items.{item_at}

-- the table of an item
abbrev pub table_in : List Table → List Item → ℕ → Table
table_in tables items item = table_at tables (item_at items item).table

-- the worth of the fields of a column, row by row
abbrev pub weights_in : Table → ℕ → List (Option ℤ)
weights_in table place = map (λ row. weight_of (get_or row place [])) table.rows

abbrev pub column_weights : List Table → List Item → Column → List (Option ℤ)
column_weights tables items c = weights_in (table_in tables items c.item) c.place

-- each field of the column of a term is a weight
abbrev pub TermWeighs : List Table → List Item → Term → Type 0
TermWeighs tables items t = AllByRecursion (λ (weight : Option ℤ). is_none weight ≡ false)
    (column_weights tables items t.column)

-- each field of the columns of a key is a weight
abbrev pub KeyWeighs : List Table → List Item → OrderKey → Type 0
KeyWeighs tables items key = AllByRecursion (TermWeighs tables items) key.terms

-- the greatest of these numbers, or 0 if there are none
abbrev pub greatest : List ℕ → ℕ
greatest [] = 0
greatest (x ∷ xs) = max x (greatest xs)

abbrev pub size_of : Option ℤ → ℕ
size_of None = 0
size_of (Some z) = nat_abs z

-- the greatest absolute weight in a column
abbrev pub column_size : List Table → List Item → Column → ℕ
column_size tables items c = greatest (map size_of (column_weights tables items c))

-- the sum of these weights over the columns of some terms
abbrev pub terms_size : List Table → List Item → List Term → ℕ
terms_size tables items [] = 0
terms_size tables items (t ∷ terms) = column_size tables items t.column
    + terms_size tables items terms

-- the greatest sum that a key may have
abbrev pub most_sum : ℕ
most_sum = 170141183460469231731687303715884105727

-- the greatest weights of the columns of a key have a sum in range
abbrev pub KeyInRange : List Table → List Item → OrderKey → Type 0
KeyInRange tables items key = terms_size tables items key.terms ≤ most_sum

-- ---- the part of a key that an item gives

abbrev pub terms_in : ℕ → List Term → List Term
terms_in item terms = filter (λ (t : Term). t.column.item == item) terms

-- the worth of a column at a row of its item
abbrev pub worth_at : List Table → List Item → ℕ → Column → ℤ
worth_at tables items row c = unwrap_or
    (weight_of (field_at (table_in tables items c.item) (row - 1) c.place)) (pos 0)

-- what a term adds at a row of its item
abbrev pub row_term : List Table → List Item → ℕ → Term → ℤ
row_term tables items row t =
    let weight = worth_at tables items row t.column in
    if t.minus then neg_ℤ weight else weight

-- what a row of an item adds to a key, negated if the order descends
abbrev pub part_of : List Table → List Item → ℕ → ℕ → OrderKey → ℤ
part_of tables items item row key =
    let added = total (map (row_term tables items row) (terms_in item key.terms)) in
    if key.descending then neg_ℤ added else added

-- the greatest absolute part that the columns of an item allow
abbrev pub cap_of : List Table → List Item → ℕ → OrderKey → ℕ
cap_of tables items item key = terms_size tables items (terms_in item key.terms)

abbrev pub key_at : List OrderKey → ℕ → OrderKey
key_at order key = get_or order key (record { terms = []; descending = false })
