-- The faults of the weights of a query.
use Rattle.std.specs.Prelude.{◌+◌, nat_lt, List, Option, ℤ, option_map, is_none}
use Rattle.std.specs.List.{position_from}
use Rattle.anyk_model.specs.Table.{Table}
use Rattle.anyk_model.specs.Query.{Item, Column, Term, OrderKey}
use Rattle.bound_query.specs.Weights.{column_weights, most_sum, terms_size}
use Rattle.query_bind.specs.declared.fault.BindFault.{BindFault}
use Rattle.query_bind.specs.declared.fault.BindFault.TheVariants as fault
use Rattle.query_bind.specs.Names.{first_of}

-- the first row without a weight, if a column has these weights
abbrev pub missing_in : Column → List (Option ℤ) → Option BindFault
missing_in c weights = option_map (λ n. fault.BadWeight (c.item + 1) (n + 1) (c.place + 1))
    (position_from is_none 0 weights)

abbrev pub column_fault : List Table → List Item → Column → Option BindFault
column_fault tables items c = missing_in c (column_weights tables items c)

-- the first row without a weight in the column of a term
abbrev pub weight_fault : List Table → List Item → Term → Option BindFault
weight_fault tables items t = column_fault tables items t.column

abbrev pub key_fault : List Table → List Item → OrderKey → Option BindFault
key_fault tables items key = first_of (weight_fault tables items) key.terms

-- the first field that is not a weight, by keys, then their columns, then rows
abbrev pub weights_fault : List Table → List Item → List OrderKey → Option BindFault
weights_fault tables items order = first_of (key_fault tables items) order

-- the first key whose greatest weights have too great a sum
abbrev pub range_fault : List Table → List Item → List OrderKey → Option BindFault
range_fault tables items order =
    option_map (λ n. fault.RankRange n)
    (position_from (λ (k : OrderKey). nat_lt most_sum (terms_size tables items k.terms)) 1
    order)
