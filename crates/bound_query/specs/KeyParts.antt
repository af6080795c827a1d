-- The parts of a key over all items.
use Rattle.std.specs.Prelude.{ℕ, ◌+◌, List, [], ◌∷◌, map, length, slice_index, ℤ}
use Rattle.std.specs.List.{range_with_len}
use Rattle.anyk_model.specs.Table.{Table}
use Rattle.anyk_model.specs.Query.{Item, OrderKey, total}
use Rattle.bound_query.specs.Weights.{cap_of, part_of}

abbrev pub numbers_of : List Item → List ℕ
numbers_of items = range_with_len 0 (length items)

-- what the rows of a combination add to a key, item by item
abbrev pub parts_sum : List Table → List Item → List ℕ → OrderKey → ℤ
parts_sum tables items rows key = total
    (map (λ i. part_of tables items i (slice_index rows i) key) (numbers_of items))

abbrev pub sum_of_all : List ℕ → ℕ
sum_of_all [] = 0
sum_of_all (x ∷ xs) = x + sum_of_all xs

abbrev pub caps_sum : List Table → List Item → OrderKey → ℕ
caps_sum tables items key = sum_of_all (map (λ i. cap_of tables items i key) (numbers_of items))
