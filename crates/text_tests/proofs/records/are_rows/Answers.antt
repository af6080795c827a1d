use Rattle.std.proofs.Common.{◌<◌, ◌≤◌, ℕ, suc, List, [], ◌∷◌, get_or, length, take, arith, rules}
use Rattle.anyk_model.specs.Table.{Table}
use Rattle.anyk_model.specs.Query.{IsCombination, Item, row_counts}
use Rattle.bound_query.specs.Weights.{table_in}
use Rattle.text_tests.proofs.records.are_rows.Goals as goal

-- rows that are there, one for each item, are a combination
combination_of : (tables : List Table) (items : List Item) (rows : List ℕ) → length items ≤ length rows
    → ((i : ℕ) → i < length items → (1 ≤ get_or rows i 0) × (get_or rows i 0 ≤ length (table_in tables items i).rows))
    → IsCombination (row_counts items tables) (take (length items) rows)
combination_of tables [] rows few there = tt
combination_of tables (item ∷ items) [] few there = absurd (omega arith)
combination_of tables (item ∷ items) (row ∷ rows) few there =
    let first = there 0 (omega arith) in
    (first.0, first.1, combination_of tables items rows (omega arith) (λ i h. there (suc i) (omega arith)))

pub returns : goal.returns
returns c =
    let all : length c.args.query.now.query.items ≤ c.loop-item.item = search rules in
    let limit = c.items-item-end.ensures.limit in
    let few : length c.args.query.now.query.items ≤ length c.args.rows.now = search rules in
    λ yes. combination_of c.args.tables.now c.args.query.now.query.items c.args.rows.now few (λ i h. c.loop-item.invariant i (omega arith))
