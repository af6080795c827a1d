-- The items of a query by their numbers.
use Rattle.std.specs.Prelude.{ℕ, List, [], get_or}
use Rattle.anyk_model.specs.Query.{Item}

abbrev pub item_at : List Item → ℕ → Item
item_at items n = get_or items n (record { table = 0; alias = [] })
