-- What holds for every select that was parsed.
use Rattle.std.specs.Prelude.{◌≤◌, ℕ, List, Option, length}
use Rattle.std.specs.List.{AllByRecursion}
use Rattle.query_select.specs.declared.select.Select.{Select}
use Rattle.verdict.specs.Loading.{all_items}

-- it has at least one item, and no more items and order keys than a query may have
pub record IsWithinLimits (select : Select) : Type 0 where
  pub some : 1 ≤ length select.items
  pub items : length select.items ≤ 16
  pub keys : length select.keys ≤ 8

-- there is at least one, and no more than a query may have branches; all together have no more
-- items than a query may have
pub record AreWithinLimits (selects : List Select) : Type 0 where
  pub some : 1 ≤ length selects
  pub few : length selects ≤ 8
  pub each : AllByRecursion IsWithinLimits selects
  pub items : length (all_items selects) ≤ 16

-- a select with another limit
abbrev pub limited : Option ℕ → Select → Select
limited limit select = record select { limit = limit }
