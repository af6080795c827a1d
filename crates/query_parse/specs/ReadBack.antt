-- When a text is read as a query again.
use Rattle.std.specs.Prelude.{ℕ, List}
use Rattle.query_select.specs.declared.select.Select.{Select}
use Rattle.query_parse.specs.Parse.{IsParsed}
use Rattle.query_select.specs.Placeless.{AreOne}

-- the bytes are a query, and it is this one except for its offsets
pub record ReadsBack (bytes : List ℕ) (select : Select) : Type 0 where
  pub other : Select
  pub read : IsParsed bytes other
  pub same : AreOne other select
