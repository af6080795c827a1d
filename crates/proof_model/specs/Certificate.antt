-- Certificates of the first answers. Lines and nodes count from 1, and so do rows.
use Rattle.std.specs.Prelude.{ℕ, Bool, List}

-- rows of the subtree of a node, one for each of its items, in the order of the items
pub record BoundLine : Type 0 where
  pub line : ℕ
  pub node : ℕ
  pub rows : List ℕ

-- an answer, one row for each item, in the order of the items
pub record AnswerLine : Type 0 where
  pub line : ℕ
  pub rows : List ℕ

pub record Certificate : Type 0 where
  pub bounds : List BoundLine
  pub answers : List AnswerLine
  -- there is no answer after these
  pub ended : Bool
