-- What a run of entries is to its callers.
use Rattle.std.specs.Prelude.{ℕ}

-- `count` entries of a store, one after another, from the one at place `first` on
pub record RunView : Type 0 where
  pub first : ℕ
  pub count : ℕ
