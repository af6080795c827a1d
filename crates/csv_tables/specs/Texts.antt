-- The texts that a set keeps.
use Rattle.std.specs.Prelude.{ℕ, List}
use Rattle.csv_tables.specs.declared.texts.Texts.TheInside.{Inside}

-- in the order of their numbers
abbrev pub texts_view : Inside → List (List ℕ)
texts_view a = a.set.keys
