-- Kinds of tokens, and whether two are the same.
use Rattle.std.specs.Prelude.{ℕ, Bool, ◌==◌}
use Rattle.query_select.specs.declared.token.Kind.{Kind}
use Rattle.query_select.specs.declared.token.Kind.TheVariants as kind

-- the place of a kind in the list of all kinds
abbrev pub number_of : Kind → ℕ
number_of kind.Select = 0
number_of kind.From = 1
number_of kind.Where = 2
number_of kind.And = 3
number_of kind.Order = 4
number_of kind.By = 5
number_of kind.Limit = 6
number_of kind.Asc = 7
number_of kind.Desc = 8
number_of kind.As = 9
number_of kind.Join = 10
number_of kind.Inner = 11
number_of kind.On = 12
number_of kind.Union = 13
number_of kind.All = 14
number_of kind.Name = 15
number_of kind.Text = 16
number_of kind.Digits = 17
number_of kind.Comma = 18
number_of kind.Dot = 19
number_of kind.Equals = 20
number_of kind.Plus = 21
number_of kind.Minus = 22
number_of kind.Star = 23
number_of kind.Semicolon = 24
number_of kind.Stray = 25

abbrev pub same : Kind → Kind → Bool
same a b = number_of a == number_of b
