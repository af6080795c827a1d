-- A kind is known by its number.
use Rattle.std.proofs.Common.{◌≡◌, ℕ, List, [], ◌∷◌, get_or, true, refl, sym, ap, ◌∙◌}
use Rattle.std.proofs.lemmas.Bool.{eqb-true}
use Rattle.query_select.specs.declared.token.Kind.{Kind}
use Rattle.query_select.specs.declared.token.Kind.TheVariants as kind
use Rattle.query_select.specs.Kinds.{number_of, same}

abbrev kinds : List Kind
kinds = kind.Select ∷ kind.From ∷ kind.Where ∷ kind.And ∷ kind.Order ∷ kind.By ∷ kind.Limit ∷ kind.Asc ∷ kind.Desc ∷ kind.As ∷ kind.Join ∷ kind.Inner ∷ kind.On ∷ kind.Union ∷ kind.All ∷ kind.Name ∷ kind.Text ∷ kind.Digits ∷ kind.Comma ∷ kind.Dot ∷ kind.Equals ∷ kind.Plus ∷ kind.Minus ∷ kind.Star ∷ kind.Semicolon ∷ kind.Stray ∷ []

abbrev kind_at : ℕ → Kind
kind_at n = get_or kinds n kind.Stray

kind_at_number : (k : Kind) → kind_at (number_of k) ≡ k
kind_at_number kind.Select = refl
kind_at_number _ = refl

pub same_true : (a b : Kind) → same a b ≡ true → a ≡ b
same_true a b e = sym (kind_at_number a) ∙ ap kind_at (eqb-true (number_of a) (number_of b) e) ∙ kind_at_number b

pub same_self : (k : Kind) → same k k ≡ true
same_self kind.Select = refl
same_self _ = refl
