-- The keyword that a word is, of a list of keywords.
use Rattle.std.specs.Prelude.{ℕ, List, [], ◌∷◌, map, if◌then◌else◌}
use Rattle.std.specs.Borrow.{Bor}
use Rattle.std.specs.Char.{to_ascii_lowercase}
use Rattle.std.specs.Str.{bytes_eq}
use Rattle.query_select.specs.declared.token.Kind.{Kind}
use Rattle.query_select.specs.declared.token.Kind.TheVariants as kind

-- the first of some keywords that a word is, or a name
abbrev pub kind_among : List (Bor (List ℕ) × Kind) → List ℕ → Kind
kind_among [] w = kind.Name
kind_among (k ∷ ks) w =
    if bytes_eq (map to_ascii_lowercase w) (map to_ascii_lowercase k.0.now) then k.1 else
    kind_among ks w
