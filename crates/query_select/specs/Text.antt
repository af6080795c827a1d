-- A name as the canonical text writes it.
use Rattle.std.specs.Prelude.{List, [], ◌∷◌, ◌++◌, Bool, false, ◌&&◌, if◌then◌else◌, ℕ}
use Rattle.std.specs.List.{list_all}
use Rattle.query_select.specs.declared.token.Kind.TheVariants as kind
use Rattle.query_select.specs.Kinds.{same}
use Rattle.query_select.specs.Tokens.{is_letter, is_word_byte, kind_of_word}

-- a word that is not a keyword
abbrev pub is_bare : List ℕ → Bool
is_bare [] = false
is_bare (b ∷ bs) = is_letter b &&
    (list_all is_word_byte bs && same (kind_of_word (b ∷ bs)) kind.Name)

-- a name as the text writes it: bare if that is possible, else between quotes
abbrev pub name_text_of : List ℕ → List ℕ
name_text_of name = if is_bare name then name else (34 ∷ name ++ 34 ∷ [])
