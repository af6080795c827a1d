-- Two kinds are the same if their numbers are.
use Rattle.std.proofs.Common.{◌≡◌, refl}
use denote.Enum.Bare.{sameb}
use denote.Enum.Declared.{tag_of}
use Rattle.query_select.specs.declared.token.Kind.{Kind}
use Rattle.query_select.specs.declared.token.Kind.TheVariants as kind
use Rattle.query_select.specs.contracts.token.Kind.{the_type}
use Rattle.query_select.specs.Kinds.{number_of, same}

tag_is_number : (k : Kind) → tag_of the_type k ≡ number_of k
tag_is_number kind.Select = refl
tag_is_number _ = refl

pub same_by_tag : (a b : Kind) → sameb the_type a b ≡ same a b
same_by_tag a b = rw (tag_is_number a, tag_is_number b) refl
