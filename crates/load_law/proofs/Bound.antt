-- The query of `load`, bound to tables with its columns.
use Rattle.std.proofs.Common.{◌≡◌, ℕ, List, [], ◌∷◌, Option, Some, None, false, refl, arith}
use Rattle.std.specs.Option.{option_or}
use Rattle.std.specs.Prelude.{codes, nat_lt}
use Rattle.std.specs.List.{AllByRecursion}
use Rattle.std.proofs.lemmas.Bool.{le-ltb}
use Rattle.anyk_model.specs.Table.{Fields, Table}
use Rattle.anyk_model.specs.Query.{Item, OrderKey, Query, Term}
use Rattle.query_bind.specs.declared.fault.BindFault.{BindFault}
use Rattle.query_bind.specs.Bind.{bind_fault}
use Rattle.query_bind.specs.Names.{names_fault}
use Rattle.bound_query.specs.Weights.{most_sum, terms_size}
use Rattle.query_bind.specs.WeightFaults.{range_fault, weights_fault}
use Rattle.load_law.proofs.Chain.{at, chain}
use Rattle.load_law.proofs.Parsed.{load_select}
use Rattle.load_law.proofs.Weights.{IsWeighed, none_missing, weights_small}

-- the columns of the tables P1 to P4
abbrev pub names_1 : Fields
names_1 = codes "a" ∷ codes "b" ∷ codes "w" ∷ []

abbrev pub names_2 : Fields
names_2 = codes "b" ∷ codes "c" ∷ codes "w" ∷ []

abbrev pub names_3 : Fields
names_3 = codes "c" ∷ codes "d" ∷ codes "w" ∷ []

abbrev pub names_4 : Fields
names_4 = codes "d" ∷ codes "e" ∷ codes "w" ∷ []

abbrev pub four_tables : (p q r s : List Fields) → List Table
four_tables p q r s =
    record { names = names_1; rows = p } ∷ record { names = names_2; rows = q } ∷ record { names = names_3; rows = r } ∷ record { names = names_4; rows = s } ∷ []

-- the number of each item's table
abbrev pub four_numbers : List ℕ
four_numbers = 0 ∷ 1 ∷ 2 ∷ 3 ∷ []

abbrev pub four_items : List Item
four_items =
    record { table = 0; alias = codes "P1" } ∷ record { table = 1; alias = codes "P2" }
    ∷ record { table = 2; alias = codes "P3" } ∷ record { table = 3; alias = codes "P4" } ∷ []

abbrev weight_term : ℕ → Term
weight_term item = record { minus = false; column = at item 2 }

abbrev pub weight_key : OrderKey
weight_key = record { terms = weight_term 0 ∷ weight_term 1 ∷ weight_term 2 ∷ weight_term 3 ∷ []; descending = false }

-- the query of `load` over the four tables
abbrev pub load_bound : Query
load_bound = record { items = four_items; equalities = chain; order = weight_key ∷ []; list = at 0 0 ∷ at 3 1 ∷ []; limit = Some 100 }

names_sound : (p q r s : List Fields) → names_fault (four_tables p q r s) four_items load_select ≡ None
names_sound p q r s = refl

weights_sound : (p q r s : List Fields) → AllByRecursion IsWeighed p → AllByRecursion IsWeighed q → AllByRecursion IsWeighed r → AllByRecursion IsWeighed s
    → weights_fault (four_tables p q r s) four_items (weight_key ∷ []) ≡ None
weights_sound p q r s a b c d = rw (none_missing 0 p a, none_missing 0 q b, none_missing 0 r c, none_missing 0 s d) refl

range_sound : (p q r s : List Fields) → AllByRecursion IsWeighed p → AllByRecursion IsWeighed q → AllByRecursion IsWeighed r → AllByRecursion IsWeighed s
    → range_fault (four_tables p q r s) four_items (weight_key ∷ []) ≡ None
range_sound p q r s a b c d =
    let first = weights_small p a in
    let second = weights_small q b in
    let third = weights_small r c in
    let fourth = weights_small s d in
    let within : nat_lt most_sum (terms_size (four_tables p q r s) four_items weight_key.terms) ≡ false =
    le-ltb most_sum (terms_size (four_tables p q r s) four_items weight_key.terms) (omega (arith, first, second, third, fourth)) in
    rw within refl

none_of : (a b c : Option BindFault) → a ≡ None → b ≡ None → c ≡ None → option_or a (option_or b c) ≡ None
none_of a b c p q r = rw (p, q, r) refl

pub bind_sound : (p q r s : List Fields) → AllByRecursion IsWeighed p → AllByRecursion IsWeighed q → AllByRecursion IsWeighed r → AllByRecursion IsWeighed s
    → bind_fault load_select (four_tables p q r s) four_numbers ≡ None
bind_sound p q r s a b c d = none_of _ _ _ (names_sound p q r s) (weights_sound p q r s a b c d) (range_sound p q r s a b c d)
