-- Weights without a fault are weights, and their sums are in range.
use Rattle.std.proofs.Common.{◌≡◌, ◌+◌, ℕ, Bool, true, false, cond, nat_lt, List, [], ◌∷◌, Option, Some, None, is_none, option_map, refl}
use Rattle.std.specs.List.{AllByRecursion, position_from}
use Rattle.std.proofs.lemmas.Bool.{ltb-false}
use Rattle.anyk_model.specs.Table.{Table}
use Rattle.anyk_model.specs.Query.{Item, OrderKey, Term}
use Rattle.bound_query.specs.Weights.{KeyInRange, KeyWeighs, TermWeighs, column_weights, most_sum, terms_size}
use Rattle.query_bind.specs.Names.{first_of}
use Rattle.query_bind.specs.WeightFaults.{key_fault, range_fault, weight_fault, weights_fault}
use Rattle.query_bind.specs.declared.fault.BindFault.TheVariants as fault
use Rattle.query_bind.proofs.Collect.{option_or_none}

module _ {A : Type 0} (test : A → Bool) where
  no_position : (n : ℕ) (x : A) (xs : List A) → position_from test n (x ∷ xs) ≡ None → (test x ≡ false) × (position_from test (n + 1) xs ≡ None)
  no_position n x xs e = by_test (test x) refl e
    where
      by_test : (b : Bool) → test x ≡ b → cond b (Some n) (position_from test (n + 1) xs) ≡ None → (test x ≡ false) × (position_from test (n + 1) xs ≡ None)
      by_test true h e = cc
      by_test false h e = (h, e)

  -- a search without a result: the test fails everywhere
  pub none_found : (n : ℕ) (xs : List A) → position_from test n xs ≡ None → AllByRecursion (λ (x : A). test x ≡ false) xs
  none_found n [] e = tt
  none_found n (x ∷ xs) e = let p = no_position n x xs e in (p.0, none_found (n + 1) xs p.1)

unmapped : {A B : Type 0} (f : A → B) (o : Option A) → option_map f o ≡ None → o ≡ None
unmapped f None e = refl
unmapped f (Some a) e = cc

module _ (tables : List Table) (items : List Item) where
  terms_weigh : (terms : List Term) → first_of (weight_fault tables items) terms ≡ None → AllByRecursion (TermWeighs tables items) terms
  terms_weigh [] e = tt
  terms_weigh (t ∷ terms) e =
      let p = option_or_none (weight_fault tables items t) (first_of (weight_fault tables items) terms) e in
      let weights = column_weights tables items t.column in (
        none_found is_none 0 weights (unmapped (λ n. fault.BadWeight (t.column.item + 1) (n + 1) (t.column.place + 1)) (position_from is_none 0 weights) p.0),
        terms_weigh terms p.1,
      )

  pub keys_weigh : (order : List OrderKey) → weights_fault tables items order ≡ None → AllByRecursion (KeyWeighs tables items) order
  keys_weigh [] e = tt
  keys_weigh (key ∷ order) e =
      let p = option_or_none (key_fault tables items key) (weights_fault tables items order) e in
      (terms_weigh key.terms p.0, keys_weigh order p.1)

  abbrev is_past : OrderKey → Bool
  is_past key = nat_lt most_sum (terms_size tables items key.terms)

  fits_each : (order : List OrderKey) → AllByRecursion (λ (key : OrderKey). is_past key ≡ false) order → AllByRecursion (KeyInRange tables items) order
  fits_each [] h = tt
  fits_each (key ∷ order) h = (ltb-false most_sum (terms_size tables items key.terms) h.0, fits_each order h.1)

  pub keys_in_range : (order : List OrderKey) → range_fault tables items order ≡ None → AllByRecursion (KeyInRange tables items) order
  keys_in_range order e = fits_each order (none_found is_past 1 order (unmapped (λ n. fault.RankRange n) (position_from is_past 1 order) e))
