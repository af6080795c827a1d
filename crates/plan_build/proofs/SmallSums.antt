-- The caps of all items, for an order of at most one key.
use Rattle.std.proofs.Common.{◌≡◌, ◌↔◌, ◌<◌, ◌≤◌, ◌+◌, ◌^◌, ℕ, zero, suc, Bool, false, cond, nat_lt, List, [], ◌∷◌, map, take, length, get_or, ap, ◌∙◌, arith}
use Rattle.std.proofs.lemmas.Bool.{lt-ltb}
use Rattle.std.proofs.lemmas.List.FromFn.{get_or-map-range_with_len, length-map-range_with_len}
use Rattle.anyk_model.specs.Table.{Table}
use Rattle.bound_query.specs.KeyParts.{numbers_of, sum_of_all}
use Rattle.bound_query.specs.WeighedQuery.{BoundQuery, Fits}
use Rattle.bound_query.specs.Weights.{cap_of, key_at}
use Rattle.node_build.specs.Nodes.{CapsBelow, cap_at}
use Rattle.bound_query.proofs.Sums.{sum_zero}
use Rattle.node_build.proofs.Shaped.{caps_small}
use Rattle.plan_build.proofs.Sizes.{sum_one_more}

take_fewer : (xs : List ℕ) (i : ℕ) → sum_of_all (take i xs) ≤ sum_of_all xs
take_fewer [] zero = omega arith
take_fewer [] (suc i) = omega arith
take_fewer (x ∷ xs) zero = omega arith
take_fewer (x ∷ xs) (suc i) = let rest = take_fewer xs i in omega (arith, rest)

not_below : (i n : ℕ) → n ≤ i → nat_lt i n ≡ false
not_below i n past = grind (arith, past)

module _ (bound : BoundQuery) (tables : List Table) where
  abbrev cap_of_first : ℕ → ℕ
  cap_of_first item = cap_of tables bound.query.items item (key_at bound.query.order 0)

  -- the caps of the items for the first key
  abbrev pub first_caps : List ℕ
  first_caps = map cap_of_first (numbers_of bound.query.items)

  -- the sum of the caps for a key
  abbrev caps_of : ℕ → ℕ
  caps_of key = sum_of_all (map (λ item. cap_at bound tables item key) (numbers_of bound.query.items))

  pub caps_count : length first_caps ≡ length bound.query.items
  caps_count = length-map-range_with_len cap_of_first 0 (length bound.query.items)

  pub cap_at_item : (i : ℕ) → i < length bound.query.items → get_or first_caps i 0 ≡ cap_of_first i
  cap_at_item i l = get_or-map-range_with_len cap_of_first 0 (length bound.query.items) i i 0 l (omega arith)

  abbrev sum_if : ℕ → Bool → ℕ
  sum_if key there = sum_of_all (map (λ item. cond there (cap_of tables bound.query.items item (key_at bound.query.order key)) 0) (numbers_of bound.query.items))

  sum_first : 0 < length bound.query.order → caps_of 0 ≡ sum_of_all first_caps
  sum_first some = ap (sum_if 0) (lt-ltb 0 (length bound.query.order) some)

  sum_past : (key : ℕ) → length bound.query.order ≤ key → caps_of key ≡ 0
  sum_past key past = ap (sum_if key) (not_below key (length bound.query.order) past) ∙ sum_zero (numbers_of bound.query.items)

  -- without a key there is nothing to add up
  pub none_below : (limit : ℕ) → 0 < limit → length bound.query.order ≡ 0 → CapsBelow limit bound tables
  none_below limit some none key = let zero = sum_past key (omega (arith, none)) in omega (arith, zero, some)

  -- with one key its caps decide
  pub caps_decide : (limit : ℕ) → 0 < limit → 0 < length bound.query.order → length bound.query.order ≤ 1 → (sum_of_all first_caps < limit) ↔ CapsBelow limit bound tables
  caps_decide limit some there one = (below, λ all. let first = sum_first there in let here = all 0 in omega (arith, first, here))
    where
      below : sum_of_all first_caps < limit → CapsBelow limit bound tables
      below small zero = let first = sum_first there in omega (arith, first, small)
      below small (suc key) = let past = sum_past (suc key) (omega (arith, one)) in omega (arith, past, some)

  -- one item more
  pub caps_more : (i : ℕ) → i < length bound.query.items → sum_of_all (take (i + 1) first_caps) ≡ sum_of_all (take i first_caps) + cap_of_first i
  caps_more i l = let count = caps_count in sum_one_more first_caps i (omega (arith, l, count)) ∙ ap (λ n. sum_of_all (take i first_caps) + n) (cap_at_item i l)

  -- the caps of the first items fit 127 bits
  pub first_fit : Fits bound tables → 0 < length bound.query.order → (i : ℕ) → sum_of_all (take i first_caps) < 2 ^ 127
  first_fit fits there i =
      let fewer = take_fewer first_caps i in
      let first = sum_first there in
      let small = caps_small bound tables fits 0 in
      omega (arith, fewer, first, small)
