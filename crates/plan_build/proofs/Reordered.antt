-- Numbers in another order have the same sum, and the rows of the nodes of one join tree give those of another.
use Rattle.std.proofs.Common.{◌≡◌, ◌+◌, ◌<◌, ℕ, suc, ℤ, pos, List, [], ◌∷◌, map, length, get_or, slice_index_or, refl, sym, ap, ◌∙◌, subst, inl, inr, arith}
use Rattle.std.specs.List.{range_with_len}
use Rattle.std.proofs.lemmas.Bool.{cases_order}
use Rattle.std.proofs.lemmas.Int.{ints}
use Rattle.std.proofs.lemmas.List.{get_or-map, length-map}
use Rattle.std.proofs.lemmas.List.FromFn.{get_or-map-range_with_len, length-map-range_with_len}
use Rattle.join_tree.specs.declared.tree.JoinTree.{JoinTree}
use Rattle.anyk_model.specs.Table.{Table}
use Rattle.anyk_model.specs.Query.{total}
use Rattle.bound_query.specs.KeyParts.{sum_of_all}
use Rattle.bound_query.specs.WeighedQuery.{BoundQuery}
use Rattle.node_build.specs.Nodes.{AreNodeRows, AreRowsOfNodes, IsJoinTreeOf, item_of}
use Rattle.plan_build.proofs.Witnesses.{items_ordered}
use Rattle.witness_key.proofs.WitnessSums.{Chosen, IsOrderOf, choose, total_reordered, total_same}

-- ---- sums

total_of_list : (xs : List ℕ) (f : ℕ → ℤ) (q : ℕ) → ((v : ℕ) → v < length xs → f (q + v) ≡ pos (get_or xs v 0))
    → total (map f (range_with_len q (length xs))) ≡ pos (sum_of_all xs)
total_of_list [] f q each = refl
total_of_list (x ∷ xs) f q each =
    let none : q ≡ q + 0 = omega arith in
    let here : f q ≡ pos x = ap f none ∙ each 0 (omega arith) in
    let rest = total_of_list xs f (q + 1) (λ v l. let move : (q + 1) + v ≡ q + suc v = omega arith in ap f move ∙ each (suc v) (omega (arith, l))) in
    omega (arith, ints, here, rest)

total_of_all : (xs : List ℕ) → total (map (λ v. pos (get_or xs v 0)) (range_with_len 0 (length xs))) ≡ pos (sum_of_all xs)
total_of_all xs = total_of_list xs (λ v. pos (get_or xs v 0)) 0 (λ v l. let none : 0 + v ≡ v = omega arith in ap (λ w. pos (get_or xs w 0)) none)

-- numbers in another order have the same sum
pub sum_reordered : (n : ℕ) (place : ℕ → ℕ) → IsOrderOf n place → (xs ys : List ℕ) → length xs ≡ n → length ys ≡ n
    → ((v : ℕ) → v < n → get_or xs v 0 ≡ get_or ys (place v) 0) → sum_of_all xs ≡ sum_of_all ys
sum_reordered n place order xs ys long alike same =
    let value : ℕ → ℤ = λ v. pos (get_or ys v 0) in
    let first : total (map (λ v. pos (get_or xs v 0)) (range_with_len 0 n)) ≡ pos (sum_of_all xs) =
    ap (λ k. total (map (λ v. pos (get_or xs v 0)) (range_with_len 0 k))) (sym long) ∙ total_of_all xs in
    let second : total (map value (range_with_len 0 n)) ≡ pos (sum_of_all ys) = ap (λ k. total (map value (range_with_len 0 k))) (sym alike) ∙ total_of_all ys in
    let moved : total (map (λ v. pos (get_or xs v 0)) (range_with_len 0 n)) ≡ total (map value (range_with_len 0 n)) =
    total_same (λ v. pos (get_or xs v 0)) (λ v. value (place v)) n (λ v l. ap pos (same v l)) ∙ total_reordered n place order value in
    omega (arith, ints, first, second, moved)

-- ---- where each number of one order stands in another

module _ (n : ℕ) (first second : ℕ → ℕ) (one : IsOrderOf n first) (two : IsOrderOf n second) where
  -- place v of the second has what stands at place u of the first
  abbrev Meets : ℕ → ℕ → Type 0
  Meets u v = (v < n) × (second v ≡ first u)

  stands : Chosen n Meets
  stands = choose n Meets (λ u l.
      let found = two.each (first u) (one.within u l) in
      let met : Meets u found.0 = (found.1, found.2) in
      (found.0, met))

  pub place_in : ℕ → ℕ
  place_in u = get_or stands.list u 0

  pub place_within : (u : ℕ) → u < n → place_in u < n
  unfolding place_in
  place_within u l = (stands.each u l).0

  pub place_stands : (u : ℕ) → u < n → second (place_in u) ≡ first u
  unfolding place_in
  place_stands u l = (stands.each u l).1

  -- what stands at one place is at no other
  pub alone : (u v : ℕ) → u < n → v < n → second u ≡ second v → u ≡ v
  alone u v lu lv same = elim (cases_order u v) [
    | inl is ↦ is
    | inr (inl less) ↦ absurd (two.distinct u v less lv same)
    | inr (inr more) ↦ absurd (two.distinct v u more lu (sym same))
  ]

  pub places_ordered : IsOrderOf n place_in
  places_ordered = record {
    within = place_within;
    distinct = λ u v less l same.
        let low : u < n = omega (arith, less, l) in
        one.distinct u v less l (sym (place_stands u low) ∙ ap second same ∙ place_stands v l);
    each = λ a l.
        let found = one.each (second a) (two.within a l) in
        (found.0, found.1, alone (place_in found.0) a (place_within found.0 found.1) l (place_stands found.0 found.1 ∙ found.2));
  }

-- ---- rows of nodes

module _ (bound : BoundQuery) (tables : List Table) (from to : JoinTree) (one : IsJoinTreeOf bound.query from) (two : IsJoinTreeOf bound.query to) where
  abbrev n : ℕ
  n = length bound.query.items

  from_order : IsOrderOf n (item_of from)
  from_order = items_ordered bound.query from one

  to_order : IsOrderOf n (item_of to)
  to_order = items_ordered bound.query to two

  -- the node of one tree that has the item of a node of the other
  pub node_from : ℕ → ℕ
  node_from = place_in n (item_of to) (item_of from) to_order from_order

  pub node_within : (u : ℕ) → u < n → node_from u < n
  unfolding node_from
  node_within = place_within n (item_of to) (item_of from) to_order from_order

  pub node_item : (u : ℕ) → u < n → item_of from (node_from u) ≡ item_of to u
  unfolding node_from
  node_item = place_stands n (item_of to) (item_of from) to_order from_order

  -- the rows of the nodes of one tree, in the order of the other
  abbrev pub rows_moved : List (List ℕ) → List (List ℕ)
  rows_moved rows = map (λ u. slice_index_or rows (node_from u) []) (range_with_len 0 n)

  pub moved_count : (rows : List (List ℕ)) → length (rows_moved rows) ≡ n
  moved_count rows = length-map-range_with_len (λ u. slice_index_or rows (node_from u) []) 0 n

  moved_at : (rows : List (List ℕ)) (u : ℕ) → u < n → slice_index_or (rows_moved rows) u [] ≡ slice_index_or rows (node_from u) []
  moved_at rows u l = get_or-map-range_with_len (λ u. slice_index_or rows (node_from u) []) 0 n u u [] l (omega arith)

  pub moved_rows : (rows : List (List ℕ)) → AreRowsOfNodes bound tables from rows → AreRowsOfNodes bound tables to (rows_moved rows)
  moved_rows rows are = record {
    count = moved_count rows ∙ sym two.count;
    each = λ u l.
        let inside : u < n = (let c = two.count in omega (arith, l, c)) in
        let there : node_from u < from.count = (let c = one.count in let w = node_within u inside in omega (arith, w, c)) in
        let node : AreNodeRows bound.query tables (item_of to u) (slice_index_or rows (node_from u) []) =
        subst (λ i. AreNodeRows bound.query tables i (slice_index_or rows (node_from u) [])) (node_item u inside) (are.each (node_from u) there) in
        subst (AreNodeRows bound.query tables (item_of to u)) (sym (moved_at rows u inside)) node;
  }

  -- the number of rows of each node
  pub moved_length : (rows : List (List ℕ)) → length rows ≡ n → (u : ℕ) → u < n → get_or (map length (rows_moved rows)) u 0 ≡ get_or (map length rows) (node_from u) 0
  moved_length rows long u l =
      let here = moved_count rows in
      let there = node_within u l in
      get_or-map length (rows_moved rows) u [] 0 (omega (arith, l, here))
      ∙ ap length (moved_at rows u l)
      ∙ sym (get_or-map length rows (node_from u) [] 0 (omega (arith, there, long)))

  nodes_ordered : IsOrderOf n node_from
  unfolding node_from
  nodes_ordered = places_ordered n (item_of to) (item_of from) to_order from_order

  pub moved_sum : (rows : List (List ℕ)) → length rows ≡ n → sum_of_all (map length (rows_moved rows)) ≡ sum_of_all (map length rows)
  moved_sum rows long =
      sum_reordered n node_from nodes_ordered (map length (rows_moved rows)) (map length rows)
      (length-map (rows_moved rows) length ∙ moved_count rows) (length-map rows length ∙ long) (moved_length rows long)
