-- The ranks of a query hold what the rows of its nodes add up to.
use Rattle.std.proofs.Common.{◌≡◌, ◌<◌, ◌≤◌, ◌+◌, ◌-◌, ◌^◌, ◌==◌, ℕ, Bool, true, false, cond, nat_eq, List, length, refl, ap, ◌∙◌, inl, inr, arith}
use Rattle.std.specs.List.{range_with_len}
use Rattle.std.proofs.lemmas.Bool.{cases_lt, cond-false, ne_eqb}
use Rattle.tdp_model.specs.KeyTuple.{KeyOf, slot_of}
use Rattle.tdp_model.specs.TreeProblem.{sum_from}
use Rattle.rank_key.specs.Keys.{IsHeld, IsInLimits}
use Rattle.tdp_core.specs.declared.parts.NodeShape.{NodeShape}
use Rattle.tdp_core.specs.RawView.{AreShapesHeld, shape_cap, shape_item}
use Rattle.tdp_core.specs.WellFormed.{WithinCaps}
use Rattle.join_tree.specs.declared.tree.JoinTree.{JoinTree}
use Rattle.anyk_model.specs.Table.{Table}
use Rattle.anyk_model.specs.Query.{Query}
use Rattle.bound_query.proofs.Sums.{sum_ap, sum_zero}
use Rattle.bound_query.specs.WeighedQuery.{BoundQuery}
use Rattle.bound_query.proofs.Parts.{counts}
use Rattle.bound_query.proofs.NodeSums.{fewer_nodes, over, sum_fewer, sum_same}
use Rattle.node_build.specs.Nodes.{CapsBelow, IsJoinTreeOf, cap_at, item_of}
use Rattle.node_build.specs.Shapes.{AreShapesOf}
use Rattle.node_build.proofs.Shaped.{apart, item_known}

-- what an item adds to slot i, if the numbers of its rows are at most `most`
abbrev slot_most : (most i item : ℕ) → ℕ
slot_most most i item = cond (nat_eq i item) most 0

slot_counted : (most i item : ℕ) → slot_most most i item ≡ cond (i == item) (most + 0) 0
slot_counted most i item = by (nat_eq i item)
  where
    by : (b : Bool) → cond b most 0 ≡ cond b (most + 0) 0
    by true = omega arith
    by false = refl

-- of all items, one has slot i
one_slot : (most i n : ℕ) → i < n → over (slot_most most i) n ≡ most
one_slot most i n inside =
    sum_ap (slot_most most i) (λ k. cond (i == k) (most + 0) 0) (range_with_len 0 n) (slot_counted most i)
    ∙ counts i (λ k. most) (λ k. 0) 0 n (omega arith) (omega (arith, inside))
    ∙ (let none = sum_zero (range_with_len 0 n) in omega (arith, none))

module _ (query : Query) (join : JoinTree) (tree : IsJoinTreeOf query join) (most : ℕ) where
  abbrev slot_total : ℕ → ℕ
  slot_total i = sum_from ◌+◌ 0 (λ v. slot_most most i (item_of join v)) join.count 0

  slot_small : (i : ℕ) → i < length query.items → slot_total i ≤ most
  slot_small i inside =
      let few = fewer_nodes (length query.items) (item_of join) join.count (slot_most most i) (apart query join tree) in
      let one = one_slot most i (length query.items) inside in
      omega (arith, few, one)

  slot_none : (i : ℕ) → length query.items ≤ i → slot_total i ≡ 0
  slot_none i past =
      let each = sum_fewer (λ v. slot_most most i (item_of join v)) (λ v. 0) join.count 0
      (λ v a b. let known = item_known query join tree v (omega (arith, b)) in
      let none = cond-false (nat_eq i (item_of join v)) most 0 (ne_eqb i (item_of join v) (λ same. omega (arith, same, known, past))) in
      omega (arith, none)) in
      let few = fewer_nodes (length query.items) (item_of join) join.count (λ item. 0) (apart query join tree) in
      let zero = sum_zero (range_with_len 0 (length query.items)) in
      omega (arith, each, few, zero)

module _ (bound : BoundQuery) (tables : List Table) (join : JoinTree) (tree : IsJoinTreeOf bound.query join)
    (shapes : List NodeShape) (of_join : AreShapesOf bound tables join join.count shapes) where
  keys_held : {R : Type 0} (d : ℕ) (key : R → KeyOf d 16) (items limit rows : ℕ)
      → ((k : KeyOf d 16) → IsInLimits d items limit rows k → IsHeld d key k) → 0 < rows
      → length bound.query.items ≤ items → CapsBelow limit bound tables
      → (k : KeyOf d 16) → WithinCaps d (length shapes) (shape_item shapes) (shape_cap shapes) (rows - 1) k → IsHeld d key k
  keys_held d key items limit rows holds wide slots below k within =
      let most : ℕ = rows - 1 in
      let nodes : (f : ℕ → ℕ) → sum_from ◌+◌ 0 f (length shapes) 0 ≡ sum_from ◌+◌ 0 f join.count 0 =
      λ f. ap (λ (m : ℕ). sum_from ◌+◌ 0 f m 0) of_join.count in
      let slot_in : (i : ℕ) → sum_from ◌+◌ 0 (λ v. slot_most most i (shape_item shapes v)) (length shapes) 0 ≡ slot_total bound.query join tree most i =
      λ i. nodes (λ v. slot_most most i (shape_item shapes v))
      ∙ sum_same (λ v. slot_most most i (shape_item shapes v)) (λ v. slot_most most i (item_of join v)) join.count 0
      (λ v a b. ap (slot_most most i) (of_join.items v (omega (arith, b)))) in
      holds k (record {
        sums = λ i l.
            let here = within.0 i l in
            let all = nodes (λ v. shape_cap shapes v i) in
            let same = sum_same (λ v. shape_cap shapes v i) (λ v. cap_at bound tables (item_of join v) i) join.count 0
            (λ v a b. of_join.caps v i (omega (arith, b))) in
            let fewer = fewer_nodes (length bound.query.items) (item_of join) join.count (λ item. cap_at bound tables item i) (apart bound.query join tree) in
            let small = below i in
            omega (arith, here, all, same, fewer, small);
        slots = λ i l.
            let here = within.1 i l in
            let same = slot_in i in
            elim (cases_lt i (length bound.query.items)) [
              | inl inside ↦ (let small = slot_small bound.query join tree most i inside in omega (arith, here, same, small, wide))
              | inr past ↦ (let none = slot_none bound.query join tree most i past in omega (arith, here, same, none, wide))
            ];
        none = λ i past l.
            let here = within.1 i l in
            let same = slot_in i in
            let none = slot_none bound.query join tree most i (omega (arith, past, slots)) in
            omega (arith, here, same, none);
      })

  -- ranks that hold each key within these bounds hold what rows of the nodes can add up to
  pub shapes_held : {R : Type 0} (d : ℕ) (key : R → KeyOf d 16) (items limit rows : ℕ)
      → ((k : KeyOf d 16) → IsInLimits d items limit rows k → IsHeld d key k)
      → ((r : R) (i : ℕ) → i < 16 → slot_of d 16 i (key r) < rows) → rows ≤ 2 ^ 32 → 0 < rows
      → length bound.query.items ≤ items → CapsBelow limit bound tables → AreShapesHeld d key shapes
  shapes_held d key items limit rows holds low narrow some slots below = record {
    most = rows - 1;
    most_fits = omega (arith, narrow, some);
    slots = λ r i l. omega (arith, low r i l);
    keys = keys_held d key items limit rows holds some slots below;
  }
