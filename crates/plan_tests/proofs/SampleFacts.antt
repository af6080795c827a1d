-- What holds of the trees that the tests build.
use Rattle.std.proofs.Common.{◌≡◌, ℕ, ℤ, pos, zero, suc, ◌+◌, ◌^◌, ◌<◌, ◌≤◌, cond, nat_lt, List, [], ◌∷◌, ◌++◌, length, map, get_or, unsigned_abs, refl, sym, ap, ◌∙◌, inl, inr, arith, length-append, Result, Ok, Err, IfOk, OnOk}
use Rattle.std.proofs.Math.ListN.{set}
use Rattle.std.proofs.lemmas.Bool.{cases_eq}
use Rattle.std.proofs.lemmas.Bool.Decides.{nat_tests}
use Rattle.std.proofs.lemmas.List.{map-append, get_or_append_left, get_or_push, get_or-set_same, get_or-set_other, length-map, length-set}
use Rattle.tdp_model.specs.KeyTuple.{KeyOf, slot_of}
use Rattle.tdp_model.specs.TreeProblem.{sum_from}
use Rattle.rank_key.specs.Keys.{IsHeld, IsInLimits}
use Rattle.tdp_core.specs.RawView.{RawView, RawRowView, AreShapes, AreShapesHeld, raw_len, rows_at, with_row, shape_item, shape_parent, shape_cap, shape_children}
use Rattle.tdp_core.specs.TreeView.{kids_below}
use Rattle.tdp_core.specs.Solutions.{IsTieFreeRaw}
use Rattle.plan_tests.specs.SampleTrees.{IsSample, hundreds, sample_shapes, sample_children}
use Rattle.plan_tests.proofs.Held.{three_nodes_held}

hundred : (i : ℕ) → get_or hundreds i 0 ≤ 100
hundred zero = omega arith
hundred (suc zero) = omega arith
hundred (suc (suc zero)) = omega arith
hundred (suc (suc (suc zero))) = omega arith
hundred (suc (suc (suc (suc zero)))) = omega arith
hundred (suc (suc (suc (suc (suc zero))))) = omega arith
hundred (suc (suc (suc (suc (suc (suc zero)))))) = omega arith
hundred (suc (suc (suc (suc (suc (suc (suc zero))))))) = omega arith
hundred (suc (suc (suc (suc (suc (suc (suc (suc i)))))))) = omega arith

capped : (i n : ℕ) → n ≤ 100 → cond {A = ℕ} (nat_lt i 8) n 0 ≤ 100
capped i n e = grind (arith, nat_tests)

pub item_is : (v : ℕ) → v < 3 → shape_item sample_shapes v ≡ v
item_is zero h = refl
item_is (suc zero) h = refl
item_is (suc (suc zero)) h = refl
item_is (suc (suc (suc v))) h = absurd (omega arith)

parent_less : (q : ℕ) → 0 < q → q < 3 → shape_parent sample_shapes q < q
parent_less zero some h = absurd (omega arith)
parent_less (suc zero) some h = omega arith
parent_less (suc (suc zero)) some h = omega arith
parent_less (suc (suc (suc q))) some h = absurd (omega arith)

caps_few : (i : ℕ) → sum_from ◌+◌ 0 (λ v. shape_cap sample_shapes v i) 3 0 < 2 ^ 127
unfolding sum_from
caps_few i = omega (arith, capped i (get_or hundreds i 0) (hundred i))

pub sample_shaped : AreShapes sample_shapes
sample_shaped = record {
  some_node = omega arith;
  few_nodes = omega arith;
  root = refl;
  parents_first = parent_less;
  items = λ v h. omega (arith, h, item_is v h);
  items_apart = λ u v hu hv e. sym (item_is u hu) ∙ e ∙ item_is v hv;
  caps_fit = caps_few;
}

module _ {R : Type 0} {d items limit rows : ℕ} (key : R → KeyOf d 16)
    (holds : (k : KeyOf d 16) → IsInLimits d items limit rows k → IsHeld d key k)
    (roomy : 2 ^ 21 ≤ rows) (few : 16 ≤ items) (wide : 2 ^ 127 ≤ limit) where
  pub sample_held : ((r : R) (i : ℕ) → i < 16 → slot_of d 16 i (key r) < rows) → rows ≤ 2 ^ 32 → AreShapesHeld d key sample_shapes
  sample_held low narrow = three_nodes_held key holds roomy few wide low narrow _ _ refl refl refl
      (λ i. capped i (get_or hundreds i 0) (hundred i)) (λ i. capped i (get_or hundreds i 0) (hundred i)) (λ i. capped i (get_or hundreds i 0) (hundred i))

pub children_are : (v : ℕ) → v < 3 → shape_children sample_shapes v ≡ sample_children v
unfolding kids_below
children_are zero h = refl
children_are (suc zero) h = refl
children_are (suc (suc zero)) h = refl
children_are (suc (suc (suc v))) h = absurd (omega arith)

-- one sum within the caps
pub sum_capped : (v i : ℕ) (s : ℤ) → v < 3 → unsigned_abs s ≤ 100 → unsigned_abs (get_or (s ∷ []) i (pos 0)) ≤ shape_cap sample_shapes v i
sum_capped v (suc i) s h few = omega arith
sum_capped zero zero s h few = few
sum_capped (suc zero) zero s h few = few
sum_capped (suc (suc zero)) zero s h few = few
sum_capped (suc (suc (suc v))) zero s h few = absurd (omega arith)

abbrev numbers_of : {R : Type 0} → List (RawRowView R) → List ℕ
numbers_of xs = map (λ x. x.row.row) xs

number_more : {R : Type 0} (xs : List (RawRowView R)) (x : RawRowView R) → x.row.row ≡ length xs → ((i : ℕ) → i < length xs → get_or (numbers_of xs) i 0 ≡ i) → (i : ℕ) → i < length (xs ++ x ∷ []) → get_or (numbers_of (xs ++ x ∷ [])) i 0 ≡ i
number_more xs x is before i l =
    let long : length (numbers_of xs) ≡ length xs = length-map xs (λ y. y.row.row) in
    ap (λ ns. get_or ns i 0) (map-append (λ y. y.row.row) xs (x ∷ []))
    ∙ elim (cases_eq i (length xs)) [
      | inl e ↦ get_or_push (numbers_of xs) x.row.row 0 i (omega (arith, long)) ∙ is ∙ sym e
      | inr other ↦
          let inside : i < length xs = omega (arith, length-append xs (x ∷ [])) in
          get_or_append_left (numbers_of xs) (x.row.row ∷ []) 0 i (omega (arith, long)) ∙ before i inside
    ]

module _ {R : Type 0} where
  pub sample_more : (t : RawView R) (v : ℕ) (x : RawRowView R) → IsSample t → v < 3 → x.row.row ≡ raw_len t v → IsSample (with_row t v x)
  sample_more t v x sample l is =
      let more = rows_at t v ++ x ∷ [] in
      record {
        shapes = sample.shapes;
        every_node = length-set t.rows v more ∙ sample.every_node;
        numbered = λ u i h. elim (cases_eq u v) [
          | inl e ↦
              let here : get_or (set t.rows v more) u [] ≡ more = ap (λ w. get_or (set t.rows v more) w []) e ∙ get_or-set_same t.rows v more [] (omega (arith, sample.every_node)) in
              ap (λ xs. get_or (numbers_of xs) i 0) here ∙ number_more (rows_at t v) x is (sample.numbered v) i (omega (arith, h, ap length here))
          | inr other ↦
              let same : get_or (set t.rows v more) u [] ≡ rows_at t u = get_or-set_other t.rows v u more [] other in
              ap (λ xs. get_or (numbers_of xs) i 0) same ∙ sample.numbered u i (omega (arith, h, ap length same))
        ];
      }

  -- rows with different places have different numbers
  pub sample_tie_free : (t : RawView R) → IsSample t → IsTieFreeRaw t
  sample_tie_free t sample v i j l hi hj linked same = sym (sample.numbered v i hi) ∙ same ∙ sample.numbered v j hj

-- what one result's value has, from what another clause says of it
pub on_ok : {A E : Type 0} (P Q : A → Type 0) → ((x : A) → Q x → P x) → (r : Result A E) → IfOk r Q → IfOk r P
on_ok P Q h (Ok x) q = h x q
on_ok P Q h (Err e) q = tt

pub on_ok_by : {A E : Type 0} (P Q : Type 0) → (Q → P) → (r : Result A E) → OnOk r Q → OnOk r P
on_ok_by P Q h (Ok x) q = h q
on_ok_by P Q h (Err e) q = tt
