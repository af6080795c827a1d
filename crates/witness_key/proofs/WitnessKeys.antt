-- The key of rows of nodes is the key of the combination that they make.
use Rattle.std.proofs.Common.{◌≡◌, ◌+◌, ◌<◌, ◌≤◌, ◌==◌, ℕ, zero, suc, Bool, true, false, cond, ℤ, pos, ◌+ℤ◌, List, [], map, length, get_or, replicate, set, slice_index, refl, sym, ap, ◌∙◌, inl, inr, arith}
use Rattle.std.specs.List.{range_with_len}
use Rattle.std.proofs.lemmas.Bool.{cases_eq, cases_lt}
use Rattle.std.proofs.lemmas.Grind.{get_or-set_at}
use Rattle.std.proofs.lemmas.Int.{ints}
use Rattle.std.proofs.lemmas.List.{get_or-map, get_or-replicate, get_or-set_other, get_or_past, length-map}
use Rattle.anyk_model.specs.Table.{Table}
use Rattle.anyk_model.specs.Query.{OrderKey, Query, rank_of, total}
use Rattle.bound_query.specs.NamedPlaces.{NamesExist, KeyInside}
use Rattle.bound_query.specs.Weights.{key_at, part_of}
use Rattle.bound_query.proofs.Parts.{parts_add}
use Rattle.bound_query.proofs.Lists.{all_at}
use Rattle.tdp_model.specs.KeyTuple.{KeyOf, key_add, key_none, slot_of}
use Rattle.tdp_model.specs.KeyNumbers.{sum_of}
use Rattle.tdp_model.specs.TreeProblem.{sum_from}
use Rattle.tdp_model.proofs.KeyNumbers.{key_same, slot_of_lists, sum_of_add, sum_of_lists, sum_of_none}
use Rattle.tdp_model.proofs.KeyTuples.{slot_of_add, slot_of_none}
use Rattle.rank_key.specs.Keys.{row_key}
use Rattle.witness_key.specs.WitnessKey.{witness_key}
use Rattle.witness_key.proofs.WitnessSums.{IsOrderOf, equal_test, other_test, total_one, total_reordered, total_same, total_zeros}

-- ---- the components of a sum of keys

module _ (d : ℕ) (f : ℕ → KeyOf d 16) where
  abbrev whole : ℕ → ℕ → KeyOf d 16
  whole n q = sum_from (key_add d 16) (key_none d 16) f n q

  whole_sums : (i n q : ℕ) → sum_of d 16 i (whole n q) ≡ total (map (λ v. sum_of d 16 i (f v)) (range_with_len q n))
  unfolding sum_from
  whole_sums i zero q = sum_of_none d 16 i
  whole_sums i (suc n) q =
      let next : suc q ≡ q + 1 = omega arith in
      sum_of_add d 16 i (f q) (whole n (suc q))
      ∙ ap (λ z. sum_of d 16 i (f q) +ℤ z) (whole_sums i n (suc q) ∙ ap (λ r. total (map (λ v. sum_of d 16 i (f v)) (range_with_len r n))) next)

  whole_slots : (i n q : ℕ) → pos (slot_of d 16 i (whole n q)) ≡ total (map (λ v. pos (slot_of d 16 i (f v))) (range_with_len q n))
  unfolding sum_from
  whole_slots i zero q = ap pos (slot_of_none d 16 i)
  whole_slots i (suc n) q =
      let next : suc q ≡ q + 1 = omega arith in
      let rest = whole_slots i n (suc q) ∙ ap (λ r. total (map (λ v. pos (slot_of d 16 i (f v))) (range_with_len r n))) next in
      omega (arith, ints, rest, slot_of_add d 16 i (f q) (whole n (suc q)))

-- the slots of the key of one row
slot_alone : (slot row i : ℕ) → i < 16 → get_or (set (replicate 16 0) slot row) i 0 ≡ cond (i == slot) row 0
slot_alone slot row i few = elim (cases_eq i slot) [
  | inl same ↦ get_or-set_at (replicate 16 0) slot i row 0 same (omega arith) ∙ ap (λ (b : Bool). cond b row 0) (sym (equal_test i slot same))
  | inr other ↦
      get_or-set_other (replicate 16 0) slot i row 0 other
      ∙ get_or-replicate 16 i 0 0 few
      ∙ ap (λ (b : Bool). cond b row 0) (sym (other_test i slot other))
]

at_if : (b : Bool) (row : ℕ) → pos (cond b row 0) ≡ cond b (pos row +ℤ pos 0) (pos 0)
at_if b row = elim b as (λ b. pos (cond b row 0) ≡ cond b (pos row +ℤ pos 0) (pos 0)) [ true ↦ omega (arith, ints) | false ↦ refl ]

pos_same : (a b : ℕ) → pos a ≡ pos b → a ≡ b
pos_same a b e = omega (arith, ints)

module _ (query : Query) (tables : List Table) (within : NamesExist query tables) (d : ℕ) (item : ℕ → ℕ) (rows : List ℕ) (f : ℕ → KeyOf d 16)
    (few : length query.items ≤ 16) (order : IsOrderOf (length query.items) item) (same : length rows ≡ length query.items)
    (each : (v : ℕ) → v < length query.items → f v ≡ row_key d (map (part_of tables query.items (item v) (slice_index rows (item v))) query.order) (item v) (slice_index rows (item v))) where
  abbrev n : ℕ
  n = length query.items

  abbrev parts : ℕ → List ℤ
  parts a = map (part_of tables query.items a (slice_index rows a)) query.order

  abbrev slots : ℕ → List ℕ
  slots a = set (replicate 16 0) a (slice_index rows a)

  abbrev no_key : OrderKey
  no_key = record { terms = []; descending = false }

  sums_same : (i : ℕ) → i < d → sum_of d 16 i (whole d f n 0) ≡ total (map (λ a. get_or (parts a) i (pos 0)) (range_with_len 0 n))
  sums_same i l =
      whole_sums d f i n 0
      ∙ total_same (λ v. sum_of d 16 i (f v)) (λ v. get_or (parts (item v)) i (pos 0)) n
      (λ v inside. ap (sum_of d 16 i) (each v inside) ∙ sum_of_lists d 16 i (parts (item v)) (slots (item v)) l)
      ∙ total_reordered n item order (λ a. get_or (parts a) i (pos 0))

  sums_known : (i : ℕ) → total (map (λ a. get_or (parts a) i (pos 0)) (range_with_len 0 n)) ≡ get_or (map (rank_of query tables rows) query.order) i (pos 0)
  sums_known i = elim (cases_lt i (length query.order)) [
    | inl there ↦
        total_same (λ a. get_or (parts a) i (pos 0)) (λ a. part_of tables query.items a (slice_index rows a) (key_at query.order i)) n
        (λ a l. get_or-map (part_of tables query.items a (slice_index rows a)) query.order i no_key (pos 0) there)
        ∙ parts_add query tables rows (key_at query.order i) (all_at (KeyInside tables query.items) query.order i no_key within.order there)
        ∙ sym (get_or-map (rank_of query tables rows) query.order i no_key (pos 0) there)
    | inr past ↦
        total_same (λ a. get_or (parts a) i (pos 0)) (λ a. pos 0) n
        (λ a l. let size = length-map query.order (part_of tables query.items a (slice_index rows a)) in get_or_past (parts a) i (pos 0) (omega (arith, size, past)))
        ∙ total_zeros 0 n
        ∙ sym (let size = length-map query.order (rank_of query tables rows) in get_or_past (map (rank_of query tables rows) query.order) i (pos 0) (omega (arith, size, past)))
  ]

  slots_same : (i : ℕ) → i < 16 → pos (slot_of d 16 i (whole d f n 0)) ≡ total (map (λ a. cond (i == a) (pos (slice_index rows a) +ℤ pos 0) (pos 0)) (range_with_len 0 n))
  slots_same i l =
      whole_slots d f i n 0
      ∙ total_same (λ v. pos (slot_of d 16 i (f v))) (λ v. cond (i == item v) (pos (slice_index rows (item v)) +ℤ pos 0) (pos 0)) n
      (λ v inside.
      ap (λ k. pos (slot_of d 16 i k)) (each v inside)
      ∙ ap pos (slot_of_lists d 16 i (parts (item v)) (slots (item v)) l ∙ slot_alone (item v) (slice_index rows (item v)) i l)
      ∙ at_if (i == item v) (slice_index rows (item v)))
      ∙ total_reordered n item order (λ a. cond (i == a) (pos (slice_index rows a) +ℤ pos 0) (pos 0))

  slots_known : (i : ℕ) → total (map (λ a. cond (i == a) (pos (slice_index rows a) +ℤ pos 0) (pos 0)) (range_with_len 0 n)) ≡ pos (get_or rows i 0)
  slots_known i = elim (cases_lt i n) [
    | inl inside ↦ total_one i n (λ a. pos (slice_index rows a)) inside
    | inr past ↦
        total_same (λ a. cond (i == a) (pos (slice_index rows a) +ℤ pos 0) (pos 0)) (λ a. pos 0) n
        (λ a l. ap (λ (b : Bool). cond b (pos (slice_index rows a) +ℤ pos 0) (pos 0)) (other_test i a (λ e. omega (arith, e, l, past))))
        ∙ total_zeros 0 n
        ∙ ap pos (sym (get_or_past rows i 0 (omega (arith, same, past))))
  ]

  -- the keys of the nodes' rows add up to the key of the combination
  pub keys_add : sum_from (key_add d 16) (key_none d 16) f (length query.items) 0 ≡ witness_key d query tables rows
  keys_add =
      key_same d 16 (whole d f n 0) (witness_key d query tables rows)
      (λ i l. sums_same i l ∙ sums_known i ∙ sym (sum_of_lists d 16 i (map (rank_of query tables rows) query.order) rows l))
      (λ i l. pos_same _ _ (slots_same i l ∙ slots_known i) ∙ sym (slot_of_lists d 16 i (map (rank_of query tables rows) query.order) rows l))
