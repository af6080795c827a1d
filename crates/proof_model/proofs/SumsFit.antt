-- Sums of keys of rows, at most one of each node, are in the range of keys.
use Rattle.std.proofs.Common.{◌≡◌, ◌<◌, ◌≤◌, ◌+◌, ◌-◌, ◌^◌, ◌==◌, ℕ, zero, suc, Bool, true, false, cond}
use Rattle.std.proofs.Common.{ℤ, pos, unsigned_abs, List, [], ◌∷◌, map, length, get_or, slice_index}
use Rattle.std.proofs.Common.{replicate, refl, sym, ap, subst, ◌∙◌, inl, inr, arith}
use Rattle.std.specs.Int.{w128}
use Rattle.std.specs.List.{range_with_len}
use Rattle.std.proofs.Math.ListN.{set}
use Rattle.std.proofs.lemmas.Bool.{cases_eq}
use Rattle.std.proofs.lemmas.Bool.Decides.{Decides-eqb}
use Rattle.std.proofs.lemmas.Grind.{get_or-set_at}
use Rattle.std.proofs.lemmas.Int.{fits_signed_from_abs}
use Rattle.std.proofs.lemmas.List.{get_or-map, get_or-set_other, get_or-replicate}
use Rattle.tdp_model.specs.KeyTuple.{KeyOf, key_add, key_none, slot_of}
use Rattle.tdp_model.specs.KeyNumbers.{sum_of}
use Rattle.tdp_model.specs.TreeProblem.{sum_from}
use Rattle.tdp_model.proofs.KeyNumbers.{sum_of_add, sum_of_lists, sum_of_none, slot_of_lists}
use Rattle.tdp_model.proofs.KeyTuples.{slot_of_add, slot_of_none}
use Rattle.tdp_model.proofs.Ranges as ranges
use Rattle.rank_key.specs.Keys.{IsInRange}
use Rattle.anyk_model.specs.Table.{Table, most_rows, table_at}
use Rattle.anyk_model.specs.Query.{OrderKey}
use Rattle.bound_query.specs.KeyParts.{sum_of_all}
use Rattle.bound_query.specs.WeighedQuery.{BoundQuery, Fits}
use Rattle.bound_query.specs.Weights.{cap_of, key_at, part_of}
use Rattle.bound_query.proofs.Parts.{nat_abs_add, part_capped}
use Rattle.bound_query.proofs.Range.{caps_fit}
use Rattle.bound_query.specs.Shape.{HasTree}
use Rattle.bound_query.proofs.NodeSums.{AreApart, fewer_nodes, over, sum_range}
use Rattle.proof_model.specs.Problem.{Problem}
use Rattle.proof_model.specs.QueryProblem.{problem_of}
use Rattle.proof_model.specs.Parts.{HaveFewRows, IsPart}
use Rattle.proof_model.specs.Wide.{wide}

-- ---- wide keys

-- a wide key is in range if its sums and its slots are
pub wide_fits : (few d : ℕ) (k : KeyOf few 16) → few ≤ d
    → ((i : ℕ) → i < few → unsigned_abs (sum_of few 16 i k) < 2 ^ 127)
    → ((i : ℕ) → i < 16 → slot_of few 16 i k < 2 ^ 32)
    → IsInRange d (wide few d 16 k)
wide_fits few d k less sums slots = (
  λ i l. fits_signed_from_abs w128 (sum_of d 16 i (wide few d 16 k)) (at few d k i less sums l),
  λ i l. subst (λ (n : ℕ). n < 2 ^ 32) (sym (slot few d k i less)) (slots i l),
)
  where
    slot : (few d : ℕ) (k : KeyOf few 16) (i : ℕ) → few ≤ d → slot_of d 16 i (wide few d 16 k) ≡ slot_of few 16 i k
    slot zero zero k i h = refl
    slot zero (suc d) k i h = slot zero d k i (omega arith)
    slot (suc few) zero k i h = absurd (omega arith)
    slot (suc few) (suc d) k i h = slot few d k.1 i (omega arith)

    at : (few d : ℕ) (k : KeyOf few 16) (i : ℕ) → few ≤ d
        → ((i : ℕ) → i < few → unsigned_abs (sum_of few 16 i k) < 2 ^ 127) → i < d
        → unsigned_abs (sum_of d 16 i (wide few d 16 k)) < 2 ^ 127
    at zero zero k i h sums l = absurd (omega arith)
    at zero (suc d) k zero h sums l = omega arith
    at zero (suc d) k (suc i) h sums l = at zero d k i (omega arith) (λ j m. absurd (omega arith)) (omega arith)
    at (suc few) zero k i h sums l = absurd (omega arith)
    at (suc few) (suc d) k zero h sums l = sums 0 (omega arith)
    at (suc few) (suc d) k (suc i) h sums l =
        at few d k.1 i (omega arith) (λ j m. sums (suc j) (omega arith)) (omega arith)

-- ---- the parts of the nodes of a query

slot_small : (slot row i : ℕ) → i < 16 → row < 2 ^ 32
    → get_or (set (replicate 16 0) slot row) i 0 ≤ cond (slot == i) (2 ^ 32 - 1) 0
slot_small slot row i inside less = elim (cases_eq i slot) [
  | inl same ↦
      let at : get_or (set (replicate 16 0) slot row) i 0 ≡ row =
      get_or-set_at (replicate 16 0) slot i row 0 same (omega arith) in
      let hit : (slot == i) ≡ true = (Decides-eqb slot i).1 (sym same) in
      subst (λ (b : Bool). get_or (set (replicate 16 0) slot row) i 0 ≤ cond {A = ℕ} b (2 ^ 32 - 1) 0) (sym hit)
      (omega (arith, at, less))
  | inr other ↦ omega (
    arith,
    get_or-set_other {A = ℕ} (replicate 16 0) slot i row 0 other,
    get_or-replicate {A = ℕ} 16 i 0 0 inside,
  )
]

pub few_rows_at : (tables : List Table) (i : ℕ) → HaveFewRows tables → length (table_at tables i).rows ≤ most_rows
few_rows_at [] i h = omega arith
few_rows_at (t ∷ ts) zero h = h.0
few_rows_at (t ∷ ts) (suc i) h = few_rows_at ts i h.1

module _ (bound : BoundQuery) (tables : List Table) (atoms parents : List ℕ) (fits : Fits bound tables)
    (few : HaveFewRows tables) (hung : HasTree bound.query atoms parents) where
  abbrev d : ℕ
  d = length bound.query.order

  abbrev item : ℕ → ℕ
  item = slice_index atoms

  abbrev t : Problem (KeyOf (length bound.query.order) 16)
  t = problem_of bound.query tables atoms parents

  apart : AreApart (length bound.query.items) item (length atoms) 0
  apart = record {
    within = λ v a b.
        omega (arith, hung.join_tree.within v (omega (arith, b)), hung.of_query.atoms);
    differ = λ u v a b c. hung.join_tree.distinct u v b (omega (arith, c));
  }

  row_small : (q row : ℕ) → t.IsRow q row → row < 2 ^ 32
  row_small q row h =
      let f = few_rows_at tables
      ((get_or bound.query.items (item q) (record { table = 0; alias = [] })).table) few in
      omega (arith, h.1, f)

  -- sum i of a row's key is within the cap of the node's item
  abbrev sum_cap : ℕ → ℕ → ℕ
  sum_cap i item = cap_of tables bound.query.items item (key_at bound.query.order i)

  abbrev weight : ℕ → KeyOf (length bound.query.order) 16 → ℕ
  weight i k = unsigned_abs (sum_of d 16 i k)

  weight_add : (i : ℕ) (a b : KeyOf (length bound.query.order) 16)
      → weight i (key_add d 16 a b) ≤ weight i a + weight i b
  weight_add i a b =
      subst (λ z. unsigned_abs z ≤ weight i a + weight i b) (sym (sum_of_add d 16 i a b))
      (nat_abs_add (sum_of d 16 i a) (sum_of d 16 i b))

  weight_none : (i : ℕ) → weight i (key_none d 16) ≡ 0
  weight_none i = ap unsigned_abs (sum_of_none d 16 i)

  row_weight : (i q row : ℕ) → i < d → weight i (t.key q row) ≤ sum_cap i (item q)
  row_weight i q row l =
      let part : OrderKey → ℤ = part_of tables bound.query.items (item q) row in
      let at : sum_of d 16 i (t.key q row) ≡ part (key_at bound.query.order i) =
      sum_of_lists d 16 i (map part bound.query.order) (set (replicate 16 0) (item q) row) l
      ∙ get_or-map part bound.query.order i (record { terms = []; descending = false }) (pos 0) l in
      let small = part_capped tables bound.query.items row (item q) (key_at bound.query.order i) in
      subst (λ z. unsigned_abs z ≤ sum_cap i (item q)) (sym at) small

  abbrev slot_cap : ℕ → ℕ → ℕ
  slot_cap i item = cond (item == i) (2 ^ 32 - 1) 0

  row_slot : (i q row : ℕ) → i < 16 → t.IsRow q row → slot_of d 16 i (t.key q row) ≤ slot_cap i (item q)
  row_slot i q row l h =
      let at = slot_of_lists d 16 i (map (part_of tables bound.query.items (item q) row) bound.query.order)
      (set (replicate 16 0) (item q) row) l in
      omega (arith, at, slot_small (item q) row i l (row_small q row h))

  slot_add : (i : ℕ) (a b : KeyOf (length bound.query.order) 16)
      → slot_of d 16 i (key_add d 16 a b) ≤ slot_of d 16 i a + slot_of d 16 i b
  slot_add i a b = let h = slot_of_add d 16 i a b in omega (arith, h)

  -- the slots of all items: each number is the slot of one item at most
  slots_all : (i : ℕ) → over (slot_cap i) (length bound.query.items) ≤ 2 ^ 32 - 1
  slots_all i = from (length bound.query.items) 0
    where
      none_before : (n a : ℕ) → i < a → sum_of_all (map (slot_cap i) (range_with_len a n)) ≡ 0
      none_before zero a h = refl
      none_before (suc n) a h =
          let rest = none_before n (a + 1) (omega (arith, h)) in
          omega (arith, ap (λ (b : Bool). cond {A = ℕ} b (2 ^ 32 - 1) 0) (by (a == i) refl), rest)
        where
          by : (b : Bool) → (a == i) ≡ b → b ≡ false
          by true e = absurd (let s = (Decides-eqb a i).0 e in omega (arith, s, h))
          by false e = refl

      from : (n a : ℕ) → sum_of_all (map (slot_cap i) (range_with_len a n)) ≤ 2 ^ 32 - 1
      from zero a = omega arith
      from (suc n) a = by (a == i) refl (from n (a + 1))
        where
          by : (b : Bool) → (a == i) ≡ b → sum_of_all (map (slot_cap i) (range_with_len (a + 1) n)) ≤ 2 ^ 32 - 1
              → cond {A = ℕ} b (2 ^ 32 - 1) 0 + sum_of_all (map (slot_cap i) (range_with_len (a + 1) n)) ≤ 2 ^ 32 - 1
          by true e later = omega (arith, none_before n (a + 1) (omega (arith, (Decides-eqb a i).0 e)))
          by false e later = omega (arith, later)

  module _ (part : ℕ → KeyOf (length bound.query.order) 16) (parts : (q : ℕ) → q < length atoms
      → IsPart t q (part q)) where
    abbrev whole : KeyOf (length bound.query.order) 16
    whole = sum_from (key_add d 16) (key_none d 16) part (length atoms) 0

    part_weight : (i q : ℕ) → i < d → q < length atoms → weight i (part q) ≤ sum_cap i (item q)
    part_weight i q l h = elim (parts q h) [
      | inl none ↦ let e = ap (weight i) none in let z = weight_none i in omega (arith, e, z)
      | inr row ↦ let e = ap (weight i) row.2 in let small = row_weight i q row.0 l in omega (arith, e, small)
    ]

    part_slot : (i q : ℕ) → i < 16 → q < length atoms → slot_of d 16 i (part q) ≤ slot_cap i (item q)
    part_slot i q l h = elim (parts q h) [
      | inl none ↦ let e = ap (slot_of d 16 i) none in let z = slot_of_none d 16 i in omega (arith, e, z)
      | inr row ↦ let e = ap (slot_of d 16 i) row.2 in let small = row_slot i q row.0 l row.1 in omega (arith, e, small)
    ]

    sums_small : (i : ℕ) → i < d → weight i whole < 2 ^ 127
    sums_small i l =
        let a = ranges.weight_sum (key_add d 16) (key_none d 16) (weight i) (weight_add i) (weight_none i) part
        (λ v. sum_cap i (item v)) (length atoms) 0 (λ q _ b. part_weight i q l (omega (arith, b))) in
        let b = fewer_nodes (length bound.query.items) item (length atoms) (sum_cap i) apart in
        let c : over (sum_cap i) (length bound.query.items) ≤ 170141183460469231731687303715884105727 =
        caps_fit bound tables i fits l in
        omega (arith, a, b, c, sum_range (λ v. sum_cap i (item v)) (length atoms) 0)

    slots_small : (i : ℕ) → i < 16 → slot_of d 16 i whole < 2 ^ 32
    slots_small i l =
        let a = ranges.weight_sum (key_add d 16) (key_none d 16) (slot_of d 16 i) (slot_add i)
        (slot_of_none d 16 i) part
        (λ v. slot_cap i (item v)) (length atoms) 0 (λ q _ b. part_slot i q l (omega (arith, b))) in
        let b = fewer_nodes (length bound.query.items) item (length atoms) (slot_cap i) apart in
        omega (arith, a, b, slots_all i, sum_range (λ v. slot_cap i (item v)) (length atoms) 0)

    pub sums_fit_lem : (more : ℕ) → length bound.query.order ≤ more
        → IsInRange more (wide (length bound.query.order) more 16 whole)
    sums_fit_lem more less = wide_fits (length bound.query.order) more whole less sums_small slots_small
