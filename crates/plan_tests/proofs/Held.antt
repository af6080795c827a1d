-- Ranks hold what the tests ask of them: the keys of three nodes with small caps, and the sums of small tables.
use Rattle.std.proofs.Common.{◌≡◌, ℕ, ◌+◌, ◌-◌, ◌^◌, ◌<◌, ◌≤◌, zero, suc, ℤ, pos, unsigned_abs, cond, nat_eq, List, [], ◌∷◌, get_or, ap, arith}
use Rattle.std.proofs.lemmas.Bool.Decides.{nat_tests}
use Rattle.tdp_model.specs.KeyTuple.{KeyOf, slot_of}
use Rattle.tdp_model.specs.TreeProblem.{sum_from}
use Rattle.rank_key.specs.Keys.{IsHeld, IsInLimits, row_key}
use Rattle.rank_key.proofs.RowKeys.{row_held}
use Rattle.tdp_core.specs.WellFormed.{AreHeld, WithinCaps}
use Rattle.anyk_model.specs.Table.{Table}
use Rattle.bound_query.specs.WeighedQuery.{BoundQuery, Fits}
use Rattle.node_build.specs.Nodes.{CapsBelow}
use Rattle.node_build.proofs.Shaped.{caps_small}

-- rows of different items add at most one number to a slot
in_three_slots : (i most : ℕ) → cond {A = ℕ} (nat_eq i 2) most 0 + (cond {A = ℕ} (nat_eq i 1) most 0 + cond {A = ℕ} (nat_eq i 0) most 0) ≤ most
in_three_slots i most = grind (arith, nat_tests)

keys_held : {R : Type 0} {d items limit rows : ℕ} (key : R → KeyOf d 16)
    → ((k : KeyOf d 16) → IsInLimits d items limit rows k → IsHeld d key k)
    → 2 ^ 21 ≤ rows → 16 ≤ items → 2 ^ 127 ≤ limit
    → (item : ℕ → ℕ) (cap : ℕ → ℕ → ℕ) → item 0 ≡ 0 → item 1 ≡ 1 → item 2 ≡ 2
    → ((i : ℕ) → cap 0 i ≤ 100) → ((i : ℕ) → cap 1 i ≤ 100) → ((i : ℕ) → cap 2 i ≤ 100)
    → (k : KeyOf d 16) → WithinCaps d 3 item cap (rows - 1) k → IsHeld d key k
unfolding sum_from
keys_held {rows = rows} key holds roomy few wide item cap i0 i1 i2 c0 c1 c2 k within =
    let most : ℕ = rows - 1 in
    let first : (i : ℕ) → cond {A = ℕ} (nat_eq i (item 0)) most 0 ≡ cond {A = ℕ} (nat_eq i 0) most 0 = λ i. ap (λ v. cond {A = ℕ} (nat_eq i v) most 0) i0 in
    let second : (i : ℕ) → cond {A = ℕ} (nat_eq i (item 1)) most 0 ≡ cond {A = ℕ} (nat_eq i 1) most 0 = λ i. ap (λ v. cond {A = ℕ} (nat_eq i v) most 0) i1 in
    let third : (i : ℕ) → cond {A = ℕ} (nat_eq i (item 2)) most 0 ≡ cond {A = ℕ} (nat_eq i 2) most 0 = λ i. ap (λ v. cond {A = ℕ} (nat_eq i v) most 0) i2 in
    holds k (record {
      sums = λ i u. omega (arith, within.0 i u, c0 i, c1 i, c2 i);
      slots = λ i u. omega (arith, within.1 i u, first i, second i, third i, in_three_slots i most);
      none = λ i past u. absurd (omega arith);
    })

-- three nodes of items 0, 1 and 2, whose caps are at most 100
pub three_nodes_held : {R : Type 0} {d items limit rows : ℕ} (key : R → KeyOf d 16)
    → ((k : KeyOf d 16) → IsInLimits d items limit rows k → IsHeld d key k)
    → 2 ^ 21 ≤ rows → 16 ≤ items → 2 ^ 127 ≤ limit
    → ((r : R) (i : ℕ) → i < 16 → slot_of d 16 i (key r) < rows) → rows ≤ 2 ^ 32
    → (item : ℕ → ℕ) (cap : ℕ → ℕ → ℕ) → item 0 ≡ 0 → item 1 ≡ 1 → item 2 ≡ 2
    → ((i : ℕ) → cap 0 i ≤ 100) → ((i : ℕ) → cap 1 i ≤ 100) → ((i : ℕ) → cap 2 i ≤ 100) → AreHeld d key 3 item cap
three_nodes_held {rows = rows} key holds roomy few wide low narrow item cap i0 i1 i2 c0 c1 c2 = record {
  most = rows - 1;
  most_fits = omega (arith, narrow, roomy);
  slots = λ r i l. omega (arith, low r i l);
  keys = keys_held key holds roomy few wide item cap i0 i1 i2 c0 c1 c2;
}

-- one sum of at most 100
pub one_small : (x : ℤ) → unsigned_abs x ≤ 100 → (i : ℕ) → unsigned_abs (get_or (x ∷ []) i (pos 0)) ≤ 100
one_small x h zero = h
one_small x h (suc i) = omega arith

-- a row with such sums
pub small_row_held : {R : Type 0} {d items limit rows : ℕ} (key : R → KeyOf d 16)
    → ((k : KeyOf d 16) → IsInLimits d items limit rows k → IsHeld d key k)
    → 2 ^ 21 ≤ rows → 16 ≤ items → 2 ^ 127 ≤ limit
    → (xs : List ℤ) (slot row : ℕ) → ((i : ℕ) → unsigned_abs (get_or xs i (pos 0)) ≤ 100) → slot < 16 → row < 2 ^ 21
    → IsHeld d key (row_key d xs slot row)
small_row_held key holds roomy few wide xs slot row small l low =
    row_held key holds xs slot row (λ i. omega (arith, small i, wide)) l (omega (arith, l, few)) (omega (arith, low, roomy))

-- the caps of a query over tables are below what sums of 128 bits hold
pub caps_below : (limit : ℕ) (bound : BoundQuery) (tables : List Table) → Fits bound tables → 2 ^ 127 ≤ limit → CapsBelow limit bound tables
caps_below limit bound tables fits wide key = omega (arith, caps_small bound tables fits key)
