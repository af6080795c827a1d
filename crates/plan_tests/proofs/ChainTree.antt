-- The tree that the tests build: three nodes, each below the one before.
use Rattle.std.proofs.Common.{◌≡◌, ℕ, zero, suc, ◌+◌, ◌^◌, ◌<◌, ◌≤◌, cond, nat_lt, List, [], ◌∷◌, get_or, refl, sym, ◌∙◌, arith}
use Rattle.std.proofs.lemmas.Bool.Decides.{nat_tests}
use Rattle.tdp_model.specs.KeyTuple.{KeyOf, slot_of}
use Rattle.tdp_model.specs.TreeProblem.{sum_from}
use Rattle.rank_key.specs.Keys.{IsHeld, IsInLimits}
use Rattle.tdp_core.specs.declared.parts.NodeShape.{NodeShape}
use Rattle.tdp_core.specs.RawView.{AreShapes, AreShapesHeld, shape_item, shape_parent, shape_cap, shape_children}
use Rattle.tdp_core.specs.TreeView.{kids_below}
use Rattle.plan_tests.specs.ChainTrees.{IsChain, chain_children}
use Rattle.plan_tests.proofs.Held.{three_nodes_held}

abbrev pub no_caps : List ℕ
no_caps = 0 ∷ 0 ∷ 0 ∷ 0 ∷ 0 ∷ 0 ∷ 0 ∷ 0 ∷ []

abbrev pub chain_shapes : List NodeShape
chain_shapes = record { parent = 0; item = 0; caps = no_caps } ∷ record { parent = 0; item = 1; caps = no_caps } ∷ record { parent = 1; item = 2; caps = no_caps } ∷ []

no_cap : (i : ℕ) → get_or no_caps i 0 ≡ 0
no_cap zero = refl
no_cap (suc zero) = refl
no_cap (suc (suc zero)) = refl
no_cap (suc (suc (suc zero))) = refl
no_cap (suc (suc (suc (suc zero)))) = refl
no_cap (suc (suc (suc (suc (suc zero))))) = refl
no_cap (suc (suc (suc (suc (suc (suc zero)))))) = refl
no_cap (suc (suc (suc (suc (suc (suc (suc zero))))))) = refl
no_cap (suc (suc (suc (suc (suc (suc (suc (suc i)))))))) = refl

capped : (i n : ℕ) → n ≡ 0 → cond {A = ℕ} (nat_lt i 8) n 0 ≡ 0
capped i n e = grind (arith, nat_tests)

item_is : (v : ℕ) → v < 3 → shape_item chain_shapes v ≡ v
item_is zero h = refl
item_is (suc zero) h = refl
item_is (suc (suc zero)) h = refl
item_is (suc (suc (suc v))) h = absurd (omega arith)

parent_less : (q : ℕ) → 0 < q → q < 3 → shape_parent chain_shapes q < q
parent_less zero some h = absurd (omega arith)
parent_less (suc zero) some h = omega arith
parent_less (suc (suc zero)) some h = omega arith
parent_less (suc (suc (suc q))) some h = absurd (omega arith)

caps_few : (i : ℕ) → sum_from ◌+◌ 0 (λ v. shape_cap chain_shapes v i) 3 0 < 2 ^ 127
unfolding sum_from
caps_few i = omega (arith, capped i (get_or no_caps i 0) (no_cap i))

pub chain_shaped : AreShapes chain_shapes
chain_shaped = record {
  some_node = omega arith;
  few_nodes = omega arith;
  root = refl;
  parents_first = parent_less;
  items = λ v h. omega (arith, h, item_is v h);
  items_apart = λ u v hu hv e. sym (item_is u hu) ∙ e ∙ item_is v hv;
  caps_fit = caps_few;
}

module _ {R : Type 0} {d items limit rows : ℕ} (key : R → KeyOf d 16)
    (holds : (k : KeyOf d 16) → IsInLimits d items limit rows k → IsHeld d key k)
    (roomy : 2 ^ 21 ≤ rows) (few : 16 ≤ items) (wide : 2 ^ 127 ≤ limit) where
  pub chain_held : ((r : R) (i : ℕ) → i < 16 → slot_of d 16 i (key r) < rows) → rows ≤ 2 ^ 32 → AreShapesHeld d key chain_shapes
  chain_held low narrow = three_nodes_held key holds roomy few wide low narrow _ _ refl refl refl cap_few cap_few cap_few
    where
      cap_few : (i : ℕ) → cond {A = ℕ} (nat_lt i 8) (get_or no_caps i 0) 0 ≤ 100
      cap_few i = omega (arith, capped i (get_or no_caps i 0) (no_cap i))

children_are : (v : ℕ) → v < 3 → shape_children chain_shapes v ≡ chain_children v
unfolding kids_below
children_are zero h = refl
children_are (suc zero) h = refl
children_are (suc (suc zero)) h = refl
children_are (suc (suc (suc v))) h = absurd (omega arith)

pub chain_is : IsChain chain_shapes
chain_is = record { nodes = refl; children = children_are }
