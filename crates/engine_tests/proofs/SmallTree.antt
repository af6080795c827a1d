-- The trees that the tests build: a root of item 1 with one row, and one child of item 0 with two rows.
use Rattle.std.proofs.Common.{◌≡◌, ℕ, zero, suc, ◌+◌, ◌-◌, ◌/◌, ◌^◌, ◌<◌, ◌≤◌, cond, nat_lt, List, [], ◌∷◌, length, get_or, refl, sym, ap, subst, ◌∙◌, inl, inr, arith}
use Rattle.std.specs.List.{concat, range_with_len}
use Rattle.std.specs.List.Sorted.{IsPermutation}
use Rattle.std.proofs.lemmas.List.Sorted.{IsPermutation-refl, IsPermutation-swap}
use Rattle.std.proofs.lemmas.Bool.Decides.{nat_tests}
use Rattle.tdp_model.specs.Remains.{AtMost}
use Rattle.tdp_model.specs.KeyTuple.{KeyOf, key_below, key_add, key_none, slot_of}
use Rattle.tdp_model.specs.TreeProblem.{sum_from, kid_part, best_by_kids}
use Rattle.tdp_model.proofs.KeyTuples.{tuple_keys}
use Rattle.rank_key.specs.Keys.{IsHeld, IsInLimits, KeyFits, row_key}
use Rattle.engine_tests.specs.SmallNodes.{small_caps, small_shape, root_node, leaf_node}
use Rattle.tdp_core.specs.declared.parts.NodeShape.{NodeShape}
use Rattle.tdp_core.specs.declared.parts.NodeParts.{NodeParts}
use Rattle.tdp_core.specs.RawView.{AreShapes, AreShapesHeld, shape_children}
use Rattle.tdp_core.specs.TreeView.{NodeView, node_view, tree_view, kids_below, parent, item, cap, rows, number, child_count, child_place, group_count, group_named, members, group, rank, best, node_at}
use Rattle.tdp_core.specs.WellFormed.{AreHeld, IsShaped, IsFormed, RowFits}
use Rattle.tdp_core.proofs.RowKeys.{row_key_fits}
use Rattle.engine_tests.proofs.Held.{two_nodes_held, two_rows_held}

abbrev pub small_shapes : List NodeShape
small_shapes = small_shape 1 ∷ small_shape 0 ∷ []

ten : (i : ℕ) → get_or small_caps i 0 ≤ 10
ten zero = omega arith
ten (suc zero) = omega arith
ten (suc (suc zero)) = omega arith
ten (suc (suc (suc zero))) = omega arith
ten (suc (suc (suc (suc zero)))) = omega arith
ten (suc (suc (suc (suc (suc zero))))) = omega arith
ten (suc (suc (suc (suc (suc (suc zero)))))) = omega arith
ten (suc (suc (suc (suc (suc (suc (suc zero))))))) = omega arith
ten (suc (suc (suc (suc (suc (suc (suc (suc i)))))))) = omega arith

capped : (i n : ℕ) → n ≤ 10 → cond {A = ℕ} (nat_lt i 8) n 0 ≤ 10
capped i n h = grind (arith, nat_tests)

-- two nodes, the first of item 1 and the second of item 0, whose caps are at most 10
two_shaped : (parent item : ℕ → ℕ) (cap : ℕ → ℕ → ℕ) → parent 0 ≡ 0 → parent 1 ≡ 0 → item 0 ≡ 1 → item 1 ≡ 0 → ((i : ℕ) → cap 0 i ≤ 10) → ((i : ℕ) → cap 1 i ≤ 10) → IsShaped 2 parent item cap
unfolding sum_from
two_shaped parent item cap p0 p1 i0 i1 c0 c1 = record {
  some_node = omega arith;
  few_nodes = omega arith;
  root = p0;
  parents_first = λ q some l. let is : q ≡ 1 = omega arith in subst (λ z. parent z < z) (sym is) (omega arith);
  items = below;
  items_apart = apart;
  caps_fit = λ i. omega (arith, c0 i, c1 i);
}
  where
    below : (v : ℕ) → v < 2 → item v < 16
    below zero l = omega arith
    below (suc zero) l = omega arith
    below (suc (suc v)) l = absurd (omega arith)

    apart : (u v : ℕ) → u < 2 → v < 2 → item u ≡ item v → u ≡ v
    apart zero zero l h e = refl
    apart zero (suc zero) l h e = absurd (omega arith)
    apart zero (suc (suc v)) l h e = absurd (omega arith)
    apart (suc zero) zero l h e = absurd (omega arith)
    apart (suc zero) (suc zero) l h e = refl
    apart (suc zero) (suc (suc v)) l h e = absurd (omega arith)
    apart (suc (suc u)) v l h e = absurd (omega arith)

pub small_shaped : AreShapes small_shapes
small_shaped = two_shaped _ _ _ refl refl refl refl (λ i. capped i (get_or small_caps i 0) (ten i)) (λ i. capped i (get_or small_caps i 0) (ten i))

module _ {R : Type 0} {d items limit rows : ℕ} (key : R → KeyOf d 16)
    (holds : (k : KeyOf d 16) → IsInLimits d items limit rows k → IsHeld d key k)
    (roomy : 2 ^ 21 ≤ rows) (few : 2 ≤ items) (wide : 100 ≤ limit) where
  pub small_held : ((r : R) (i : ℕ) → i < 16 → slot_of d 16 i (key r) < rows) → rows ≤ 2 ^ 32 → AreShapesHeld d key small_shapes
  small_held low narrow = two_nodes_held key holds roomy few wide low narrow _ _ refl refl
      (λ i. capped i (get_or small_caps i 0) (ten i)) (λ i. capped i (get_or small_caps i 0) (ten i))

pub root_children : shape_children small_shapes 0 ≡ 1
unfolding kids_below
root_children = refl

pub leaf_children : shape_children small_shapes 1 ≡ 0
unfolding kids_below
leaf_children = refl

module _ {R : Type 0} (top later sooner whole : R) where
  abbrev pub small_nodes : List (NodeView R)
  small_nodes = root_node top whole ∷ leaf_node later sooner ∷ []

  pub one_child : child_count small_nodes 0 ≡ 1
  unfolding kids_below
  one_child = refl

  no_child : child_count small_nodes 1 ≡ 0
  unfolding kids_below
  no_child = refl

  first_child : child_place small_nodes 1 ≡ 0
  unfolding kids_below
  first_child = refl

  few : sum_from ◌+◌ 0 (rows small_nodes) 2 0 ≤ 4194304
  unfolding sum_from
  few = omega arith

  lower : (d : ℕ) → key_below d 16 (row_key d [] 0 1) (row_key d [] 0 3)
  lower zero = inl (omega arith)
  lower (suc d) = inr (refl, lower d)

  module _ (d : ℕ) (key : R → KeyOf d 16) (is_top : key top ≡ row_key d [] 1 4) (is_later : key later ≡ row_key d [] 0 3) (is_sooner : key sooner ≡ row_key d [] 0 1) (is_whole : key whole ≡ key_add d 16 (key top) (key sooner))
      (held : AreHeld d key 2 (item small_nodes) (cap small_nodes)) where
    fits : (cap : ℕ → ℕ) (item row : ℕ) (r : R) → item < 16 → key r ≡ row_key d [] item row → RowFits d item cap row (key r)
    fits cap item row r l is = subst (RowFits d item cap row) (sym is) (row_key_fits d [] item row cap l (λ i b. omega arith))

    rows_fit : (v r : ℕ) → v < 2 → r < rows small_nodes v → RowFits d (item small_nodes v) (cap small_nodes v) (number small_nodes v r) (rank small_nodes d key v r)
    rows_fit zero zero l h = fits (cap small_nodes 0) 1 4 top (omega arith) is_top
    rows_fit zero (suc r) l h = absurd (omega arith)
    rows_fit (suc zero) zero l h = fits (cap small_nodes 1) 0 3 later (omega arith) is_later
    rows_fit (suc zero) (suc zero) l h = fits (cap small_nodes 1) 0 1 sooner (omega arith) is_sooner
    rows_fit (suc zero) (suc (suc r)) l h = absurd (omega arith)
    rows_fit (suc (suc v)) r l h = absurd (omega arith)

    all_name : (v : ℕ) → v < 2 → length (node_at small_nodes v).to_child ≡ rows small_nodes v
    all_name zero l = refl
    all_name (suc zero) l = refl
    all_name (suc (suc v)) l = absurd (omega arith)

    name_all : (v r : ℕ) → v < 2 → r < rows small_nodes v → length (get_or (node_at small_nodes v).to_child r []) ≡ child_count small_nodes v
    name_all zero zero l h = sym one_child
    name_all zero (suc r) l h = absurd (omega arith)
    name_all (suc zero) zero l h = sym no_child
    name_all (suc zero) (suc zero) l h = sym no_child
    name_all (suc zero) (suc (suc r)) l h = absurd (omega arith)
    name_all (suc (suc v)) r l h = absurd (omega arith)

    named : (q r : ℕ) → 0 < q → q < 2 → r < rows small_nodes (parent small_nodes q) → group_named small_nodes (parent small_nodes q) r (child_place small_nodes q) < group_count small_nodes q
    named zero r z l h = absurd (omega arith)
    named (suc zero) zero z l h = subst (λ c. get_or (0 ∷ []) c 0 < 1) (sym first_child) (omega arith)
    named (suc zero) (suc r) z l h = absurd (omega arith)
    named (suc (suc q)) r z l h = absurd (omega arith)

    grouped : (v : ℕ) → v < 2 → IsPermutation (range_with_len 0 (rows small_nodes v)) (concat (node_at small_nodes v).groups)
    grouped zero l = IsPermutation-refl (0 ∷ [])
    grouped (suc zero) l = IsPermutation-swap (0 ∷ 1 ∷ []) (1 ∷ 0 ∷ []) 0 1 (omega arith) (omega arith) refl
    grouped (suc (suc v)) l = absurd (omega arith)

    inhabited : (v g : ℕ) → v < 2 → g < group_count small_nodes v → 0 < length (members small_nodes v g)
    inhabited zero zero l h = omega arith
    inhabited zero (suc g) l h = absurd (omega arith)
    inhabited (suc zero) zero l h = omega arith
    inhabited (suc zero) (suc g) l h = absurd (omega arith)
    inhabited (suc (suc v)) g l h = absurd (omega arith)

    all_best : (v : ℕ) → v < 2 → length (node_at small_nodes v).best ≡ rows small_nodes v
    all_best zero l = refl
    all_best (suc zero) l = refl
    all_best (suc (suc v)) l = absurd (omega arith)

    none_right : (a : KeyOf d 16) → key_add d 16 a (key_none d 16) ≡ a
    none_right = (tuple_keys d 16).add_none

    bests : (v r : ℕ) → v < 2 → r < rows small_nodes v
        → best small_nodes d key v r ≡ best_by_kids (key_add d 16) (key_none d 16) 2 (parent small_nodes) (rank small_nodes d key) (group small_nodes) (best small_nodes d key) v r
    unfolding sum_from kid_part kids_below
    bests zero zero l h = is_whole ∙ ap (key_add d 16 (key top)) (sym (none_right (key sooner)))
    bests zero (suc r) l h = absurd (omega arith)
    bests (suc zero) zero l h = sym (none_right (key later))
    bests (suc zero) (suc zero) l h = sym (none_right (key sooner))
    bests (suc zero) (suc (suc r)) l h = absurd (omega arith)
    bests (suc (suc v)) r l h = absurd (omega arith)

    heaps : (v g i : ℕ) → v < 2 → 0 < i → i < length (members small_nodes v g)
        → AtMost (key_below d 16) (best small_nodes d key v (get_or (members small_nodes v g) ((i - 1) / 2) 0)) (best small_nodes d key v (get_or (members small_nodes v g) i 0))
    heaps zero zero i l z h = absurd (omega arith)
    heaps zero (suc g) i l z h = absurd (omega arith)
    heaps (suc zero) zero zero l z h = absurd (omega arith)
    heaps (suc zero) zero (suc zero) l z h = inl (subst (λ k. key_below d 16 k (key later)) (sym is_sooner) (subst (key_below d 16 (row_key d [] 0 1)) (sym is_later) (lower d)))
    heaps (suc zero) zero (suc (suc i)) l z h = absurd (omega arith)
    heaps (suc zero) (suc g) i l z h = absurd (omega arith)
    heaps (suc (suc v)) g i l z h = absurd (omega arith)

    pub small_formed : IsFormed d key small_nodes
    small_formed = record {
      laid_out = record {
        held = held;
        shaped = two_shaped (parent small_nodes) (item small_nodes) (cap small_nodes) refl refl refl refl (λ i. capped i (get_or small_caps i 0) (ten i)) (λ i. capped i (get_or small_caps i 0) (ten i));
        few_rows = few;
        rows_fit = rows_fit;
        all_name = all_name;
        name_all = name_all;
        named = named;
        grouped = grouped;
        inhabited = inhabited;
        one_root = omega arith;
      };
      all_best = all_best;
      bests = bests;
      heaps = heaps;
    }

-- the parts that a function makes are these nodes
pub small_data : {R : Type 0} {top later sooner whole : R} {root leaf : NodeParts R} {parts : List (NodeParts R)} → parts ≡ root ∷ leaf ∷ [] → node_view root ≡ root_node top whole
    → node_view leaf ≡ leaf_node later sooner → tree_view parts ≡ small_nodes top later sooner whole
small_data {top = top} {whole = whole} {leaf = leaf} e r l = ap tree_view e ∙ ap (λ n. n ∷ node_view leaf ∷ []) r ∙ ap (λ n. root_node top whole ∷ n ∷ []) l

module _ {R : Type 0} {d items limit rows : ℕ} (key : R → KeyOf d 16)
    (holds : (k : KeyOf d 16) → IsInLimits d items limit rows k → IsHeld d key k)
    (roomy : 2 ^ 21 ≤ rows) (few : 2 ≤ items) (wide : 100 ≤ limit) where
  -- what the join of the root's row and the lesser row below it asks
  pub small_fits : (a b : KeyOf d 16) → a ≡ row_key d [] 1 4 → b ≡ row_key d [] 0 1 → KeyFits d key (key_add d 16 a b)
  small_fits a b top sooner = rw (top, sooner)
      (two_rows_held key holds roomy few wide [] [] 1 4 0 1 tt tt (omega arith) (omega arith) (omega arith) (omega arith))

  -- the nodes' shapes are the small ones
  pub nodes_held : ((r : R) (i : ℕ) → i < 16 → slot_of d 16 i (key r) < rows) → rows ≤ 2 ^ 32 → (top later sooner whole : R) → AreHeld d key 2 (item (small_nodes top later sooner whole)) (cap (small_nodes top later sooner whole))
  nodes_held low narrow top later sooner whole = two_nodes_held key holds roomy few wide low narrow _ _ refl refl
      (λ i. capped i (get_or small_caps i 0) (ten i)) (λ i. capped i (get_or small_caps i 0) (ten i))
