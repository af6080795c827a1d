-- The shape of the query of `load` over tables of as many rows each: all rows pass.
use Rattle.std.proofs.Common.{◌≡◌, ◌<◌, ◌≤◌, ◌+◌, ◌-◌, ℕ, zero, suc, List, [], ◌∷◌, get_or, length, slice_index, Ok, refl, sym, ap, ◌∙◌, arith}
use Rattle.std.specs.List.{range_with_len}
use Rattle.std.proofs.lemmas.List.FromFn.{get_or-range_with_len, length-range_with_len}
use Rattle.anyk_model.specs.Table.{Fields, Table}
use Rattle.anyk_model.specs.Query.{item_table}
use Rattle.rankings.specs.Order.{BelowAll, IsAscending, IsMember}
use Rattle.rankings.proofs.Members.{contains_member, member_contains}
use Rattle.bound_query.specs.Classes.{Passes, row_field}
use Rattle.bound_query.specs.Graph.{IsGraphOf}
use Rattle.bound_query.specs.Shape.{HasNodeRows, HasTree, IsShape, Shape}
use Rattle.load_law.proofs.Bound.{four_tables, load_bound}
use Rattle.load_law.proofs.Chain.{chain_are_variables, chain_free, chain_variable, chain_variables, one_place}
use Rattle.load_law.proofs.ChainTree.{chain_above, chain_atoms, chain_graph, chain_is_graph, chain_join_tree, chain_order, chain_removal, chain_tree}

-- ---- the tree

load_graph : IsGraphOf load_bound chain_graph
load_graph = record {
  is_graph = chain_is_graph;
  atoms = refl;
  variables = chain_variables;
  are_variables = chain_are_variables;
  numbered = refl;
  has = λ v a small. chain_variable v a small;
}

load_tree : HasTree load_bound chain_atoms chain_above
load_tree = record {
  graph = chain_graph;
  of_query = load_graph;
  parent = chain_above;
  order = chain_order;
  removed = 3;
  core = 1;
  removal = chain_removal;
  tree = chain_tree;
  join_tree = chain_join_tree;
}

-- ---- the rows of a node

all_above : (a b n : ℕ) → a < b → BelowAll (λ x y. x < y) a (range_with_len b n)
all_above a b zero lt = tt
all_above a b (suc n) lt = (lt, all_above a (b + 1) n (omega arith))

rising : (a n : ℕ) → IsAscending (λ x y. x < y) (range_with_len a n)
rising a zero = tt
rising a (suc n) = (all_above a (a + 1) n (omega arith), rising (a + 1) n)

in_range : (n row : ℕ) → IsMember row (range_with_len 1 n) → (1 ≤ row) × (row ≤ n)
in_range n row m =
    let place = member_contains row (range_with_len 1 n) m in
    let count = length-range_with_len 1 n in
    let inside : place.0 < n = omega (arith, place.1, count) in
    let is : 1 + place.0 ≡ row = sym (get_or-range_with_len 1 n place.0 row inside) ∙ place.2 in
    (omega (arith, is), omega (arith, is, inside))

range_has : (n row : ℕ) → 1 ≤ row → row ≤ n → IsMember row (range_with_len 1 n)
range_has n row low high =
    let count = length-range_with_len 1 n in
    let is : get_or (range_with_len 1 n) (row - 1) row ≡ 1 + (row - 1) = get_or-range_with_len 1 n (row - 1) row (omega (arith, low, high)) in
    contains_member row (range_with_len 1 n) (row - 1) (omega (arith, low, high, count)) (omega (arith, is, low))

-- no two columns of an item are in one class, and no class has a constant
all_pass : (tables : List Table) (item row : ℕ) → Passes load_bound tables item row
all_pass tables item row = record {
  equal = λ a b linked. ap (row_field load_bound tables item row) (one_place item a b linked);
  constant = λ a bytes fixed. absurd (chain_free (record { item = item; place = a }) bytes fixed);
}

node_rows : (tables : List Table) (item n : ℕ) → length (item_table load_bound tables item).rows ≡ n → HasNodeRows load_bound tables item n
node_rows tables item n count = record {
  rows = range_with_len 1 n;
  ascending = rising 1 n;
  members = λ row. (
    λ m. let inside = in_range n row m in (inside.0, omega (arith, inside.1, count), all_pass tables item row),
    λ h. range_has n row h.0 (omega (arith, h.1, count)),
  );
  counted = length-range_with_len 1 n;
}

-- ---- the shape

abbrev pub load_shape : ℕ → Shape
load_shape n = record { atoms = chain_atoms; parents = chain_above; node_rows = n ∷ n ∷ n ∷ n ∷ [] }

module _ (p q r s : List Fields) (n : ℕ) (first : length p ≡ n) (second : length q ≡ n) (third : length r ≡ n) (fourth : length s ≡ n) where
  each_node : (k : ℕ) → k < 4 → HasNodeRows load_bound (four_tables p q r s) (slice_index chain_atoms k) (slice_index (n ∷ n ∷ n ∷ n ∷ []) k)
  each_node zero lt = node_rows (four_tables p q r s) 0 n first
  each_node (suc zero) lt = node_rows (four_tables p q r s) 1 n second
  each_node (suc (suc zero)) lt = node_rows (four_tables p q r s) 2 n third
  each_node (suc (suc (suc zero))) lt = node_rows (four_tables p q r s) 3 n fourth
  each_node (suc (suc (suc (suc k)))) lt = absurd (omega arith)

  pub load_is_shaped : n ≤ 100000 → IsShape load_bound (four_tables p q r s) (Ok (load_shape n))
  load_is_shaped few = (record { hung = load_tree; counts = refl; rows = each_node }, omega arith)
