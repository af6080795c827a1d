-- The nodes have no more rows than the tables of all items.
use Rattle.std.proofs.Common.{◌≡◌, ◌<◌, ◌≤◌, ◌+◌, ◌*◌, ℕ, suc, List, [], ◌∷◌, map, length, sum, get_or, refl, sym, ap, ◌∙◌, inr, arith, Vec, Global}
use Rattle.std.specs.List.{range_with_len, sum_by}
use Rattle.std.proofs.Math.Nat.{mul-le-mul_left, mul-le-mul_right}
use Rattle.tdp_core.specs.TreeView.{kids_below}
use Rattle.tdp_core.proofs.Children.{kids_below_child}
use Rattle.std.proofs.lemmas.List.Sums.{sum-map}
use Rattle.tdp_model.specs.TreeProblem.{sum_from}
use Rattle.join_tree.specs.declared.tree.JoinTree.{JoinTree}
use Rattle.anyk_model.specs.Table.{Table, table_at}
use Rattle.anyk_model.specs.Query.{Item, Query, item_table, row_counts}
use Rattle.bound_query.specs.KeyParts.{sum_of_all}
use Rattle.bound_query.specs.WeighedQuery.{BoundQuery}
use Rattle.bound_query.proofs.NodeSums.{fewer_nodes, lengths_fewer, over}
use Rattle.node_build.specs.Nodes.{IsJoinTreeOf, TellsFault, item_of}
use Rattle.node_build.specs.Rows.{HaveRows, lists_of, table_rows}
use Rattle.node_build.specs.declared.built.BuildFault.TheVariants as fault
use Rattle.node_build.proofs.Naming.{kids_rise}
use Rattle.node_build.proofs.Shaped.{apart, few_nodes_lem}

-- a sum over the numbers of a list's elements
range_map_from : {A : Type 0} (g : A → ℕ) (d : A) (xs : List A) (all : ℕ → A) (a : ℕ) → ((k : ℕ) → k < length xs → get_or xs k d ≡ all (a + k))
    → map (λ i. g (all i)) (range_with_len a (length xs)) ≡ map g xs
range_map_from g d [] all a h = refl
range_map_from g d (x ∷ xs) all a h =
    let none : a + 0 ≡ a = omega arith in
    let here : x ≡ all a = h 0 (omega arith) ∙ ap all none in
    let rest = range_map_from g d xs all (a + 1) (λ k l. let move : a + suc k ≡ a + 1 + k = omega arith in h (suc k) (omega (arith, l)) ∙ ap all move) in
    (λ j. g (sym here j) ∷ rest j)

range_map : {A : Type 0} (g : A → ℕ) (d : A) (xs : List A) → map (λ i. g (get_or xs i d)) (range_with_len 0 (length xs)) ≡ map g xs
range_map g d xs = range_map_from g d xs (λ i. get_or xs i d) 0 (λ k l. let none : 0 + k ≡ k = omega arith in ap (λ (p : ℕ). get_or xs p d) (sym none))

-- the sum of the counts of some rows
pub counts_sum : (rows slice : List (Vec ℕ Global)) (counts list : List ℕ) → slice ≡ rows → counts ≡ map length (lists_of slice) → list ≡ counts
    → sum list ≡ sum_by length (lists_of rows)
counts_sum rows slice counts list same counted is =
    ap sum (is ∙ counted) ∙ sum-map length (lists_of slice) ∙ ap (λ (vs : List (Vec ℕ Global)). sum_by length (lists_of vs)) same

module _ (query : Query) (tables : List Table) (join : JoinTree) (tree : IsJoinTreeOf query join) (rows : List (List ℕ)) (of_nodes : HaveRows query tables join join.count rows) where
  abbrev rows_in : ℕ → ℕ
  rows_in i = length (item_table query tables i).rows

  pub rows_fewer : sum_by length rows ≤ sum_of_all (row_counts query.items tables)
  rows_fewer =
      let a : sum_by length rows ≤ sum_from ◌+◌ 0 (table_rows query tables join) join.count 0 =
      lengths_fewer rows join.count (table_rows query tables join) of_nodes.count of_nodes.fewer in
      let b : sum_from ◌+◌ 0 (λ v. rows_in (item_of join v)) join.count 0 ≤ over rows_in (length query.items) =
      fewer_nodes (length query.items) (item_of join) join.count rows_in (apart query join tree) in
      let e : over rows_in (length query.items) ≡ sum_of_all (row_counts query.items tables) =
      ap sum_of_all (range_map (λ (i : Item). length (table_at tables i.table).rows) (record { table = 0; alias = [] }) query.items) in
      omega (arith, a, b, e)

  pub cost_within : (old new : ℕ) → new ≤ old + sum_by length rows * join.count → new ≤ old + length query.items * sum_of_all (row_counts query.items tables)
  cost_within old new h =
      let fewer = mul-le-mul_right join.count rows_fewer in
      let count = ap (λ (n : ℕ). sum_of_all (row_counts query.items tables) * n) tree.count in
      let turn : sum_of_all (row_counts query.items tables) * length query.items ≡ length query.items * sum_of_all (row_counts query.items tables) = omega arith in
      omega (arith, h, fewer, count, turn)

  pub total_low : sum_by length rows ≤ 16777216
  total_low =
      let few = few_nodes_lem query join tree in
      let most = of_nodes.limit in
      omega (arith, few, most)

-- the nodes have more rows than the budget
pub past_budget : (bound : BoundQuery) (tables : List Table) (join : JoinTree) (rows : List (List ℕ)) → HaveRows bound.query tables join join.count rows
    → (budget : ℕ) → budget < sum_by length rows → TellsFault bound tables join budget (fault.TooManyRows budget)
past_budget bound tables join rows of_nodes budget past =
    inr (refl, record { rows = rows; of_nodes = record { count = of_nodes.count; each = of_nodes.each }; past = past })

-- ---- the steps of loops over rows, over lists of rows and over children

pub one_list : (old before after s l x t n : ℕ) → l ≡ x → t ≡ s + x → before ≤ old + s * n → after ≤ before + l * n → after ≤ old + t * n
one_list old before after s l x t n same sum so_far more = omega (arith, ap (λ (k : ℕ). k * n) same, ap (λ (k : ℕ). k * n) sum)

pub lists_within : (old before after s l x total n : ℕ) → l ≡ x → s + x ≤ total → before ≤ old + s * n → after ≤ before + l * n → after ≤ old + total * n
lists_within old before after s l x total n same sum so_far more = omega (arith, ap (λ (k : ℕ). k * n) same, mul-le-mul_right n sum)

pub one_column : (old before after n k more : ℕ) → more ≡ k + 1 → before ≤ old + n * k → after ≤ before + n → after ≤ old + n * more
one_column old before after n k more sum so_far one = omega (arith, ap (λ (m : ℕ). n * m) sum)

pub columns_within : (parent : ℕ → ℕ) (v q nodes n old before after : ℕ) → 0 < q → q < nodes → parent q ≡ v → before ≤ old + n * kids_below parent v q → after ≤ before + n
    → after ≤ old + n * kids_below parent v nodes
columns_within parent v q nodes n old before after some inside below so_far one =
    let more = kids_below_child parent v q some below in
    let rise = kids_rise parent v (q + 1) nodes (omega (arith, inside)) in
    let most = mul-le-mul_left n rise in
    omega (arith, most, one_column old before after n (kids_below parent v q) (kids_below parent v (q + 1)) more so_far one)

-- the steps of the own links of a node's rows, and those of all its links
pub own_cost : (old now n nodes : ℕ) → 0 < nodes → now ≤ old + n → now ≤ old + n * nodes
own_cost old now n nodes some h =
    let one : 1 ≤ nodes = omega (arith, some) in
    let most = mul-le-mul_left n one in
    omega (arith, h, most)

pub node_cost : (old mid now n kids nodes : ℕ) → kids + 1 ≤ nodes → mid ≤ old + n → now ≤ mid + n * kids → now ≤ old + n * nodes
node_cost old mid now n kids nodes few own h =
    let most = mul-le-mul_left n few in
    omega (arith, own, h, most)
