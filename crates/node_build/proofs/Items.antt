-- The item of a node is one of at most 16, its table is there, and the numbers of its rows are low.
use Rattle.std.proofs.Common.{◌≡◌, ◌<◌, ◌≤◌, ◌^◌, ℕ, List, [], length, ap, arith}
use Rattle.anyk_model.specs.Table.{Table, table_at}
use Rattle.anyk_model.specs.Query.{Item, Query}
use Rattle.join_tree.specs.declared.tree.JoinTree.{JoinTree}
use Rattle.bound_query.specs.NamedPlaces.{HasTable}
use Rattle.bound_query.specs.Items.{item_at}
use Rattle.bound_query.specs.WeighedQuery.{BoundQuery, Fits}
use Rattle.bound_query.specs.Weights.{table_in}
use Rattle.bound_query.proofs.Lists.{all_at}
use Rattle.node_build.specs.Nodes.{IsJoinTreeOf, item_of}
use Rattle.node_build.proofs.Shaped.{few_nodes_lem, item_known}

pub item_below_16 : (query : Query) (join : JoinTree) → IsJoinTreeOf query join → (v : ℕ) → v < join.count → item_of join v < 16
item_below_16 query join tree v l =
    let few = few_nodes_lem query join tree in
    let known = item_known query join tree v l in
    let count = tree.count in
    omega (arith, few, known, count)

pub table_there : (bound : BoundQuery) (tables : List Table) → Fits bound tables → (item table : ℕ) → item < length bound.query.items → table ≡ (item_at bound.query.items item).table
    → table < length tables
table_there bound tables fits item table known is =
    let h = all_at (HasTable tables) bound.query.items item (record { table = 0; alias = [] }) fits.within.items known in
    omega (arith, h, is)

-- the number of a row is below each limit of ranks, since a table has at most 1,048,576 rows
pub row_below : (tables : List Table) (items : List Item) (item table rows row limit : ℕ) → table ≡ (item_at items item).table → rows ≡ length (table_at tables table).rows → rows ≤ 1048576
    → row ≤ length (table_in tables items item).rows → 2 ^ 21 ≤ limit → row < limit
row_below tables items item table rows row limit is counted few inside high =
    let same = ap (λ (t : ℕ). length (table_at tables t).rows) is in
    omega (arith, same, counted, few, inside, high)
