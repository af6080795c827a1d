-- The shape of a query, from its join tree and the rows of its nodes.
use Rattle.std.proofs.Common.{◌≡◌, ◌<◌, ◌≤◌, ℕ, List, [], ◌∷◌, map, take, length, slice_index, slice_index_or, Ok, Err, refl, sym, ap, ◌∙◌, subst, arith}
use Rattle.std.proofs.lemmas.List.{get_or-map, get_or-take, length-map}
use Rattle.tdp_model.specs.KeyTuple.{KeyOf}
use Rattle.tdp_core.specs.RawView.{RawView, row_total, rows_at}
use Rattle.join_tree.specs.declared.tree.JoinTree.{JoinTree}
use Rattle.anyk_model.specs.Table.{Table}
use Rattle.anyk_model.specs.Query.{Query}
use Rattle.bound_query.specs.KeyParts.{sum_of_all}
use Rattle.bound_query.specs.WeighedQuery.{BoundQuery}
use Rattle.bound_query.specs.Shape.{HasNodeRows, HasShape, IsShape, Shape, too_many_rows}
use Rattle.tdp_model.specs.NodeRows.{most_node_rows}
use Rattle.bound_query.specs.JoinTreeView.{HasStoredTree}
use Rattle.bound_query.proofs.NodeSums.{sum_of_lengths}
use Rattle.node_build.specs.Nodes.{AreNodeRows, AreRowsOfNodes, IsBuilt, IsJoinTreeOf, item_of}

-- a stored tree of ear removal is a join tree with a node for each item
pub join_tree_of : (query : Query) (join : JoinTree) → HasStoredTree query join → join.count ≡ length query.items → IsJoinTreeOf query join
join_tree_of query join stored count = record { count = count; graph = stored.graph; of_query = stored.of_query; tree = stored.join_tree }

-- the numbers of the rows of each node
abbrev pub numbers_of : {R : Type 0} → RawView R → List (List ℕ)
numbers_of raw = map (map (λ x. x.row.row)) raw.rows

pub same_lengths : {A : Type 0} (f : A → ℕ) (xss : List (List A)) → map length (map (map f) xss) ≡ map length xss
same_lengths f [] = refl
same_lengths f (xs ∷ xss) = λ i. length-map xs f i ∷ same_lengths f xss i

pub numbers_in_all : {R : Type 0} (raw : RawView R) → sum_of_all (map length (numbers_of raw)) ≡ row_total raw
numbers_in_all raw = ap sum_of_all (same_lengths (λ x. x.row.row) raw.rows) ∙ sum_of_lengths raw.rows

-- the rows of a raw tree that is built are those of the nodes
pub rows_of_built : (bound : BoundQuery) (tables : List Table) (join : JoinTree) {R : Type 0} (d : ℕ) (key : R → KeyOf d 16) (raw : RawView R)
    → IsBuilt bound tables d key join raw → length raw.rows ≡ length raw.shapes → AreRowsOfNodes bound tables join (numbers_of raw)
rows_of_built bound tables join d key raw built each_node = record {
  count = length-map raw.rows (map (λ x. x.row.row)) ∙ each_node ∙ built.nodes;
  each = λ v l.
      let inside : v < length raw.rows = (let n = built.nodes in omega (arith, l, each_node, n)) in
      let same : slice_index_or (numbers_of raw) v [] ≡ map (λ x. x.row.row) (rows_at raw v) = get_or-map (map (λ x. x.row.row)) raw.rows v [] [] inside in
      subst (AreNodeRows bound.query tables (item_of join v)) (sym same) (built.rows v l);
}

module _ (bound : BoundQuery) (tables : List Table) (join : JoinTree) (stored : HasStoredTree bound.query join) (count : join.count ≡ length bound.query.items) where
  -- the join tree with these numbers of rows
  abbrev pub shape_with : List (List ℕ) → Shape
  shape_with node_rows = record { atoms = take join.count join.atom; parents = take join.count join.parent; node_rows = map length node_rows }

  pub nodes-count : length (take join.count join.atom) ≡ join.count
  nodes-count = stored.join_tree.nodes ∙ stored.of_query.atoms ∙ sym count

  module _ (node_rows : List (List ℕ)) (are : AreRowsOfNodes bound tables join node_rows) where
    pub shape_of_rows : HasShape bound.query tables (shape_with node_rows)
    shape_of_rows = record {
      hung = stored;
      counts = length-map node_rows length ∙ are.count ∙ sym nodes-count;
      rows = λ k l.
          let inside : k < join.count = subst (λ n. k < n) nodes-count l in
          let node = are.each k inside in
          let item : slice_index (take join.count join.atom) k ≡ item_of join k = get_or-take join.count join.atom k 0 inside in
          let long : slice_index (map length node_rows) k ≡ length (slice_index_or node_rows k []) = get_or-map length node_rows k [] 0 (let c = are.count in omega (arith, inside, c)) in
          subst (λ i. HasNodeRows bound.query tables i (slice_index (map length node_rows) k)) (sym item)
          (record { rows = slice_index_or node_rows k []; ascending = node.ascending; members = node.members; counted = sym long });
    }

    pub shape_if_few : sum_of_all (map length node_rows) ≤ most_node_rows → IsShape bound.query tables (Ok (shape_with node_rows))
    shape_if_few few = (shape_of_rows, few)

    pub flaw_if_many : most_node_rows < sum_of_all (map length node_rows) → IsShape bound.query tables (Err too_many_rows)
    flaw_if_many many = (shape_with node_rows, shape_of_rows, many)
