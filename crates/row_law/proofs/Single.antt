-- The shape of a query over one item without conditions: a join tree of one atom, and all rows pass.
use Rattle.std.proofs.Common.{◌≡◌, ◌<◌, ◌≤◌, ◌^◌, ℕ, zero, suc, List, [], ◌∷◌, Option, length, slice_index, Ok, refl, sym, ap, subst, arith}
use Rattle.std.proofs.lemmas.List.Elements.{All-nil}
use Rattle.anyk_model.specs.Query.{Column, OrderKey, Query, item_table}
use Rattle.anyk_model.specs.Table.{Table}
use Rattle.hyper_graph.specs.Graph.{Hypergraph, IsGraph}
use Rattle.hyper_graph.proofs.Bits.{in_all_below}
use Rattle.join_tree.specs.Removal.{HasOne, IsRun, IsTreeOf}
use Rattle.join_tree.proofs.FromRemoval.{removal_done, tree_from_removal}
use Rattle.bound_query.specs.Classes.{AreVariables, IsFixedTo, IsShared, Linked, Passes, back, forth, row_field, same}
use Rattle.bound_query.specs.Graph.{IsGraphOf}
use Rattle.bound_query.specs.Shape.{HasNodeRows, HasTree, IsShape, Shape}
use Rattle.row_law.proofs.Shaped.{low_high, member, numbers}

-- without equalities a column is linked to itself alone
alone : {c d : Column} → Linked [] c d → c ≡ d
alone same = refl
alone (forth m is h) = absurd m
alone (back m is h) = absurd m

unfixed : (c : Column) (bytes : List ℕ) → IsFixedTo [] c bytes → ⊥
unfixed c bytes f = f.member

unshared : (c : Column) → IsShared [] c → ⊥
unshared c s = s.elsewhere (ap (λ (x : Column). x.item) (sym (alone s.linked)))

no_variables : AreVariables [] []
no_variables = record { ascending = tt; members = λ c. (λ m. absurd m, λ h. absurd (unshared c h.0)) }

-- ---- the graph and the tree: one atom, of which nothing is removed

abbrev graph : Hypergraph
graph = record { atoms = 1; vars = [] }

is_graph : IsGraph graph
is_graph = record { some = omega arith; few = omega arith; within = All-nil (λ set. set < 2 ^ 1) }

abbrev root : List ℕ
root = 0 ∷ []

run : IsRun graph root [] 0 1
run = record {
  steps = λ k l. absurd (omega (arith, l));
  left = λ a. (
    λ h. let low : a < 1 = (in_all_below 1 a (omega arith)).0 h in (low, λ j l. absurd (omega (arith, l))),
    λ live. (in_all_below 1 a (omega arith)).1 live.0,
  );
}

one_left : HasOne 1
one_left = (0, refl, λ b h. let low : b < 1 = (in_all_below 1 b (omega arith)).0 h in omega (arith, low))

tree_of : IsTreeOf root [] 0 1 root root
tree_of = record {
  root = refl;
  top = refl;
  reversed = λ k p q. absurd (omega (arith, p, q));
  earlier = λ k p q. absurd (omega (arith, p, q));
  hung = λ k p q. absurd (omega (arith, p, q));
}

-- ---- the rows of the node

-- the shape over a table of three rows
abbrev pub single_shape : Shape
single_shape = record { atoms = root; parents = root; node_rows = 3 ∷ [] }

-- one table, in this order
abbrev pub single : ℕ → List ℕ → List OrderKey → List Column → Option ℕ → Query
single number alias order picked limit = record {
  items = record { table = number; alias = alias } ∷ [];
  equalities = [];
  order = order;
  list = picked;
  limit = limit;
}

module _ (number : ℕ) (alias : List ℕ) (order : List OrderKey) (picked : List Column) (limit : Option ℕ) (tables : List Table) where
  abbrev query : Query
  query = single number alias order picked limit

  graph_of : IsGraphOf query graph
  graph_of = record {
    is_graph = is_graph;
    atoms = refl;
    variables = [];
    are_variables = no_variables;
    numbered = refl;
    has = λ v a l. absurd (omega (arith, l));
  }

  has_tree : HasTree query root root
  has_tree = record {
    graph = graph;
    of_query = graph_of;
    parent = root;
    order = [];
    removed = 0;
    core = 1;
    removal = removal_done graph root [] 0 1 (omega arith) refl run;
    tree = tree_of;
    join_tree = tree_from_removal graph root [] 0 1 0 run refl refl one_left root root refl refl tree_of;
  }

  passes : (row : ℕ) → Passes query tables 0 row
  passes row = record {
    equal = λ a b linked. ap (λ (c : Column). row_field query tables 0 row c.place) (alone linked);
    constant = λ a bytes fixed. absurd (unfixed _ bytes fixed);
  }

  pub single_shaped : length (item_table query tables 0).rows ≡ 3 → IsShape query tables (Ok single_shape)
  single_shaped count = (record { hung = has_tree; counts = refl; rows = each }, omega arith)
    where
      node_rows : HasNodeRows query tables 0 3
      node_rows = record {
        rows = numbers;
        ascending = ((omega arith, (omega arith, tt)), ((omega arith, tt), (tt, tt)));
        members = λ row. (
          λ m. let p = low_high row m in (p.0, subst (λ n. row ≤ n) (sym count) p.1, passes row),
          λ p. member row p.0 (subst (λ n. row ≤ n) count p.1),
        );
        counted = refl;
      }

      each : (k : ℕ) → k < 1 → HasNodeRows query tables (slice_index root k) (slice_index (3 ∷ []) k)
      each zero l = node_rows
      each (suc k) l = absurd (omega (arith, l))
