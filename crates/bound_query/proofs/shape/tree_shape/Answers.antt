use Rattle.std.proofs.Common.{◌≡◌, ℕ, ◌+◌, ◌<◌, List, length, slice_index, take, ◌∙◌, subst, arith}
use Rattle.std.proofs.lemmas.List.{get_or-take, length-take}
use Rattle.bound_query.specs.JoinTreeView.{HasItems}
use Rattle.bound_query.proofs.Core.{items_ascending, items_members}
use Rattle.bound_query.proofs.shape.tree_shape.Goals as goal

all_counted : (count removed atoms : ℕ) (items : List ℕ) → length (take count items) ≡ atoms → count ≡ removed + 1 → removed < atoms → count ≡ atoms
all_counted count removed atoms items long more some = omega (arith, length-take count items)

all_within : (count atoms : ℕ) (items : List ℕ) → length (take count items) ≡ atoms → count ≡ atoms
    → ((k : ℕ) → k < length (take count items) → slice_index (take count items) k < atoms) → HasItems count items atoms
all_within count atoms items long all within k l = subst (λ item. item < atoms) (get_or-take count items k 0 l) (within k (omega arith))

pub tree_of-requires : goal.tree_of-requires
tree_of-requires c = (c.in_ok-graph.graph, c.ears-ears.ensures.removal)

pub returns-in-Some-clause-tree : goal.returns-in-Some-clause-tree
returns-in-Some-clause-tree c = record {
  graph = c.in_ok-graph.graph;
  of_query = c.in_ok-graph.ensures;
  parent = c.ears-ears.result.parent;
  order = c.ears-ears.result.order;
  removed = c.ears-ears.result.removed;
  core = c.ears-ears.result.core;
  removal = c.ears-ears.ensures.removal;
  tree = c.in-Some.ensures.nodes;
  join_tree = c.in-Some.ensures.tree c.in_ok-graph.graph c.ears-ears.ensures.removal;
}

pub returns-in-Some-clause-ordered : goal.returns-in-Some-clause-ordered
returns-in-Some-clause-ordered c = c.in-Some.ensures.ordered

pub returns-in-Some-clause-count : goal.returns-in-Some-clause-count
returns-in-Some-clause-count c =
    let joined = c.in-Some.ensures.tree c.in_ok-graph.graph c.ears-ears.ensures.removal in
    all_counted _ _ _ c.in-Some.tree.atom joined.nodes c.in-Some.ensures.count c.ears-ears.ensures.removal.some_left ∙ c.in_ok-graph.ensures.atoms

pub returns-in-Some-clause-items : goal.returns-in-Some-clause-items
returns-in-Some-clause-items c =
    let removal = c.ears-ears.ensures.removal in
    let joined = c.in-Some.ensures.tree c.in_ok-graph.graph removal in
    let all = all_counted _ _ _ c.in-Some.tree.atom joined.nodes c.in-Some.ensures.count removal.some_left in
    subst (HasItems c.in-Some.tree.count c.in-Some.tree.atom) c.in_ok-graph.ensures.atoms (all_within _ _ _ joined.nodes all joined.within)

pub returns-clause-refusal : goal.returns-clause-refusal
returns-clause-refusal c = record {
  graph = c.in_ok-graph.graph;
  of_query = c.in_ok-graph.ensures;
  no_tree = c.in-None.ensures.tree c.in_ok-graph.graph c.ears-ears.ensures.removal;
  parent = c.ears-ears.result.parent;
  order = c.ears-ears.result.order;
  removed = c.ears-ears.result.removed;
  core = c.ears-ears.result.core;
  removal = c.ears-ears.ensures.removal;
  ascending = items_ascending c.ears-ears.result.core;
  members = λ item. items_members c.ears-ears.result.core item (omega arith);
}
