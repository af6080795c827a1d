-- What contracts see of a stored join tree and of a fault.
use Rattle.std.specs.Prelude.{ℕ, ◌<◌, List, slice_index, take}
use Rattle.anyk_model.specs.Query.{Query}
use Rattle.join_tree.specs.declared.tree.JoinTree.{JoinTree}
use Rattle.hyper_graph.specs.Items.{items_of}
use Rattle.bound_query.specs.Shape.{HasTree, IsCyclic}
use Rattle.bound_query.specs.declared.fault.ShapeFault.{ShapeFault}
use Rattle.bound_query.specs.declared.fault.ShapeFault.TheVariants as fault

-- the items and parents of the nodes of a stored tree
abbrev pub HasStoredTree : Query → JoinTree → Type 0
HasStoredTree query tree = HasTree query (take tree.count tree.atom) (take tree.count tree.parent)

-- the fault of a tree that may be returned: memory ran out, or no join tree exists, and these items
-- are left
abbrev pub TellsCycle : Query → ShapeFault → Type 0
TellsCycle query fault.NoMemory = Unit {0}
TellsCycle query (fault.Cyclic core) = IsCyclic query (items_of core)

-- the item of each of the first n nodes is less than the third argument
abbrev pub HasItems : ℕ → List ℕ → ℕ → Type 0
HasItems n atoms items = (k : ℕ) → k < n → slice_index atoms k < items
