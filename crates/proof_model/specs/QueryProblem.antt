-- The tree problem of a query: the nodes of its join tree, with the rows of their items that pass.
use Rattle.std.specs.Prelude.{◌≡◌, ◌⊎◌, ℕ, List, map, length, slice_index, take}
use Rattle.join_tree.specs.declared.tree.JoinTree.{JoinTree}
use Rattle.tdp_model.specs.KeyTuple.{KeyOf, key_below, key_add, key_none}
use Rattle.anyk_model.specs.Table.{Table}
use Rattle.anyk_model.specs.Query.{Query}
pub use Rattle.bound_query.specs.Classes.{IsPassing}
use Rattle.bound_query.specs.Classes.{Linked, IsShared, row_field}
use Rattle.bound_query.specs.Weights.{part_of}
use Rattle.rank_key.specs.Keys.{row_key}
use Rattle.proof_model.specs.Problem.{Problem}

module _ (query : Query) (tables : List Table) where
  -- a row of item i and one of item j have the same bytes in each variable of both items
  abbrev pub RowsMatch : ℕ → ℕ → ℕ → ℕ → Type 0
  RowsMatch i j row other =
      (a b : ℕ) → IsShared query.equalities (record { item = i; place = a })
      → Linked query.equalities (record { item = i; place = a }) (record { item = j; place = b })
      → row_field query tables i row a ≡ row_field query tables j other b

  -- two rows of item i have the same bytes in each variable of items i and j
  abbrev pub RowsEqual : ℕ → ℕ → ℕ → ℕ → Type 0
  RowsEqual i j row other =
      (a b : ℕ) → IsShared query.equalities (record { item = i; place = a })
      → Linked query.equalities (record { item = i; place = a }) (record { item = j; place = b })
      → row_field query tables i row a ≡ row_field query tables i other a

  -- the key of a row of item i alone
  abbrev pub row_rank : ℕ → ℕ → KeyOf (length query.order) 16
  row_rank i row = row_key (length query.order)
      (map (part_of tables query.items i row) query.order) i row

  -- The nodes are given by the item and the parent of each. All rows of the root are in one group.
  abbrev pub problem_of : List ℕ → List ℕ → Problem (KeyOf (length query.order) 16)
  problem_of atoms parents = record {
    nodes = length atoms;
    parent = slice_index parents;
    item = slice_index atoms;
    IsRow = λ v row. IsPassing query tables (slice_index atoms v) row;
    Fits = λ v above row. IsPassing query tables (slice_index atoms v) row
        × RowsMatch (slice_index atoms v) (slice_index atoms (slice_index parents v)) row above;
    IsGrouped = λ v row other. (v ≡ 0)
        ⊎ RowsEqual (slice_index atoms v) (slice_index atoms (slice_index parents v)) row other;
    key = λ v row. row_rank (slice_index atoms v) row;
    Below = key_below (length query.order) 16;
    add = key_add (length query.order) 16;
    none = key_none (length query.order) 16;
  }

  -- the nodes are those of a stored join tree
  abbrev pub problem_in : JoinTree → Problem (KeyOf (length query.order) 16)
  problem_in join = problem_of (take join.count join.atom) (take join.count join.parent)
