-- The rankings of a tree's groups, and of its rows with their first children, as lists.
use Rattle.std.specs.Prelude.{ℕ, zero, suc, ◌-◌, ◌<◌, cond, nat_eq, nat_lt, List, length, slice_index}
use Rattle.rankings.specs.Order.{ranked}
use Rattle.tdp_core.specs.TreeView.{NodeView, kids_below, parent, members, group, rank}
use Rattle.tdp_model.specs.KeyTuple.{KeyOf, key_below, key_add, key_none}
use Rattle.tdp_model.specs.TreeProblem.{RowHas, PartHas, gather, part_keys, row_keys}
use Rattle.tdp_model.proofs.KeyTuples.{tuple_keys}

-- child number c of node v among the nodes from 1 to n - 1, or 0 if there is none
unfoldable pub child_among : (ℕ → ℕ) → ℕ → ℕ → ℕ → ℕ
child_among parent v c zero = 0
child_among parent v c (suc n) =
    cond (nat_lt 0 n) (cond (nat_eq (parent n) v)
    (cond (nat_eq (kids_below parent v n) c) n (child_among parent v c n))
    (child_among parent v c n)) (child_among parent v c n)

module _ {R : Type 0} (t : List (NodeView R)) where
  -- child number c of node v
  abbrev pub child : ℕ → ℕ → ℕ
  child v c = child_among (parent t) v c (length t)

  -- the number of nodes after v up to the last of its first c children
  abbrev pub part_end : ℕ → ℕ → ℕ
  part_end v zero = 0
  part_end v (suc c) = child v c - v

module _ {R : Type 0} (d : ℕ) (key : R → KeyOf d 16) (t : List (NodeView R)) where
  abbrev pub RowSolution : ℕ → ℕ → KeyOf d 16 → Type 0
  RowSolution v r k = RowHas (key_add d 16) (key_none d 16) (length t) (parent t) (rank t d key)
      (group t) (length t) v r k

  -- k is the key of a solution of row r of node v with its first c children
  abbrev pub PartSolution : ℕ → ℕ → ℕ → KeyOf d 16 → Type 0
  PartSolution v r c k = PartHas (key_add d 16) (key_none d 16) (length t) (parent t) (rank t d key)
      (group t) (length t) v r (part_end t v c) k

  -- k is the key of a subtree solution of a member of group g of node q
  abbrev pub GroupSolution : ℕ → ℕ → KeyOf d 16 → Type 0
  GroupSolution q g k = (i : ℕ) × (i < length (members t q g))
      × RowSolution q (slice_index (members t q g) i) k

  -- the keys of the subtree solutions of row r of node q, in any order
  abbrev pub solution_keys : ℕ → ℕ → List (KeyOf d 16)
  solution_keys q r = row_keys (key_add d 16) (length t) (parent t) (rank t d key) (group t)
      (length t) q r

  -- the ranking of the solutions of row r of node v with its first c children
  unfoldable pub part_list : ℕ → ℕ → ℕ → List (KeyOf d 16)
  part_list v r c =
      ranked (key_below d 16) (tuple_keys d 16).order
      (part_keys (key_add d 16) (parent t) v (rank t d key v r)
      (λ q. gather (solution_keys q) (group t q r)) (part_end t v c))

  -- the ranking of the subtree solutions of the members of group g of node q
  unfoldable pub group_list : ℕ → ℕ → List (KeyOf d 16)
  group_list q g = ranked (key_below d 16) (tuple_keys d 16).order
      (gather (solution_keys q) (members t q g))
