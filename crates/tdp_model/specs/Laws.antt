-- The laws of ranked enumeration over a tree, for keys of d sums and e slots.
use Rattle.std.specs.Prelude.{◌≡◌, ℕ, ◌<◌, ◌≤◌, suc, List, [], ◌∷◌, ◌++◌}
use Rattle.rankings.specs.Order.{IsRanking}
use Rattle.tdp_model.specs.KeyLaws.{IsKeys}
use Rattle.tdp_model.specs.KeyTuple.{KeyOf, key_below, key_add, key_none}
use Rattle.tdp_model.specs.TreeProblem.{rows_after, bound_of, IsTree, IsTieFree, IsReached, SolutionHas, GroupHas}
use Rattle.tdp_model.specs.Regions.{Region, divided}
use Rattle.tdp_model.specs.Queue.{rank_of, whole_region, present, IsLeast, IsQueue}

-- A tree of m nodes with `rows v` rows at node v, well formed and tie-free.
pub record TieFreeTree (d e : ℕ) : Type 0 where
  pub nodes : ℕ
  pub parent : ℕ → ℕ
  pub rank : ℕ → ℕ → KeyOf d e
  pub group : ℕ → ℕ → List ℕ
  pub best : ℕ → ℕ → KeyOf d e
  pub rows : ℕ → ℕ
  pub item : ℕ → ℕ
  pub number : ℕ → ℕ → ℕ
  pub slot : ℕ → KeyOf d e → ℕ
  pub formed : IsTree (KeyOf d e) (key_below d e) (key_add d e)
      (key_none d e) nodes parent rank group best (λ v r. r < rows v)
  pub tie_free : IsTieFree (KeyOf d e) (key_add d e)
      (key_none d e) nodes rank group item number slot

-- `ks` is the ranking of the tree's solutions.
abbrev pub IsTreeRanking : (d e : ℕ) → TieFreeTree d e → List (KeyOf d e) → Type 0
IsTreeRanking d e t ks = IsRanking (KeyOf d e) (key_below d e)
    (SolutionHas (key_add d e) (key_none d e) t.nodes t.parent t.rank t.group) ks

-- Keys are added by components and ordered lexicographically as ranked enumeration needs it: a
-- strict total order that adding keeps.
abbrev pub KeysAreOrdered : Type 0
KeysAreOrdered = (d e : ℕ) → IsKeys (KeyOf d e) (key_below d e) (key_add d e) (key_none d e)

-- Some tree of two nodes is well formed and tie-free, so that the laws below are about something.
abbrev pub SomeTree : Type 0
SomeTree = (t : TieFreeTree 1 2) × (t.nodes ≡ 2)

-- What a queue of regions is over the tree, with the ranking of what it still holds.
abbrev pub IsTreeQueue : (d e : ℕ) → TieFreeTree d e → List Region → List (KeyOf d e) → Type 0
IsTreeQueue d e t cands ks =
    IsQueue (KeyOf d e) (key_below d e) (rows_after t.parent t.group)
    (bound_of (key_add d e) (key_none d e) t.nodes t.parent t.rank t.group t.best)
    (IsReached t.nodes (λ v r. r < t.rows v)) cands ks

abbrev pub tree_rank : (d e : ℕ) → TieFreeTree d e → Region → KeyOf d e
tree_rank d e t r = rank_of (rows_after t.parent t.group)
    (bound_of (key_add d e) (key_none d e) t.nodes t.parent t.rank t.group t.best) r

-- A tree has one ranking.
abbrev pub OneRanking : Type 0
OneRanking = (d e : ℕ) (t : TieFreeTree d e) (xs ys : List (KeyOf d e)) → IsTreeRanking d e t xs
    → IsTreeRanking d e t ys → xs ≡ ys

-- A tree with at least one node has a ranking.
abbrev pub RankingExists : Type 0
RankingExists = (d e n : ℕ) (t : TieFreeTree d e) → suc n ≡ t.nodes
    → (ks : List (KeyOf d e)) × IsTreeRanking d e t ks

-- It is the ranking of the subtree solutions of the root's group.
abbrev pub RootRanking : Type 0
RootRanking = (d e n depth : ℕ) (t : TieFreeTree d e) (ks : List (KeyOf d e)) → suc n ≡ t.nodes
    → t.nodes ≤ depth
    → IsRanking (KeyOf d e) (key_below d e)
    (GroupHas (key_add d e) (key_none d e) t.nodes t.parent t.rank t.group (suc depth) 0 0) ks
    → IsTreeRanking d e t ks

-- One region with everything is the queue of the whole ranking.
abbrev pub QueueBegins : Type 0
QueueBegins = (d e n : ℕ) (t : TieFreeTree d e) (ks : List (KeyOf d e)) → suc n ≡ t.nodes
    → IsTreeRanking d e t ks → IsTreeQueue d e t (whole_region n ∷ []) ks

-- The least candidate's rank is the head of the ranking, and its parts with the other candidates
-- are the queue of the rest.
abbrev pub QueueGoesOn : Type 0
QueueGoesOn = (d e : ℕ) (t : TieFreeTree d e) (r : Region) (others : List Region)
    (ks : List (KeyOf d e)) → IsTreeQueue d e t (r ∷ others) ks
    → IsLeast (key_below d e) (rows_after t.parent t.group)
    (bound_of (key_add d e) (key_none d e) t.nodes t.parent t.rank t.group t.best) r others
    → (rest : List (KeyOf d e)) × (ks ≡ tree_rank d e t r ∷ rest)
    × IsTreeQueue d e t
    (present (rows_after t.parent t.group) (divided (rows_after t.parent t.group) r) ++ others) rest
