-- The union that computes is the union's ranking.
use Rattle.std.proofs.Common.{◌≡◌, ◌<◌, ◌+◌, ◌∙◌, ℕ, zero, suc, List, [], ◌∷◌, map, length, get_or, inl, inr, refl, sym, ap, subst, arith}
use Rattle.std.proofs.lemmas.List.{length-map}
use Rattle.rankings.specs.Order.{BelowAll, IsAscending, IsMember, IsRanking}
use Rattle.rankings.proofs.Members.{member_either, member_left, member_right}
use Rattle.rankings.proofs.Unique.{ranking_unique}
use Rattle.rankings.proofs.Sorting.{ranked_is_ranking}
use Rattle.anyk_model.specs.Table.{Table}
use Rattle.anyk_model.specs.Query.{IsWitness, Query, rank_of}
use Rattle.anyk_model.specs.Ranking.{Precedes, ranking_of, witnesses}
use Rattle.anyk_model.proofs.Exists.{ranking_is, witnesses_are}
use Rattle.anyk_model.specs.TaggedRows.{IsTagged, IsUnionRanking, PrecedesTagged, Tagged, branch_at, sums_of, tagged}
use Rattle.anyk_model.specs.Union.{left_of, tagged_lists, union_of}
use Rattle.anyk_model.proofs.Keys.{before_front}
use Rattle.anyk_model.specs.TaggedOrder.{tagged_order}

-- ---- members of tagged lists

map_tagged : (b : ℕ) (m : Tagged) (list : List (List ℕ)) → IsMember m (map (tagged b) list) → (m.branch ≡ b) × IsMember m.rows list
map_tagged b m [] n = absurd n
map_tagged b m (rows ∷ list) (inl e) = (ap (λ (t : Tagged). t.branch) e, inl (ap (λ (t : Tagged). t.rows) e))
map_tagged b m (rows ∷ list) (inr n) = let h = map_tagged b m list n in (h.0, inr h.1)

tagged_map : (b : ℕ) (m : Tagged) (list : List (List ℕ)) → m.branch ≡ b → IsMember m.rows list → IsMember m (map (tagged b) list)
tagged_map b m [] e n = absurd n
tagged_map b m (rows ∷ list) e (inl f) = let same : tagged m.branch m.rows ≡ tagged b rows = ap (λ (k : ℕ). tagged k m.rows) e ∙ ap (tagged b) f in inl same
tagged_map b m (rows ∷ list) e (inr n) = inr (tagged_map b m list e n)

-- a member of lists of which the first has the number b
abbrev InLists : ℕ → List (List (List ℕ)) → Tagged → Type 0
InLists b lists m = (i : ℕ) × (m.branch ≡ b + i) × IsMember m.rows (get_or lists i [])

from_lists : (b : ℕ) (lists : List (List (List ℕ))) (m : Tagged) → IsMember m (tagged_lists b lists) → InLists b lists m
from_lists b [] m n = absurd n
from_lists b (list ∷ lists) m n = elim (member_either m (map (tagged b) list) (tagged_lists (b + 1) lists) n) [
  | inl here ↦ let h = map_tagged b m list here in (0, omega (arith, h.0), h.1)
  | inr later ↦ let h = from_lists (b + 1) lists m later in (suc h.0, omega (arith, h.1), h.2)
]

to_lists : (b : ℕ) (lists : List (List (List ℕ))) (m : Tagged) → InLists b lists m → IsMember m (tagged_lists b lists)
to_lists b [] m (i, at, n) = absurd n
to_lists b (list ∷ lists) m (zero, at, n) = member_left m (map (tagged b) list) (tagged_lists (b + 1) lists) (tagged_map b m list (omega (arith, at)) n)
to_lists b (list ∷ lists) m (suc i, at, n) = member_right m (map (tagged b) list) (tagged_lists (b + 1) lists) (to_lists (b + 1) lists m (i, omega (arith, at), n))

-- if the first list has the number 0, a member is in the list at its branch
in_own : (lists : List (List (List ℕ))) (m : Tagged) → IsMember m (tagged_lists 0 lists) → IsMember m.rows (get_or lists m.branch [])
in_own lists m n =
    let h = from_lists 0 lists m n in
    let at : h.0 ≡ m.branch = omega (arith, h.1) in
    subst (λ (i : ℕ). IsMember m.rows (get_or lists i [])) at h.2

own_in : (lists : List (List (List ℕ))) (m : Tagged) → IsMember m.rows (get_or lists m.branch []) → IsMember m (tagged_lists 0 lists)
own_in lists m n = to_lists 0 lists m (m.branch, omega arith, n)

-- what is left has the members of the branches' lists
pub left_is : (queries : List Query) (tables : List Table) (lists : List (List (List ℕ)))
    → IsRanking Tagged (PrecedesTagged queries tables) (λ m. IsMember m.rows (get_or lists m.branch [])) (left_of queries tables lists)
left_is queries tables lists =
    let sorted = ranked_is_ranking (PrecedesTagged queries tables) (tagged_order queries tables) (tagged_lists 0 lists) in
    record {
      ascending = sorted.ascending;
      sound = λ m n. in_own lists m (sorted.sound m n);
      complete = λ m n. sorted.complete m (own_in lists m n);
    }

-- ---- the union

pub union_unique : (queries : List Query) (tables : List Table) (a b : List Tagged) → IsUnionRanking queries tables a → IsUnionRanking queries tables b → a ≡ b
union_unique queries tables a b p q = ranking_unique (PrecedesTagged queries tables) (tagged_order queries tables) (IsTagged queries tables) a b p q

module _ (queries : List Query) (tables : List Table) (list_of : Query → List (List ℕ))
    (sound : (query : Query) (rows : List ℕ) → IsMember rows (list_of query) → IsWitness query tables rows)
    (complete : (query : Query) (rows : List ℕ) → IsWitness query tables rows → IsMember rows (list_of query)) where
  at_branch : (b : ℕ) (rows : List ℕ) (qs : List Query) → IsMember rows (get_or (map list_of qs) b []) → (b < length qs) × IsMember rows (list_of (branch_at qs b))
  at_branch b rows [] n = absurd n
  at_branch zero rows (q ∷ qs) n = (omega arith, n)
  at_branch (suc b) rows (q ∷ qs) n = let h = at_branch b rows qs n in (omega (arith, h.0), h.1)

  branch_at_lem : (b : ℕ) (rows : List ℕ) (qs : List Query) → b < length qs → IsMember rows (list_of (branch_at qs b)) → IsMember rows (get_or (map list_of qs) b [])
  branch_at_lem b rows [] inside n = absurd (omega arith)
  branch_at_lem zero rows (q ∷ qs) inside n = n
  branch_at_lem (suc b) rows (q ∷ qs) inside n = branch_at_lem b rows qs (omega arith) n

  -- lists of each branch's witnesses, in any order, leave the union
  pub lists_union : IsUnionRanking queries tables (left_of queries tables (map list_of queries))
  lists_union =
      let left = left_is queries tables (map list_of queries) in
      record {
        ascending = left.ascending;
        sound = λ m n. let h = at_branch m.branch m.rows queries (left.sound m n) in (h.0, sound (branch_at queries m.branch) m.rows h.1);
        complete = λ m w. left.complete m (branch_at_lem m.branch m.rows queries w.0 (complete (branch_at queries m.branch) m.rows w.1));
      }

pub union_is : (queries : List Query) (tables : List Table) → IsUnionRanking queries tables (union_of queries tables)
union_is queries tables =
    lists_union queries tables (λ query. witnesses query tables) (λ query rows m. (witnesses_are query tables rows).0 m) (λ query rows w. (witnesses_are query tables rows).1 w)

-- what the branches' rankings leave is the union
pub rankings_union : (queries : List Query) (tables : List Table) → left_of queries tables (map (λ query. ranking_of query tables) queries) ≡ union_of queries tables
rankings_union queries tables =
    union_unique queries tables _ _
    (lists_union queries tables (λ query. ranking_of query tables) (λ query rows m. (ranking_is query tables).sound rows m) (λ query rows w. (ranking_is query tables).complete rows w))
    (union_is queries tables)

-- ---- one branch

-- in one branch members are in the order of their combinations
pub same_branch : (queries : List Query) (tables : List Table) (b : ℕ) (rows later : List ℕ) → Precedes (branch_at queries b) tables rows later
    → PrecedesTagged queries tables (tagged b rows) (tagged b later)
same_branch queries tables b rows later p =
    elim (before_front (sums_of queries tables b rows) (sums_of queries tables b later) _ _
    (length-map (branch_at queries b).order (rank_of (branch_at queries b) tables rows) ∙ sym (length-map (branch_at queries b).order (rank_of (branch_at queries b) tables later))) p) [
      | inl q ↦ inl q
      | inr q ↦ inr (q.0, inr (refl, q.1))
    ]

module _ (query : Query) (tables : List Table) where
  below_tagged : (a : List ℕ) (list : List (List ℕ)) → BelowAll (Precedes query tables) a list → BelowAll (PrecedesTagged (query ∷ []) tables) (tagged 0 a) (map (tagged 0) list)
  below_tagged a [] all = tt
  below_tagged a (b ∷ list) all = (same_branch (query ∷ []) tables 0 a b all.0, below_tagged a list all.1)

  ascending_tagged : (list : List (List ℕ)) → IsAscending (Precedes query tables) list → IsAscending (PrecedesTagged (query ∷ []) tables) (map (tagged 0) list)
  ascending_tagged [] up = tt
  ascending_tagged (a ∷ list) up = (below_tagged a list up.0, ascending_tagged list up.1)

  pub one_branch : union_of (query ∷ []) tables ≡ map (tagged 0) (ranking_of query tables)
  one_branch =
      let ranking = ranking_is query tables in
      union_unique (query ∷ []) tables _ _ (union_is (query ∷ []) tables)
      (record {
        ascending = ascending_tagged (ranking_of query tables) ranking.ascending;
        sound = λ m n.
            let h = map_tagged 0 m (ranking_of query tables) n in
            (omega (arith, h.0), subst (λ (i : ℕ). IsWitness (branch_at (query ∷ []) i) tables m.rows) (sym h.0) (ranking.sound m.rows h.1));
        complete = λ m w.
            let first : m.branch ≡ 0 = omega (arith, w.0) in
            tagged_map 0 m (ranking_of query tables) first (ranking.complete m.rows (subst (λ (i : ℕ). IsWitness (branch_at (query ∷ []) i) tables m.rows) first w.1));
      })
