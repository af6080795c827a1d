-- The list that computes is the ranking.
use Rattle.std.proofs.Common.{◌≡◌, ◌+◌, ◌⊎◌, ◌↔◌, inl, inr, refl, sym, ap, subst, ◌∙◌, arith, ℕ, ℤ, pos, true, if◌then◌else◌, List, [], ◌∷◌, ◌++◌, map}
use Rattle.std.specs.List.{AllByRecursion, list_all, flat_map, range_with_len}
use Rattle.std.proofs.lemmas.Bool.{and_parts, and_from}
use Rattle.std.proofs.lemmas.Slice.Eq.{bytes_eq-Decides}
use Rattle.anyk_model.specs.Table.{Table}
use Rattle.anyk_model.specs.Query.{Equality, Holds, IsCombination, IsWitness, Query, key_of, rank_of, row_counts, side_value, value_of}
use Rattle.rankings.specs.Order.{BelowAll, IsAscending, IsMember}
use Rattle.rankings.proofs.Members.{kept_member, member_either, member_kept, member_left, member_right, range_bounds, range_member}
use Rattle.anyk_model.specs.ListOrder.{Compared, before, same, after, before_trans, compare}
use Rattle.anyk_model.specs.Ranking.{IsBefore, IsRanking, combinations, holds, insert_by, is_before, ranking_of, sort_by, witnesses}

-- ---- combinations

cons_member : (row : ℕ) (rows : List ℕ) (lists : List (List ℕ)) → IsMember rows lists → IsMember (row ∷ rows) (map (λ r. row ∷ r) lists)
cons_member row rows [] m = m
cons_member row rows (l ∷ lists) (inl e) = inl (ap (λ (r : List ℕ). row ∷ r) e)
cons_member row rows (l ∷ lists) (inr m) = inr (cons_member row rows lists m)

-- a list of the product begins with the row, and goes on with one of the lists
cons_parts : (row : ℕ) (list : List ℕ) (lists : List (List ℕ)) → IsMember list (map (λ r. row ∷ r) lists)
    → (rows : List ℕ) × (list ≡ row ∷ rows) × IsMember rows lists
cons_parts row list [] m = absurd m
cons_parts row list (l ∷ lists) (inl e) = (l, e, inl refl)
cons_parts row list (l ∷ lists) (inr m) = let p = cons_parts row list lists m in (p.0, p.1, inr p.2)

flat_member : {A B : Type 0} (f : A → List B) (x : A) (y : B) (xs : List A) → IsMember x xs → IsMember y (f x) → IsMember y (flat_map f xs)
flat_member f x y [] m n = absurd m
flat_member f x y (z ∷ xs) (inl e) n = member_left y (f z) (flat_map f xs) (subst (λ t. IsMember y (f t)) e n)
flat_member f x y (z ∷ xs) (inr m) n = member_right y (f z) (flat_map f xs) (flat_member f x y xs m n)

flat_parts : {A B : Type 0} (f : A → List B) (y : B) (xs : List A) → IsMember y (flat_map f xs) → (x : A) × IsMember x xs × IsMember y (f x)
flat_parts f y [] m = absurd m
flat_parts f y (z ∷ xs) m =
    elim (member_either y (f z) (flat_map f xs) m) [
      | inl here ↦ (z, inl refl, here)
      | inr later ↦ let p = flat_parts f y xs later in (p.0, inr p.1, p.2)
    ]

all_combinations : (counts rows : List ℕ) → IsCombination counts rows → IsMember rows (combinations counts)
all_combinations [] [] c = inl refl
all_combinations [] (row ∷ rows) c = absurd c
all_combinations (count ∷ counts) [] c = absurd c
all_combinations (count ∷ counts) (row ∷ rows) c =
    flat_member (λ r. map (λ rest. r ∷ rest) (combinations counts)) row (row ∷ rows) (range_with_len 1 count)
    (range_member 1 count row c.0 (omega (arith, c.1))) (cons_member row rows (combinations counts) (all_combinations counts rows c.2))

only_combinations : (counts rows : List ℕ) → IsMember rows (combinations counts) → IsCombination counts rows
only_combinations [] rows (inl e) = subst (IsCombination []) (sym e) tt
only_combinations [] rows (inr m) = absurd m
only_combinations (count ∷ counts) rows m =
    let p = flat_parts (λ r. map (λ rest. r ∷ rest) (combinations counts)) rows (range_with_len 1 count) m in
    let q = cons_parts p.0 rows (combinations counts) p.2 in
    let bounds = range_bounds 1 count p.0 p.1 in
    subst (IsCombination (count ∷ counts)) (sym q.1) (bounds.0, omega (arith, bounds.1), only_combinations counts q.0 q.2)

module _ (query : Query) (tables : List Table) (rows : List ℕ) where
  all_hold : (es : List Equality) → list_all (holds query tables rows) es ≡ true → AllByRecursion (Holds query tables rows) es
  all_hold [] e = tt
  all_hold (q ∷ es) e =
      let h = and_parts (holds query tables rows q) (list_all (holds query tables rows) es) e in
      ((bytes_eq-Decides (value_of query tables rows q.left) (side_value query tables rows q.right)).0 h.0, all_hold es h.1)

  hold_all : (es : List Equality) → AllByRecursion (Holds query tables rows) es → list_all (holds query tables rows) es ≡ true
  hold_all [] h = refl
  hold_all (q ∷ es) h =
      and_from (holds query tables rows q) (list_all (holds query tables rows) es)
      ((bytes_eq-Decides (value_of query tables rows q.left) (side_value query tables rows q.right)).1 h.0) (hold_all es h.1)

-- the witnesses that compute are the witnesses
pub witnesses_are : (query : Query) (tables : List Table) (rows : List ℕ) → IsMember rows (witnesses query tables) ↔ IsWitness query tables rows
witnesses_are query tables rows =
    let counts = row_counts query.items tables in (
      λ m.
          let p = kept_member (λ r. list_all (holds query tables r) query.equalities) rows (combinations counts) m in
          (only_combinations counts rows p.0, all_hold query tables rows query.equalities p.1),
      λ w.
          member_kept (λ r. list_all (holds query tables r) query.equalities) rows (combinations counts)
          (all_combinations counts rows w.0) (hold_all query tables rows query.equalities w.1),
    )

-- ---- the sort, where a key tells its combination

all_later : {A : Type 0} (Before : A → A → Type 0) (trans : (x y z : A) → Before x y → Before y z → Before x z) (a b : A) (xs : List A)
    → Before a b → BelowAll Before b xs → BelowAll Before a xs
all_later Before trans a b [] p all = tt
all_later Before trans a b (x ∷ xs) p all = (trans a b x p all.0, all_later Before trans a b xs p all.1)

module _ (key : List ℕ → List ℤ) (tells : (a b : List ℕ) → key a ≡ key b → a ≡ b) where
  abbrev Before : List ℕ → List ℕ → Type 0
  Before a b = IsBefore (key a) (key b)

  placed : (a b : List ℕ) (list rest : List (List ℕ)) → Compared (key a) (key b)
      → (Q : List (List ℕ) → Type 0)
      → (IsBefore (key a) (key b) → Q (a ∷ b ∷ list)) → (IsBefore (key b) (key a) → Q (b ∷ rest)) → (a ≡ b → Q (b ∷ list))
      → Q (if is_before (key a) (key b) then a ∷ b ∷ list else if is_before (key b) (key a) then b ∷ rest else b ∷ list)
  placed a b list rest (before t p) Q first later here = rw t (first p)
  placed a b list rest (same t u e) Q first later here = rw (t, u) (here (tells a b e))
  placed a b list rest (after t u p) Q first later here = rw (t, u) (later p)

  insert_member : (x a : List ℕ) (list : List (List ℕ)) → (x ≡ a) ⊎ IsMember x list → IsMember x (insert_by key a list)
  insert_member x a [] (inl e) = inl e
  insert_member x a [] (inr m) = absurd m
  insert_member x a (b ∷ list) m =
      placed a b list (insert_by key a list) (compare (key a) (key b)) (λ l. IsMember x l)
      (λ p. m) (λ p. in_rest m (insert_member x a list)) (λ e. in_same e m)
    where
      in_rest : (x ≡ a) ⊎ IsMember x (b ∷ list) → ((x ≡ a) ⊎ IsMember x list → IsMember x (insert_by key a list)) → IsMember x (b ∷ insert_by key a list)
      in_rest (inl e) rest = inr (rest (inl e))
      in_rest (inr (inl e)) rest = inl e
      in_rest (inr (inr m)) rest = inr (rest (inr m))

      in_same : a ≡ b → (x ≡ a) ⊎ IsMember x (b ∷ list) → IsMember x (b ∷ list)
      in_same alike (inl e) = inl (e ∙ alike)
      in_same alike (inr m) = m

  insert_parts : (x a : List ℕ) (list : List (List ℕ)) → IsMember x (insert_by key a list) → (x ≡ a) ⊎ IsMember x list
  insert_parts x a [] m = m
  insert_parts x a (b ∷ list) m =
      (placed a b list (insert_by key a list) (compare (key a) (key b)) (λ l. IsMember x l → (x ≡ a) ⊎ IsMember x (b ∷ list))
      (λ p n. n) (λ p n. out_rest n (insert_parts x a list)) (λ e n. inr n)) m
    where
      out_rest : IsMember x (b ∷ insert_by key a list) → (IsMember x (insert_by key a list) → (x ≡ a) ⊎ IsMember x list) → (x ≡ a) ⊎ IsMember x (b ∷ list)
      out_rest (inl e) rest = inr (inl e)
      out_rest (inr m) rest = elim (rest m) [ inl e ↦ inl e | inr later ↦ inr (inr later) ]

  all_insert : (c a : List ℕ) (list : List (List ℕ)) → Before c a → BelowAll Before c list → BelowAll Before c (insert_by key a list)
  all_insert c a [] p all = (p, tt)
  all_insert c a (b ∷ list) p all =
      placed a b list (insert_by key a list) (compare (key a) (key b)) (BelowAll Before c)
      (λ q. (p, all)) (λ q. (all.0, all_insert c a list p all.1)) (λ e. all)

  insert_ascending : (a : List ℕ) (list : List (List ℕ)) → IsAscending Before list → IsAscending Before (insert_by key a list)
  insert_ascending a [] h = (tt, tt)
  insert_ascending a (b ∷ list) h =
      placed a b list (insert_by key a list) (compare (key a) (key b)) (IsAscending Before)
      (λ p. ((p, all_later Before (λ x y z. before_trans (key x) (key y) (key z)) a b list p h.0), h))
      (λ p. (all_insert b a list p h.0, insert_ascending a list h.1)) (λ e. h)

  sort_ascending : (list : List (List ℕ)) → IsAscending Before (sort_by key list)
  sort_ascending [] = tt
  sort_ascending (a ∷ list) = insert_ascending a (sort_by key list) (sort_ascending list)

  sort_member : (x : List ℕ) (list : List (List ℕ)) → IsMember x list → IsMember x (sort_by key list)
  sort_member x [] m = m
  sort_member x (a ∷ list) (inl e) = insert_member x a (sort_by key list) (inl e)
  sort_member x (a ∷ list) (inr m) = insert_member x a (sort_by key list) (inr (sort_member x list m))

  sort_parts : (x : List ℕ) (list : List (List ℕ)) → IsMember x (sort_by key list) → IsMember x list
  sort_parts x [] m = m
  sort_parts x (a ∷ list) m =
      elim (insert_parts x a (sort_by key list) m) [ inl e ↦ inl e | inr later ↦ inr (sort_parts x list later) ]

-- ---- a key tells its combination

pos_same : (a b : ℕ) → pos a ≡ pos b → a ≡ b
pos_same a b e = cc

numbers_same : (a b : List ℕ) → map pos a ≡ map pos b → a ≡ b
numbers_same [] [] e = refl
numbers_same [] (y ∷ b) e = cc
numbers_same (x ∷ a) [] e = cc
numbers_same (x ∷ a) (y ∷ b) e =
    let head : pos x ≡ pos y = cc in
    let tail : map pos a ≡ map pos b = cc in
    λ i. pos_same x y head i ∷ numbers_same a b tail i

behind_same : {A : Type 0} (f g : A → ℤ) (keys : List A) (a b : List ℤ) → map f keys ++ a ≡ map g keys ++ b → a ≡ b
behind_same f g [] a b e = e
behind_same f g (k ∷ keys) a b e =
    let tail : map f keys ++ a ≡ map g keys ++ b = cc in
    behind_same f g keys a b tail

key_tells : (query : Query) (tables : List Table) (a b : List ℕ) → key_of query tables a ≡ key_of query tables b → a ≡ b
key_tells query tables a b e =
    numbers_same a b (behind_same (rank_of query tables a) (rank_of query tables b) query.order (map pos a) (map pos b) e)

-- the list that computes is the ranking
pub ranking_is : (query : Query) (tables : List Table) → IsRanking query tables (ranking_of query tables)
ranking_is query tables =
    let key = key_of query tables in
    let tells = key_tells query tables in
    record {
      ascending = sort_ascending key tells (witnesses query tables);
      sound = λ rows m. (witnesses_are query tables rows).0 (sort_parts key tells rows (witnesses query tables) m);
      complete = λ rows w. sort_member key tells rows (witnesses query tables) ((witnesses_are query tables rows).1 w);
    }
