-- What a queue's entries hold is the ranking of the rows that are left.
use Rattle.std.proofs.Common.{◌≡◌, ℕ, ◌<◌, ◌≤◌, Bool, true, false, cond, nat_lt, List, [], ◌∷◌, filter, length, map, get_or, refl, sym, ap, ◌∙◌, subst, inl, inr, arith}
use Rattle.std.specs.List.{range_with_len}
use Rattle.std.proofs.lemmas.Bool.{cases_lt, false≢true, lt-ltb, ltb-true}
use Rattle.std.proofs.lemmas.List.{length-map}
use Rattle.std.proofs.lemmas.List.FromFn.{length-range_with_len, get_or-range_with_len}
use Rattle.std.proofs.lemmas.List.Sums.{sum_by-cons}
use Rattle.take2_heap.specs.declared.entry.Entry.{Entry}
use Rattle.rankings.specs.Order.{IsMember, IsRanking}
use Rattle.rankings.proofs.Members.{member_map, member_unmap, contains_member}
use Rattle.rankings.proofs.Unique.{ranking_unique}
use Rattle.tdp_model.specs.KeyTuple.{KeyOf, key_below, key_add, key_none, slot_of}
use Rattle.tdp_model.specs.Remains.{Remains}
use Rattle.tdp_model.specs.TreeProblem.{RowHas}
use Rattle.tdp_model.proofs.KeyTuples.{tuple_keys}
use Rattle.rankings.proofs.Sorting.{ranked_is_ranking}
use Rattle.tdp_model.proofs.SubtreeTies.{rows_apart}
use Rattle.tdp_core.specs.TreeView.{NodeView, parent, item, number, members, group, rank, best}
use Rattle.tdp_core.specs.WellFormed.{IsFormed, IsTieFreeTree}
use Rattle.tdp_core.proofs.TreeFacts.{member_is_row, members_apart, best_had, tie_free_of}
use Rattle.tree_dp.specs.BestRanking.{IsBestRanking}
use Rattle.tree_dp.proofs.RootRows.{row_placed}
use Rattle.best_per.specs.RootHeap.{holds, held_by, places_left, root_len, place_key, rest_keys}
use Rattle.best_per.proofs.Counts.{ranked_length, filter_length}
use Rattle.best_per.proofs.RootPlaces.{held_within, top_holds, top_holds_once}

-- the members of a list that pass a test
filter_in : (p : ℕ → Bool) (x : ℕ) (xs : List ℕ) → IsMember x xs → p x ≡ true → IsMember x (filter p xs)
filter_in p x [] m e = m
filter_in p x (y ∷ xs) m e = by (p y) refl m (λ later. filter_in p x xs later e)
  where
    by : (b : Bool) → p y ≡ b → IsMember x (y ∷ xs) → (IsMember x xs → IsMember x (filter p xs)) → IsMember x (cond b (y ∷ filter p xs) (filter p xs))
    by true is (inl same) rest = inl same
    by true is (inr later) rest = inr (rest later)
    by false is (inl same) rest = absurd (false≢true (sym is ∙ ap p (sym same) ∙ e))
    by false is (inr later) rest = rest later

filter_of : (p : ℕ → Bool) (x : ℕ) (xs : List ℕ) → IsMember x (filter p xs) → p x ≡ true
filter_of p x [] m = absurd m
filter_of p x (y ∷ xs) m = by (p y) refl m (filter_of p x xs)
  where
    by : (b : Bool) → p y ≡ b → IsMember x (cond b (y ∷ filter p xs) (filter p xs)) → (IsMember x (filter p xs) → p x ≡ true) → p x ≡ true
    by true is (inl same) rest = ap p same ∙ is
    by true is (inr later) rest = rest later
    by false is later rest = rest later

in_range : (n i : ℕ) → i < n → IsMember i (range_with_len 0 n)
in_range n i l =
    contains_member i (range_with_len 0 n) i (omega (arith, length-range_with_len 0 n))
    (get_or-range_with_len 0 n i i l ∙ omega arith)

module _ {R : Type 0} (n : ℕ) (es : List (Entry R ℕ)) (within : (i : ℕ) → 0 < held_by n es i → i < n) where
  -- the places left are those that the entries hold
  pub left_held : (i : ℕ) → IsMember i (places_left n es) → 0 < held_by n es i
  left_held i m = ltb-true 0 (held_by n es i) (filter_of (λ j. nat_lt 0 (held_by n es j)) i (range_with_len 0 n) m)

  pub held_left : (i : ℕ) → 0 < held_by n es i → IsMember i (places_left n es)
  held_left i h = filter_in (λ j. nat_lt 0 (held_by n es j)) i (range_with_len 0 n) (in_range n i (within i h)) (lt-ltb 0 (held_by n es i) h)

pub entries_within : {R : Type 0} (n : ℕ) (es : List (Entry R ℕ)) (i : ℕ) → 0 < held_by n es i → i < n
entries_within n [] i h = absurd (omega (arith, h))
entries_within {R} n (e ∷ es) i h = elim (cases_lt 0 (holds n e.tag i)) [
  | inl here ↦ held_within n e.tag i here
  | inr none ↦ entries_within n es i (omega (arith, h, none, sum_by-cons (λ (x : Entry R ℕ). holds n x.tag i) e es))
]

module _ {R : Type 0} (d : ℕ) (key : R → KeyOf d 16) (t : List (NodeView R)) where
  -- the rest is the ranking of the keys of the places that the entries hold
  rest_ranks : (es : List (Entry R ℕ)) → IsRanking (KeyOf d 16) (key_below d 16) (λ k. (i : ℕ) × (0 < held_by (root_len t) es i) × (place_key d key t i ≡ k)) (rest_keys d key t es)
  rest_ranks es =
      let n = root_len t in
      let left = places_left n es in
      let r = ranked_is_ranking (key_below d 16) (tuple_keys d 16).order (map (place_key d key t) left) in
      record {
        ascending = r.ascending;
        sound = λ k m. let f = member_unmap (place_key d key t) k left (r.sound k m) in (f.0, left_held n es (entries_within n es) f.0 f.1, sym f.2);
        complete = λ k h. subst (λ z. IsMember z (rest_keys d key t es)) h.2 (r.complete (place_key d key t h.0) (member_map (place_key d key t) h.0 left (held_left n es (entries_within n es) h.0 h.1)));
      }

  -- what remains is the rest
  pub rest_is : (es : List (Entry R ℕ)) (ks : List (KeyOf d 16)) → Remains ℕ (KeyOf d 16) (key_below d 16) (place_key d key t) (held_by (root_len t) es) ks → ks ≡ rest_keys d key t es
  rest_is es ks h =
      ranking_unique (key_below d 16) (tuple_keys d 16).order (λ k. (i : ℕ) × (0 < held_by (root_len t) es i) × (place_key d key t i ≡ k)) ks (rest_keys d key t es)
      (record { ascending = h.ascending; sound = h.sound; complete = λ k p. subst (λ z. IsMember z ks) p.2 (h.complete p.0 p.1) })
      (rest_ranks es)

  -- there are no more keys than places
  pub rest_length : (es : List (Entry R ℕ)) → length (rest_keys d key t es) ≤ root_len t
  rest_length es =
      let n = root_len t in
      let left = places_left n es in
      omega (
        arith,
        ranked_length (key_below d 16) (tuple_keys d 16).order (map (place_key d key t) left),
        length-map left (place_key d key t),
        filter_length (λ i. nat_lt 0 (held_by n es i)) (range_with_len 0 n),
        length-range_with_len 0 n,
      )

  module _ (formed : IsFormed d key t) where
    some_node : 0 < length t
    some_node = omega (arith, formed.shaped.some_node)

    -- no two places have the same key
    pub places_apart : IsTieFreeTree t → (i j : ℕ) → i < root_len t → j < root_len t → place_key d key t i ≡ place_key d key t j → i ≡ j
    places_apart apart i j below_i below_j e =
        let Has : ℕ → KeyOf d 16 → Type 0 = λ r k. RowHas (key_add d 16) (key_none d 16) (length t) (parent t) (rank t d key) (group t) (length t) 0 r k in
        let had : (x : ℕ) → x < root_len t → Has (get_or (members t 0 0) x 0) (place_key d key t x) =
        λ x l. best_had d key t formed (length t) 0 (get_or (members t 0 0) x 0) (omega arith) some_node (member_is_row d key t formed 0 0 x some_node l)
        in
        members_apart d key t formed 0 0 i j some_node below_i below_j
        (rows_apart (key_below d 16) (key_add d 16) (key_none d 16) (tuple_keys d 16) (length t) (parent t) (rank t d key) (group t) formed.shaped.parents_first (item t) (number t) (slot_of d 16)
        (tie_free_of d key t formed apart) (length t) 0 0 i j (place_key d key t i) some_node below_i below_j (had i below_i)
        (subst (λ k. Has (get_or (members t 0 0) j 0) k) (sym e) (had j below_j)))

    module _ (apart : IsTieFreeTree t) (es : List (Entry R ℕ)) (top : (i : ℕ) → held_by (root_len t) es i ≡ holds (root_len t) 0 i) where
      held_top : (i : ℕ) → i < root_len t → 0 < held_by (root_len t) es i
      held_top i l = omega (arith, top i, top_holds (root_len t) i l)

      -- entries that hold what the heap's top holds have every row of the root
      pub top_remains : Remains ℕ (KeyOf d 16) (key_below d 16) (place_key d key t) (held_by (root_len t) es) (rest_keys d key t es)
      top_remains =
          let r = rest_ranks es in
          record {
            once = λ i. omega (arith, top i, top_holds_once (root_len t) i);
            apart = λ i j a b e. places_apart apart i j (entries_within (root_len t) es i a) (entries_within (root_len t) es j b) e;
            ascending = r.ascending;
            complete = λ i a. r.complete (place_key d key t i) (i, a, refl);
            sound = r.sound;
          }

      pub top_ranking : IsBestRanking t d key (rest_keys d key t es)
      top_ranking =
          let r = rest_ranks es in
          record {
            ascending = r.ascending;
            sound = λ k m.
                let h = r.sound k m in
                let l = entries_within (root_len t) es h.0 h.1 in
                (get_or (members t 0 0) h.0 0, member_is_row d key t formed 0 0 h.0 some_node l, sym h.2);
            complete = λ k h. let p = row_placed d key t formed h.0 h.1 in r.complete k (p.0, held_top p.0 p.1, ap (best t d key 0) p.2 ∙ sym h.2);
          }
