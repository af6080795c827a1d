-- The solutions of a tree, as lists of rows and as functions of the node.
use Rattle.std.proofs.Common.{◌≡◌, ℕ, zero, suc, ◌*◌, ◌<◌, List, [], ◌∷◌, ◌++◌, map, take, length, get_or, slice_index, refl, sym, ap, ◌∙◌, subst, arith, append-nil, append_assoc}
use Rattle.std.specs.List.{Contains, range_with_len}
use Rattle.std.proofs.lemmas.List.{get_or-take, get_or_default, length-take-le}
use Rattle.std.proofs.lemmas.List.FromFn.{get_or-map-range_with_len, length-map-range_with_len}
use Rattle.tdp_model.specs.KeyTuple.{KeyOf, key_add, key_below, key_none, slot_of}
use Rattle.tdp_model.specs.Regions.{completes, is_empty, place_of, stands}
use Rattle.tdp_model.specs.TreeProblem.{SolutionHas, rows_after, rows_key, sum_from}
use Rattle.tdp_model.proofs.Division.{get_place, place_le, stands_place, stands_yes, times_pos}
use Rattle.tdp_model.proofs.Sums.{sum_same}
use Rattle.tdp_model.proofs.KeyTuples.{tuple_keys}
use Rattle.tdp_model.proofs.Ties.{completes_length, solutions_apart}
use Rattle.tdp_core.specs.TreeView.{NodeView, group, item, number, parent, rank}
use Rattle.tdp_core.specs.Solutions.{IsTreeSolution, solution_key}
use Rattle.tdp_core.specs.WellFormed.{IsFormed, IsTieFreeTree}
use Rattle.tdp_core.proofs.TreeFacts.{tie_free_of}

-- ---- choices that follow a prefix, one after another

stands_contained : (r : ℕ) (xs : List ℕ) → 0 < stands r xs → Contains xs r
stands_contained r xs h =
    let low = stands_place r xs h in
    (place_of r xs, low, get_or_default xs (place_of r xs) r 0 low ∙ get_place r xs low)

contained_stands : (r : ℕ) (xs : List ℕ) → Contains xs r → stands r xs ≡ 1
contained_stands r xs c =
    let at : get_or xs c.0 0 ≡ r = get_or_default xs c.0 0 r c.1 ∙ c.2 in
    let low = place_le c.0 xs c.1 in
    stands_yes r xs (subst (λ z. place_of z xs < length xs) at (let l = c.1 in omega (arith, low, l)))

-- each choice is a member of what may follow the earlier ones
all_follow : (members : List ℕ → List ℕ) (n : ℕ) (pre t : List ℕ) → 0 < completes members n pre t → (i : ℕ) → i < n
    → Contains (members (pre ++ take i t)) (slice_index t i)
unfolding completes
all_follow members zero pre t h i l = absurd (omega (arith, l))
all_follow members (suc n) pre [] h i l = absurd (omega (arith, h))
all_follow members (suc n) pre (r ∷ rest) h zero l =
    let both : (0 < stands r (members pre)) × (0 < completes members n (pre ++ (r ∷ [])) rest) = times_pos _ _ h in
    subst (λ p. Contains (members p) r) (sym (append-nil pre)) (stands_contained r (members pre) both.0)
all_follow members (suc n) pre (r ∷ rest) h (suc i) l =
    let both : (0 < stands r (members pre)) × (0 < completes members n (pre ++ (r ∷ [])) rest) = times_pos _ _ h in
    subst (λ p. Contains (members p) (slice_index rest i)) (append_assoc pre (r ∷ []) (take i rest)) (all_follow members n (pre ++ (r ∷ [])) rest both.1 i (omega (arith, l)))

all_complete : (members : List ℕ → List ℕ) (n : ℕ) (pre t : List ℕ) → length t ≡ n
    → ((i : ℕ) → i < n → Contains (members (pre ++ take i t)) (slice_index t i)) → 0 < completes members n pre t
unfolding completes is_empty
all_complete members zero pre [] long each = omega arith
all_complete members zero pre (r ∷ rest) long each = absurd (omega (arith, long))
all_complete members (suc n) pre [] long each = absurd (omega (arith, long))
all_complete members (suc n) pre (r ∷ rest) long each =
    let first : stands r (members pre) ≡ 1 = contained_stands r (members pre) (subst (λ p. Contains (members p) r) (append-nil pre) (each 0 (omega arith))) in
    let others = all_complete members n (pre ++ (r ∷ [])) rest (omega (arith, long))
    (λ i l. subst (λ p. Contains (members p) (slice_index rest i)) (sym (append_assoc pre (r ∷ []) (take i rest))) (each (suc i) (omega (arith, l)))) in
    subst (λ (s : ℕ). 0 < s * completes members n (pre ++ (r ∷ [])) rest) (sym first) (omega (arith, others))

-- ---- trees

module _ {R : Type 0} (t : List (NodeView R)) (earlier : (q : ℕ) → 0 < q → q < length t → parent t q < q) where
  abbrev after : List ℕ → List ℕ
  after = rows_after (parent t) (group t)

  -- what follows the rows of the first q nodes of a list
  follows : (s : List ℕ) (q : ℕ) → length s ≡ length t → q < length t → after (take q s) ≡ group t q (slice_index s (parent t q))
  follows s q long l =
      let n : length (take q s) ≡ q = length-take-le q s (omega (arith, long, l)) in
      ap (λ z. group t z (slice_index (take q s) (parent t z))) n ∙ at q l
    where
      at : (q : ℕ) → q < length t → group t q (slice_index (take q s) (parent t q)) ≡ group t q (slice_index s (parent t q))
      at zero l = refl
      at (suc q) l = ap (group t (suc q)) (get_or-take (suc q) s (parent t (suc q)) 0 (earlier (suc q) (omega arith) l))

  pub list_solution : (s : List ℕ) → 0 < completes after (length t) [] s → IsTreeSolution t (slice_index s)
  list_solution s h q l =
      subst (λ xs. Contains xs (slice_index s q)) (follows s q (completes_length after (length t) [] s h) l) (all_follow after (length t) [] s h q l)

  abbrev listed : (ℕ → ℕ) → List ℕ
  listed rows = map rows (range_with_len 0 (length t))

  listed_long : (rows : ℕ → ℕ) → length (listed rows) ≡ length t
  listed_long rows = length-map-range_with_len rows 0 (length t)

  listed_at : (rows : ℕ → ℕ) (q : ℕ) → q < length t → slice_index (listed rows) q ≡ rows q
  listed_at rows q l = get_or-map-range_with_len rows 0 (length t) q q 0 l (omega arith)

  pub solution_list : (rows : ℕ → ℕ) → IsTreeSolution t rows → 0 < completes after (length t) [] (listed rows)
  solution_list rows solution = all_complete after (length t) [] (listed rows) (listed_long rows) each
    where
      above : (q : ℕ) → q < length t → group t q (slice_index (listed rows) (parent t q)) ≡ group t q (rows (parent t q))
      above zero l = refl
      above (suc q) l = ap (group t (suc q)) (listed_at rows (parent t (suc q)) (let up = earlier (suc q) (omega arith) l in omega (arith, up, l)))

      each : (q : ℕ) → q < length t → Contains (after (take q (listed rows))) (slice_index (listed rows) q)
      each q l = subst (λ xs. Contains xs (slice_index (listed rows) q)) (sym (follows (listed rows) q (listed_long rows) l ∙ above q l))
          (subst (Contains (group t q (rows (parent t q)))) (sym (listed_at rows q l)) (solution q l))

  listed_key : (d : ℕ) (key : R → KeyOf d 16) (rows : ℕ → ℕ) → rows_key (key_add d 16) (key_none d 16) (rank t d key) (listed rows) ≡ solution_key t d key rows
  listed_key d key rows =
      ap (λ n. sum_from (key_add d 16) (key_none d 16) (λ q. rank t d key q (slice_index (listed rows) q)) n 0) (listed_long rows)
      ∙ sum_same (key_below d 16) (key_add d 16) (key_none d 16) (tuple_keys d 16) (λ q. rank t d key q (slice_index (listed rows) q)) (λ q. rank t d key q (rows q)) (length t) 0
      (λ q low l. ap (rank t d key q) (listed_at rows q (omega (arith, l))))

  module _ (d : ℕ) (key : R → KeyOf d 16) (k : KeyOf d 16) where
    pub has_solution : SolutionHas (key_add d 16) (key_none d 16) (length t) (parent t) (rank t d key) (group t) k
        → (rows : ℕ → ℕ) × IsTreeSolution t rows × (solution_key t d key rows ≡ k)
    has_solution h = (
      slice_index h.0,
      list_solution h.0 h.1,
      ap (λ n. sum_from (key_add d 16) (key_none d 16) (λ q. rank t d key q (slice_index h.0 q)) n 0) (sym (completes_length after (length t) [] h.0 h.1)) ∙ h.2,
    )

    pub solution_has : (rows : ℕ → ℕ) → IsTreeSolution t rows → solution_key t d key rows ≡ k
        → SolutionHas (key_add d 16) (key_none d 16) (length t) (parent t) (rank t d key) (group t) k
    solution_has rows solution is = (listed rows, solution_list rows solution, listed_key d key rows ∙ is)

-- Two solutions with the same key are the same rows.
pub solutions_once : {R : Type 0} (d : ℕ) (key : R → KeyOf d 16) (t : List (NodeView R)) → IsFormed d key t → IsTieFreeTree t
    → (r s : ℕ → ℕ) → IsTreeSolution t r → IsTreeSolution t s → solution_key t d key r ≡ solution_key t d key s → (q : ℕ) → q < length t → r q ≡ s q
solutions_once d key t formed apart r s first second same q l =
    let earlier = formed.shaped.parents_first in
    let alike : listed t earlier r ≡ listed t earlier s =
    solutions_apart (key_add d 16) (key_none d 16) (length t) (parent t) (rank t d key) (group t) (item t) (number t) (slot_of d 16) (tie_free_of d key t formed apart)
    (listed t earlier r) (listed t earlier s) (solution_list t earlier r first) (solution_list t earlier s second)
    (listed_key t earlier d key r ∙ same ∙ sym (listed_key t earlier d key s)) in
    sym (listed_at t earlier r q l) ∙ ap (λ xs. slice_index xs q) alike ∙ listed_at t earlier s q l
