-- The children of a node, the groups that a row names and the rows that stay, among the first n.
use Rattle.std.proofs.Common.{◌≡◌, ℕ, zero, suc, ◌+◌, Bool, true, false, cond, nat_eq, ◌&&◌, List, [], ◌∷◌, ◌++◌, get_or, refl, ap, ◌∙◌, arith}
use Rattle.std.specs.List.{filter, list_any, list_all, position_or_len, range_with_len}
use Rattle.std.proofs.lemmas.List.{append-nil}
use Rattle.std.proofs.lemmas.List.Elements.{filter-append}
use Rattle.std.proofs.lemmas.List.Folds.{list_all-append}
use Rattle.std.proofs.lemmas.List.FromFn.{map-range_with_len_more}
use Rattle.tdp_core.specs.RawView.{RawView, child_link}
use Rattle.semi_join.specs.Reduction.{are_met, child_links, child_nodes, groups_met, has_partners, links_below, links_named}

-- # Ranges

pub range_more : (a n : ℕ) → range_with_len a (suc n) ≡ range_with_len a n ++ ((a + n) ∷ [])
range_more a zero = let e : a ≡ a + 0 = omega arith in ap (λ k. k ∷ []) e
range_more a (suc n) = let e : (a + 1) + n ≡ a + suc n = omega arith in ap (λ l. a ∷ l) (range_more (a + 1) n ∙ ap (λ k. range_with_len (a + 1) n ++ (k ∷ [])) e)

pub range_end : (n : ℕ) → range_with_len 0 (suc n) ≡ range_with_len 0 n ++ (n ∷ [])
range_end n = let e : 0 + n ≡ n = omega arith in range_more 0 n ∙ ap (λ k. range_with_len 0 n ++ (k ∷ [])) e

append_cond : (b : Bool) (xs : List ℕ) (x : ℕ) → xs ++ cond b (x ∷ []) [] ≡ cond b (xs ++ (x ∷ [])) xs
append_cond true xs x = refl
append_cond false xs x = append-nil xs

filter_last : (p : ℕ → Bool) (xs : List ℕ) (x : ℕ) → filter p (xs ++ (x ∷ [])) ≡ cond (p x) (filter p xs ++ (x ∷ [])) (filter p xs)
filter_last p xs x = filter-append p xs (x ∷ []) ∙ append_cond (p x) (filter p xs) x

-- # Children

-- which of the n nodes after v are its children
abbrev pub children_among : (ℕ → ℕ) → ℕ → ℕ → List ℕ
children_among parent v n = filter (λ u. nat_eq (parent u) v) (range_with_len (suc v) n)

pub children_more : (parent : ℕ → ℕ) (v n : ℕ) → children_among parent v (suc n) ≡ cond (nat_eq (parent (suc v + n)) v) (children_among parent v n ++ ((suc v + n) ∷ [])) (children_among parent v n)
children_more parent v n = ap (filter (λ u. nat_eq (parent u) v)) (range_more (suc v) n) ∙ filter_last (λ u. nat_eq (parent u) v) (range_with_len (suc v) n) (suc v + n)

and_true : (a : Bool) → (a && true) ≡ a
and_true true = refl
and_true false = refl

-- the groups that a row with these links names
module _ (children : List ℕ) (v : ℕ) (later : List (List ℕ)) (links : List ℕ) where
  pub met_more : (n : ℕ) → are_met children v later links (suc n) ≡ (are_met children v later links n && list_any (nat_eq (get_or links n 0)) (links_below children v later links n))
  met_more n =
      let p : ℕ → Bool = λ c. list_any (nat_eq (get_or links c 0)) (links_below children v later links c) in
      ap (list_all p) (range_end n) ∙ list_all-append p (range_with_len 0 n) (n ∷ []) ∙ ap (λ b. list_all p (range_with_len 0 n) && b) (and_true (p n))

  pub groups_more : (n : ℕ) → groups_met children v later links (n + 1) ≡ groups_met children v later links n ++ (position_or_len (nat_eq (get_or links n 0)) (links_below children v later links n) ∷ [])
  groups_more n =
      let here : 0 + n ≡ n = omega arith in
      map-range_with_len_more (λ c. position_or_len (nat_eq (get_or links c 0)) (links_below children v later links c)) 0 n n here

module _ {R : Type 0} (raw : RawView R) (v : ℕ) (later : List (List ℕ)) where
  -- for each of the first n children there is a group that row i names
  abbrev pub has_first : ℕ → ℕ → Bool
  has_first n i = are_met (child_nodes raw v) v later (links_named raw v i) n

  pub has_more : (n i : ℕ) → has_first (suc n) i ≡ (has_first n i && list_any (nat_eq (child_link raw v i n)) (child_links raw v later n))
  has_more n i = met_more (child_nodes raw v) v later (links_named raw v i) n

  -- the numbers of these groups
  abbrev pub named_first : ℕ → ℕ → List ℕ
  named_first n i = groups_met (child_nodes raw v) v later (links_named raw v i) n

  -- which of the first n rows stay
  abbrev pub kept_first : ℕ → List ℕ
  kept_first n = filter (has_partners raw v later) (range_with_len 0 n)

  pub kept_more : (n : ℕ) → kept_first (suc n) ≡ cond (has_partners raw v later n) (kept_first n ++ (n ∷ [])) (kept_first n)
  kept_more n = ap (filter (has_partners raw v later)) (range_end n) ∙ filter_last (has_partners raw v later) (range_with_len 0 n) n
