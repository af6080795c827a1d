-- Which rows a group holds.
use Rattle.std.proofs.Common.{◌≡◌, ℕ, zero, suc, ◌+◌, ◌<◌, inl, inr, List, [], ◌∷◌, length, get_or, Contains, sym, subst, ◌∙◌, arith}
use Rattle.std.specs.List.{concat, range_with_len}
use Rattle.std.proofs.lemmas.List.{get_or_default}
use Rattle.std.proofs.lemmas.List.Elements.{Contains-append_cases}
use Rattle.std.proofs.lemmas.List.FromFn.{length-range_with_len, get_or-range_with_len}
use Rattle.std.proofs.lemmas.List.Sorted.{Contains-permutation}
use Rattle.semi_join.specs.Reduction.{IsGrouping}
use Rattle.semi_join.proofs.Meets.{Stands}

pub contains_stands : (xs : List ℕ) (x : ℕ) → Contains xs x → Stands x xs
contains_stands xs x c = (c.0, c.1, get_or_default xs c.0 0 x c.1 ∙ c.2)

pub stands_contains : (xs : List ℕ) (x : ℕ) → Stands x xs → Contains xs x
stands_contains xs x s = (s.0, s.1, get_or_default xs s.0 x 0 s.1 ∙ s.2)

-- a group with a member is one of the groups
pub inside_of : (gs : List (List ℕ)) (g j : ℕ) → Contains (get_or gs g []) j → g < length gs
inside_of [] g j c = absurd (omega (arith, c.1))
inside_of (x ∷ gs) zero j c = omega arith
inside_of (x ∷ gs) (suc g) j c = let r = inside_of gs g j c in omega (arith, r)

in_concat : (gs : List (List ℕ)) (j : ℕ) → Contains (concat gs) j → (g : ℕ) × (g < length gs) × Contains (get_or gs g []) j
in_concat [] j c = absurd (omega (arith, c.1))
in_concat (x ∷ gs) j c = elim (Contains-append_cases x (concat gs) j c) [
  | inl p ↦ (0, omega arith, p)
  | inr p ↦ let r = in_concat gs j p in (suc r.0, omega (arith, r.1), r.2)
]

in_range : (n j : ℕ) → j < n → Contains (range_with_len 0 n) j
in_range n j h = let same : 0 + j ≡ j = omega arith in (j, omega (arith, length-range_with_len 0 n), get_or-range_with_len 0 n j j h ∙ same)

module _ (owns links : List ℕ) (groups : List (List ℕ)) (grouping : IsGrouping owns links groups) where
  -- each row stands in a group
  pub group_of : (j : ℕ) → j < length owns → (g : ℕ) × (g < length groups) × Contains (get_or groups g []) j
  group_of j h = in_concat groups j (Contains-permutation (range_with_len 0 (length owns)) (concat groups) j grouping.spread (in_range (length owns) j h))

  pub member-row : (g j : ℕ) → Contains (get_or groups g []) j → j < length owns
  member-row g j c = let s = contains_stands (get_or groups g []) j c in subst (λ k. k < length owns) s.2 (grouping.members g s.0 (inside_of groups g j c) s.1)

  -- a member has the link of its group
  pub member_link : (g j : ℕ) → Contains (get_or groups g []) j → get_or owns j 0 ≡ get_or links g 0
  member_link g j c = let s = contains_stands (get_or groups g []) j c in subst (λ k. get_or owns k 0 ≡ get_or links g 0) s.2 (grouping.same g s.0 (inside_of groups g j c) s.1)

  -- and a row with the link of a group is its member
  pub row_member : (g j : ℕ) → g < length links → j < length owns → get_or owns j 0 ≡ get_or links g 0 → Contains (get_or groups g []) j
  row_member g j within h e =
      let at = group_of j h in
      let same : at.0 ≡ g = grouping.distinct at.0 g (omega (arith, at.1, grouping.size)) within (sym (member_link at.0 j at.2) ∙ e) in
      subst (λ k. Contains (get_or groups k []) j) same at.2
