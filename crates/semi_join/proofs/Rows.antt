-- The rows that stay, one after the other.
use Rattle.std.proofs.Common.{◌≡◌, ℕ, zero, suc, ◌+◌, ◌-◌, ◌<◌, ◌≤◌, Bool, true, false, cond, nat_eq, ◌&&◌, List, [], ◌∷◌, ◌++◌, map, length, get_or, refl, sym, ap, subst, ◌∙◌, arith, add-one, inl, inr, Some, None, position, nat_lt}
use Rattle.std.specs.List.{list_any, position_or_len}
use Rattle.std.proofs.lemmas.Bool.{cases_lt, lt-ltb, and_from, and_right}
use Rattle.std.proofs.lemmas.List.Elements.{All-from_get_or}
use Rattle.std.proofs.lemmas.List.Folds.{list_any_at, list_any_none}
use Rattle.std.proofs.lemmas.List.Quantifiers.{position-Some}
use Rattle.std.proofs.lemmas.List.Sums.{fails_before_first}
use Rattle.semi_join.specs.declared.group_links.GroupLinks.{GroupLinks}
use Rattle.semi_join.specs.Reduction.{links_of, AreFew, are_met, groups_met, links_below}
use Rattle.semi_join.proofs.FirstOnes.{groups_more, met_more}

pub links_read : (ls : List GroupLinks) (k : ℕ) (s : GroupLinks) → k < length ls → s ≡ get_or ls k s → get_or (map links_of ls) k [] ≡ links_of s
links_read [] k s h e = absurd (omega arith)
links_read (l ∷ ls) zero s h e = ap links_of (sym e)
links_read (l ∷ ls) (suc k) s h e = let less : k < length ls = omega arith in links_read ls k s less e

-- a place that is found, and one that is not
pub found_any : (p : ℕ → Bool) (xs : List ℕ) (i : ℕ) → Some i ≡ position p xs → (i < length xs) × (list_any p xs ≡ true)
found_any p xs i e = let at = position-Some p xs i 0 (sym e) in (at.0, list_any_at p xs i 0 at.0 at.1)

pub missing_any : (p : ℕ → Bool) (xs : List ℕ) → None ≡ position p xs → list_any p xs ≡ false
missing_any p xs e = elim (cases_lt (position_or_len p xs) (length xs)) [
  | inl l ↦ let f : None ≡ Some (position_or_len p xs) = e ∙ ap (λ b. cond b (Some (position_or_len p xs)) None) (lt-ltb (position_or_len p xs) (length xs) l) in cc
  | inr g ↦ list_any_none p xs (All-from_get_or (λ x. p x ≡ false) xs 0 (λ i h. fails_before_first p xs i 0 (omega (arith, h, g))))
]

pub few_read : (later : List (List ℕ)) (k : ℕ) → AreFew later → k < length later → length (get_or later k []) ≤ 4194304
few_read later k few h = few k [] h

pub length-map : {X Y : Type 0} (f : X → Y) (xs : List X) → length (map f xs) ≡ length xs
length-map f [] = refl
length-map f (x ∷ xs) = ap suc (length-map f xs)

falls : (a b : Bool) → a ≡ false → (a && b) ≡ false
falls a b p = ap (λ x. x && b) p

found_place : {X : Type 0} (p : X → Bool) (xs : List X) (i : ℕ) → Some i ≡ position p xs → position_or_len p xs ≡ i
found_place p xs i e = by (nat_lt (position_or_len p xs) (length xs)) e
  where
    by : (b : Bool) → Some i ≡ cond b (Some (position_or_len p xs)) None → position_or_len p xs ≡ i
    by true q = cc
    by false q = cc

module _ (children : List ℕ) (v : ℕ) (later : List (List ℕ)) (links : List ℕ) where
  -- the links of the groups of a child, as they are read
  pub links_below_at : (ls : List GroupLinks) (c : ℕ) (s : GroupLinks) → later ≡ map links_of ls → get_or children c 0 - v - 1 < length ls → s ≡ get_or ls (get_or children c 0 - v - 1) s
      → links_below children v later links c ≡ links_of s
  links_below_at ls c s l within read = ap (λ xs. get_or xs (get_or children c 0 - v - 1) []) l ∙ links_read ls (get_or children c 0 - v - 1) s within read

  pub one_met : (n : ℕ) (keys : List ℕ) → links_below children v later links n ≡ keys → are_met children v later links n ≡ true → list_any (nat_eq (get_or links n 0)) keys ≡ true
      → are_met children v later links (n + 1) ≡ true
  one_met n keys e m h = ap (are_met children v later links) (add-one n) ∙ met_more children v later links n ∙ and_from _ _ m (ap (list_any (nat_eq (get_or links n 0))) e ∙ h)

  pub one_named : (n number : ℕ) (keys numbers : List ℕ) → links_below children v later links n ≡ keys → numbers ≡ groups_met children v later links n → Some number ≡ position (nat_eq (get_or links n 0)) keys
      → numbers ++ (number ∷ []) ≡ groups_met children v later links (n + 1)
  one_named n number keys numbers e m h =
      ap (λ xs. xs ++ (number ∷ [])) m
      ∙ ap (λ k. groups_met children v later links n ++ (k ∷ [])) (sym (found_place (nat_eq (get_or links n 0)) keys number h) ∙ ap (position_or_len (nat_eq (get_or links n 0))) (sym e))
      ∙ sym (groups_more children v later links n)

  -- one child whose groups the row does not name is enough
  not_met : (k n : ℕ) → are_met children v later links (n + 1) ≡ false → are_met children v later links (k + (n + 1)) ≡ false
  not_met zero n h = let same : n + 1 ≡ 0 + (n + 1) = omega arith in subst (λ j. are_met children v later links j ≡ false) same h
  not_met (suc k) n h =
      let more : suc k + (n + 1) ≡ suc (k + (n + 1)) = omega arith in
      ap (are_met children v later links) more ∙ met_more children v later links (k + (n + 1)) ∙ falls _ _ (not_met k n h)

  pub one_missed : (n all : ℕ) (keys : List ℕ) → n < all → links_below children v later links n ≡ keys → list_any (nat_eq (get_or links n 0)) keys ≡ false → are_met children v later links all ≡ false
  one_missed n all keys less e h =
      let whole : (all - (n + 1)) + (n + 1) ≡ all = omega arith in
      subst (λ j. are_met children v later links j ≡ false) whole
      (not_met (all - (n + 1)) n (ap (are_met children v later links) (add-one n) ∙ met_more children v later links n ∙ and_right _ _ (ap (list_any (nat_eq (get_or links n 0))) e ∙ h)))
