-- Combinations of rows, place by place, and variables by their number in another list.
use Rattle.std.proofs.Common.{◌≡◌, ◌<◌, ◌≤◌, ℕ, suc, List, [], ◌∷◌, length, get_or, sym, subst, arith}
use Rattle.std.proofs.lemmas.List.{get_or-map, length-map}
use Rattle.anyk_model.specs.Table.{Table, table_at}
use Rattle.anyk_model.specs.Query.{Column, Equality, IsCombination, Item, Query, item_table, row_counts}
use Rattle.anyk_model.proofs.Combinations.{combination_at, combination_length}
use Rattle.bound_query.specs.Classes.{AreVariables, HasVariable, Linked, variable_at}
use Rattle.bound_query.proofs.Least.{at_member, member_at}

-- ---- combinations

combination_from : (counts rows : List ℕ) → length rows ≡ length counts
    → ((i : ℕ) → i < length counts → (1 ≤ get_or rows i 0) × (get_or rows i 0 ≤ get_or counts i 0)) → IsCombination counts rows
combination_from [] [] same each = tt
combination_from [] (row ∷ rows) same each = absurd (omega arith)
combination_from (count ∷ counts) [] same each = absurd (omega arith)
combination_from (count ∷ counts) (row ∷ rows) same each =
    let first = each 0 (omega arith) in
    (first.0, first.1, combination_from counts rows (omega arith) (λ i l. each (suc i) (omega arith)))

module _ (query : Query) (tables : List Table) (rows : List ℕ) where
  abbrev rows_in : Item → ℕ
  rows_in item = length ((table_at tables item.table).rows)

  -- the row number is within the table of its item
  abbrev pub IsThere : ℕ → Type 0
  IsThere i = (1 ≤ get_or rows i 0) × (get_or rows i 0 ≤ length (item_table query tables i).rows)

  count_at : (i : ℕ) → i < length query.items → get_or (row_counts query.items tables) i 0 ≡ length (item_table query tables i).rows
  count_at i inside = get_or-map rows_in query.items i (record { table = 0; alias = [] }) 0 inside

  counts_length : length (row_counts query.items tables) ≡ length query.items
  counts_length = length-map query.items rows_in

  pub combination_of_each : length rows ≡ length query.items → ((i : ℕ) → i < length query.items → IsThere i) → IsCombination (row_counts query.items tables) rows
  combination_of_each same each =
      let size = counts_length in
      combination_from (row_counts query.items tables) rows (omega (arith, size, same)) (λ i l.
      let inside : i < length query.items = omega (arith, size, l) in
      let there = each i inside in
      (there.0, subst (λ m. get_or rows i 0 ≤ m) (sym (count_at i inside)) there.1))

  pub each_of_combination : IsCombination (row_counts query.items tables) rows → (i : ℕ) → i < length query.items → IsThere i
  each_of_combination c i inside =
      let at = combination_at (row_counts query.items tables) rows i c (omega (arith, counts_length, inside)) in
      (at.0, subst (λ m. get_or rows i 0 ≤ m) (count_at i inside) at.1)

  pub length_of_combination : IsCombination (row_counts query.items tables) rows → length rows ≡ length query.items
  length_of_combination c = let size = counts_length in let same = combination_length (row_counts query.items tables) rows c in omega (arith, size, same)

-- ---- variables

module _ (es : List Equality) (variables others : List Column) (known : AreVariables es variables) (too : AreVariables es others) where
  -- a variable has a number in the other list
  pub other_number : (n : ℕ) → n < length variables → (m : ℕ) × (m < length others) × (variable_at others m ≡ variable_at variables n)
  other_number n l = member_at (variable_at variables n) others ((too.members (variable_at variables n)).1 ((known.members (variable_at variables n)).0 (at_member variables n l)))

-- it is a variable of the same items there
pub numbered_again : (es : List Equality) (variables others : List Column) (n m i p : ℕ) → m < length others → variable_at others m ≡ variable_at variables n
    → HasVariable es variables i n p → HasVariable es others i m p
numbered_again es variables others n m i p inside same h = record {
  known = inside;
  linked = subst (λ (c : Column). Linked es c (record { item = i; place = p })) (sym same) h.linked;
  least = h.least;
}
