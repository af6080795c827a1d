-- The numbers of the items' tables among all entries.
use Rattle.std.proofs.Common.{◌≡◌, ◌+◌, ◌<◌, ◌≤◌, ◌∷◌, ◌++◌, [], ℕ, Bool, true, false, cond, not, if◌then◌else◌, List, length, map, drop, take, get_or, position, Option, Some, None, Result, Ok, refl, sym, ap, ◌∙◌, arith}
use Rattle.std.proofs.lemmas.Iterator.Adapters.{position_from-zero}
use Rattle.std.proofs.lemmas.List.{append_assoc, append-nil, drop_all, drop_more, take_all, take_more}
use Rattle.std.specs.List.{AllByRecursion, position_from, position_or_len}
use Rattle.std.specs.Str.{bytes_eq}
use Rattle.std.specs.String.{string_bytes}
use Rattle.cmd_words.specs.declared.pairs.Named.{Named}
use Rattle.cmd_words.specs.NamedPairs.{named_pair}
use Rattle.outer_io.specs.Files.{bytes_of}
use Rattle.query_bind.proofs.Search.{position_end, position_hit, position_miss}
use Rattle.query_select.specs.declared.select.ItemRef.{ItemRef}
use Rattle.query_select.specs.declared.select.Select.{Select}
use Rattle.refusals.specs.Reason.{Reason, UnknownTable}
use Rattle.session_script.specs.Script.{unless}
use Rattle.verdict.specs.Loading.{all_items, table_numbers, unknown_table, unknown_with}
use Rattle.command_input.specs.Entries.{tables_of}
use Rattle.command_input.proofs.AllItems.{items_done, known_on}
use Rattle.command_input.proofs.BoundQueries.{numbers_append}

-- ---- the place of the first entry for a table

module _ (table : List ℕ) where
  abbrev names_it : Named → Bool
  names_it e = bytes_eq (string_bytes e.table) table

  module _ (named : List Named) (i : ℕ) where
    module _ (e : Named) (inside : i < length named) where
      pub place_found : names_it (get_or named i e) ≡ true → position_from names_it i (drop i named) ≡ position names_it named → Some i ≡ position names_it named
      place_found passes so_far = sym (position_hit names_it named i e inside passes) ∙ so_far

      pub place_after : names_it (get_or named i e) ≡ false → position_from names_it i (drop i named) ≡ position names_it named
          → position_from names_it (i + 1) (drop (i + 1) named) ≡ position names_it named
      place_after fails so_far = position_miss names_it named i e inside fails ∙ so_far

    pub place_end : length named ≤ i → position_from names_it i (drop i named) ≡ position names_it named → None ≡ position names_it named
    place_end end so_far = sym (position_end names_it named i end) ∙ so_far

  -- the entries as pairs, and their names
  abbrev pairs_in : List Named → List (List ℕ × List ℕ)
  pairs_in named = map named_pair named

  abbrev place_in : List Named → ℕ
  place_in named = position_or_len (λ other. bytes_eq other table) (tables_of (pairs_in named))

  placed_from : (named : List Named) (n k : ℕ) → position_from names_it n named ≡ Some k
      → (k ≡ n + place_in named) × ((at : ℕ) (later : Option Reason) → unknown_with (bytes_of (pairs_in named) table) at later ≡ later)
  placed_from [] n k e = cc
  placed_from (e ∷ named) n k h = by (names_it e) h (placed_from named (n + 1) k)
    where
      by : (b : Bool) → cond b (Some n) (position_from names_it (n + 1) named) ≡ Some k
          → (position_from names_it (n + 1) named ≡ Some k
          → (k ≡ n + 1 + place_in named) × ((at : ℕ) (later : Option Reason) → unknown_with (bytes_of (pairs_in named) table) at later ≡ later))
          → (k ≡ n + cond (not b) (1 + place_in named) 0)
          × ((at : ℕ) (later : Option Reason) → unknown_with (if b then Some (string_bytes e.file) else bytes_of (pairs_in named) table) at later ≡ later)
      by true h later = (let same : n ≡ k = cc in omega (arith, same), λ at l. refl)
      by false h later = let r = later h in let f = r.0 in (omega (arith, f), r.1)

  unplaced_from : (named : List Named) (n : ℕ) → position_from names_it n named ≡ None → bytes_of (pairs_in named) table ≡ None
  unplaced_from [] n h = refl
  unplaced_from (e ∷ named) n h = by (names_it e) h (unplaced_from named (n + 1))
    where
      by : (b : Bool) → cond b (Some n) (position_from names_it (n + 1) named) ≡ None
          → (position_from names_it (n + 1) named ≡ None → bytes_of (pairs_in named) table ≡ None)
          → (if b then Some (string_bytes e.file) else bytes_of (pairs_in named) table) ≡ None
      by true h later = cc
      by false h later = later h

  -- the place is that of the name, and an entry names the table
  pub placed : (named : List Named) (k : ℕ) → Some k ≡ position names_it named
      → (k ≡ place_in named) × ((at : ℕ) (later : Option Reason) → unknown_with (bytes_of (pairs_in named) table) at later ≡ later)
  placed named k h =
      let found = placed_from named 0 k (sym (h ∙ position_from-zero names_it named)) in
      let place = found.0 in (omega (arith, place), found.1)

  pub unplaced : (named : List Named) → None ≡ position names_it named → bytes_of (pairs_in named) table ≡ None
  unplaced named h = unplaced_from named 0 (sym (h ∙ position_from-zero names_it named))

-- ---- the numbers of tables that entries name

place_known : (named : List (List ℕ × List ℕ)) (table file : List ℕ) → bytes_of named table ≡ Some file
    → position_or_len (λ other. bytes_eq other table) (tables_of named) < length named
place_known [] table file e = cc
place_known (pair ∷ named) table file e = by (bytes_eq pair.0 table) e (place_known named table file)
  where
    by : (b : Bool) → (if b then Some pair.1 else bytes_of named table) ≡ Some file
        → (bytes_of named table ≡ Some file → position_or_len (λ other. bytes_eq other table) (tables_of named) < length named)
        → cond (not b) (1 + position_or_len (λ other. bytes_eq other table) (tables_of named)) 0 < length (pair ∷ named)
    by true h later = omega arith
    by false h later = let below = later h in omega (arith, below)

pub known_within : (named : List (List ℕ × List ℕ)) (items : List ItemRef) → unknown_table named items ≡ None
    → AllByRecursion (λ t. t < length named) (table_numbers (tables_of named) items)
known_within named [] none = tt
known_within named (item ∷ items) none = by (bytes_of named item.table) refl none (known_within named items)
  where
    by : (o : Option (List ℕ)) → bytes_of named item.table ≡ o → unknown_with o item.at (unknown_table named items) ≡ None
        → (unknown_table named items ≡ None → AllByRecursion (λ t. t < length named) (table_numbers (tables_of named) items))
        → AllByRecursion (λ t. t < length named) (table_numbers (tables_of named) (item ∷ items))
    by None is h later = cc
    by (Some file) is h later = (place_known named item.table file is, later h)

-- ---- the items of one select, one item after another

-- the items up to i have tables that entries name, and their numbers were put after those before
pub record HasItemNumbers (named : List (List ℕ × List ℕ)) (items : List ItemRef) (i : ℕ) (before numbers : List ℕ) : Type 0 where
  pub known : unknown_table named (drop i items) ≡ unknown_table named items
  pub numbers_are : numbers ≡ before ++ table_numbers (tables_of named) (take i items)

pub no_numbers : (named : List (List ℕ × List ℕ)) (items : List ItemRef) (before : List ℕ) → HasItemNumbers named items 0 before before
no_numbers named items before = record { known = refl; numbers_are = sym (append-nil before) }

module _ (named : List (List ℕ × List ℕ)) (items : List ItemRef) (i : ℕ) (before numbers : List ℕ) (so_far : HasItemNumbers named items i before numbers) where
  module _ (item : ItemRef) (inside : i < length items) (is : item ≡ get_or items i item) where
    here_known : unknown_with (bytes_of named item.table) item.at (unknown_table named (drop (i + 1) items)) ≡ unknown_table named items
    here_known = sym (ap (unknown_table named) (drop_more items i item inside ∙ ap (λ (x : ItemRef). x ∷ drop (i + 1) items) (sym is))) ∙ so_far.known

    -- the item at i has such a table too
    pub numbers_more : (n : ℕ) → n ≡ position_or_len (λ other. bytes_eq other item.table) (tables_of named)
        → ((at : ℕ) (later : Option Reason) → unknown_with (bytes_of named item.table) at later ≡ later)
        → HasItemNumbers named items (i + 1) before (numbers ++ n ∷ [])
    numbers_more n n_is has = record {
      known = sym (has item.at (unknown_table named (drop (i + 1) items))) ∙ here_known;
      numbers_are =
          let names = tables_of named in
          let done : take (i + 1) items ≡ take i items ++ item ∷ [] = take_more items i item inside ∙ ap (λ (x : ItemRef). take i items ++ x ∷ []) (sym is) in
          ap (λ (m : ℕ). numbers ++ m ∷ []) n_is ∙ ap (λ (l : List ℕ). l ++ table_numbers names (item ∷ [])) so_far.numbers_are
          ∙ append_assoc before (table_numbers names (take i items)) (table_numbers names (item ∷ []))
          ∙ ap (λ (l : List ℕ). before ++ l) (sym (ap (table_numbers names) done ∙ numbers_append names (take i items) (item ∷ [])));
    }

    -- it has not
    pub numbers_refused : bytes_of named item.table ≡ None → unknown_table named items ≡ Some (UnknownTable item.at)
    numbers_refused missing = sym here_known ∙ ap (λ (o : Option (List ℕ)). unknown_with o item.at (unknown_table named (drop (i + 1) items))) missing

  -- all items have
  module _ (end : length items ≤ i) where
    pub numbers_known : unknown_table named items ≡ None
    numbers_known = sym so_far.known ∙ ap (unknown_table named) (drop_all i items end)

    pub numbers_done : numbers ≡ before ++ table_numbers (tables_of named) items
    numbers_done = so_far.numbers_are ∙ ap (λ (l : List ItemRef). before ++ table_numbers (tables_of named) l) (take_all i items end)

-- ---- one select after another

pub record HasAllNumbers (named : List (List ℕ × List ℕ)) (selects : List Select) (i : ℕ) (numbers : List ℕ) : Type 0 where
  pub known : unknown_table named (all_items (drop i selects)) ≡ unknown_table named (all_items selects)
  pub numbers_are : numbers ≡ table_numbers (tables_of named) (all_items (take i selects))

-- the items of the select at i have tables that entries name, and their numbers were put after those before
pub all_numbers_more : (named : List (List ℕ × List ℕ)) (selects : List Select) (i : ℕ) (select : Select) (numbers now : List ℕ)
    → i < length selects → select ≡ get_or selects i select → HasAllNumbers named selects i numbers
    → Ok select.items ≡ unless (unknown_table named select.items) select.items → now ≡ numbers ++ table_numbers (tables_of named) select.items
    → HasAllNumbers named selects (i + 1) now
all_numbers_more named selects i select numbers now inside is so_far known pushed = record {
  known = known_on named selects i select inside is so_far.known known;
  numbers_are =
      let names = tables_of named in
      pushed ∙ ap (λ (l : List ℕ). l ++ table_numbers names select.items) so_far.numbers_are
      ∙ sym (ap (table_numbers names) (items_done selects i select inside is) ∙ numbers_append names (all_items (take i selects)) select.items);
}

pub all_numbers_done : (named : List (List ℕ × List ℕ)) (selects : List Select) (i : ℕ) (numbers : List ℕ) → length selects ≤ i
    → HasAllNumbers named selects i numbers → numbers ≡ table_numbers (tables_of named) (all_items selects)
all_numbers_done named selects i numbers end h =
    h.numbers_are ∙ ap (λ (l : List Select). table_numbers (tables_of named) (all_items l)) (take_all i selects end)
