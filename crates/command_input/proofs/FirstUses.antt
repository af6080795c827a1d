-- The entries that name the items' tables, which of them come first, and the numbers of the tables.
use Rattle.std.proofs.Common.{◌≡◌, ◌+◌, ◌<◌, ◌≤◌, ◌||◌, ◌∷◌, ◌++◌, [], ℕ, Bool, true, false, cond, if◌then◌else◌, List, length, map, drop, take, get_or, find, option_map, Some, None, refl, sym, ap, ◌∙◌, arith, subst, suc, zero, not}
use Rattle.std.proofs.lemmas.List.{append_assoc, append-nil, drop_all, drop_more, get_or-map, length-append, length-map, take_all, take_more, map-append}
use Rattle.std.proofs.lemmas.List.Folds.{list_any-append}
use Rattle.std.proofs.lemmas.Slice.Eq.{bytes_eq-Decides}
use Rattle.std.specs.List.{AllByRecursion, list_any, position_or_len}
use Rattle.std.specs.Str.{bytes_eq}
use Rattle.std.specs.String.{string_bytes}
use Rattle.cmd_words.specs.declared.pairs.Named.{Named}
use Rattle.cmd_words.specs.NamedPairs.{named_pair}
use Rattle.outer_io.specs.Files.{bytes_of}
use Rattle.query_select.specs.declared.select.ItemRef.{ItemRef}
use Rattle.refusals.specs.Reason.{UnknownTable}
use Rattle.verdict.specs.Loading.{first_uses, first_uses_after, table_names, table_numbers, unknown_table, unknown_with}
use Rattle.command_input.specs.Entries.{HasUses, IsEntryOf, tables_of, with_entry}

-- ---- the entry that names a table

-- the file of a table is that of the first entry that names it
file_of_found : (table : List ℕ) (named : List Named)
    → bytes_of (map named_pair named) table ≡ option_map (λ (e : Named). string_bytes e.file) (find (λ (e : Named). bytes_eq (string_bytes e.table) table) named)
file_of_found table [] = refl
file_of_found table (e ∷ named) = by (bytes_eq (string_bytes e.table) table) (file_of_found table named)
  where
    by : (b : Bool) → bytes_of (map named_pair named) table ≡ option_map (λ (e : Named). string_bytes e.file) (find (λ (e : Named). bytes_eq (string_bytes e.table) table) named)
        → (if b then Some (string_bytes e.file) else bytes_of (map named_pair named) table)
        ≡ option_map (λ (e : Named). string_bytes e.file) (cond b (Some e) (find (λ (e : Named). bytes_eq (string_bytes e.table) table) named))
    by true later = refl
    by false later = later

found_passes : {A : Type 0} (p : A → Bool) (xs : List A) (x : A) → find p xs ≡ Some x → p x ≡ true
found_passes p [] x e = cc
found_passes p (y ∷ xs) x e = by (p y) refl e (λ later. found_passes p xs x later)
  where
    by : (b : Bool) → p y ≡ b → cond b (Some y) (find p xs) ≡ Some x → (find p xs ≡ Some x → p x ≡ true) → p x ≡ true
    by true is here later = let same : y ≡ x = cc in ap p (sym same) ∙ is
    by false is here later = later here

-- the entry that was found names the table, and is the first that does
pub found_table : (table : List ℕ) (named : List Named) (e : Named) → find (λ (e : Named). bytes_eq (string_bytes e.table) table) named ≡ Some e → string_bytes e.table ≡ table
found_table table named e is = (bytes_eq-Decides (string_bytes e.table) table).0 (found_passes (λ (e : Named). bytes_eq (string_bytes e.table) table) named e is)

pub found_entry : (table : List ℕ) (named : List Named) (e : Named) → find (λ (e : Named). bytes_eq (string_bytes e.table) table) named ≡ Some e
    → IsEntryOf (map named_pair named) (named_pair e)
found_entry table named e is =
    ap (bytes_of (map named_pair named)) (found_table table named e is) ∙ file_of_found table named
    ∙ ap (option_map (λ (e : Named). string_bytes e.file)) is

pub none_file : (table : List ℕ) (named : List Named) → find (λ (e : Named). bytes_eq (string_bytes e.table) table) named ≡ None
    → bytes_of (map named_pair named) table ≡ None
none_file table named is = file_of_found table named ∙ ap (option_map (λ (e : Named). string_bytes e.file)) is

pub all_append : {A : Type 0} (P : A → Type 0) (xs : List A) (x : A) → AllByRecursion P xs → P x → AllByRecursion P (xs ++ x ∷ [])
all_append P [] x all h = (h, tt)
all_append P (y ∷ xs) x all h = (all.0, all_append P xs x all.1 h)

pub all_at : {A : Type 0} (P : A → Type 0) (xs : List A) (i : ℕ) (d : A) → i < length xs → AllByRecursion P xs → P (get_or xs i d)
all_at P [] i d inside all = absurd (omega arith)
all_at P (x ∷ xs) zero d inside all = all.0
all_at P (x ∷ xs) (suc i) d inside all = all_at P xs i d (omega arith) all.1

-- ---- lists of names

abbrev pub has_name : List ℕ → List (List ℕ) → Bool
has_name name names = list_any (λ other. bytes_eq other name) names

-- ---- the numbers of tables

or_true : (a b : Bool) → a ≡ true → (a || b) ≡ true
or_true true b e = refl
or_true false b e = cc

or_later : (a b : Bool) → b ≡ true → (a || b) ≡ true
or_later true b e = refl
or_later false b e = e

same_bytes : (name : List ℕ) → bytes_eq name name ≡ true
same_bytes name = (bytes_eq-Decides name name).1 refl

-- each name is among the first uses
each_used : (earlier names : List (List ℕ)) → AllByRecursion (λ name. has_name name (earlier ++ first_uses_after earlier names) ≡ true) names
each_used earlier [] = tt
each_used earlier (x ∷ xs) = by (has_name x earlier) refl (each_used earlier xs) (each_used (earlier ++ x ∷ []) xs)
  where
    by : (b : Bool) → has_name x earlier ≡ b
        → AllByRecursion (λ name. has_name name (earlier ++ first_uses_after earlier xs) ≡ true) xs
        → AllByRecursion (λ name. has_name name ((earlier ++ x ∷ []) ++ first_uses_after (earlier ++ x ∷ []) xs) ≡ true) xs
        → (has_name x (earlier ++ (if b then first_uses_after earlier xs else x ∷ first_uses_after (earlier ++ x ∷ []) xs)) ≡ true)
        × AllByRecursion (λ name. has_name name (earlier ++ (if b then first_uses_after earlier xs else x ∷ first_uses_after (earlier ++ x ∷ []) xs)) ≡ true) xs
    by true has same more = (list_any-append (λ other. bytes_eq other x) earlier (first_uses_after earlier xs) ∙ or_true _ _ has, same)
    by false has same more =
        let rest = first_uses_after (earlier ++ x ∷ []) xs in
        let P : List (List ℕ) → Type 0 = λ l. AllByRecursion (λ name. has_name name l ≡ true) xs in (
          list_any-append (λ other. bytes_eq other x) earlier (x ∷ rest) ∙ or_later _ _ (or_true _ _ (same_bytes x)),
          subst P (append_assoc earlier (x ∷ []) rest) more,
        )

-- a name in the list has a place
place_within : (name : List ℕ) (names : List (List ℕ)) → has_name name names ≡ true → position_or_len (λ other. bytes_eq other name) names < length names
place_within name [] e = cc
place_within name (x ∷ xs) e = by (bytes_eq x name) e (place_within name xs)
  where
    by : (b : Bool) → (b || has_name name xs) ≡ true → (has_name name xs ≡ true → position_or_len (λ other. bytes_eq other name) xs < length xs)
        → cond (not b) (1 + position_or_len (λ other. bytes_eq other name) xs) 0 < length (x ∷ xs)
    by true h later = omega arith
    by false h later = let below = later h in omega (arith, below)

all_map : {A B : Type 0} (P : B → Type 0) (f : A → B) (xs : List A) → AllByRecursion (λ x. P (f x)) xs → AllByRecursion P (map f xs)
all_map P f [] all = tt
all_map P f (x ∷ xs) all = (all.0, all_map P f xs all.1)

all_weaker : {A : Type 0} (P Q : A → Type 0) (xs : List A) → ((x : A) → P x → Q x) → AllByRecursion P xs → AllByRecursion Q xs
all_weaker P Q [] f all = tt
all_weaker P Q (x ∷ xs) f all = (f x all.0, all_weaker P Q xs f all.1)

-- the numbers of the tables of items are numbers of tables
pub numbers_within : (items : List ItemRef) → AllByRecursion (λ t. t < length (first_uses items)) (table_numbers (first_uses items) items)
numbers_within items =
    all_map (λ t. t < length (first_uses items)) (λ name. position_or_len (λ other. bytes_eq other name) (first_uses items)) (table_names items)
    (all_weaker (λ name. has_name name (first_uses items) ≡ true) (λ name. position_or_len (λ other. bytes_eq other name) (first_uses items) < length (first_uses items))
    (table_names items) (λ name has. place_within name (first_uses items) has) (each_used [] (table_names items)))

-- ---- tests of the entries, and of their tables' names

pub list_any_map : {A B : Type 0} (p : B → Bool) (f : A → B) (xs : List A) → list_any p (map f xs) ≡ list_any (λ x. p (f x)) xs
list_any_map p f [] = refl
list_any_map p f (x ∷ xs) = ap (λ b. p (f x) || b) (list_any_map p f xs)

pub position_or_len_map : {A B : Type 0} (p : B → Bool) (f : A → B) (xs : List A) → position_or_len p (map f xs) ≡ position_or_len (λ x. p (f x)) xs
position_or_len_map p f [] = refl
position_or_len_map p f (x ∷ xs) = ap (λ n. cond (not (p (f x))) (1 + n) 0) (position_or_len_map p f xs)

-- a number by the entries is a number by the names of their tables
pub number_shown : {A : Type 0} (g : A → List ℕ × List ℕ) (ys : List A) (name : List ℕ)
    → position_or_len (λ other. bytes_eq other name) (tables_of (map g ys)) ≡ position_or_len (λ y. bytes_eq (g y).0 name) ys
number_shown g ys name =
    position_or_len_map (λ other. bytes_eq other name) (λ (x : List ℕ × List ℕ). x.0) (map g ys)
    ∙ position_or_len_map (λ (x : List ℕ × List ℕ). bytes_eq x.0 name) g ys

pub has_shown : {A : Type 0} (g : A → List ℕ × List ℕ) (ys : List A) (name : List ℕ)
    → has_name name (tables_of (map g ys)) ≡ list_any (λ y. bytes_eq (g y).0 name) ys
has_shown g ys name =
    list_any_map (λ other. bytes_eq other name) (λ (x : List ℕ × List ℕ). x.0) (map g ys) ∙ list_any_map (λ (x : List ℕ × List ℕ). bytes_eq x.0 name) g ys

-- an element of a mapped list
pub mapped_inside : {A B : Type 0} (f : A → B) (xs : List A) (i : ℕ) → i < length xs → i < length (map f xs)
mapped_inside f xs i inside = let same = length-map xs f in omega (arith, inside, same)

pub mapped_at : {A B : Type 0} (f : A → B) (xs : List A) (i : ℕ) (x : A) → i < length xs → x ≡ get_or xs i x → f x ≡ get_or (map f xs) i (f x)
mapped_at f xs i x inside is = ap f is ∙ sym (get_or-map f xs i x (f x) inside)

pub mapped_all : {A B : Type 0} (P : B → Type 0) (f : A → B) (xs : List A) (i : ℕ) (x : A) → i < length xs → x ≡ get_or xs i x → AllByRecursion P (map f xs) → P (f x)
mapped_all P f xs i x inside is all =
    subst P (sym (mapped_at f xs i x inside is)) (all_at P (map f xs) i (f x) (mapped_inside f xs i inside) all)

-- ---- the uses of items, one item after another

-- a name more
abbrev with_name : List (List ℕ) → List ℕ → List (List ℕ)
with_name names name = if has_name name names then names else names ++ name ∷ []

first_uses_more : (earlier names : List (List ℕ)) (name : List ℕ)
    → first_uses_after earlier (names ++ name ∷ [])
    ≡ (if has_name name (earlier ++ first_uses_after earlier names) then first_uses_after earlier names else first_uses_after earlier names ++ name ∷ [])
first_uses_more earlier [] name = ap (λ (l : List (List ℕ)). if has_name name l then [] else name ∷ []) (sym (append-nil earlier))
first_uses_more earlier (x ∷ xs) name = by (has_name x earlier) (first_uses_more earlier xs name) (first_uses_more (earlier ++ x ∷ []) xs name)
  where
    later : List (List ℕ)
    later = first_uses_after (earlier ++ x ∷ []) xs

    step : (c : Bool) → x ∷ (if c then later else later ++ name ∷ []) ≡ (if c then x ∷ later else x ∷ (later ++ name ∷ []))
    step true = refl
    step false = refl

    by : (b : Bool)
        → first_uses_after earlier (xs ++ name ∷ [])
        ≡ (if has_name name (earlier ++ first_uses_after earlier xs) then first_uses_after earlier xs else first_uses_after earlier xs ++ name ∷ [])
        → first_uses_after (earlier ++ x ∷ []) (xs ++ name ∷ [])
        ≡ (if has_name name ((earlier ++ x ∷ []) ++ first_uses_after (earlier ++ x ∷ []) xs) then later else later ++ name ∷ [])
        → (if b then first_uses_after earlier (xs ++ name ∷ []) else x ∷ first_uses_after (earlier ++ x ∷ []) (xs ++ name ∷ []))
        ≡ (if has_name name (earlier ++ (if b then first_uses_after earlier xs else x ∷ later)) then (if b then first_uses_after earlier xs else x ∷ later)
        else (if b then first_uses_after earlier xs else x ∷ later) ++ name ∷ [])
    by true same more = same
    by false same more =
        ap (λ (l : List (List ℕ)). x ∷ l) more ∙ step (has_name name ((earlier ++ x ∷ []) ++ later))
        ∙ ap (λ (l : List (List ℕ)). if has_name name l then x ∷ later else x ∷ (later ++ name ∷ [])) (append_assoc earlier (x ∷ []) later)

uses_length : (earlier names : List (List ℕ)) → length (first_uses_after earlier names) ≤ length names
uses_length earlier [] = omega arith
uses_length earlier (x ∷ xs) = by (has_name x earlier) (uses_length earlier xs) (uses_length (earlier ++ x ∷ []) xs)
  where
    by : (b : Bool) → length (first_uses_after earlier xs) ≤ length xs → length (first_uses_after (earlier ++ x ∷ []) xs) ≤ length xs
        → length (if b then first_uses_after earlier xs else x ∷ first_uses_after (earlier ++ x ∷ []) xs) ≤ length (x ∷ xs)
    by true same more = omega (arith, same)
    by false same more = omega (arith, more)

-- the place of a name stays if others follow
place_stays : (name : List ℕ) (names later : List (List ℕ)) → has_name name names ≡ true
    → position_or_len (λ other. bytes_eq other name) (names ++ later) ≡ position_or_len (λ other. bytes_eq other name) names
place_stays name [] later e = cc
place_stays name (x ∷ xs) later e = by (bytes_eq x name) e (place_stays name xs later)
  where
    by : (b : Bool) → (b || has_name name xs) ≡ true
        → (has_name name xs ≡ true → position_or_len (λ other. bytes_eq other name) (xs ++ later) ≡ position_or_len (λ other. bytes_eq other name) xs)
        → cond (not b) (1 + position_or_len (λ other. bytes_eq other name) (xs ++ later)) 0 ≡ cond (not b) (1 + position_or_len (λ other. bytes_eq other name) xs) 0
    by true h more = refl
    by false h more = ap (λ n. 1 + n) (more h)

abbrev numbers_in : List (List ℕ) → List (List ℕ) → List ℕ
numbers_in names xs = map (λ name. position_or_len (λ other. bytes_eq other name) names) xs

numbers_stay : (names later xs : List (List ℕ)) → AllByRecursion (λ name. has_name name names ≡ true) xs → numbers_in (names ++ later) xs ≡ numbers_in names xs
numbers_stay names later [] all = refl
numbers_stay names later (x ∷ xs) all = let head = place_stays x names later all.0 in let tail = numbers_stay names later xs all.1 in λ i. head i ∷ tail i

numbers_with : (names : List (List ℕ)) (name : List ℕ) (xs : List (List ℕ)) → AllByRecursion (λ x. has_name x names ≡ true) xs
    → numbers_in (with_name names name) xs ≡ numbers_in names xs
numbers_with names name xs all = by (has_name name names)
  where
    by : (b : Bool) → numbers_in (if b then names else names ++ name ∷ []) xs ≡ numbers_in names xs
    by true = refl
    by false = numbers_stay names (name ∷ []) xs all

-- an entry more
tables_with : (entries : List (List ℕ × List ℕ)) (entry : List ℕ × List ℕ) → tables_of (with_entry entries entry) ≡ with_name (tables_of entries) entry.0
tables_with entries entry = by (has_name entry.0 (tables_of entries))
  where
    by : (b : Bool) → tables_of (if b then entries else entries ++ entry ∷ []) ≡ (if b then tables_of entries else tables_of entries ++ entry.0 ∷ [])
    by true = refl
    by false = map-append (λ (x : List ℕ × List ℕ). x.0) entries (entry ∷ [])

entries_with : (P : List ℕ × List ℕ → Type 0) (entries : List (List ℕ × List ℕ)) (entry : List ℕ × List ℕ) → AllByRecursion P entries → P entry
    → AllByRecursion P (with_entry entries entry)
entries_with P entries entry all h = by (has_name entry.0 (tables_of entries))
  where
    by : (b : Bool) → AllByRecursion P (if b then entries else entries ++ entry ∷ [])
    by true = all
    by false = all_append P entries entry all h

length_with : (entries : List (List ℕ × List ℕ)) (entry : List ℕ × List ℕ) → length (with_entry entries entry) ≤ length entries + 1
length_with entries entry = by (has_name entry.0 (tables_of entries))
  where
    by : (b : Bool) → length (if b then entries else entries ++ entry ∷ []) ≤ length entries + 1
    by true = omega arith
    by false = let longer = length-append entries (entry ∷ []) in omega (arith, longer)

uses_more : (named : List (List ℕ × List ℕ)) (done : List ItemRef) (item : ItemRef) (firsts now : List (List ℕ × List ℕ)) (numbers : List ℕ) (entry : List ℕ × List ℕ) (n : ℕ)
    → entry.0 ≡ item.table → IsEntryOf named entry → now ≡ with_entry firsts entry → n ≡ position_or_len (λ other. bytes_eq other entry.0) (tables_of now)
    → HasUses named done firsts numbers → HasUses named (done ++ item ∷ []) now (numbers ++ n ∷ [])
uses_more named done item firsts now numbers entry n table is_entry now_is n_is h =
    let P : List (List ℕ × List ℕ) → Type 0 = AllByRecursion (IsEntryOf named) in
    let names : table_names (done ++ item ∷ []) ≡ table_names done ++ item.table ∷ [] = map-append (λ (x : ItemRef). x.table) done (item ∷ []) in
    let with : with_name (tables_of firsts) entry.0 ≡ with_name (first_uses done) item.table =
    ap (λ (l : List (List ℕ)). with_name l entry.0) h.tables ∙ ap (with_name (first_uses done)) table in
    let uses : first_uses (done ++ item ∷ []) ≡ with_name (first_uses done) item.table =
    ap (first_uses_after []) names ∙ first_uses_more [] (table_names done) item.table in
    let tables : tables_of now ≡ first_uses (done ++ item ∷ []) = ap tables_of now_is ∙ tables_with firsts entry ∙ with ∙ sym uses in
    let earlier : numbers ≡ numbers_in (first_uses (done ++ item ∷ [])) (table_names done) =
    h.numbers ∙ sym (ap (λ (l : List (List ℕ)). numbers_in l (table_names done)) uses
    ∙ numbers_with (first_uses done) item.table (table_names done) (each_used [] (table_names done))) in
    let last : n ≡ position_or_len (λ other. bytes_eq other item.table) (first_uses (done ++ item ∷ [])) =
    n_is ∙ ap (λ (name : List ℕ). position_or_len (λ other. bytes_eq other name) (tables_of now)) table
    ∙ ap (position_or_len (λ other. bytes_eq other item.table)) tables in
    record {
      tables = tables;
      entries = subst P (sym now_is) (entries_with (IsEntryOf named) firsts entry h.entries is_entry);
      numbers = ap (λ (l : List ℕ). l ++ n ∷ []) earlier
          ∙ ap (λ (m : ℕ). numbers_in (first_uses (done ++ item ∷ [])) (table_names done) ++ m ∷ []) last
          ∙ sym (ap (numbers_in (first_uses (done ++ item ∷ []))) names
          ∙ map-append (λ name. position_or_len (λ other. bytes_eq other name) (first_uses (done ++ item ∷ []))) (table_names done) (item.table ∷ []));
    }

-- the items up to i have tables that entries name, and their uses were added to those of the items before
pub record HasItemUses (named : List (List ℕ × List ℕ)) (items : List ItemRef) (i : ℕ) (before : List (List ℕ × List ℕ)) (counted : List ℕ)
    (firsts : List (List ℕ × List ℕ))
    (numbers : List ℕ) : Type 0 where
  pub known : unknown_table named (drop i items) ≡ unknown_table named items
  pub few : length firsts ≤ length before + i
  pub uses : (earlier : List ItemRef) → HasUses named earlier before counted → HasUses named (earlier ++ take i items) firsts numbers

pub items_none : (named : List (List ℕ × List ℕ)) (items : List ItemRef) (firsts : List (List ℕ × List ℕ)) (numbers : List ℕ) → HasItemUses named items 0 firsts numbers firsts numbers
items_none named items firsts numbers = record {
  known = refl;
  few = omega arith;
  uses = λ earlier h. let P : List ItemRef → Type 0 = λ l. HasUses named l firsts numbers in subst P (sym (append-nil earlier)) h;
}

module _ (named : List (List ℕ × List ℕ)) (items : List ItemRef) (i : ℕ) (before : List (List ℕ × List ℕ)) (counted : List ℕ) (firsts : List (List ℕ × List ℕ)) (numbers : List ℕ) where
  -- the item at i has such a table too
  pub items_more : (item : ItemRef) (now : List (List ℕ × List ℕ)) (entry : List ℕ × List ℕ) (n : ℕ) → i < length items → item ≡ get_or items i item
      → entry.0 ≡ item.table → IsEntryOf named entry → now ≡ with_entry firsts entry → n ≡ position_or_len (λ other. bytes_eq other entry.0) (tables_of now)
      → HasItemUses named items i before counted firsts numbers → HasItemUses named items (i + 1) before counted now (numbers ++ n ∷ [])
  items_more item now entry n inside is table is_entry now_is n_is h =
      let step : drop i items ≡ item ∷ drop (i + 1) items = drop_more items i item inside ∙ ap (λ (x : ItemRef). x ∷ drop (i + 1) items) (sym is) in
      let file : bytes_of named item.table ≡ Some entry.1 = ap (bytes_of named) (sym table) ∙ is_entry in
      let done : take (i + 1) items ≡ take i items ++ item ∷ [] = take_more items i item inside ∙ ap (λ (x : ItemRef). take i items ++ x ∷ []) (sym is) in
      let few = h.few in
      let longer = length_with firsts entry in
      let same : length now ≡ length (with_entry firsts entry) = ap length now_is in
      let P : List ItemRef → Type 0 = λ l. HasUses named l now (numbers ++ n ∷ []) in
      record {
        known = sym (ap (unknown_table named) step ∙ ap (λ o. unknown_with o item.at (unknown_table named (drop (i + 1) items))) file) ∙ h.known;
        few = omega (arith, few, longer, same);
        uses = λ earlier all.
            subst P (append_assoc earlier (take i items) (item ∷ []) ∙ sym (ap (λ (l : List ItemRef). earlier ++ l) done))
            (uses_more named (earlier ++ take i items) item firsts now numbers entry n table is_entry now_is n_is (h.uses earlier all));
      }

  -- it has not
  pub items_end : (item : ItemRef) → i < length items → item ≡ get_or items i item → bytes_of named item.table ≡ None
      → HasItemUses named items i before counted firsts numbers → unknown_table named items ≡ Some (UnknownTable item.at)
  items_end item inside is none h =
      let step : drop i items ≡ item ∷ drop (i + 1) items = drop_more items i item inside ∙ ap (λ (x : ItemRef). x ∷ drop (i + 1) items) (sym is) in
      sym h.known ∙ ap (unknown_table named) step ∙ ap (λ o. unknown_with o item.at (unknown_table named (drop (i + 1) items))) none

  -- all items have such tables
  pub items_known : length items ≤ i → HasItemUses named items i before counted firsts numbers → unknown_table named items ≡ None
  items_known end h = sym h.known ∙ ap (unknown_table named) (drop_all i items end)

  pub items_used : length items ≤ i → HasItemUses named items i before counted firsts numbers
      → (earlier : List ItemRef) → HasUses named earlier before counted → HasUses named (earlier ++ items) firsts numbers
  items_used end h earlier all =
      let P : List ItemRef → Type 0 = λ l. HasUses named l firsts numbers in subst P (ap (λ (l : List ItemRef). earlier ++ l) (take_all i items end)) (h.uses earlier all)

-- ---- one entry among the first ones

module _ {A : Type 0} (g : A → List ℕ × List ℕ) (xs : List A) (x : A) where
  abbrev names_it : A → Bool
  names_it y = bytes_eq (g y).0 (g x).0

  -- one of them names its table
  pub entry_known : true ≡ list_any names_it xs → map g xs ≡ with_entry (map g xs) (g x)
  entry_known has = sym (ap (λ (b : Bool). if b then map g xs else map g xs ++ g x ∷ []) (has_shown g xs (g x).0 ∙ sym has))

  -- none does
  pub entry_new : (now : List A) → false ≡ list_any names_it xs → now ≡ xs ++ x ∷ [] → map g now ≡ with_entry (map g xs) (g x)
  entry_new now has pushed =
      ap (map g) pushed ∙ map-append g xs (x ∷ [])
      ∙ sym (ap (λ (b : Bool). if b then map g xs else map g xs ++ g x ∷ []) (has_shown g xs (g x).0 ∙ sym has))

  last_place : (ys : List A) → false ≡ list_any names_it ys → position_or_len names_it (ys ++ x ∷ []) ≡ length ys
  last_place [] has = ap (λ (b : Bool). cond (not b) (1 + 0) 0) (same_bytes (g x).0)
  last_place (y ∷ ys) has = by (names_it y) has (last_place ys)
    where
      by : (b : Bool) → false ≡ (b || list_any names_it ys) → (false ≡ list_any names_it ys → position_or_len names_it (ys ++ x ∷ []) ≡ length ys)
          → cond (not b) (1 + position_or_len names_it (ys ++ x ∷ [])) 0 ≡ length (y ∷ ys)
      by true h later = cc
      by false h later = let same = later h in omega (arith, same)

  pub number_new : (now : List A) (n : ℕ) → false ≡ list_any names_it xs → now ≡ xs ++ x ∷ [] → n ≡ length xs → n ≡ position_or_len names_it now
  number_new now n has pushed counted = counted ∙ sym (ap (position_or_len names_it) pushed ∙ last_place xs has)

-- ---- the uses of all items

-- there are no more first uses than items
pub few_uses : (named : List (List ℕ × List ℕ)) (items : List ItemRef) (firsts : List (List ℕ × List ℕ)) (numbers : List ℕ) → HasUses named items firsts numbers
    → length firsts ≤ length items
few_uses named items firsts numbers h =
    let words = length-map firsts (λ (x : List ℕ × List ℕ). x.0) in
    let names = length-map items (λ (x : ItemRef). x.table) in
    let same : length (tables_of firsts) ≡ length (first_uses items) = ap length h.tables in
    let fewer = uses_length [] (table_names items) in
    omega (arith, words, names, same, fewer)

module _ {A : Type 0} (g : A → List ℕ × List ℕ) (named : List (List ℕ × List ℕ)) (items : List ItemRef) (firsts : List A) (numbers : List ℕ)
    (h : HasUses named items (map g firsts) numbers) where
  pub few_firsts : length items ≤ 16 → length firsts ≤ 16
  few_firsts limit =
      let few = few_uses named items (map g firsts) numbers h in
      let same = length-map firsts g in
      omega (arith, few, same, limit)

  pub numbers_known : (count : ℕ) → count ≡ length firsts → AllByRecursion (λ t. t < count) numbers
  numbers_known count as_many =
      let P : List ℕ → Type 0 = AllByRecursion (λ t. t < count) in
      let Q : ℕ → Type 0 = λ n. AllByRecursion (λ t. t < n) (table_numbers (first_uses items) items) in
      let all : length (first_uses items) ≡ count =
      sym (ap length h.tables) ∙ length-map (map g firsts) (λ (x : List ℕ × List ℕ). x.0) ∙ length-map firsts g ∙ sym as_many in
      subst P (sym h.numbers) (subst Q all (numbers_within items))
