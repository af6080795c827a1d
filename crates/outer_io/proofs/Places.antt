-- The first file of a name, by its place.
use Rattle.std.proofs.Common.{◌≡◌, ℕ, ◌+◌, ◌<◌, ◌≤◌, List, [], ◌∷◌, Bool, Option, Some, None, cond, true, false, refl, ap, ◌∙◌, sym, length, map, drop, arith, nat_lt, not, one-add, inl, inr, MatchOption, subst, is_some, ◌||◌, suc}
use Rattle.std.specs.List.{list_any, position, position_or_len, slice_get}
use Rattle.std.specs.Option.{option_map, option_map_or}
use Rattle.std.specs.String.{string_bytes}
use Rattle.std.specs.Str.{bytes_eq}
use Rattle.std.proofs.lemmas.Bool.Decides.{nat_tests}
use Rattle.std.proofs.lemmas.List.{drop-drop, drop_all}
use Rattle.std.proofs.lemmas.Option.{slice_get_past, slice_get_cases}
use borrow.Author.Tests.{ltb-false, ltb-true}
use Rattle.outer_io.specs.Entries.{entry_of, rest_at}
use Rattle.outer_io.specs.Files.{bytes_of}
use Rattle.outer_io.specs.declared.mem_files.MemFile.{MemFile}

abbrev pub is_named : List ℕ → MemFile → Bool
is_named name file = bytes_eq (string_bytes file.name) name

abbrev pub bytes_at : List MemFile → ℕ → Option (List ℕ)
bytes_at files place = option_map (λ file. file.bytes.items) (slice_get files place)

-- one place further on
next_place : (file : MemFile) (files : List MemFile) (k : ℕ) → bytes_at (file ∷ files) (1 + k) ≡ bytes_at files k
next_place file files k = rw one-add refl

-- the first file of the name has its bytes
pub first_named : (files : List MemFile) (name : List ℕ) → bytes_of (map entry_of files) name ≡ bytes_at files (position_or_len (is_named name) files)
first_named [] name = refl
first_named (file ∷ files) name =
    elim (is_named name file) as (λ b. cond b (Some file.bytes.items) (bytes_of (map entry_of files) name) ≡ bytes_at (file ∷ files) (cond (not b) (1 + position_or_len (is_named name) files) 0)) [
      | true ↦ refl
      | false ↦ first_named files name ∙ sym (next_place file files _)
    ]

-- what is left further on
pub rest_more : (files : List MemFile) (place : Option ℕ) (at n : ℕ) → rest_at files place (at + n) ≡ drop n (rest_at files place at)
rest_more files None at n = sym (drop_all n [] (omega arith))
rest_more files (Some place) at n = elim (slice_get files place) as (λ o. option_map_or (λ file. drop (at + n) file.bytes.items) o [] ≡ drop n (option_map_or (λ file. drop at file.bytes.items) o [])) [
  | Some file ↦ sym (drop-drop n at file.bytes.items)
  | None ↦ sym (drop_all n [] (omega arith))
]

pub past_end : (files : List MemFile) (place : ℕ) → length files ≤ place → bytes_at files place ≡ None
past_end files place h = ap (option_map (λ file. file.bytes.items)) (slice_get_past files place h)

-- a place within the list has its bytes, from the first on
pub within : (files : List MemFile) (place : ℕ) → place < length files → bytes_at files place ≡ Some (rest_at files (Some place) 0)
within files place h = elim (slice_get_cases files place).1 [
  | inl found ↦ subst (λ (o : Option MemFile). option_map (λ file. file.bytes.items) o ≡ Some (option_map_or (λ file. drop 0 file.bytes.items) o [])) (sym found.2) refl
  | inr past ↦ absurd (let le = past.0 in omega arith)
]

pub placed : (files : List MemFile) (name : List ℕ) (place : Option ℕ) → place ≡ position (is_named name) files
    → MatchOption place (bytes_of (map entry_of files) name ≡ None) (λ at. bytes_of (map entry_of files) name ≡ Some (rest_at files (Some at) 0))
placed files name place e =
    let n = position_or_len (is_named name) files in
    let first = first_named files name in
    let P : Option ℕ → Type 0 = λ place. MatchOption place (bytes_of (map entry_of files) name ≡ None) (λ at. bytes_of (map entry_of files) name ≡ Some (rest_at files (Some at) 0)) in
    let at = elim (nat_lt n (length files)) as (λ b. nat_lt n (length files) ≡ b → P (cond b (Some n) None)) [
      | true ↦ λ inside. first ∙ within files n (ltb-true n (length files) inside)
      | false ↦ λ past. first ∙ past_end files n (ltb-false n (length files) past)
    ] in
    subst P (sym e) (at refl)

-- one of the files has the name if there is a first one that has it
below_more : (a b : ℕ) → nat_lt (1 + a) (suc b) ≡ nat_lt a b
below_more a b = grind (arith, nat_tests)

none_below : (b : ℕ) → nat_lt 0 (suc b) ≡ true
none_below b = grind (arith, nat_tests)

below_any : (p : MemFile → Bool) (files : List MemFile) → nat_lt (position_or_len p files) (length files) ≡ list_any p files
below_any p [] = refl
below_any p (file ∷ files) =
    elim (p file) as (λ b. nat_lt (cond (not b) (1 + position_or_len p files) 0) (length (file ∷ files)) ≡ (b || list_any p files)) [
      | true ↦ none_below (length files)
      | false ↦ below_more (position_or_len p files) (length files) ∙ below_any p files
    ]

some_if : (b : Bool) (k : ℕ) → is_some (cond b (Some k) None) ≡ b
some_if true k = refl
some_if false k = refl

pub any_found : (p : MemFile → Bool) (files : List MemFile) → is_some (position p files) ≡ list_any p files
any_found p files = some_if (nat_lt (position_or_len p files) (length files)) (position_or_len p files) ∙ below_any p files
