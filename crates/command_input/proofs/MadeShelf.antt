-- A shelf in memory with the files of an input that is made.
use Rattle.std.proofs.Common.{◌≡◌, ◌∷◌, ◌++◌, [], ℕ, List, Vec, length, map, refl, sym, ap, ◌∙◌, arith, append_assoc, append-nil, string_bytes, Bool, true, not, ◌&&◌, inl, inr, ◌⊎◌}
use Rattle.std.specs.Global.{Global}
use Rattle.std.specs.List.{list_any, zip}
use Rattle.std.specs.Str.{bytes_eq}
use Rattle.cmd_words.specs.declared.pairs.Named.{Named}
use Rattle.cmd_words.specs.NamedPairs.{named_pair, are_distinct as have_distinct_names}
use Rattle.make_input.specs.Input.{files, load_query, query_file, table_files}
use Rattle.outer_io.specs.declared.mem_files.MemFile.{MemFile}
use Rattle.outer_io.specs.Entries.{are_distinct, entry_of}
use Rattle.verdict.specs.MadeFiles.{made_files}
use Rattle.command_input.proofs.FirstUses.{list_any_map}

-- ---- the files, one after another

abbrev pub files_of : List Named → List (Vec ℕ Global) → List (List ℕ × List ℕ)
files_of named tables = zip (map (λ (n : Named). string_bytes n.file) named) (map (λ (t : Vec ℕ Global). t.items) tables)

its_files : (named : List Named) → map (λ (n : Named). string_bytes n.file) named ≡ map (λ (t : List ℕ × List ℕ). t.1) (map named_pair named)
its_files [] = refl
its_files (n ∷ named) = ap (λ (l : List (List ℕ)). string_bytes n.file ∷ l) (its_files named)

-- the query's file, and those of the tables
pub files_first : (held : List (List ℕ × List ℕ)) (bytes : List ℕ) (named : List Named) (tables : List (Vec ℕ Global)) (number rows : ℕ)
    → held ≡ (query_file, bytes) ∷ [] → bytes ≡ load_query
    → map named_pair named ≡ table_files → map (λ (t : Vec ℕ Global). t.items) tables ≡ files number rows
    → held ++ files_of named tables ≡ made_files number rows
files_first held bytes named tables number rows is text names texts =
    let first : held ≡ (query_file, load_query) ∷ [] = is ∙ ap (λ (b : List ℕ). (query_file, b) ∷ []) text in
    let named_files : map (λ (n : Named). string_bytes n.file) named ≡ map (λ (t : List ℕ × List ℕ). t.1) table_files =
    its_files named ∙ ap (map (λ (t : List ℕ × List ℕ). t.1)) names in
    ap (λ (l : List (List ℕ × List ℕ)). l ++ files_of named tables) first
    ∙ ap (λ (l : List (List ℕ)). (query_file, load_query) ∷ zip l (map (λ (t : Vec ℕ Global). t.items) tables)) named_files
    ∙ ap (λ (l : List (List ℕ)). (query_file, load_query) ∷ zip (map (λ (t : List ℕ × List ℕ). t.1) table_files) l) texts

-- one file more
pub files_more : (held now : List (List ℕ × List ℕ)) (n : Named) (table : Vec ℕ Global) (named later : List Named) (tables others : List (Vec ℕ Global)) (all : List (List ℕ × List ℕ))
    → held ++ files_of named tables ≡ all → named ≡ n ∷ later → tables ≡ table ∷ others
    → now ≡ held ++ (string_bytes n.file, table.items) ∷ [] → now ++ files_of later others ≡ all
files_more held now n table named later tables others all before is also pushed =
    ap (λ (l : List (List ℕ × List ℕ)). l ++ files_of later others) pushed
    ∙ append_assoc held ((string_bytes n.file, table.items) ∷ []) (files_of later others)
    ∙ ap (λ (l : List Named). held ++ files_of l (table ∷ others)) (sym is)
    ∙ ap (λ (l : List (Vec ℕ Global)). held ++ files_of named l) (sym also) ∙ before

-- all files, when no name or no table is left
pub files_all : (held : List MemFile) (named : List Named) (tables : List (Vec ℕ Global)) (all : List (List ℕ × List ℕ))
    → map entry_of held ++ files_of named tables ≡ all → (length named ≡ 0) ⊎ (length tables ≡ 0) → map entry_of held ≡ all
files_all held [] tables all before ended = sym (append-nil (map entry_of held)) ∙ before
files_all held (n ∷ named) [] all before ended = sym (append-nil (map entry_of held)) ∙ before
files_all held (n ∷ named) (table ∷ tables) all before (inl none) = absurd (omega (arith, none))
files_all held (n ∷ named) (table ∷ tables) all before (inr none) = absurd (omega (arith, none))

-- they have distinct names
distinct_entries : (held : List MemFile) → are_distinct held ≡ have_distinct_names (map entry_of held)
distinct_entries [] = refl
distinct_entries (file ∷ held) =
    ap (λ (b : Bool). not b && are_distinct held) (sym (list_any_map (λ (other : List ℕ × List ℕ). bytes_eq other.0 (string_bytes file.name)) entry_of held))
    ∙ ap (λ (b : Bool). not (list_any (λ (other : List ℕ × List ℕ). bytes_eq other.0 (string_bytes file.name)) (map entry_of held)) && b) (distinct_entries held)

made_distinct : (number rows : ℕ) → have_distinct_names (made_files number rows) ≡ true
made_distinct number rows = refl

pub distinct_files : (held : List MemFile) (number rows : ℕ) → map entry_of held ≡ made_files number rows → are_distinct held ≡ true
distinct_files held number rows is = distinct_entries held ∙ ap have_distinct_names is ∙ made_distinct number rows
