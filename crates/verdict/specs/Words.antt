-- What the arguments of the command line ask for, without the engine: both engines give the same
-- text.
use Rattle.std.specs.Prelude.{◌≡◌, ℕ, List, map, Bool, true, false, Option, Some, None}
use Rattle.make_input.specs.Input.{query_file, table_files}
use Rattle.rankings.specs.Order.{IsMember}

-- the names of files and tables are written as on the command line
pub record Words : Type 0 where
  pub ranks : Bool
  pub rows : Bool
  -- the alias of the item of which each row's best answer is asked for, if there is one
  pub best_of : Option (List ℕ)
  pub query : List ℕ
  -- the name of each table, and of its file
  pub tables : List (List ℕ × List ℕ)

pub data Command : Type 0 where
  run : Words → Command
  plan : Words → Command
  -- with the file of its script
  session : List ℕ → Words → Command
  -- a run over tables that are made from the number, with `rows` rows each
  load : (number rows : ℕ) → Command
  prove : Words → Command
  -- with the file of its certificate
  verify : List ℕ → Words → Command

-- the files that the command line names for tables
abbrev pub Named : Type 0
Named = List (List ℕ × List ℕ)

-- the file that a command reads beside its query and its tables: none, that of a script, or that of
-- a certificate
pub data SideFile : Type 0 where
  nothing : SideFile
  script : List ℕ → SideFile
  certificate : List ℕ → SideFile

-- its name, if there is one
abbrev pub aside_name : SideFile → Option (List ℕ)
aside_name nothing = None
aside_name (script name) = Some name
aside_name (certificate name) = Some name

-- what a command reads
pub record InputFiles : Type 0 where
  -- the file of its query
  pub query : List ℕ
  -- whether the query may have several branches
  pub several : Bool
  -- the file of its script or of its certificate, if it has one
  pub aside : SideFile
  -- the files of the tables
  pub named : Named
  -- the alias of the item of which each row's best answer is asked for, if there is one
  pub best_of : Option (List ℕ)

-- Only `run` may have several branches, and only `run` and `session` an item. `load` reads the
-- files that it makes.
abbrev pub input_files_of : Command → InputFiles
input_files_of (run words) = record {
  query = words.query;
  several = true;
  aside = nothing;
  named = words.tables;
  best_of = words.best_of;
}
input_files_of (plan words) = record
    { query = words.query; several = false; aside = nothing; named = words.tables; best_of = None }
input_files_of (session name words) =
    record {
      query = words.query;
      several = false;
      aside = script name;
      named = words.tables;
      best_of = words.best_of;
    }
input_files_of (load number rows) = record
    { query = query_file; several = false; aside = nothing; named = table_files; best_of = None }
input_files_of (prove words) = record
    { query = words.query; several = false; aside = nothing; named = words.tables; best_of = None }
input_files_of (verify name words) =
    record {
      query = words.query;
      several = false;
      aside = certificate name;
      named = words.tables;
      best_of = None;
    }

pub data Asked : Type 0 where
  -- the arguments are not a command
  no_command : Asked
  a_command : Command → Asked

-- ---- the files that are named

-- the names of the tables' files
abbrev pub table_file_names : Named → List (List ℕ)
table_file_names named = map (λ (table : List ℕ × List ℕ). table.1) named

-- the file is that of the query, of the script or the certificate, or of one of the tables
pub data IsNamed (sought : InputFiles) (name : List ℕ) : Type 0 where
  names_query : name ≡ sought.query → IsNamed sought name
  names_aside : aside_name sought.aside ≡ Some name → IsNamed sought name
  names_table : IsMember name (table_file_names sought.named) → IsNamed sought name

-- the arguments name the file; those of `load` name none
abbrev pub IsNamedBy : Asked → List ℕ → Type 0
IsNamedBy no_command name = ⊥
IsNamedBy (a_command (load number rows)) name = ⊥
IsNamedBy (a_command command) name = IsNamed (input_files_of command) name
