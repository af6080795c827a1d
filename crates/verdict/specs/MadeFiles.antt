-- The files that a command reads.
use Rattle.std.specs.Prelude.{ℕ, List, [], ◌∷◌, map, Option, Some}
use Rattle.std.specs.List.{zip}
use Rattle.make_input.specs.Input.{files, load_query, query_file, table_files}
use Rattle.outer_io.specs.Files.{Files}
use Rattle.verdict.specs.Words.{Asked, Command, no_command, a_command, run, plan, session, load, prove, verify}

-- the query over the four tables, and the tables that are made from the number
abbrev pub made_files : ℕ → ℕ → Files
made_files number rows = (query_file, load_query)
    ∷ zip (map (λ (t : List ℕ × List ℕ). t.1) table_files) (files number rows)

-- `load` reads the files that it makes, and the other commands read those that they are given
abbrev pub files_of : Command → Files → Files
files_of (run words) given = given
files_of (plan words) given = given
files_of (session script words) given = given
files_of (prove words) given = given
files_of (verify proof words) given = given
files_of (load number rows) given = made_files number rows

-- the files that are known to a call: `load` needs to know none, since it makes those that it reads
abbrev pub files_of_call : Asked → Option Files → Option Files
files_of_call no_command told = told
files_of_call (a_command (run words)) told = told
files_of_call (a_command (plan words)) told = told
files_of_call (a_command (session script words)) told = told
files_of_call (a_command (prove words)) told = told
files_of_call (a_command (verify proof words)) told = told
files_of_call (a_command (load number rows)) told = Some []
