-- The options and arguments of each command, as `clap` sees them.
use Rattle.std.specs.Prelude.{ℕ, List, Some, true, codes, [], ◌∷◌}
use Rattle.clap.specs.Walk.{Rule}
use Rattle.clap.specs.Simple.{App, new_app, new_rule, with_rule}
use Rattle.clap.specs.declared.builder.action.ArgAction.TheVariants.{Set, Append, SetTrue}

-- `--engine E`, which is `part` if it is not given
abbrev pub engine_rule : Rule
engine_rule = record
    (new_rule (codes "engine"))
    { long = Some (codes "engine"); action = Some Set; defaults = codes "part" ∷ [] }

-- an option of this name without a value
abbrev pub flag_rule : List ℕ → Rule
flag_rule name = record (new_rule name) { long = Some name; action = Some SetTrue }

-- an option of this name, with one value
abbrev pub option_rule : List ℕ → Rule
option_rule name = record (new_rule name) { long = Some name; action = Some Set }

-- a required option of this name, with one value
abbrev pub required_rule : List ℕ → Rule
required_rule name = record (new_rule name) { long = Some name; action = Some Set; required = true }

-- QUERYFILE
abbrev pub query_rule : Rule
query_rule = record (new_rule (codes "query")) { action = Some Set; required = true }

-- TABLE=FILE, once or more
abbrev pub tables_rule : Rule
tables_rule = record (new_rule (codes "tables")) { action = Some Append; required = true }

-- a command with QUERYFILE and TABLE=FILE after its options
abbrev pub with_files : App → App
with_files app = with_rule (with_rule app query_rule) tables_rule

-- a command with the flags that say what is printed of an answer
abbrev pub with_style : App → App
with_style app = with_rule (with_rule app (flag_rule (codes "ranks"))) (flag_rule (codes "rows"))

-- a command with the options that say which answers are printed, and how
abbrev pub with_answers : App → App
with_answers app = with_rule (with_style (with_rule app engine_rule))
    (option_rule (codes "best-of"))

unfoldable pub run_app : App
run_app = with_files (with_answers (new_app (codes "run")))

unfoldable pub session_app : App
session_app = with_files
    (with_rule (with_answers (new_app (codes "session"))) (required_rule (codes "script")))

unfoldable pub plan_app : App
plan_app = with_files (new_app (codes "plan"))

unfoldable pub prove_app : App
prove_app = with_files (with_rule (new_app (codes "prove")) engine_rule)

unfoldable pub verify_app : App
verify_app = with_files
    (with_rule (with_style (new_app (codes "verify"))) (required_rule (codes "proof")))

unfoldable pub load_app : App
load_app = with_rule
    (with_rule (with_rule (new_app (codes "load")) engine_rule) (required_rule (codes "number")))
    (required_rule (codes "rows"))
