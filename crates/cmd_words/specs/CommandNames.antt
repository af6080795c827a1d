-- The commands by their names.
use Rattle.std.specs.Prelude.{ℕ, List, Option, Some, None, codes, if◌then◌else◌, option_map}
use Rattle.std.specs.Str.{bytes_eq}
use Rattle.clap.specs.Simple.{App}
use Rattle.clap.specs.Walk.{Row, first_of}
use Rattle.cmd_words.specs.Arguments.{run_app, session_app, plan_app, prove_app, verify_app, load_app}
use Rattle.cmd_words.specs.ArgumentMeaning.{OptionTexts, WordsSaid, texts_of, run_texts, session_texts, plan_texts, prove_texts, verify_texts, said_by, session_by, verify_by, load_by_texts}
use Rattle.cmd_words.specs.Commands.{CommandSaid, run_said, session_said, plan_said, prove_said, verify_said, load_said, if_taken}
use Rattle.cmd_words.specs.declared.name.FilesName.{FilesName}
use Rattle.cmd_words.specs.declared.name.FilesName.TheVariants.{Run, Session, Plan, Prove, Verify}
use Rattle.cmd_words.specs.declared.name.CommandName.{CommandName}
use Rattle.cmd_words.specs.declared.name.CommandName.TheVariants.{OverFiles, Load}

abbrev pub name_of : List ℕ → Option CommandName
name_of text =
    if bytes_eq text (codes "run") then Some (OverFiles Run)
    else if bytes_eq text (codes "session") then Some (OverFiles Session)
    else if bytes_eq text (codes "plan") then Some (OverFiles Plan)
    else if bytes_eq text (codes "prove") then Some (OverFiles Prove)
    else if bytes_eq text (codes "verify") then Some (OverFiles Verify)
    else if bytes_eq text (codes "load") then Some Load
    else None

-- what `clap` takes for it
abbrev pub app_named : CommandName → App
app_named (OverFiles Run) = run_app
app_named (OverFiles Session) = session_app
app_named (OverFiles Plan) = plan_app
app_named (OverFiles Prove) = prove_app
app_named (OverFiles Verify) = verify_app
app_named Load = load_app

-- the texts that it has, of those that `clap` gives
abbrev pub texts_for : FilesName → OptionTexts → OptionTexts
texts_for Run texts = run_texts texts
texts_for Session texts = session_texts texts
texts_for Plan texts = plan_texts texts
texts_for Prove texts = prove_texts texts
texts_for Verify texts = verify_texts texts

-- what these texts say to it: `session` has a script, and `verify` a certificate
abbrev pub words_by : FilesName → OptionTexts → Option WordsSaid
words_by Run texts = said_by texts
words_by Session texts = session_by texts
words_by Plan texts = said_by texts
words_by Prove texts = said_by texts
words_by Verify texts = verify_by texts

abbrev pub command_said : FilesName → WordsSaid → CommandSaid
command_said Run words = run_said words
command_said Session words = session_said words
command_said Plan words = plan_said words
command_said Prove words = prove_said words
command_said Verify words = verify_said words

-- what the texts of its options say to `load`
abbrev pub load_by_options : Option (List ℕ) → Option (List ℕ) → Option (List ℕ)
    → Option CommandSaid
load_by_options engine number rows = option_map (λ p. load_said p.0 p.1 p.2)
    (load_by_texts engine number rows)

-- what the matches say to it
abbrev pub said_by_rows : CommandName → List Row → Option CommandSaid
said_by_rows (OverFiles name) rows = option_map (command_said name)
    (words_by name (texts_for name (texts_of rows)))
said_by_rows Load rows = load_by_options (first_of (codes "engine") rows)
    (first_of (codes "number") rows) (first_of (codes "rows") rows)

-- what the arguments say to it
unfoldable pub said_as : CommandName → List (List ℕ) → Option CommandSaid
said_as name words = if_taken (app_named name) words (said_by_rows name)
