-- The command that the arguments give.
use Rattle.std.specs.Prelude.{ℕ, List, [], ◌∷◌, Option, None, codes, if◌then◌else◌, option_map}
use Rattle.std.specs.Str.{bytes_eq}
use Rattle.clap.specs.Faults.{fault_of}
use Rattle.clap.specs.Kinds.{Kinds}
use Rattle.clap.specs.Simple.{App, matches_of}
use Rattle.clap.specs.Walk.{Row}
use Rattle.cmd_words.specs.Arguments.{run_app, session_app, plan_app, prove_app, verify_app, load_app}
use Rattle.cmd_words.specs.ArgumentMeaning.{WordsSaid, texts_of, run_texts, session_texts, plan_texts, prove_texts, verify_texts, said_by, session_by, verify_by, load_by, words_view}
use Rattle.cmd_words.specs.Numbers.{IsInRange}
use Rattle.cmd_words.specs.declared.command.Engine.{Engine}
use Rattle.cmd_words.specs.declared.command.Command.{Command}
use Rattle.cmd_words.specs.declared.command.Command.TheVariants.{Run, Session, Plan, Prove, Verify, Load}

-- a command and what its arguments say
pub data CommandSaid : Type 0 where
  run_said : WordsSaid → CommandSaid
  session_said : WordsSaid → CommandSaid
  plan_said : WordsSaid → CommandSaid
  prove_said : WordsSaid → CommandSaid
  verify_said : WordsSaid → CommandSaid
  load_said : Engine → ℕ → ℕ → CommandSaid

-- the value, if there is no fault
abbrev pub if_no : {T : Type 0} → Kinds → Option T → Option T
if_no [] value = value
if_no (fault ∷ faults) value = None

-- what the matches say, if `clap` takes the arguments for this command
abbrev pub if_taken : {T : Type 0} → App → List (List ℕ) → (List Row → Option T) → Option T
if_taken app words said = if_no (fault_of app words) (said (matches_of app words))

unfoldable pub run_of : List (List ℕ) → Option WordsSaid
run_of words = if_taken run_app words (λ rows. said_by (run_texts (texts_of rows)))

unfoldable pub session_of : List (List ℕ) → Option WordsSaid
session_of words = if_taken session_app words (λ rows. session_by (session_texts (texts_of rows)))

unfoldable pub plan_of : List (List ℕ) → Option WordsSaid
plan_of words = if_taken plan_app words (λ rows. said_by (plan_texts (texts_of rows)))

unfoldable pub prove_of : List (List ℕ) → Option WordsSaid
prove_of words = if_taken prove_app words (λ rows. said_by (prove_texts (texts_of rows)))

unfoldable pub verify_of : List (List ℕ) → Option WordsSaid
verify_of words = if_taken verify_app words (λ rows. verify_by (verify_texts (texts_of rows)))

unfoldable pub load_of : List (List ℕ) → Option (Engine × ℕ × ℕ)
load_of words = if_taken load_app words load_by

-- what the arguments say to the command that the first of them names
abbrev pub said_to : List ℕ → List (List ℕ) → Option CommandSaid
said_to first words =
    if bytes_eq first (codes "run") then option_map run_said (run_of words)
    else if bytes_eq first (codes "session") then option_map session_said (session_of words)
    else if bytes_eq first (codes "plan") then option_map plan_said (plan_of words)
    else if bytes_eq first (codes "prove") then option_map prove_said (prove_of words)
    else if bytes_eq first (codes "verify") then option_map verify_said (verify_of words)
    else if bytes_eq first (codes "load") then option_map (λ p. load_said p.0 p.1 p.2)
    (load_of words)
    else None

-- the command that the arguments give, and none if they give none
abbrev pub parsed_command : List (List ℕ) → Option CommandSaid
parsed_command [] = None
parsed_command (first ∷ others) = said_to first (first ∷ others)

abbrev pub command_view : Command → CommandSaid
command_view (Run words) = run_said (words_view words)
command_view (Session words) = session_said (words_view words)
command_view (Plan words) = plan_said (words_view words)
command_view (Prove words) = prove_said (words_view words)
command_view (Verify words) = verify_said (words_view words)
command_view (Load engine number rows) = load_said engine number rows

-- the numbers of `load` are in its range
abbrev pub KeepsRange : Command → Type 0
KeepsRange (Run words) = Unit {0}
KeepsRange (Session words) = Unit {0}
KeepsRange (Plan words) = Unit {0}
KeepsRange (Prove words) = Unit {0}
KeepsRange (Verify words) = Unit {0}
KeepsRange (Load engine number rows) = IsInRange number rows
