-- What the command line of the worked rows says, and the steps of their calls.
use Rattle.std.proofs.Common.{◌≡◌, ◌≤◌, ◌+◌, ℕ, List, [], ◌∷◌, Option, Some, None, false, refl, subst}
use Rattle.std.specs.Prelude.{codes}
use Rattle.clap.proofs.OnLiterals.{clap_on_literals}
use Rattle.cmd_words.specs.Arguments.{run_app}
use Rattle.cmd_words.specs.Commands.{CommandSaid, run_of, run_said, parsed_command}
use Rattle.cmd_words.specs.ArgumentMeaning.{WordsSaid}
use Rattle.cmd_words.specs.declared.command.Engine.TheVariants.{Part}
use Rattle.outer_io.specs.Files.{Files}
use Rattle.verdict.specs.Bound.{IsBounded}
use Rattle.verdict.specs.MadeFiles.{files_of_call}
use Rattle.verdict.specs.Words.{Asked}
use Rattle.row_law.specs.Row.{row_arguments, row_files}
use Rattle.row_law.specs.UnionRow.{union_files}
use Rattle.row_law.proofs.Accepted.{row_bounded}
use Rattle.row_law.proofs.UnionAccepted.{union_bounded}
use Rattle.anyk_top.specs.CommandLine.{command_asked}

abbrev row_said : WordsSaid
row_said = record {
  engine = Part;
  ranks = false;
  rows = false;
  script = None;
  proof = None;
  best_of = None;
  query = codes "q.sql";
  tables = (codes "R", codes "R.csv") ∷ (codes "S", codes "S.csv") ∷ [];
}

abbrev AreSaid : Option CommandSaid → Option CommandSaid → Type 0
AreSaid a b = a ≡ b

row_is_said : AreSaid (parsed_command row_arguments) (Some (run_said row_said))
unfolding clap_on_literals run_of run_app
row_is_said = refl

-- the bound is kept by a call that asks for this, over these files
abbrev Keeps : Asked → Files → ℕ → ℕ → Type 0
Keeps asked files before now = IsBounded asked (files_of_call asked (Some files)) before now

said_over : (words : List (List ℕ)) (files known : Files) (before now : ℕ) → words ≡ row_arguments → files ≡ known
    → Keeps (command_asked (parsed_command words)) files before now → Keeps (command_asked (Some (run_said row_said))) known before now
said_over words files known before now named held kept =
    let over : Keeps (command_asked (parsed_command words)) known before now =
    subst (λ (all : Files). Keeps (command_asked (parsed_command words)) all before now) held kept in
    let asked : Keeps (command_asked (parsed_command row_arguments)) known before now =
    subst (λ (line : List (List ℕ)). Keeps (command_asked (parsed_command line)) known before now) named over in
    subst (λ (said : Option CommandSaid). Keeps (command_asked said) known before now) row_is_said asked

pub row_within : (words : List (List ℕ)) (files : Files) (before now : ℕ) → words ≡ row_arguments → files ≡ row_files
    → Keeps (command_asked (parsed_command words)) files before now → now ≤ before + 7936
row_within words files before now named held kept =
    row_bounded before now (said_over words files row_files before now named held kept)

pub union_within : (words : List (List ℕ)) (files : Files) (before now : ℕ) → words ≡ row_arguments → files ≡ union_files
    → Keeps (command_asked (parsed_command words)) files before now → now ≤ before + 2816
union_within words files before now named held kept =
    union_bounded before now (said_over words files union_files before now named held kept)
